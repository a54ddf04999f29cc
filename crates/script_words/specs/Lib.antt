pub mod Operands
pub mod Words
pub mod Numbering
