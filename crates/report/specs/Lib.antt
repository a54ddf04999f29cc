pub mod Words
pub mod Numbering
pub mod Owners
