pub mod Kinds
pub mod KindNames
pub mod Refusals
pub mod RefusalWords
pub mod Meaning
