pub mod Codes
pub mod Mirrors
pub mod OperatorWords
