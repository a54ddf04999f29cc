pub mod FailureWords
pub mod NoBytes
