pub mod EntryReads
pub mod EntryWrites
