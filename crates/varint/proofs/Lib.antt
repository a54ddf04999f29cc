pub mod Writings
pub mod WrittenBytes
pub mod Readings
pub mod Foldings
