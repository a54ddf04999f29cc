pub mod Writings
pub mod Readings
pub mod Written
pub mod Zigzag
