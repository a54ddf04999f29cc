pub mod Mirrored
pub mod Refusals
