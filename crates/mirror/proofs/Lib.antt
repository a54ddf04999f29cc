pub mod Mirroring
pub mod Behind
