pub mod Lasts
pub mod Packs
pub mod Layings
pub mod Changes
