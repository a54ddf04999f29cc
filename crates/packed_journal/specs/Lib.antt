pub mod Packing
pub mod Laying
pub mod Calls
