pub mod Telling
pub mod Injective
