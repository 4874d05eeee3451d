pub mod Sampling
pub mod Stencil
