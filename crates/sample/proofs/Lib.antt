pub mod SampleLaws
pub mod StencilLaws
pub mod Weighing
