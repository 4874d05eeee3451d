pub mod Laws
pub mod AxisLaws
pub mod Injective
