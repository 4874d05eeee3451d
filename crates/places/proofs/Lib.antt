pub mod ByAxis
