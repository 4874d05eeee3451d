pub mod OpenRows
