pub mod Charts
pub mod Totals
