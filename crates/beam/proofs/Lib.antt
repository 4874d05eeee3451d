pub mod Applying
pub mod Beaming
pub mod InOrder
pub mod Walking
pub mod Following
pub mod MarkLists
