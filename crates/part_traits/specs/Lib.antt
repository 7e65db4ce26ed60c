pub mod Traits
pub mod Kind
pub mod Context
