pub mod Said
pub mod Turn
pub mod Rest
