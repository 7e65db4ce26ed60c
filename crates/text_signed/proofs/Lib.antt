pub mod Lowered
pub mod Lifted
