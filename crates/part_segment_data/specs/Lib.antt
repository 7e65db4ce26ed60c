pub mod Features
pub mod Data
