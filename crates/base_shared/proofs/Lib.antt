pub mod Order
pub mod Each
pub mod First
pub mod Values
pub mod Parts
pub mod Other
