pub mod Shot
pub mod Lead
