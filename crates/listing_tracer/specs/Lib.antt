pub mod Tracer
pub mod Traced
pub mod Arrival
