pub mod WithRefs
pub mod Exact
