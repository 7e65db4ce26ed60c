pub mod LoopFilterParams
