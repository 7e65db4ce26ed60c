pub mod LoopDeltas
