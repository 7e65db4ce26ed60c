pub mod FrameSize
