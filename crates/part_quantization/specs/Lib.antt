pub mod Quantizer
