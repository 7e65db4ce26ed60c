pub mod QuantizationParams
