pub mod Segmentation
