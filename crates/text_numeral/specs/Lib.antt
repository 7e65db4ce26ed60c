pub mod Numeral
pub mod Ascii
