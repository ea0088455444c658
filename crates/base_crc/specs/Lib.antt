pub mod Polynomial
pub mod Crc
pub mod Table
pub mod Rows
