pub mod Ds2505
pub mod Puts
pub mod Sheets
pub mod Texts
