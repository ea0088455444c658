pub mod Pages
pub mod Sheets
