pub mod Eight
pub mod Judged
pub mod Pages
