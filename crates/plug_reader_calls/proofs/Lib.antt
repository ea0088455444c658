pub mod Judged
pub mod Pages
