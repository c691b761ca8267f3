pub mod Handing
pub mod Served
