pub mod Reading
pub mod Ring
pub mod Front
pub mod Write
