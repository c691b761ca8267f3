-- Laws that join the parts that a function is lent to model's definitions.
pub mod Places
pub mod HasRoom
pub mod Tests
pub mod Sums
