-- From what a call gives to what its line shows; the steps of a restart line.
pub mod Showing
pub mod Replaying
