-- What a line shows of a call, the calls of a restart line, and what each command's line comes to.
pub mod Shown
pub mod Restarting
pub mod Meaning
