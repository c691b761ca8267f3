-- The words on the devices and in the buffers against the records: flushes, appends, and what a reader finds.
pub mod Words
pub mod Flush
pub mod Buffered
pub mod Append
pub mod Abort
