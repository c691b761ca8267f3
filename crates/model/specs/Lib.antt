-- Document 01 as definitions, in its order. Our names for its words, where they differ:
--   book, results, sheet, entry           reference, committed, write set, write
--   taken, refused, cut (a call)          taken, refused, interrupted
--   allowance                             budget
--   c, the checkpoint number              epoch
--   copy number (of a page, of a record)  copy
--   closed, loose (a transaction)         Closed, Unclosed (its fate)
--   held, holder                          locked, owner
--   owed                                  reserved
--   retained log                          retained; the part of the log from a disk's start to its tail
--   state (with the lent work memory)     Carried, by value, and the head of World.work, lent; Core is the view of both
-- Page, slot, anchor, backup, log disk, ring, tail, start, end, stage, update, compensation, commit, abort, checkpoint, restart,
-- source and step are 01's.
-- Counting and words.
pub mod Below
pub mod Word
pub mod Text
-- "Devices" and "Records".
pub mod Sizes
pub mod Anchor
pub mod Record
pub mod Decode
pub mod Scan
-- What a call works on, and the frame of every call.
pub mod World
pub mod Memory
pub mod Classes
pub mod State
pub mod Room
pub mod Refusal
pub mod Causes
pub mod Reads
-- "Calls".
pub mod Append
pub mod Format
pub mod Transaction
pub mod Abort
pub mod Checkpoint
pub mod Restart
pub mod SetClasses
pub mod Listing
pub mod Call
-- The state by value and in the lent work memory.
pub mod View
pub mod Fields
-- What a restart makes of the devices; "The book"; lists of calls; the promise.
pub mod Image
pub mod Reference
pub mod Machine
pub mod History
pub mod Promise
pub mod LogPromise
-- What is never refused; what an answer tells.
pub mod Answers
-- The promises for traces of the code's own calls.
pub mod Trace
pub mod LogPromiseInCode
pub mod AnswersInCode
-- The log on paper: what a listing tells, and that it is told of every list of calls.
pub mod ListingLaws
pub mod ListingPromise
-- Which disks serve which class: the table in force, and what it decides.
pub mod ClassPromise
pub mod ClassPromiseInCode
