-- Restart: each word of the pages is the backup's word and the gains of the logs, so its steps in any order make the same pages.
-- What a log adds to a word; the records of a ledger as a log.
pub mod Words
pub mod Gain
pub mod Entries
-- The image, and what may be stored beside it.
pub mod Image
pub mod Aside
-- The calls of a restart.
pub mod Taken
pub mod Progress
pub mod LogStep
pub mod BackupStep
pub mod Steps
pub mod Run
pub mod Records
pub mod End
