-- Every call hands back a state that passes the first test.
pub mod Test
-- The steps that calls share: words reserved, logs that grow, an entry of the table changed.
pub mod Serving
-- Each call.
pub mod Transaction
pub mod Abort
pub mod Checkpoint
pub mod Restart
-- All of them, and lists of them.
pub mod Calls
pub mod Lists
pub mod Made
