pub mod EntriesPass
