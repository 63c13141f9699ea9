pub mod HandedOut
