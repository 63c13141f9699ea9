pub mod RecordsPass
pub mod IndexPass
