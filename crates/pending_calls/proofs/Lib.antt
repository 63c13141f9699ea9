pub mod Performed
pub mod Headers
pub mod Clearings
pub mod Removals
pub mod RemovedLemmas
pub mod NoneRemoved
pub mod WholeRemoved
