pub mod PlannedRemoval
pub mod AloneGoing
