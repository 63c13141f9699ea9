pub mod TakenLabels
