pub mod BytesTaken
pub mod DigitsRead
pub mod PartsRun
