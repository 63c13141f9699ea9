pub mod KeptBy
