pub mod ClosesTwice
pub mod OthersStay
pub mod TemplateRemoved
pub mod PackingRemoved
pub mod ExpiredRemoved
