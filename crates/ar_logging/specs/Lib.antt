pub mod Calendar
pub mod Queue
pub mod Text
