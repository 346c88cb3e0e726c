pub mod AnswerLemmas
pub mod Appending
pub mod Ending
pub mod Playing
pub mod StartLemmas
