pub mod Appending
pub mod DrawingLemmas
pub mod FoldLemmas
pub mod GroupLemmas
pub mod Growing
pub mod MapLemmas
