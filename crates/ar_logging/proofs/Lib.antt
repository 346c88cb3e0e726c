pub mod CalendarLemmas
