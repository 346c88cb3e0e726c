pub mod LoggedIn
