pub mod Lends
pub mod Lists
pub mod formers
