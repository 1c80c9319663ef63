pub mod Asked
pub mod Runs
