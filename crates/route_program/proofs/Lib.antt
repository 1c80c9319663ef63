pub mod Kept
pub mod Written
pub mod WriteLines
pub mod InTurn
pub mod SinkRun
