pub mod TakesNote
pub mod Installed
pub mod NotesInTurn
pub mod KeptTable
pub mod GivenLines
pub mod CutOutput
