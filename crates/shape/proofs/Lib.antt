pub mod Blocks
pub mod With
