pub mod Steps
pub mod Seen
pub mod Lent
pub mod MachineWords
