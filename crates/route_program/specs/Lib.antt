pub mod Counted
pub mod Status
pub mod Devices
pub mod Run
