pub mod HeldFields
pub mod Pages
pub mod Steps
