pub mod Hops
pub mod Choices
pub mod Items
pub mod InnerSlots
pub mod Laws
