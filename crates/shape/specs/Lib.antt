pub mod Shapes
pub mod OwnedValues
pub mod Lends
pub mod InnerGrowth
