pub mod Installing
pub mod Installs
pub mod Laws
pub mod InnerInstalling
