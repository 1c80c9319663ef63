pub mod Addresses
pub mod Masks
pub mod AddressText
pub mod AddressReader
pub mod Ranges
pub mod Calls
pub mod IpRanges
pub mod Laws
