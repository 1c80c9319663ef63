pub mod NearestRows
pub mod TableRows
pub mod OperationRows
pub mod UpdateRows
