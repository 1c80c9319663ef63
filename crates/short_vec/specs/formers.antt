pub mod short_vec
