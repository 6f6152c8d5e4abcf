pub mod Fixed
pub mod Order
