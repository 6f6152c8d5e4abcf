pub mod Text
pub mod Field
pub mod Order
