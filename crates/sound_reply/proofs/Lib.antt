pub mod RoomEnough
pub mod Timeless
pub mod Answered
pub mod SampleMeets
