pub mod KindLines
pub mod Compared
pub mod Parts
pub mod Room
pub mod ReplyExamples
pub mod Fits
