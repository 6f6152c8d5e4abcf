pub mod BookBytes
pub mod SheetBytes
