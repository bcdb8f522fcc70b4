pub mod Shelf
pub mod ShelfLaws
pub mod Plans
pub mod Mem
