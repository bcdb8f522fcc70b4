pub mod Grew
