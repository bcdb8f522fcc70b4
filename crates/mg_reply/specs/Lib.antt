pub mod Reading
pub mod Pending
pub mod Served
pub mod PrintedLines
pub mod Refusals
pub mod Printed
