pub mod Refusals
pub mod Looks
pub mod Documents
pub mod TermsRead
pub mod Words
pub mod Decoding
