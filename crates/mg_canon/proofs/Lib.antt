mod Refused
mod Placing
mod Decoding
mod SymbolReads
mod Pairs
