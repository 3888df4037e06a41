pub mod Loops
pub mod Triples
pub mod Words
