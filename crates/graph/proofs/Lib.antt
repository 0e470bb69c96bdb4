pub mod Counting
pub mod Handshakes
pub mod Joins
pub mod Sharing
