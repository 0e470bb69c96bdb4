pub mod Feeding
pub mod Looking
