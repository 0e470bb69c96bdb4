pub mod Orderly
pub mod Queue
pub mod QueueDiners
pub mod Joining
pub mod Entries
pub mod Leaving
pub mod Standing
pub mod Turning
