pub mod Exchanges
pub mod MessageLists
