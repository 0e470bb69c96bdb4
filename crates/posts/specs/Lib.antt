pub mod Answers
pub mod Exchange
pub mod Laws
pub mod MessageLists
pub mod Posting
pub mod QueuePosts
