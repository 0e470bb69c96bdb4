pub mod Answers
pub mod Dining
pub mod Laws
pub mod Passing
pub mod Phases
