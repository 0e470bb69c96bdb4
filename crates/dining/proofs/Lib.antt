pub mod DoneThenTurn
pub mod Phases
