pub mod Faultless
pub mod Frames
pub mod PatternWires
pub mod Patterns
pub mod Wiring
pub mod Runs
pub mod PatternWireLemmas
