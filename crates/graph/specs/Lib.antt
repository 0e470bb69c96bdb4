pub mod Counting
pub mod Ends
pub mod Graphs
pub mod Neighbourhoods
