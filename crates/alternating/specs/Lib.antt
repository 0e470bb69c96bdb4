pub mod AlternatingPosts
pub mod Soundness
pub mod Visits
pub mod Keeping
pub mod ChannelSteps
pub mod Dues
pub mod Ticks
pub mod VisitsKeep
