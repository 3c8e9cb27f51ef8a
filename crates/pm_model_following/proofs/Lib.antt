pub mod FollowingLemmas
mod GrowthLemmas
pub mod KeyLemmas
mod ReplayLemmas
