pub mod FaultLemmas
pub mod FollowLemmas
pub mod OrderLemmas
pub mod RangeLemmas
mod FileRowLemmas
pub mod OneLemmas
pub mod OpenedLemmas
