mod BeginLemmas
mod CompactLemmas
mod FollowLemmas
mod RegisterLemmas
mod WorldLemmas
