mod CommandLemmas
mod DeclareLemmas
mod FindLemmas
pub mod NameLemmas
mod OptionLemmas
mod ReadLemmas
mod WalkLemmas
