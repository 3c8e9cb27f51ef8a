pub mod AllowedLemmas
mod AsMadeLemmas
pub mod CommitLaws
mod CommitLemmas
pub mod CountLemmas
pub mod CountedLemmas
mod DeltaFilesLemmas
mod DeltaLemmas
pub mod EntryLemmas
pub mod FileCountLemmas
mod GoneLemmas
pub mod IntentLemmas
pub mod KeyLemmas
pub mod ListLemmas
pub mod ListedLemmas
pub mod LiveLemmas
pub mod LogLemmas
pub mod MadeLemmas
mod MakerLemmas
mod ManifestLemmas
mod NamedLemmas
pub mod NewFileLemmas
pub mod NumberLemmas
pub mod OldLemmas
mod OwnLemmas
pub mod StandLemmas
