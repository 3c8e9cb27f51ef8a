mod AnswerLemmas
pub mod SnapshotLaws
