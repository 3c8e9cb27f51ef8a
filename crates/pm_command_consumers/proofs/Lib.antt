mod AnswerLemmas
mod DropAnswers
mod JoinLemmas
mod OneLemmas
pub mod ConsumerLaws
pub mod DropLaws
