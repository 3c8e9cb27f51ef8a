pub mod DeclaredLemmas
pub mod Facts
mod FolderLemmas
mod LawLemmas
mod OrderLemmas
pub mod Steps
