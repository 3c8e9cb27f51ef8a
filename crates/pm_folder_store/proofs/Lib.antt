mod FolderLemmas
mod NameLemmas
mod PathLemmas
