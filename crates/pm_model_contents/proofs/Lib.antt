mod ContentLemmas
mod FileLemmas
mod FolderLemmas
mod GroupLemmas
