mod BucketLemmas
mod CutLemmas
mod FolderLemmas
