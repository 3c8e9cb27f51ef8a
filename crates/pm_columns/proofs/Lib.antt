mod WrapLemmas
