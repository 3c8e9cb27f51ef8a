mod StepLemmas
mod TableLemmas
