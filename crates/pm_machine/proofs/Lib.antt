pub mod AloneLaws
pub mod BesideLaws
pub mod Facts
pub mod PhaseFacts
mod StepLemmas
