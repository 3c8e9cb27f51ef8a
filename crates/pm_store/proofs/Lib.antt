mod FileMapLaws
pub mod FileLaws
pub mod ChangeLaws
pub mod ImageLaws
mod NameLaws
mod PlanLaws
pub mod StepLaws
