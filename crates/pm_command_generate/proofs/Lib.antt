pub mod AllLemmas
pub mod FillLemmas
pub mod GoneLemmas
pub mod TextLemmas
