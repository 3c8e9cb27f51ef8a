mod FloorLemmas
pub mod FloorPaths
