pub mod DroppingLemmas
mod FloorLemmas
mod PathLemmas
mod SeenLemmas
