pub mod Told
pub mod Older
pub mod Log
