pub mod Log
pub mod LogMeaning
pub mod LogReader
pub mod LogTrace
