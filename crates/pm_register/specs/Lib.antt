pub mod AllCalls
pub mod Meaning
pub mod Registrar
pub mod Trace
