pub mod Source
pub mod Sink
pub mod LineBuffer
pub mod Lines
pub mod Memory
pub mod Standard
