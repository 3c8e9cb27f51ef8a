mod Bits
mod Sizes
mod Words
mod Pushes
mod Cells
mod Numbers
mod Steps
mod Texts
mod Slots
mod Spelling
mod Rows
pub mod Facts
