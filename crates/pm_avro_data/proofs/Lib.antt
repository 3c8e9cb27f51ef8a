pub mod Facts
mod Numbers
mod Leaves
mod Loops
mod Moves
mod Follows
mod Readings
mod Types
mod Pushing
mod Encodings
mod Added
mod Prefixes
mod Lengths
