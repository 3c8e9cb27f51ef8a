pub mod Facts
mod Steps
mod Apart
mod Attributes
mod Bounds
mod Again
mod Written
mod Declared
mod Loops
mod FieldNames
