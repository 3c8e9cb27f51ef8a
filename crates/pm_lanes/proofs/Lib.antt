mod Eight
mod Hashes
mod Parts
