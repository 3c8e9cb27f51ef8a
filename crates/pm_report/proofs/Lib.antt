mod Lines
mod OneLine
