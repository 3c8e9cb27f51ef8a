mod IntegerLemmas
mod TokenLemmas
