mod GivenLemmas
mod MergeLemmas
mod FitLemmas
mod MergingLemmas
mod OneLemmas
mod PrefixLemmas
mod RefusalLemmas
mod RisingLemmas
