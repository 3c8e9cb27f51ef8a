mod BesideLemmas
mod GivenLemmas
mod LookedLemmas
mod OlderLemmas
mod PlaceLemmas
mod SoFarLemmas
mod ToldLemmas
mod UponLemmas
