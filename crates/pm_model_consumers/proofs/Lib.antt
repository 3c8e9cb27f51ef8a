mod ChangeLemmas
mod ClaimLemmas
mod ExpiryLemmas
mod FollowerLemmas
