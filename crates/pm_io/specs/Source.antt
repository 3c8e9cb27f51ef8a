-- What contracts see of a source, and what a read does to it.
use Rattle.std.specs.Prelude.{◌≡◌, List, [], ℕ, ◌≤◌, ◌++◌, length, take, drop, Option, None, Some, IfSome}
use Rattle.pm_base.specs.Faults.{Rose}

-- the bytes that a source has left, where they are known, and how often it has failed, up to the last value of 64 bits
pub record SourceView : Type 0 where
  pub left : Option (List ℕ)
  pub faults : ℕ

-- it failed in between
abbrev pub SourceFailed : SourceView → SourceView → Type 0
SourceFailed before after = Rose before.faults after.faults

-- no fault is forgotten
abbrev pub SourceLater : SourceView → SourceView → Type 0
SourceLater before after = before.faults ≤ after.faults

-- the first n bytes that are left went to the start of a buffer
abbrev pub Reads : SourceView → ℕ → List ℕ → List ℕ → Type 0
Reads source n before after = IfSome source.left (λ bytes. (n ≤ length bytes) × (after ≡ take n bytes ++ drop n before))

-- what is left after n bytes more
abbrev pub without : Option (List ℕ) → ℕ → Option (List ℕ)
without None n = None
without (Some bytes) n = Some (drop n bytes)

-- nothing is left
abbrev pub IsAtEnd : SourceView → Type 0
IsAtEnd source = IfSome source.left (λ bytes. bytes ≡ [])
