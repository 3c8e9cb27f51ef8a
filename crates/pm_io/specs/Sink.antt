-- What contracts see of a sink, and what a failed write of a whole text left.
use Rattle.std.specs.Prelude.{◌≡◌, ◌≢◌, ◌≤◌, ◌++◌, List, [], ℕ, drop, Option, Result, Ok, Err, IfOk}
use Rattle.pm_base.specs.Faults.{Rose}
use Rattle.pm_base.specs.Known.{and_then}
use Rattle.pm_io.specs.declared.sink.SinkFail.{SinkFail}
use Rattle.pm_io.specs.declared.source.Failed.{Failed}

-- the bytes that a sink took, where they are known, and how often it has failed, up to the last value of 64 bits
pub record SinkView : Type 0 where
  pub taken : Option (List ℕ)
  pub faults : ℕ

-- it failed in between
abbrev pub SinkFailed : SinkView → SinkView → Type 0
SinkFailed before after = Rose before.faults after.faults

-- no fault is forgotten
abbrev pub SinkLater : SinkView → SinkView → Type 0
SinkLater before after = before.faults ≤ after.faults

-- a prefix of the text was taken, and nothing else
abbrev pub TookPrefix : Option (List ℕ) → Option (List ℕ) → List ℕ → Type 0
TookPrefix before after text = (prefix rest : List ℕ) × (text ≡ prefix ++ rest) × (after ≡ and_then before prefix)

-- all of the text but the rest was taken, and nothing else
abbrev pub TookAllBut : List ℕ → Option (List ℕ) → Option (List ℕ) → List ℕ → Type 0
TookAllBut rest before after text = (prefix : List ℕ) × (text ≡ prefix ++ rest) × (after ≡ and_then before prefix)

-- Calls led from a sink to another, each of which was offered all that was left of a text: the first one the whole.
-- What is left then.
pub data Offered {W : Type 0} (called : W → List ℕ → Result ℕ Failed → W → Type 0) (first : W) (text : List ℕ) :
    W → List ℕ → Type 0 where
  Begun : Offered called first text first text
  Took : (mid last : W) (rest : List ℕ) (n : ℕ) → Offered called first text mid rest → rest ≢ []
      → called mid rest (Ok n) last → Offered called first text last (drop n rest)

-- and after them one more, which was the last and took none
pub record Stopped {W : Type 0} (called : W → List ℕ → Result ℕ Failed → W → Type 0) (first : W) (text : List ℕ)
    (last : W) : Type 0 where
  pub mid : W
  pub rest : List ℕ
  pub answer : Result ℕ Failed
  pub before : Offered called first text mid rest
  pub some : rest ≢ []
  pub call : called mid rest answer last
  pub none : IfOk answer (λ n. n ≡ 0)

-- a text was written by such calls, whole or up to one that took none
abbrev pub OfferedAll : {W : Type 0} → (W → List ℕ → Result ℕ Failed → W → Type 0) → List ℕ → W → W
    → Result (Unit {0}) SinkFail → Type 0
OfferedAll called text first last (Ok done) = Offered called first text last []
OfferedAll called text first last (Err e) = Stopped called first text last
