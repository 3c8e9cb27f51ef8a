-- What contracts see of a source and a sink in memory. Calls are numbered from 1; the counts stop at 2^64 - 1.
use Rattle.std.specs.Prelude.{◌≡◌, List, ℕ, ◌-◌, length, min, Some, Result, IfOk}
use Rattle.pm_base.specs.Faults.{one_more}
use Rattle.pm_io.specs.Source.{SourceView}
use Rattle.pm_io.specs.Sink.{SinkView}
use Rattle.pm_io.specs.declared.source.Failed.{Failed}

-- a source: the bytes that are left, the numbers of the calls that fail, the calls and the faults so far
pub record Giving : Type 0 where
  pub left : List ℕ
  pub fails : List ℕ
  pub calls : ℕ
  pub faults : ℕ

-- the same as any source is seen
abbrev pub source_view : Giving → SourceView
source_view source = record { left = Some source.left; faults = source.faults }

-- a sink: the bytes that it took, how many it takes in all, and the same counts
pub record Taking : Type 0 where
  pub taken : List ℕ
  pub room : ℕ
  pub fails : List ℕ
  pub calls : ℕ
  pub faults : ℕ

-- the same as any sink is seen
abbrev pub sink_view : Taking → SinkView
sink_view sink = record { taken = Some sink.taken; faults = sink.faults }

-- a call of it is counted, and where it doesn't fail takes as much as there is room for
pub record IsCall (before : Taking) (bytes : List ℕ) (answer : Result ℕ Failed) (after : Taking) : Type 0 where
  pub counted : after.calls ≡ one_more before.calls
  pub amount : IfOk answer (λ n. n ≡ min (length bytes) (before.room - length before.taken))
