-- Private: the numbers of a snapshot are in the ranges of their fields' types.
use Rattle.std.specs.Prelude.{◌^◌, ◌<◌, FitsSigned, IfSome}
use Rattle.std.specs.Int.{w64}
use Rattle.pm_snapshot.specs.declared.snapshot.Snapshot.{Snapshot}

pub record HasCommitRanges (s : Snapshot) : Type 0 where
  pub ident : FitsSigned w64 s.ident
  pub time : FitsSigned w64 s.time

pub record HasCountRanges (s : Snapshot) : Type 0 where
  pub total : FitsSigned w64 s.total
  pub delta : FitsSigned w64 s.delta
  pub changelog : IfSome s.changelog (FitsSigned w64)
  pub watermark : IfSome s.watermark (FitsSigned w64)

pub record HasPropertyRanges (s : Snapshot) : Type 0 where
  pub base : s.base < 2 ^ 64
  pub fence : FitsSigned w64 s.fence
  pub appends : s.appends < 2 ^ 64
  pub full : s.full < 2 ^ 64
