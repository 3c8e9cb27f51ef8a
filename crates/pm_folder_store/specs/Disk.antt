-- Private: what writing a path on a real folder answers.
use Rattle.std.specs.Prelude.{◌≢◌, Some}
use Rattle.std.specs.Option.{option_copied}
use Rattle.pm_folder_store.specs.declared.disk.Condition.{Condition}
use Rattle.pm_folder_store.specs.declared.disk.Condition.TheVariants as conditions
use Rattle.pm_folder_store.specs.declared.disk.Verdict.{Verdict}
use Rattle.pm_folder_store.specs.declared.disk.Verdict.TheVariants as verdicts

-- A condition on the content answers no other verdict, and what differs isn't the expected; one on the path names no
-- content.
abbrev pub Judges : Condition → Verdict → Type 0
Judges (conditions.Is expected) verdicts.Write = Unit {0}
Judges (conditions.Is expected) (verdicts.Differs found) = found ≢ option_copied expected
Judges (conditions.AbsentAfter after) verdicts.Write = Unit {0}
Judges (conditions.AbsentAfter after) verdicts.Exists = Unit {0}
Judges (conditions.AbsentAfter after) verdicts.AfterGone = Unit {0}
Judges conditions.Absent verdicts.Write = Unit {0}
Judges conditions.Absent verdicts.Exists = Unit {0}
Judges condition other = ⊥

-- a condition on a content that is there: a file that is written replaces that one
abbrev pub IsReplaced : Condition → Type 0
IsReplaced (conditions.Is (Some expected)) = Unit {0}
IsReplaced other = ⊥
