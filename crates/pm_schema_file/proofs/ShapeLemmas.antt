-- A flaw of JSON as a refusal.
use Rattle.std.proofs.Common.{◌≡◌, Option, Some, None, Result, Ok, Err, ok_or, sym, ap, subst}
use Rattle.pm_base.specs.Outcome.{Fails}
use Rattle.pm_options.specs.Faults.{Answers, fault_of}
use Rattle.pm_values.specs.declared.refusal.Refusal.{Refusal}
use Rattle.pm_schema_file.specs.Shape.{Misses, Refuses}
use Rattle.pm_schema_file.specs.declared.shape.Flaw.{Flaw}
use Rattle.pm_schema_file.specs.declared.shape.Flaw.TheVariants.{Memory, Shape}

fails_so : (X Y : Type 0) (o : Option Refusal) (fault : Refusal) → Fails {Y = X} o (Err fault) → Fails {Y = Y} o (Err fault)
fails_so X Y None fault fails = tt
fails_so X Y (Some e) fault fails = let same : fault ≡ e = cc in ap Err same

answers_so : {X Y : Type 0} (view : X → Y) (fault : Refusal) (answer : Result X Refusal) → Answers {X = X} {Y = X} (λ x. x) answer (Err fault) → Answers view answer (Err fault)
answers_so view fault (Ok x) answers = cc
answers_so {X} {Y} view fault (Err e) answers = fails_so X Y (fault_of e) fault answers

-- what isn't read is refused
pub refused-misses : {X Y : Type 0} (view : X → Y) (flaw : Flaw) (fault : Refusal) (defined : Option Y) (answer : Result X Refusal)
    → Misses flaw defined → Refuses flaw fault answer → Answers view answer (ok_or defined fault)
refused-misses view Memory fault defined answer misses refuses = subst (λ a. Answers view a (ok_or defined fault)) (sym refuses) tt
refused-misses view Shape fault defined answer misses refuses = rw misses (answers_so view fault answer refuses)
