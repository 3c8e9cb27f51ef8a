-- The calls of `scan` show one answer: those that read the schema end at one place, and from there on those of a scan do.
use Rattle.std.proofs.Common.{◌≡◌, ◌⊎◌, inl, inr, ℕ, List, [], ◌∷◌, ◌++◌, Option, Result, Ok, Err, refl, sym, ap, subst, ◌∙◌, append-nil}
use Rattle.pm_values.specs.declared.refusal.Refusal.{Refusal}
use Rattle.pm_values.specs.declared.refusal.Refusal.TheVariants as refusals
use Rattle.pm_store.specs.declared.call.Call.{Call}
use Rattle.pm_machine.specs.Step.{path_of}
use Rattle.pm_machine.specs.Trace.{Event, faulted}
use Rattle.pm_schema.specs.Again.{IsDeclared}
use Rattle.pm_schema.specs.declared.schema.TableSchema.{TableSchema}
use Rattle.pm_read_schema.proofs.LeadLemmas.{Fails, Leads, failed_not, one_end, one_failed, one_lead}
use Rattle.pm_read_schema.proofs.OneLemmas as schema
use Rattle.pm_scan.specs.AllCalls as scanner
use Rattle.pm_scan.specs.AllCalls.{PrintAlike}
use Rattle.pm_scan.proofs.OneLemmas.{one_reading}
use Rattle.pm_command_scan.specs.Scan.{DidScan}

abbrev AreAlike : Result (List ℕ) Refusal → Result (List ℕ) Refusal → Type 0
AreAlike one other = (one ≡ other) ⊎ ((one ≡ Err refusals.Memory) ⊎ ((other ≡ Err refusals.Memory) ⊎ PrintAlike one other))

-- what the law of scans says
abbrev pub OneScan : Type 0
OneScan = (s : TableSchema) (at : Option ℕ) (own : List Event) (one other : Result (List ℕ) Refusal) → scanner.DidScan s at one own → scanner.DidScan s at other own
    → AreAlike one other

abbrev pub FailedScan : Type 0
FailedScan = (s : TableSchema) (at : Option ℕ) (earlier : List Event) (call : Call) (made : Result (List ℕ) Refusal)
    → scanner.DidScan s at made (earlier ++ faulted call ∷ []) → (made ≡ Err refusals.Memory) ⊎ (made ≡ Err (refusals.StoreFault (path_of call)))

module _ (at : Option ℕ) where
  -- the reading of the schema ends with this refusal
  abbrev IsRefusedAt : Refusal → schema.Place → Type 0
  IsRefusedAt e m = m ≡ schema.over e

  over_same : (e d : Refusal) → schema.over e ≡ schema.over d → e ≡ d
  over_same e d is = cc

  data IsShown (made : Result (List ℕ) Refusal) (own : List Event) : Type 0 where
    of_memory : made ≡ Err refusals.Memory → IsShown made own
    of_failure : (e : Refusal) → made ≡ Err e → Fails e own → IsShown made own
    of_schema : (e : Refusal) → made ≡ Err e → (m : schema.Place) → Leads schema.Goes own schema.listing m → IsRefusedAt e m → IsShown made own
    of_scan : (s : TableSchema) → IsDeclared s → scanner.DidScan s at made own → IsShown made own

  by_schema : (e : Refusal) (own : List Event) → schema.IsShown e own → IsShown (Err e) own
  by_schema e own (schema.of_memory memory) = of_memory (ap Err memory)
  by_schema e own (schema.of_failure fails) = of_failure e refl fails
  by_schema e own (schema.of_place lead) = of_schema e refl (schema.over e) lead refl

  is_shown : (made : Result (List ℕ) Refusal) (own : List Event) → DidScan at made own → IsShown made own
  is_shown (Ok text) own (s, declared, did) = of_scan s declared did
  is_shown (Err e) own (inl shows) = by_schema e own (schema.is_shown e own shows)
  is_shown (Err e) own (inr (s, declared, did)) = of_scan s declared did

  -- the schema isn't refused where the calls go on
  refused_not : (own : List Event) (made : Result (List ℕ) Refusal) (e : Refusal) (m : schema.Place) (s : TableSchema) → Leads schema.Goes own schema.listing m
      → IsRefusedAt e m → scanner.DidScan s at made own → ⊥
  refused_not own made e m s lead refused (earlier, later, has, is, ends) =
      let end = one_end schema.Goes schema.IsEnd schema.are_one schema.ends_stay own earlier [] later schema.listing m (schema.ready s) (append-nil own ∙ is) lead
      (subst schema.IsEnd (sym refused) tt) (schema.ready_lead s earlier has) tt in
      schema.over_not e s (sym refused ∙ end.1)

  same_errs : (one other : Result (List ℕ) Refusal) (e d : Refusal) → one ≡ Err e → other ≡ Err d → e ≡ d → AreAlike one other
  same_errs one other e d is was same = inl (is ∙ ap Err same ∙ sym was)

  failed_first : (one other : Result (List ℕ) Refusal) (e : Refusal) → one ≡ Err e → (other ≡ Err refusals.Memory) ⊎ (other ≡ Err e) → AreAlike one other
  failed_first one other e is (inl memory) = inr (inr (inl memory))
  failed_first one other e is (inr was) = inl (is ∙ sym was)

  failed_last : (one other : Result (List ℕ) Refusal) (e : Refusal) → other ≡ Err e → (one ≡ Err refusals.Memory) ⊎ (one ≡ Err e) → AreAlike one other
  failed_last one other e was (inl memory) = inr (inl memory)
  failed_last one other e was (inr is) = inl (is ∙ sym was)

  module _ (law : OneScan) (failed_law : FailedScan) where
    failed_answer : (s : TableSchema) (own : List Event) (made : Result (List ℕ) Refusal) (e : Refusal) → scanner.DidScan s at made own → Fails e own
        → (made ≡ Err refusals.Memory) ⊎ (made ≡ Err e)
    failed_answer s own made e did (earlier, call, names, is) =
        subst (λ (e : Refusal). (made ≡ Err refusals.Memory) ⊎ (made ≡ Err e)) (sym names)
        (failed_law s at earlier call made (subst (scanner.DidScan s at made) is did))

    same_table : (s t : TableSchema) (own : List Event) (one other : Result (List ℕ) Refusal) → scanner.DidScan s at one own → scanner.DidScan t at other own → s ≡ t
    same_table s t own one other (earlier, later, has, is, ends) (first, last, had, was, ended) =
        (one_reading s t earlier first later last has had (sym is ∙ was)).0

    one_shown : (own : List Event) (one other : Result (List ℕ) Refusal) → IsShown one own → IsShown other own → AreAlike one other
    one_shown own one other (of_memory memory) was = inr (inl memory)
    one_shown own one other is (of_memory memory) = inr (inr (inl memory))
    one_shown own one other (of_failure e is fails) (of_failure d was failed) = same_errs one other e d is was (one_failed e d own fails failed)
    one_shown own one other (of_failure e is fails) (of_schema d was m lead refused) = absurd (failed_not e own fails (schema.leads_answered own m lead))
    one_shown own one other (of_failure e is fails) (of_scan s declared did) = failed_first one other e is (failed_answer s own other e did fails)
    one_shown own one other (of_schema e is m lead refused) (of_failure d was fails) = absurd (failed_not d own fails (schema.leads_answered own m lead))
    one_shown own one other (of_schema e is m lead refused) (of_schema d was n led denied) =
        same_errs one other e d is was (over_same e d (sym refused ∙ one_lead schema.Goes schema.are_one own schema.listing m n lead led ∙ denied))
    one_shown own one other (of_schema e is m lead refused) (of_scan s declared did) = absurd (refused_not own other e m s lead refused did)
    one_shown own one other (of_scan s declared did) (of_failure d was fails) = failed_last one other d was (failed_answer s own one d did fails)
    one_shown own one other (of_scan s declared did) (of_schema d was m lead refused) = absurd (refused_not own one d m s lead refused did)
    one_shown own one other (of_scan s declared did) (of_scan t also does) =
        law t at own one other (subst (λ (s : TableSchema). scanner.DidScan s at one own) (same_table s t own one other did does) did) does

pub one_answer : OneScan → FailedScan → (at : Option ℕ) (own : List Event) (one other : Result (List ℕ) Refusal) → DidScan at one own → DidScan at other own → AreAlike one other
one_answer law failed_law at own one other did does = one_shown at law failed_law own one other (is_shown at one own did) (is_shown at other own does)
