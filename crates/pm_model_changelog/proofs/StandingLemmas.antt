-- The log of a compaction whose runs still stand.
use Rattle.std.proofs.Common.{◌≡◌, ◌↔◌, inl, inr, ℕ, suc, ◌<◌, ◌≤◌, eqb, nat_lt, List, [], ◌∷◌, ◌++◌, map, filter, length, reverse, append-nil, Bool, true, false, cond, Option, Some, unwrap_or, refl, sym, ap, subst, ◌∙◌, arith}
use Rattle.std.proofs.lemmas.Bool.{ne_eqb}
use Rattle.std.specs.List.{AllByRecursion, flat_map}
use Rattle.std.specs.List.Sorted.{IsStrictlySortedBy}
use Rattle.pm_base.proofs.Laws.{AllByRecursion-append}
use Rattle.pm_options.specs.declared.kinds.Producer.{Producer}
use Rattle.pm_options.specs.declared.kinds.Producer.TheVariants as producers
use Rattle.pm_schema.specs.Rules.{partition_holds}
use Rattle.pm_schema.specs.declared.schema.TableSchema.{TableSchema}
use Rattle.pm_values.specs.Order.{Values}
use Rattle.pm_values.specs.declared.group.Group.{Group}
use Rattle.pm_values.specs.declared.record.Stamped.{Stamped}
use Rattle.pm_model_history.specs.History.{Entry, entry_rows, rows_up_to}
use Rattle.pm_model_history.specs.Merge.{AllFit}
use Rattle.pm_engine.specs.Covers.{IsRising, Run, of_key}
use Rattle.pm_model_following.specs.Following.{base_of, change, compacted}
use Rattle.pm_model_following.specs.Groups.{rows_in}
use Rattle.pm_runs.specs.Stand.{StandForRows, StoredRun, oldest_first, rows_after, top_of}
use Rattle.pm_runs.specs.Succession.{IsSuccession, IsTaken, KnownRun, StillStands, Taking, without_files}
use Rattle.pm_model_changelog.specs.Log.{Compares, Passing, PassesNothing, PassesOn, log_of, rising_keys, told_by}
use Rattle.pm_model_changelog.proofs.PassingLemmas.{compacted-more}

abbrev pub LogLaw : Type 0
LogLaw = (s : TableSchema) (g : Group) (entries : List Entry) (e : Entry) (wholly : Bool) (p : Passing) → partition_holds s ≡ true → AllFit s.columns (flat_map entry_rows (entries ++ e ∷ []))
    → Compares s.options.producer wholly → PassesOn s g entries e wholly p → rows_in s g (change s (entries ++ e ∷ []) (suc (length entries))) ≡ log_of s p.older p.newer

abbrev pub QuietLaw : Type 0
QuietLaw = (s : TableSchema) (g : Group) (entries : List Entry) (e : Entry) (wholly : Bool) → partition_holds s ≡ true → AllFit s.columns (flat_map entry_rows (entries ++ e ∷ []))
    → Compares s.options.producer wholly → PassesNothing g entries e wholly → rows_in s g (change s (entries ++ e ∷ []) (suc (length entries))) ≡ []

abbrev pub RowsLaw : Type 0
RowsLaw = (s : TableSchema) (g : Group) (entries : List Entry) (a b c : ℕ) → a ≤ b → b ≤ c → rows_in s g (rows_after entries a c) ≡ rows_in s g (rows_after entries a b) ++ rows_in s g (rows_after entries b c)

abbrev pub KeysLaw : Type 0
KeysLaw = (runs : List Run) (run : Run) → IsRising run → ((key : Values) → (of_key key run ≡ []) ↔ (of_key key (flat_map (λ (r : Run). r) runs) ≡ [])) → map (λ (r : Stamped). r.key) run ≡ rising_keys runs

no-keys : KeysLaw → rising_keys [] ≡ []
unfolding IsStrictlySortedBy
no-keys law = sym (law [] [] tt (λ key. ((λ e. e), (λ e. e))))

none-at-zero : (runs : List KnownRun) → AllByRecursion (λ (run : KnownRun). 0 < run.level) runs → filter (λ (r : StoredRun). eqb r.level 0) (map without_files runs) ≡ []
none-at-zero [] high = refl
none-at-zero (run ∷ runs) high =
    ap (λ b. cond b (without_files run ∷ filter (λ (r : StoredRun). eqb r.level 0) (map without_files runs)) (filter (λ (r : StoredRun). eqb r.level 0) (map without_files runs)))
    (ne_eqb run.level 0 (λ same. let low = high.0 in omega (arith, same, low)))
    ∙ none-at-zero runs high.1

higher : (out : ℕ) (runs : List KnownRun) → AllByRecursion (λ (run : KnownRun). out < run.level) runs → AllByRecursion (λ (run : KnownRun). 0 < run.level) runs
higher out [] high = tt
higher out (run ∷ runs) high = ((let low = high.0 in omega (arith, low)), higher out runs high.1)

compares-lookup : (p : Producer) → p ≡ producers.Lookup → Compares p false
compares-lookup p is = subst (λ (q : Producer). Compares q false) (sym is) refl

compares-full : (p : Producer) → p ≡ producers.FullCompaction → Compares p true
compares-full p is = subst (λ (q : Producer). Compares q true) (sym is) refl

module _ (s : TableSchema) (g : Group) (entries : List Entry) (since : ℕ) (runs : ℕ → List KnownRun) (t : Taking) (e : Entry)
    (holds : partition_holds s ≡ true) (fit : AllFit s.columns (flat_map entry_rows (entries ++ e ∷ []))) (goes : IsSuccession s g entries since runs)
    (taken : IsTaken s since runs (length entries) t) (still : StillStands s g entries runs t) where
  abbrev stored : List StoredRun
  stored = map without_files (runs t.base)

  stand : StandForRows s entries t.base g stored
  stand = (goes.known t.base taken.from taken.to).stand

  pub lookup-log : KeysLaw → LogLaw → QuietLaw → RowsLaw → s.options.producer ≡ producers.Lookup → base_of false g e ≡ Some t.base
      → rows_in s g (change s (entries ++ e ∷ []) (suc (length entries)))
      ≡ log_of s (oldest_first (λ level. nat_lt 0 level) stored) (oldest_first (λ level. eqb level 0) stored)
  lookup-log keys log quiet rows is named = elim still.between [
    | inl between ↦
        let grows : compacted false entries t.base g ≤ compacted false entries (length entries) g = compacted-more false entries g t.base (length entries) taken.to in
        let b : ℕ = compacted false entries t.base g in
        log s g entries e false (record { base = t.base; older = oldest_first (λ level. nat_lt 0 level) stored; newer = oldest_first (λ level. eqb level 0) stored }) holds fit
        (compares-lookup s.options.producer is)
        (record {
          named = named;
          within = taken.to;
          above = between.0;
          meanwhile = rows s g entries 0 b (compacted false entries (length entries) g) (omega arith) grows ∙ ap (λ xs. rows_in s g (rows_up_to entries b) ++ xs) between.2 ∙ append-nil (rows_in s g (rows_up_to entries b));
          older_cover = stand.above_zero;
          newer_cover = stand.at_zero;
        })
    | inr beyond ↦
        let nothing : PassesNothing g entries e false =
        λ base is_base. (let same : t.base ≡ base = ap (λ (o : Option ℕ). unwrap_or o 0) (sym named ∙ is_base) in let far = beyond.0 in omega (arith, same, far)) in
        let high : AllByRecursion (λ (run : KnownRun). 0 < run.level) (runs t.base) =
        subst (AllByRecursion (λ (run : KnownRun). 0 < run.level)) (sym taken.was)
        (AllByRecursion-append (λ (run : KnownRun). 0 < run.level) t.taken t.rest beyond.1 (higher t.out t.rest taken.high)) in
        let none : oldest_first (λ level. eqb level 0) stored ≡ [] = ap (λ (rs : List StoredRun). reverse (map (λ (r : StoredRun). r.rows) rs)) (none-at-zero (runs t.base) high) in
        quiet s g entries e false holds fit (compares-lookup s.options.producer is) nothing
        ∙ sym (ap (λ (newer : List Run). log_of s (oldest_first (λ level. nat_lt 0 level) stored) newer) none
        ∙ ap (flat_map (told_by s (oldest_first (λ level. nat_lt 0 level) stored) [])) (no-keys keys))
  ]

  pub full-log : LogLaw → s.options.producer ≡ producers.FullCompaction → t.rest ≡ [] → base_of true g e ≡ Some t.base
      → rows_in s g (change s (entries ++ e ∷ []) (suc (length entries)))
      ≡ log_of s (oldest_first (λ level. eqb level (top_of s)) stored) (oldest_first (λ level. nat_lt level (top_of s)) stored)
  full-log log is all named =
      log s g entries e true (record { base = t.base; older = oldest_first (λ level. eqb level (top_of s)) stored; newer = oldest_first (λ level. nat_lt level (top_of s)) stored }) holds fit
      (compares-full s.options.producer is)
      (record {
        named = named;
        within = taken.to;
        above = still.whole_below;
        meanwhile = ap (λ n. rows_in s g (rows_up_to entries n)) (still.whole all).1;
        older_cover = stand.at_top;
        newer_cover = stand.below_top;
      })
