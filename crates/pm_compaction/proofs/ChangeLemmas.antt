-- What the snapshot of a compaction tells of a group: of one that it names its log, and of others nothing.
use Rattle.std.proofs.Common.{◌≡◌, ◌≢◌, ℕ, suc, ◌+◌, ◌==◌, Bool, true, false, cond, List, [], ◌∷◌, ◌++◌, map, filter, length, None, Some, nat_lt, refl, sym, ap, subst, ◌∙◌, eqb-true, arith}
use Rattle.std.specs.List.{flat_map}
use Rattle.std.proofs.lemmas.List.Elements.{filter-append}
use Rattle.pm_options.specs.declared.kinds.Producer.{Producer}
use Rattle.pm_options.specs.declared.kinds.Producer.TheVariants as producers
use Rattle.pm_values.specs.Order.{Values}
use Rattle.pm_values.specs.declared.group.Group.{Group}
use Rattle.pm_schema.specs.Rules.{partition_holds}
use Rattle.pm_schema.specs.declared.schema.TableSchema.{TableSchema}
use Rattle.pm_model_history.specs.History.{Entry, compaction, entry_rows}
use Rattle.pm_model_history.specs.Merge.{AllFit, HistoryRow}
use Rattle.pm_model_following.specs.Following.{NumberedRow, base_of, by_key, change, change_by, keys_in, numbered_from, rows_at}
use Rattle.pm_model_following.specs.Groups.{rows_in}
use Rattle.pm_model_changelog.specs.Log.{Compares, PassesNothing, compaction_log, log_by, log_of}
use Rattle.pm_runs.specs.Stand.{oldest_first, top_of}
use Rattle.pm_runs.specs.Succession.{IsSuccession, IsTaken, KnownRun, StillStands, Taking, without_files}

-- ---- the rows of a compaction

-- rows of one entry aren't those of a later one
none-of : (number n : ℕ) (rows : List HistoryRow) → number ≢ n → filter (λ (r : NumberedRow). r.0 == n) (map (λ (r : HistoryRow). (number, r)) rows) ≡ []
none-of number n [] other = refl
none-of number n (r ∷ rows) other = at (number == n) refl (none-of number n rows other)
  where
    at : (t : Bool) → (number == n) ≡ t → filter (λ (r : NumberedRow). r.0 == n) (map (λ (r : HistoryRow). (number, r)) rows) ≡ []
        → cond t ((number, r) ∷ filter (λ (r : NumberedRow). r.0 == n) (map (λ (r : HistoryRow). (number, r)) rows))
        (filter (λ (r : NumberedRow). r.0 == n) (map (λ (r : HistoryRow). (number, r)) rows)) ≡ []
    at true same rest = absurd (other (eqb-true number n same))
    at false differ rest = rest

-- no row has the number of the last entry, a compaction
none-last : (number n base : ℕ) (groups : List (Group × Bool)) (entries : List Entry) → n ≡ number + length entries
    → filter (λ (r : NumberedRow). r.0 == n) (numbered_from number (entries ++ compaction base groups ∷ [])) ≡ []
none-last number n base groups [] last = refl
none-last number n base groups (e ∷ entries) last =
    filter-append (λ (r : NumberedRow). r.0 == n) (map (λ (r : HistoryRow). (number, r)) (entry_rows e)) (numbered_from (number + 1) (entries ++ compaction base groups ∷ []))
    ∙ ap (λ (rs : List NumberedRow). rs ++ filter (λ (r : NumberedRow). r.0 == n) (numbered_from (number + 1) (entries ++ compaction base groups ∷ [])))
    (none-of number n (entry_rows e) (λ same. omega (arith, same, last)))
    ∙ none-last (number + 1) n base groups entries (omega (arith, last))

no-rows : (base : ℕ) (groups : List (Group × Bool)) (entries : List Entry) → rows_at (entries ++ compaction base groups ∷ []) (suc (length entries)) ≡ []
no-rows base groups entries =
    ap (λ (rs : List NumberedRow). map (λ (r : NumberedRow). r.1) rs) (none-last 1 (suc (length entries)) base groups entries (omega arith))

-- no rows are none by key
abbrev no_rows_of : Values → List HistoryRow
no_rows_of key = []

none-each : (keys : List Values) → flat_map no_rows_of keys ≡ []
none-each [] = refl
none-each (key ∷ keys) = none-each keys

-- with the producer of inputs a compaction tells nothing
none-given : (s : TableSchema) (base : ℕ) (groups : List (Group × Bool)) (entries : List Entry)
    → change_by producers.Input s (entries ++ compaction base groups ∷ []) (suc (length entries)) ≡ []
none-given s base groups entries = ap (by_key s) (no-rows base groups entries) ∙ none-each (keys_in s [])

-- ---- by producer

-- what the laws of lower crates say of a compaction whose runs still stand, and of entries that pass nothing on
pub record ChangeFacts : Type 0 where
  pub lookup : (s : TableSchema) (g : Group) (entries : List Entry) (since : ℕ) (runs : ℕ → List KnownRun) (t : Taking) (e : Entry)
      → partition_holds s ≡ true → AllFit s.columns (flat_map entry_rows (entries ++ e ∷ [])) → s.options.producer ≡ producers.Lookup
      → IsSuccession s g entries since runs → IsTaken s since runs (length entries) t → StillStands s g entries runs t → base_of false g e ≡ Some t.base
      → rows_in s g (change s (entries ++ e ∷ []) (suc (length entries)))
      ≡ log_of s (oldest_first (λ level. nat_lt 0 level) (map without_files (runs t.base))) (oldest_first (λ level. level == 0) (map without_files (runs t.base)))
  pub full : (s : TableSchema) (g : Group) (entries : List Entry) (since : ℕ) (runs : ℕ → List KnownRun) (t : Taking) (e : Entry)
      → partition_holds s ≡ true → AllFit s.columns (flat_map entry_rows (entries ++ e ∷ [])) → s.options.producer ≡ producers.FullCompaction
      → IsSuccession s g entries since runs → IsTaken s since runs (length entries) t → StillStands s g entries runs t → t.rest ≡ []
      → base_of true g e ≡ Some t.base
      → rows_in s g (change s (entries ++ e ∷ []) (suc (length entries)))
      ≡ log_of s (oldest_first (λ level. level == top_of s) (map without_files (runs t.base)))
      (oldest_first (λ level. nat_lt level (top_of s)) (map without_files (runs t.base)))
  pub quiet : (s : TableSchema) (g : Group) (entries : List Entry) (e : Entry) (wholly : Bool)
      → partition_holds s ≡ true → AllFit s.columns (flat_map entry_rows (entries ++ e ∷ [])) → Compares s.options.producer wholly
      → PassesNothing g entries e wholly → rows_in s g (change s (entries ++ e ∷ []) (suc (length entries))) ≡ []

no-base : (g : Group) (entries : List Entry) (e : Entry) (wholly : Bool) → base_of wholly g e ≡ None → PassesNothing g entries e wholly
no-base g entries e wholly none = λ base some. absurd (let no : None ≡ Some base = sym none ∙ some in cc)

module _ (facts : ChangeFacts) (s : TableSchema) (entries : List Entry) (base : ℕ) (groups : List (Group × Bool)) (e : Entry) (is : e ≡ compaction base groups)
    (holds : partition_holds s ≡ true) (fit : AllFit s.columns (flat_map entry_rows (entries ++ e ∷ []))) (g : Group) where
  abbrev part : List HistoryRow
  part = rows_in s g (change s (entries ++ e ∷ []) (suc (length entries)))

  abbrev part_by : Producer → List HistoryRow
  part_by q = rows_in s g (change_by q s (entries ++ e ∷ []) (suc (length entries)))

  none-part : s.options.producer ≡ producers.None → part ≡ []
  none-part none = ap (λ (q : Producer). part_by q) none

  given-part : s.options.producer ≡ producers.Input → part ≡ []
  given-part input =
      ap (λ (q : Producer). part_by q) input
      ∙ ap (λ (x : Entry). rows_in s g (change_by producers.Input s (entries ++ x ∷ []) (suc (length entries)))) is
      ∙ ap (rows_in s g) (none-given s base groups entries)

  compares-lookup : s.options.producer ≡ producers.Lookup → Compares s.options.producer false
  compares-lookup lookup = subst (λ (q : Producer). Compares q false) (sym lookup) refl

  compares-full : s.options.producer ≡ producers.FullCompaction → Compares s.options.producer true
  compares-full full = subst (λ (q : Producer). Compares q true) (sym full) refl

  -- of a group that it doesn't name
  pub other-part : ((wholly : Bool) → base_of wholly g e ≡ None) → part ≡ []
  other-part other = at s.options.producer refl
    where
      at : (q : Producer) → s.options.producer ≡ q → part ≡ []
      at producers.None q = none-part q
      at producers.Input q = given-part q
      at producers.Lookup q = facts.quiet s g entries e false holds fit (compares-lookup q) (no-base g entries e false (other false))
      at producers.FullCompaction q = facts.quiet s g entries e true holds fit (compares-full q) (no-base g entries e true (other true))

  -- of one that it names, whose runs still stand that it took
  module _ (since : ℕ) (runs : ℕ → List KnownRun) (t : Taking) (whole : Bool) (goes : IsSuccession s g entries since runs)
      (taken : IsTaken s since runs (length entries) t) (still : StillStands s g entries runs t) (named : base_of false g e ≡ Some t.base)
      (all : whole ≡ true → (t.rest ≡ []) × (base_of true g e ≡ Some t.base)) (not_all : whole ≡ false → base_of true g e ≡ None) where
    full-part : s.options.producer ≡ producers.FullCompaction → (w : Bool) → whole ≡ w
        → part ≡ log_by producers.FullCompaction s w (map without_files (runs t.base))
    full-part full true is_whole = facts.full s g entries since runs t e holds fit full goes taken still (all is_whole).0 (all is_whole).1
    full-part full false is_part = facts.quiet s g entries e true holds fit (compares-full full) (no-base g entries e true (not_all is_part))

    pub own-part : part ≡ compaction_log s whole (runs t.base)
    own-part = at s.options.producer refl
      where
        at : (q : Producer) → s.options.producer ≡ q → part ≡ log_by q s whole (map without_files (runs t.base))
        at producers.None q = none-part q
        at producers.Input q = given-part q
        at producers.Lookup q = facts.lookup s g entries since runs t e holds fit q goes taken still named
        at producers.FullCompaction q = full-part q whole refl
