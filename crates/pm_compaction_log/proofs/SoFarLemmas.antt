-- The log of the rows that were given so far.
use Rattle.std.proofs.Common.{◌≡◌, ◌≢◌, ◌↔◌, List, [], ◌∷◌, ◌++◌, map, All, Bool, Option, refl, sym, ap, subst, ◌∙◌, append-nil}
use Rattle.std.specs.List.{AllByRecursion, flat_map}
use Rattle.std.specs.declared.cmp.Ordering.TheVariants.{Less, Greater}
use Rattle.std.proofs.lemmas.Grind.{flat_map-append}
use Rattle.std.proofs.lemmas.List.{map-append}
use Rattle.pm_base.proofs.Laws.{AllByRecursion-append, AllByRecursion-parts}
use Rattle.pm_schema.specs.declared.schema.TableSchema.{TableSchema}
use Rattle.pm_values.specs.Order.{Values, key_cmp}
use Rattle.pm_values.specs.declared.record.Change.{Change}
use Rattle.pm_values.specs.declared.record.Stamped.{Stamped}
use Rattle.pm_model_history.specs.Merge.{HistoryRow}
use Rattle.pm_model_following.specs.Following.{leaves_out_equal, told}
use Rattle.pm_model_changelog.specs.Log.{log_of, rising_keys, shown_of, told_by}
use Rattle.pm_engine.specs.Covers.{IsRising, Run, of_key, row_of, stored_rows}
use Rattle.pm_engine.specs.Meaning.{Meaning}
use Rattle.pm_engine.specs.OfSchema.{meaning_of}
use Rattle.pm_engine.specs.declared.stored.Stored.{Stored}
use Rattle.pm_merge.specs.Merge.{AreStored, IsMerge}
use Rattle.pm_merge.specs.Merging.{GivesAll, GivesLeast, runs_in}
use Rattle.pm_merge.specs.Source.{Rest}
use Rattle.pm_changelog.specs.GroupLog.{IsGroupLog, IsNext}
use Rattle.pm_lookup.specs.Lookup.{stored_part}
use Rattle.pm_compaction_log.specs.Older.{AreBelow, FindsOlder}
use Rattle.pm_compaction_log.specs.Told.{Adds, HasStored, Tells, changes_of}
use Rattle.pm_compaction_log.proofs.GivenLemmas.{are-rising, given-below, given-speaks}
use Rattle.pm_compaction_log.proofs.OlderLemmas.{finds-stored}
use Rattle.pm_compaction_log.proofs.ToldLemmas.{log-more, told-key}

-- an older value was found of each row's key
abbrev pub HaveFound : (Values → Option Stored → Type 0) → Run → Type 0
HaveFound Finds run = AllByRecursion (λ (x : Stamped). (older : Option Stored) × Finds x.key older) run

-- what is found of a key is the stored row of the older runs' rows
abbrev pub FindsStored : TableSchema → (Values → Option Stored → Type 0) → List Run → Type 0
FindsStored s Finds older = (key : Values) (found : Option Stored) → Finds key found → HasStored (meaning_of s) key found (stored_rows key older)

-- it was found in rests that are read along
abbrev pub FindsIn : Meaning → List Rest → Values → Option Stored → Type 0
FindsIn m olders key found = (left : List Rest) × FindsOlder m key olders found left

pub finds-in-stored : (m : Meaning) (s : TableSchema) (olders : List Rest) → m ≡ meaning_of s → AreStored (meaning_of s) (runs_in olders) → FindsStored s (FindsIn m olders) (runs_in olders)
finds-in-stored m s olders same stored key found (left, finds) =
    finds-stored (meaning_of s) key olders found left stored (subst (λ (n : Meaning). FindsOlder n key olders found left) same finds)

-- what is told of the keys of rows
abbrev pub told_of : TableSchema → List Run → List Run → Run → List HistoryRow
told_of s older newer run = flat_map (told_by s older newer) (map (λ (x : Stamped). x.key) run)

-- These rows were given of the newer runs, of each key an older value was found, and the log tells what the rows change.
pub record SoFar (m : Meaning) (equal_out : Bool) (Finds : Values → Option Stored → Type 0) (first : List Rest) (run : Run) (left : List Rest) (log : List Change) : Type 0 where
  pub gave : GivesAll m first run left
  pub found : HaveFound Finds run
  pub next : (key : Values) → AreBelow key run → IsNext log key
  pub tells : (s : TableSchema) (older : List Run) → m ≡ meaning_of s → equal_out ≡ leaves_out_equal s s.options.engine → FindsStored s Finds older → AreStored (meaning_of s) (runs_in first)
      → IsGroupLog s (told_of s older (runs_in first) run) log

module _ (m : Meaning) (equal_out : Bool) (Finds : Values → Option Stored → Type 0) (first : List Rest) where
  pub so-far-none : (log : List Change) → log ≡ [] → SoFar m equal_out Finds first [] first log
  so-far-none log none = record {
    gave = refl;
    found = tt;
    next = λ key below. subst (λ (cs : List Change). IsNext cs key) (sym none) tt;
    tells = λ s older same out finds stored. subst (λ (cs : List Change). IsGroupLog s [] cs) (sym none) (record { told = refl; own = tt });
  }

  -- the next row's key may come next
  pub so-far-next : (run : Run) (left later : List Rest) (log : List Change) (x : Stamped) → All IsRising (runs_in first) → SoFar m equal_out Finds first run left log → GivesLeast m left x later → IsNext log x.key
  so-far-next run left later log x rising far least = far.next x.key (given-below m first left later run x (are-rising first rising) far.gave least)

  next-changes : (key high : Values) (rows : List HistoryRow) → key_cmp key high ≡ Less → IsNext (changes_of key rows) high
  next-changes key high [] less = tt
  next-changes key high (r ∷ rows) less = ((λ e. let no : Less ≡ Greater = sym less ∙ e in cc), next-changes key high rows less)

  told-push : (s : TableSchema) (older newer : List Run) (run : Run) (x : Stamped) → told_of s older newer (run ++ x ∷ []) ≡ told_of s older newer run ++ told_by s older newer x.key
  told-push s older newer run x =
      ap (flat_map (told_by s older newer)) (map-append (λ (y : Stamped). y.key) run (x ∷ []))
      ∙ flat_map-append (told_by s older newer) (map (λ (y : Stamped). y.key) run) (x.key ∷ [])
      ∙ ap (λ (rs : List HistoryRow). told_of s older newer run ++ rs) (append-nil (told_by s older newer x.key))

  -- one row more
  pub so-far-more : (run : Run) (left later : List Rest) (log new : List Change) (x : Stamped) (older : Option Stored) → GivesAll m first (run ++ x ∷ []) later → SoFar m equal_out Finds first run left log
      → GivesLeast m left x later → Finds x.key older → Adds (Tells m equal_out x.key older (stored_part x)) log new → SoFar m equal_out Finds first (run ++ x ∷ []) later new
  so-far-more run left later log new x older gave far least finds (more, is, tells) = record {
    gave = gave;
    found = AllByRecursion-append (λ (y : Stamped). (found : Option Stored) × Finds y.key found) run (x ∷ []) far.found ((older, finds), tt);
    next = λ key below.
        let parts = AllByRecursion-parts (λ (y : Stamped). key_cmp y.key key ≡ Less) run (x ∷ []) below in
        subst (λ (cs : List Change). IsNext cs key) (sym is)
        (AllByRecursion-append (λ (c : Change). key_cmp c.key key ≢ Greater) log more (far.next key parts.0)
        (subst (λ (cs : List Change). IsNext cs key) (sym tells.2) (next-changes x.key key _ parts.1.0)));
    tells = λ s runs same out stored own.
        let newer = runs_in first in
        let told_now : Tells (meaning_of s) (leaves_out_equal s s.options.engine) x.key older (stored_part x) more =
        subst (λ (b : Bool). Tells (meaning_of s) b x.key older (stored_part x) more) out (subst (λ (n : Meaning). Tells n equal_out x.key older (stored_part x) more) same tells) in
        let gave_now = subst (λ (n : Meaning). GivesAll n first run left) same far.gave in
        let least_now = subst (λ (n : Meaning). GivesLeast n left x later) same least in
        let key = told-key s (leaves_out_equal s s.options.engine) x.key older (stored_part x) more (stored_rows x.key runs) (stored_rows x.key newer) told_now (stored x.key older finds)
        (given-speaks (meaning_of s) first left later run x own gave_now least_now) in
        let all : stored_rows x.key runs ++ stored_rows x.key newer ≡ stored_rows x.key (runs ++ newer) = sym (flat_map-append (λ (r : Run). map row_of (of_key x.key r)) runs newer) in
        let rows = told (leaves_out_equal s s.options.engine) (shown_of s (stored_rows x.key runs)) (shown_of s (stored_rows x.key runs ++ stored_rows x.key newer)) in
        let whole : rows ≡ told_by s runs newer x.key =
        ap (λ (rs : List HistoryRow). told (leaves_out_equal s s.options.engine) (shown_of s (stored_rows x.key runs)) (shown_of s rs)) all in
        let longer : IsGroupLog s (told_of s runs newer run ++ rows) (log ++ changes_of x.key rows) = log-more s (told_of s runs newer run) log x.key rows (far.tells s runs same out stored own) key.1 in
        subst (λ (cs : List Change). IsGroupLog s (told_of s runs newer (run ++ x ∷ [])) cs) (sym (is ∙ ap (λ (cs : List Change). log ++ cs) key.0))
        (subst (λ (rs : List HistoryRow). IsGroupLog s rs (log ++ changes_of x.key rows)) (ap (λ (rs : List HistoryRow). told_of s runs newer run ++ rs) whole ∙ sym (told-push s runs newer run x)) longer);
  }

  -- `keys_law`
  abbrev pub HasRisingKeys : Type 0
  HasRisingKeys = (runs : List Run) (run : Run) → IsRising run → ((key : Values) → (of_key key run ≡ []) ↔ (of_key key (flat_map (λ (r : Run). r) runs) ≡ []))
      → map (λ (x : Stamped). x.key) run ≡ rising_keys runs

  -- all rows
  pub so-far-all : HasRisingKeys → (run : Run) (left : List Rest) (log : List Change) → SoFar m equal_out Finds first run left log → IsMerge m (runs_in first) run
      → (s : TableSchema) (older : List Run) → m ≡ meaning_of s → equal_out ≡ leaves_out_equal s s.options.engine → FindsStored s Finds older → AreStored (meaning_of s) (runs_in first)
      → IsGroupLog s (log_of s older (runs_in first)) log
  so-far-all keys run left log far merge s older same out finds stored =
      subst (λ (ks : List Values). IsGroupLog s (flat_map (told_by s older (runs_in first)) ks) log) (keys (runs_in first) run merge.rising merge.keys) (far.tells s older same out finds stored)
