-- What merging gives, row by row, of the rests of its sources, the oldest first.
use Rattle.std.specs.Prelude.{◌≡◌, ◌⊎◌, ◌++◌, ◌∷◌, ℕ, ◌+◌, [], cond, length, map, option_to_list, List, Option, None}
use Rattle.std.specs.Prelude.{Some, ⊤}
use Rattle.std.specs.List.{AllByRecursion, flat_map}
use Rattle.std.specs.Option.{option_or}
use Rattle.std.specs.Ordering.{eq_by_cmp}
use Rattle.std.specs.declared.cmp.Ordering.TheVariants.{Less}
use Rattle.pm_values.specs.Order.{Values, key_cmp}
use Rattle.pm_values.specs.declared.record.Stamped.{Stamped}
use Rattle.pm_values.specs.declared.refusal.Refusal.{Refusal}
use Rattle.pm_engine.specs.Covers.{Run}
use Rattle.pm_engine.specs.Meaning.{Meaning}
use Rattle.pm_engine.specs.Reducing.{IsCombined}
use Rattle.pm_merge.specs.Source.{Rest}
use Rattle.pm_merge.specs.declared.merging.Merging.{Merging, Nothing, One, Two'}

-- the rows of rests
abbrev pub runs_in : List Rest → List Run
runs_in rests = map (λ (r : Rest). r.rows) rests

-- runs of which no row was given yet, without a refusal
abbrev pub whole_rest : Run → Rest
whole_rest run = record { rows = run; refusal = None }

abbrev pub rests_of : List Run → List Rest
rests_of runs = map whole_rest runs

-- no row is left
abbrev pub HaveNoRow : List Rest → Type 0
HaveNoRow rests = AllByRecursion (λ (r : Rest). r.rows ≡ []) rests

-- the refusal that comes now: that of the first rest without a row that has one
abbrev pub refusal_now : Run → Option Refusal → Option Refusal
refusal_now [] refusal = refusal
refusal_now (s ∷ rows) refusal = None

abbrev pub first_refusal : List Rest → Option Refusal
first_refusal [] = None
first_refusal (r ∷ rests) = option_or (refusal_now r.rows r.refusal) (first_refusal rests)

-- none of the rests has a refusal
abbrev pub HaveNoRefusal : List Rest → Type 0
HaveNoRefusal rests = AllByRecursion (λ (r : Rest). r.refusal ≡ None) rests

-- one of the rests has the refusal
abbrev pub HasRefusal : List Rest → Refusal → Type 0
HasRefusal rests e = (before after : List Rest) × (r : Rest) × (rests ≡ before ++ r ∷ after) × (r.refusal ≡ Some e)

-- the first row, where it has the key
abbrev pub first_of_key : Values → Run → Run
first_of_key key [] = []
first_of_key key (s ∷ rows) = cond (eq_by_cmp key_cmp key s.key) (s ∷ []) []

-- what is left once the first row is given, where it has the key
abbrev pub rows_past : Values → Run → Run
rows_past key [] = []
rows_past key (s ∷ rows) = cond (eq_by_cmp key_cmp key s.key) rows (s ∷ rows)

abbrev pub rest_past : Values → Rest → Rest
rest_past key r = record { rows = rows_past key r.rows; refusal = r.refusal }

-- the first row has the key or one above, if there is one
abbrev pub BeginsFrom : Values → Run → Type 0
BeginsFrom key [] = ⊤
BeginsFrom key (s ∷ rows) = (key ≡ s.key) ⊎ (key_cmp key s.key ≡ Less)

-- stored rows of one key, the oldest first, became one: there is only one, or what the older ones became and what the
-- newer ones became is combined
pub data AreCombined (m : Meaning) : Run → Stamped → Type 0 where
  alone : (s : Stamped) → AreCombined m (s ∷ []) s
  joined : (rows olders newers : Run) (older newer s : Stamped) → rows ≡ olders ++ newers → AreCombined m olders older
      → AreCombined m newers newer → IsCombined m older newer s → AreCombined m rows s

-- The row of the least key is given: no refusal comes now, no first row has a lower key, the first rows of the key
-- became this one, and the others are left.
pub record GivesLeast (m : Meaning) (old : List Rest) (s : Stamped) (new : List Rest) : Type 0 where
  pub known : first_refusal old ≡ None
  pub least : AllByRecursion (λ (r : Rest). BeginsFrom s.key r.rows) old
  pub combined : AreCombined m (flat_map (λ (r : Rest). first_of_key s.key r.rows) old) s
  pub left : new ≡ map (rest_past s.key) old

-- the row of the least key is given; or there is neither a row nor a refusal, and nothing changes
abbrev pub GivesOne : Meaning → List Rest → Option Stamped → List Rest → Type 0
GivesOne m old None new = HaveNoRow old × (first_refusal old ≡ None) × (new ≡ old)
GivesOne m old (Some s) new = GivesLeast m old s new

-- these rows are given, one after another, and then the new rests are left
abbrev pub GivesAll : Meaning → List Rest → Run → List Rest → Type 0
GivesAll m old [] new = new ≡ old
GivesAll m old (s ∷ run) new = (later : List Rest) × GivesLeast m old s later × GivesAll m later run new

-- of the rests the first row was given, if one stands in the place, and those after it are left
abbrev pub GaveFirst : Meaning → Option Stamped → (List Rest → Type 0) → List Rest → Type 0
GaveFirst m None AreLeft rests = AreLeft rests
GaveFirst m (Some s) AreLeft rests = (later : List Rest) × GivesLeast m rests s later × AreLeft later

-- The rests of the sources. Of two that are merged the first row of each may stand in its place already, and one of
-- which nothing is left was let go. `held` is the row of a place, `rest` what a source has still to give.
abbrev pub HasLeft : {P S : Type 0} → Meaning → (P → Option Stamped) → (S → Rest) → Merging P S → List Rest → Type 0
HasLeft m held rest Nothing rests = HaveNoRow rests × (first_refusal rests ≡ None)
HasLeft m held rest (One source) rests = rests ≡ rest source ∷ []
HasLeft m held rest (Two' p older q newer first_older first_newer) rests = (olders newers : List Rest)
    × (rests ≡ olders ++ newers) × GaveFirst m (held first_older.value) (HasLeft m held rest older) olders
    × GaveFirst m (held first_newer.value) (HasLeft m held rest newer) newers

-- how many rows it still gives at most
abbrev pub rows_left : {P S : Type 0} → (P → Option Stamped) → (S → Rest) → Merging P S → ℕ
rows_left held rest Nothing = 0
rows_left held rest (One source) = length (rest source).rows
rows_left held rest (Two' p older q newer first_older first_newer) =
    (length (option_to_list (held first_older.value)) + rows_left held rest older)
    + (length (option_to_list (held first_newer.value)) + rows_left held rest newer)

-- each source and each place is as it has to be
abbrev pub AllFit : {P S : Type 0} → (P → Type 0) → (S → Type 0) → Merging P S → Type 0
AllFit place source Nothing = Unit {0}
AllFit place source (One s) = source s
AllFit place source (Two' p older q newer first_older first_newer) =
    (place first_older.value × AllFit place source older) × (place first_newer.value × AllFit place source newer)

-- Private: the key is below that of the row, if there is one
abbrev pub IsBelow : Values → Option Stamped → Type 0
IsBelow key None = ⊤
IsBelow key (Some s) = key_cmp key s.key ≡ Less

-- Private: of the first rows of an older and a newer side, if they have any, which one goes, and what stands then
pub data Chooses (m : Meaning) : Option Stamped → Option Stamped → Option Stamped → Option Stamped → Option Stamped
    → Type 0 where
  older_goes : (a : Stamped) (newer : Option Stamped) → IsBelow a.key newer
      → Chooses m (Some a) newer (Some a) None newer
  newer_goes : (b : Stamped) (older : Option Stamped) → IsBelow b.key older
      → Chooses m older (Some b) (Some b) older None
  both_go : (a b s : Stamped) → a.key ≡ b.key → IsCombined m a b s → Chooses m (Some a) (Some b) (Some s) None None
  none_goes : Chooses m None None None None None

-- Private: two rows that are there became one
abbrev pub CombineFirst : Meaning → Option Stamped → Option Stamped → Option Stamped → Type 0
CombineFirst m (Some a) (Some b) next = (s : Stamped) × (next ≡ Some s) × IsCombined m a b s
CombineFirst m older newer next = next ≡ None
