-- The last value and the first one, null too.
use Rattle.std.proofs.Common.{◌≡◌, List, [], ◌∷◌, ◌++◌, Bool, true, false, cond, Option, None, Some, refl, ap, ◌∙◌}
use Rattle.std.specs.List.{last_or}
use Rattle.std.specs.Option.{option_map, option_map_or, option_or, unwrap_or}
use Rattle.std.proofs.lemmas.List.{map-append}
use Rattle.pm_values.specs.Kind.{retracts}
use Rattle.pm_values.specs.declared.column.ColType.{ColType}
use Rattle.pm_values.specs.declared.kind.Kind.{Kind}
use Rattle.pm_values.specs.declared.value.Value.{Value}
use Rattle.pm_values.specs.declared.value.Value.TheVariants.{Null}
use Rattle.pm_model_history.specs.ColumnValue.{first_value, values_at}
use Rattle.pm_model_history.specs.Merge.{HistoryRow, value_at}
use Rattle.pm_aggregate.specs.Column.{Cell, IsOfType, IsTakenCell, SpeaksForCells, rows_of}
use Rattle.pm_aggregate.specs.Functions.{first_of, last_of}
use Rattle.pm_aggregate.proofs.FoldLemmas.{Joins, combines, lifts}
use Rattle.pm_aggregate.proofs.JoinLemmas.{last_or-append}

rows_of-append : (xs ys : List Cell) → rows_of (xs ++ ys) ≡ rows_of xs ++ rows_of ys
rows_of-append xs ys = map-append (λ (cell : Cell). (cell.0, cell.1 ∷ [])) xs ys

-- ---- the last value

-- what the last row leaves
left : HistoryRow → Value
left r = cond (retracts r.0) Null (value_at r.1 0)

last_known : List Cell → Option Value
last_known cells = option_map left (last_or None (rows_of cells))

later : Option Value → Option Value → Option Value
later a b = option_or b a

some_stays : {A : Type 0} (x : A) (xs : List A) (o : Option A) → last_or (Some x) xs ≡ option_or (last_or (Some x) xs) o
some_stays x [] o = refl
some_stays x (y ∷ ys) o = some_stays y ys o

last_or-or : {A : Type 0} (o : Option A) (xs : List A) → last_or o xs ≡ option_or (last_or None xs) o
last_or-or o [] = refl
last_or-or o (x ∷ xs) = some_stays x xs o

map-or : {A B : Type 0} (f : A → B) (a b : Option A) → option_map f (option_or a b) ≡ option_or (option_map f a) (option_map f b)
map-or f None b = refl
map-or f (Some x) b = refl

map_or-read : (o : Option HistoryRow) → option_map_or left o Null ≡ unwrap_or (option_map left o) Null
map_or-read None = refl
map_or-read (Some r) = refl

last-joins : (kind : ColType) → Joins (last_of kind).value last_known later (λ o. unwrap_or o Null)
unfolding left last_known later
last-joins kind = record {
  reads = λ cells. map_or-read (last_or None (rows_of cells));
  joins = λ xs ys. ap (λ rows. option_map left (last_or None rows)) (rows_of-append xs ys)
      ∙ ap (option_map left) (last_or-append None (rows_of xs) (rows_of ys) ∙ last_or-or (last_or None (rows_of xs)) (rows_of ys))
      ∙ map-or left (last_or None (rows_of ys)) (last_or None (rows_of xs));
}

left_type : (kind : ColType) (b : Bool) (v : Value) → IsOfType kind v → IsOfType kind (cond b Null v)
left_type kind true v is = tt
left_type kind false v is = is

-- a cell is spoken for by its value, or by null where it retracts
pub last-lifts : (kind : ColType) (k : Kind) (v : Value) → IsOfType kind v → SpeaksForCells (last_of kind) (cond (retracts k) Null v) ((k, v) ∷ [])
unfolding left last_known
last-lifts kind k v of_type =
    lifts (last_of kind) last_known later (λ o. unwrap_or o Null) (last-joins kind) k v (cond (retracts k) Null v)
    (record { of_type = of_type; taken = refl }) (record { of_type = left_type kind (retracts k) v of_type; taken = refl }) refl refl

-- the newer of two values speaks for both
pub last-combines : (kind : ColType) (a b : Value) (x y : List Cell) → SpeaksForCells (last_of kind) a x → SpeaksForCells (last_of kind) b y → SpeaksForCells (last_of kind) b (x ++ y)
unfolding left last_known
last-combines kind a b x y one two =
    combines (last_of kind) last_known later (λ o. unwrap_or o Null) (last-joins kind) a b b x y one two two.taken refl two.alone

-- ---- the first value

first_known : List Cell → Option Value
first_known [] = None
first_known (cell ∷ cells) = Some cell.1

first-joins : (kind : ColType) → Joins (first_of kind).value first_known option_or (λ o. unwrap_or o Null)
unfolding first_known
first-joins kind = record { reads = reads; joins = joins }
  where
    reads : (cells : List Cell) → first_value (values_at 0 (rows_of cells)) ≡ unwrap_or (first_known cells) Null
    reads [] = refl
    reads (cell ∷ cells) = refl

    joins : (xs ys : List Cell) → first_known (xs ++ ys) ≡ option_or (first_known xs) (first_known ys)
    joins [] ys = refl
    joins (cell ∷ cells) ys = refl

-- a taken cell is spoken for by its value
pub first-lifts : (kind : ColType) (k : Kind) (v : Value) → IsTakenCell (first_of kind) (k, v) → SpeaksForCells (first_of kind) v ((k, v) ∷ [])
unfolding first_known
first-lifts kind k v taken =
    lifts (first_of kind) first_known option_or (λ o. unwrap_or o Null) (first-joins kind) k v v taken (record { of_type = taken.of_type; taken = refl }) refl refl

-- the older of two values speaks for both
pub first-combines : (kind : ColType) (a b : Value) (x y : List Cell) → SpeaksForCells (first_of kind) a x → SpeaksForCells (first_of kind) b y → SpeaksForCells (first_of kind) a (x ++ y)
unfolding first_known
first-combines kind a b x y one two =
    combines (first_of kind) first_known option_or (λ o. unwrap_or o Null) (first-joins kind) a b a x y one two one.taken refl one.alone
