-- What writing adds, one after another.
use Rattle.std.proofs.Common.{◌≡◌, ℕ, zero, suc, ◌+◌, ◌-◌, ◌≤◌, List, [], ◌∷◌, ◌++◌, length, take, drop, replicate}
use Rattle.std.proofs.Common.{refl, sym, ap, ◌∙◌, append_assoc, arith}
use Rattle.std.proofs.lemmas.List.{append-nil, drop_all, length-append, take-append-le, take-replicate}
use Rattle.std.specs.List.{flat_map}
use Rattle.pm_values.specs.declared.value.Value.{Value}
use Rattle.pm_values.specs.declared.value.Value.TheVariants.{Null}
use Rattle.pm_values.specs.declared.column.ColType.{ColType}
use Rattle.pm_values.specs.Order.{Values}
use Rattle.pm_binrow.specs.Row.{filled, slot, slots, tail}

-- ---- slots

slots-cons : (at : ℕ) (kind : ColType) (kinds : List ColType) (value : Value) (values : Values)
    → slots at (kind ∷ kinds) (value ∷ values) ≡ slot at kind value ++ slots (at + length (tail value)) kinds values
unfolding slots
slots-cons at kind kinds value values = refl

-- the slot of one more value is added
pub slot_pushed : (out : List ℕ) (at i : ℕ) (kinds : List ColType) (values : Values) (kind : ColType) (value : Value) (total : List ℕ)
    → drop i kinds ≡ kind ∷ drop (i + 1) kinds → drop i values ≡ value ∷ drop (i + 1) values
    → out ++ slots at (drop i kinds) (drop i values) ≡ total
    → (out ++ slot at kind value) ++ slots (at + length (tail value)) (drop (i + 1) kinds) (drop (i + 1) values) ≡ total
slot_pushed out at i kinds values kind value total next first so_far =
    append_assoc out (slot at kind value) _
    ∙ ap (λ (bytes : List ℕ). out ++ bytes) (sym (slots-cons at kind (drop (i + 1) kinds) value (drop (i + 1) values)))
    ∙ rw (next, first) at so_far

pub slots_end : (out : List ℕ) (at i : ℕ) (kinds : List ColType) (values : Values) (total : List ℕ) → length kinds ≤ i
    → out ++ slots at (drop i kinds) (drop i values) ≡ total → out ≡ total
unfolding slots
slots_end out at i kinds values total le so_far =
    sym (append-nil out) ∙ rw (drop_all i kinds le) at so_far

-- the tail of one more value is counted
pub tail_counted : (at i : ℕ) (values : Values) (value : Value) (total : ℕ) → drop i values ≡ value ∷ drop (i + 1) values
    → at + length (flat_map tail (drop i values)) ≡ total → at + length (tail value) + length (flat_map tail (drop (i + 1) values)) ≡ total
tail_counted at i values value total first so_far =
    let here : at + length (tail value ++ flat_map tail (drop (i + 1) values)) ≡ total = rw first at so_far in
    omega (arith, length-append (tail value) (flat_map tail (drop (i + 1) values)))

-- ---- missing values

nulls_after : (columns most : ℕ) (values : Values) → length values ≤ columns → columns ≤ most
    → values ++ replicate (columns - length values) Null ≡ take columns (values ++ replicate most Null)
nulls_after columns most [] le room =
    let e : columns - 0 ≡ columns = omega arith in
    rw e (sym (take-replicate columns most Null room))
nulls_after zero most (value ∷ values) le room = absurd (omega arith)
nulls_after (suc columns) most (value ∷ values) le room =
    let e : suc columns - suc (length values) ≡ columns - length values = omega arith in
    rw e (ap (λ (vs : Values). value ∷ vs) (nulls_after columns most values (omega arith) (omega arith)))

pub filled_is : (columns : ℕ) (values : Values) → length values ≤ columns → values ++ replicate (columns - length values) Null ≡ filled columns values
filled_is columns values le = nulls_after columns columns values le (omega arith)

pub filled_all : (columns : ℕ) (values : Values) → columns ≤ length values → filled columns values ≡ take columns values
filled_all columns values le = take-append-le columns values (replicate columns Null) le
