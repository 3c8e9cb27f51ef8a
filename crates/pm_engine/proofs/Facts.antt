-- Lemmas for engines and for the layers above them.
use Rattle.std.proofs.Common.{append-nil, ◌≡◌, ◌≢◌, ℕ, zero, suc, List, [], ◌∷◌, ◌++◌, None, refl, sym, ap, ◌∙◌, slice_get}
use Rattle.pm_base.proofs.Laws.{AllByRecursion-append}
use Rattle.pm_values.specs.Fits.{Fits}
use Rattle.pm_values.specs.Order.{Values}
use Rattle.pm_values.specs.declared.column.Column.{Column}
use Rattle.pm_values.specs.declared.value.Value.TheVariants.{Null}
use Rattle.pm_model_history.specs.Merge.{HistoryRow, value_at}
use Rattle.pm_engine.specs.Meaning.{Meaning, AreTaken, IsTaken, SameWorth, SpeaksFor}

-- a fitting row has null where there is no column
pub value_past : (columns : List Column) (values : Values) (index : ℕ) → Fits columns values → slice_get columns index ≡ None → value_at values index ≡ Null
value_past [] [] index fits none = refl
value_past [] (v ∷ vs) index fits none = absurd fits
value_past (c ∷ cs) [] index fits none = absurd fits
value_past (c ∷ cs) (v ∷ vs) zero fits none = cc
value_past (c ∷ cs) (v ∷ vs) (suc index) fits none = value_past cs vs index fits.1 none

pub SameWorth-sym : (m : Meaning) (xs ys : List HistoryRow) → SameWorth m xs ys → SameWorth m ys xs
SameWorth-sym m xs ys same = record { value = λ index. sym (same.value index); shows = sym same.shows }

pub SameWorth-trans : (m : Meaning) (xs ys zs : List HistoryRow) → SameWorth m xs ys → SameWorth m ys zs → SameWorth m xs zs
SameWorth-trans m xs ys zs one two = record { value = λ index. one.value index ∙ two.value index; shows = one.shows ∙ two.shows }

-- equal lists are worth the same
pub SameWorth-same : (m : Meaning) (xs ys : List HistoryRow) → xs ≡ ys → SameWorth m xs ys
SameWorth-same m xs ys e = record { value = λ index. ap (m.value index) e; shows = ap m.shows e }

pub AreTaken-append : (m : Meaning) (key : Values) (xs ys : List HistoryRow) → AreTaken m key xs → AreTaken m key ys → AreTaken m key (xs ++ ys)
AreTaken-append m key xs ys = AllByRecursion-append (IsTaken m key) xs ys

-- rows before others leave some
pub some_after : (xs ys : List HistoryRow) → ys ≢ [] → xs ++ ys ≢ []
some_after [] ys some = some
some_after (x ∷ xs) ys some = λ e. cc

-- rows show where the row that speaks for them does
pub shows_for : (m : Meaning) (key : Values) (stored : HistoryRow) (rows : List HistoryRow) → SpeaksFor m key stored rows → m.shows rows ≡ m.shows (stored ∷ [])
shows_for m key stored rows speaks = ap m.shows (sym (append-nil rows)) ∙ (speaks.worth [] [] tt tt).shows

-- they have its value in each column
pub value_for : (m : Meaning) (key : Values) (stored : HistoryRow) (rows : List HistoryRow) (index : ℕ) → SpeaksFor m key stored rows → m.value index rows ≡ value_at stored.1 index
value_for m key stored rows index speaks = ap (m.value index) (sym (append-nil rows)) ∙ (speaks.worth [] [] tt tt).value index ∙ speaks.alone index
