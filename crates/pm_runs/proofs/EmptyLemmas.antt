-- A run without rows may be left out.
use Rattle.std.proofs.Common.{◌≡◌, List, [], ◌∷◌, ◌++◌, ap, ◌∙◌}
use Rattle.std.specs.List.{AllZip, flat_map}
use Rattle.pm_values.specs.Order.{Values}
use Rattle.pm_model_history.specs.Merge.{HistoryRow}
use Rattle.pm_engine.specs.Covers.{Covers, CoversAll, CoversKey, Holds, Run, of_key}
use Rattle.pm_engine.specs.Meaning.{Meaning}
use Rattle.pm_runs.specs.Succession.{TakeOldestPlace, TakePlace, unless_empty}

abbrev Holding : Meaning → Values → Run → List HistoryRow → Type 0
Holding m key run part = Holds m key (of_key key run) part

abbrev joined : List (List HistoryRow) → List HistoryRow
joined parts = flat_map (λ part. part) parts

zip-without : (m : Meaning) (key : Values) (older newer : List Run) (parts : List (List HistoryRow)) → AllZip (Holding m key) (older ++ [] ∷ newer) parts
    → (less : List (List HistoryRow)) × (joined parts ≡ joined less) × AllZip (Holding m key) (older ++ newer) less
zip-without m key [] newer [] all = absurd all
zip-without m key [] newer (part ∷ parts) all = (parts, ap (λ xs. xs ++ joined parts) all.0, all.1)
zip-without m key (run ∷ older) newer [] all = absurd all
zip-without m key (run ∷ older) newer (part ∷ parts) all =
    let rest = zip-without m key older newer parts all.1 in
    (part ∷ rest.0, ap (λ xs. part ++ xs) rest.1, (all.0, rest.2))

key-without : (m : Meaning) (key : Values) (older newer : List Run) (missing rows : List HistoryRow) → CoversKey m key (older ++ [] ∷ newer) missing rows
    → CoversKey m key (older ++ newer) missing rows
key-without m key older newer missing rows is =
    let less = zip-without m key older newer is.parts is.holds in
    record { parts = less.0; split = is.split ∙ ap (λ xs. missing ++ xs) less.1; holds = less.2 }

some-without : (m : Meaning) (older newer : List Run) (rows : List HistoryRow) → Covers m (older ++ [] ∷ newer) rows → Covers m (older ++ newer) rows
some-without m older newer rows is = λ key. let c = is key in (c.0, c.1, key-without m key older newer c.0 _ c.2)

all-without : (m : Meaning) (older newer : List Run) (rows : List HistoryRow) → CoversAll m (older ++ [] ∷ newer) rows → CoversAll m (older ++ newer) rows
all-without m older newer rows is = λ key. key-without m key older newer [] _ (is key)

pub place-taken : (m : Meaning) (old : List Run) (run : Run) → TakePlace m old (run ∷ []) → TakePlace m old (unless_empty run)
place-taken m old [] is = record {
  some = λ older newer rows covers. some-without m older newer rows (is.some older newer rows covers);
  all = λ older newer rows covers. all-without m older newer rows (is.all older newer rows covers);
}
place-taken m old (row ∷ run) is = is

pub oldest-taken : (m : Meaning) (old : List Run) (run : Run) → TakeOldestPlace m old (run ∷ []) → TakeOldestPlace m old (unless_empty run)
oldest-taken m old [] is = λ newer rows covers. some-without m [] newer rows (is newer rows covers)
oldest-taken m old (row ∷ run) is = is
