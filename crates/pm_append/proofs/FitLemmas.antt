-- The rows of a batch fit the table's columns, since the batch covers them.
use Rattle.std.proofs.Common.{◌≡◌, inl, inr, ℕ, true, List, [], ◌∷◌, Option, None, Some, Contains, refl, subst}
use Rattle.std.specs.Cmp.{Equal-is}
use Rattle.std.specs.List.{AllZip, flat_map}
use Rattle.std.specs.Ordering.{eq_by_cmp}
use Rattle.std.proofs.lemmas.List.Elements.{Contains-append_cases}
use Rattle.pm_values.specs.Fits.{Fits}
use Rattle.pm_values.specs.GroupOrder.{group_cmp}
use Rattle.pm_values.specs.Order.{Values, key_cmp}
use Rattle.pm_values.specs.declared.group.Group.{Group}
use Rattle.pm_values.proofs.Lemmas.{key_cmp-ties}
use Rattle.pm_schema.specs.declared.schema.TableSchema.{TableSchema}
use Rattle.pm_model_history.specs.Merge.{AllFit, HistoryRow, key_of}
use Rattle.pm_model_history.specs.Merged.{primary_of}
use Rattle.pm_model_following.specs.Groups.{group_of, rows_in}
use Rattle.pm_engine.specs.Covers.{CoversAll, Holds, Run, of_key}
use Rattle.pm_engine.specs.Meaning.{IsTaken, Meaning}
use Rattle.pm_engine.specs.OfSchema.{meaning_of}
use Rattle.pm_write.specs.Batch.{GroupRows, Groups, IsBatchOf, held_of, numbered}
use Rattle.pm_made.proofs.ListLemmas.{all-of, each-of, in-filter, none-in}
use Rattle.pm_append.proofs.FileLemmas.{group-ties, none-rows}

holds-fit : (m : Meaning) (key : Values) (own : Run) (part : List HistoryRow) → Holds m key own part → (r : HistoryRow) → Contains part r → Fits m.columns r.1
holds-fit m key [] part none r h = absurd (none-in r (subst (λ (rs : List HistoryRow). Contains rs r) none h))
holds-fit m key (x ∷ []) part speaks r h = (each-of (IsTaken m key) part r speaks.all_taken h).fits
holds-fit m key (x ∷ y ∷ own) part none r h = absurd none

parts-fit : (m : Meaning) (key : Values) (runs : List Run) (parts : List (List HistoryRow))
    → AllZip (λ (run : Run) (part : List HistoryRow). Holds m key (of_key key run) part) runs parts → (r : HistoryRow) → Contains (flat_map (λ (p : List HistoryRow). p) parts) r
    → Fits m.columns r.1
parts-fit m key [] [] all r h = absurd (none-in r h)
parts-fit m key [] (part ∷ parts) all r h = absurd all
parts-fit m key (run ∷ runs) [] all r h = absurd all
parts-fit m key (run ∷ runs) (part ∷ parts) all r h = elim (Contains-append_cases part (flat_map (λ (p : List HistoryRow). p) parts) r h) as (λ _. Fits m.columns r.1) [
  | inl own ↦ holds-fit m key (of_key key run) part all.0 r own
  | inr later ↦ parts-fit m key runs parts all.1 r later
]

-- rows that runs cover, lacking none, fit
covered-fit : (s : TableSchema) (runs : List Run) (rows : List HistoryRow) → CoversAll (meaning_of s) runs rows → (r : HistoryRow) → Contains rows r → Fits s.columns r.1
covered-fit s runs rows covers r h =
    let key : Values = key_of (primary_of s) r.1 in
    let c = covers key in
    let own : eq_by_cmp key_cmp key key ≡ true = (Equal-is (key_cmp key key)).1 ((key_cmp-ties key key).1 refl) in
    parts-fit (meaning_of s) key runs c.parts c.holds r (subst (λ (rs : List HistoryRow). Contains rs r) c.split
    (in-filter (λ (x : HistoryRow). eq_by_cmp key_cmp key (key_of (primary_of s) x.1)) rows r h own))

-- a batch covers the rows of its groups
abbrev pub BatchCovers : Type 0
BatchCovers = (s : TableSchema) (rows : List HistoryRow) (batch : Groups) (g : Group) (x : GroupRows) (n : ℕ) → IsBatchOf s rows batch
    → held_of g batch ≡ Some x → CoversAll (meaning_of s) (numbered n x.run ∷ []) (rows_in s g rows)

module _ (covers : BatchCovers) (s : TableSchema) (rows : List HistoryRow) (batch : Groups) (is : IsBatchOf s rows batch) where
  row-fits : (r : HistoryRow) → Contains rows r → Fits s.columns r.1
  row-fits r h = at (held_of (group_of s r.1) batch) refl
    where
      own : Contains (rows_in s (group_of s r.1) rows) r
      own = in-filter (λ (x : HistoryRow). eq_by_cmp group_cmp (group_of s x.1) (group_of s r.1)) rows r h (group-ties (group_of s r.1) (group_of s r.1) refl)

      at : (o : Option GroupRows) → held_of (group_of s r.1) batch ≡ o → Fits s.columns r.1
      at None found = absurd (none-in r (subst (λ (rs : List HistoryRow). Contains rs r) (none-rows s rows batch (group_of s r.1) is found) own))
      at (Some x) found = covered-fit s (numbered 0 x.run ∷ []) (rows_in s (group_of s r.1) rows) (covers s rows batch (group_of s r.1) x 0 is found) r own

  pub batch-fits : AllFit s.columns rows
  batch-fits = all-of (λ (r : HistoryRow). Fits s.columns r.1) rows row-fits
