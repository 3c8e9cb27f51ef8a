-- The runs of all groups cover the rows of a table.
use Rattle.std.proofs.Common.{◌≡◌, ◌≢◌, ◌⊎◌, inl, inr, List, [], ◌∷◌, ◌++◌, map, true, false, cond, Less, refl, sym, ap, subst, ◌∙◌, append-nil}
use Rattle.std.specs.Cmp.{tied_itself}
use Rattle.std.specs.List.{AllByRecursion, AllZip, flat_map}
use Rattle.std.specs.List.Sorted.{IsStrictlySortedBy}
use Rattle.std.specs.Ordering.{eq_by_cmp, is_eq}
use Rattle.std.specs.declared.cmp.Ordering.TheVariants as orders
use Rattle.std.proofs.lemmas.Grind.{flat_map-append}
use Rattle.pm_values.specs.GroupOrder.{group_cmp, group_total}
use Rattle.pm_values.specs.Order.{Values}
use Rattle.pm_values.specs.declared.group.Group.{Group}
use Rattle.pm_values.proofs.Lemmas.{group_cmp-IsAntisymmetric}
use Rattle.pm_schema.specs.Again.{IsDeclared}
use Rattle.pm_schema.specs.Rules.{partition_holds}
use Rattle.pm_schema.specs.declared.schema.TableSchema.{TableSchema}
use Rattle.pm_model_history.specs.Merge.{HistoryRow, rows_of}
use Rattle.pm_model_history.specs.Merged.{primary_of}
use Rattle.pm_engine.specs.Covers.{Covers, CoversKey, Holds, MayBeMissing, Run, of_key}
use Rattle.pm_engine.specs.OfSchema.{meaning_of}
use Rattle.pm_model_following.specs.Groups.{group_of, rows_in}
use Rattle.pm_scan_rows.specs.Shown.{GroupRuns, GroupsCover, all_runs}
use Rattle.pm_scan_rows.proofs.GroupLemmas.{key_rows_in, key_rows_of}

-- ---- groups

-- groups that tie are one
tied_groups : (g h : Group) → eq_by_cmp group_cmp g h ≡ true → g ≡ h
tied_groups g h e =
    elim (group_cmp g h) as (λ o. group_cmp g h ≡ o → is_eq o ≡ true → g ≡ h) [
      | orders.Less ↦ λ p q. cc
      | orders.Equal ↦ λ p q. group_cmp-IsAntisymmetric g h p
      | orders.Greater ↦ λ p q. cc
    ] refl e

ties_itself : (g : Group) → eq_by_cmp group_cmp g g ≡ true
ties_itself g = ap is_eq (tied_itself group_total g)

-- a group that doesn't tie is another
another : (g h : Group) → eq_by_cmp group_cmp g h ≡ false → h ≢ g
another g h apart = λ same. let ties : eq_by_cmp group_cmp g h ≡ true = subst (λ x. eq_by_cmp group_cmp g x ≡ true) (sym same) (ties_itself g) in cc

-- each group has the rows that the key has in it
abbrev RowsCovered : TableSchema → List HistoryRow → List GroupRuns → Type 0
RowsCovered s rows groups = AllByRecursion (λ (p : GroupRuns). Covers (meaning_of s) p.1 (rows_in s p.0 rows)) groups

-- the runs of all groups
abbrev pub runs_of_all : List GroupRuns → List Run
runs_of_all groups = all_runs (map (λ (p : GroupRuns). p.1) groups)

abbrev joined : List (List HistoryRow) → List HistoryRow
joined parts = flat_map (λ (part : List HistoryRow). part) parts

-- what each run has of a key speaks for its part of the rows
abbrev HoldParts : TableSchema → Values → List Run → List (List HistoryRow) → Type 0
HoldParts s key runs parts = AllZip (λ (run : Run) (part : List HistoryRow). Holds (meaning_of s) key (of_key key run) part) runs parts

zip-append : {A B : Type 0} (P : A → B → Type 0) (xs ys : List A) (ps qs : List B) → AllZip P xs ps → AllZip P ys qs → AllZip P (xs ++ ys) (ps ++ qs)
zip-append P [] ys [] qs first later = later
zip-append P [] ys (p ∷ ps) qs first later = absurd first
zip-append P (x ∷ xs) ys [] qs first later = absurd first
zip-append P (x ∷ xs) ys (p ∷ ps) qs first later = (first.0, zip-append P xs ys ps qs first.1 later)

joined-append : (ps qs : List (List HistoryRow)) → joined (ps ++ qs) ≡ joined ps ++ joined qs
joined-append ps qs = flat_map-append (λ (part : List HistoryRow). part) ps qs

-- where nothing is left of two lists, nothing is of the second
none_after : (xs ys : List HistoryRow) → [] ≡ xs ++ ys → ys ≡ []
none_after [] ys e = sym e
none_after (x ∷ xs) ys e = cc

-- runs that have no part of a key's rows
record NoParts (s : TableSchema) (key : Values) (runs : List Run) : Type 0 where
  pub parts : List (List HistoryRow)
  pub none : joined parts ≡ []
  pub holds : HoldParts s key runs parts

-- the runs of a group in which the key has no row
no_parts : (s : TableSchema) (key : Values) (runs : List Run) (rows : List HistoryRow) → Covers (meaning_of s) runs rows → rows_of (primary_of s) key rows ≡ [] → NoParts s key runs
no_parts s key runs rows covers none =
    let at = covers key in
    record { parts = at.2.parts; none = none_after at.0 (joined at.2.parts) (sym none ∙ at.2.split); holds = at.2.holds }

more_parts : (s : TableSchema) (key : Values) (runs others : List Run) → NoParts s key runs → NoParts s key others → NoParts s key (runs ++ others)
more_parts s key runs others a b = record {
  parts = a.parts ++ b.parts;
  none = joined-append a.parts b.parts ∙ ap (λ xs. xs ++ joined b.parts) a.none ∙ b.none;
  holds = zip-append _ runs others a.parts b.parts a.holds b.holds;
}

-- groups in which the key has no row
none-at : (s : TableSchema) (key : Values) (rows : List HistoryRow) (groups : List GroupRuns) → AllByRecursion (λ (p : GroupRuns). rows_of (primary_of s) key (rows_in s p.0 rows) ≡ []) groups
    → RowsCovered s rows groups → NoParts s key (runs_of_all groups)
none-at s key rows [] none covered = record { parts = []; none = refl; holds = tt }
none-at s key rows (p ∷ ps) none covered =
    more_parts s key p.1 (runs_of_all ps) (no_parts s key p.1 (rows_in s p.0 rows) covered.0 none.0) (none-at s key rows ps none.1 covered.1)

-- runs cover the rows of a key, with what may be missing of them
record CoverAt (s : TableSchema) (key : Values) (runs : List Run) (own : List HistoryRow) : Type 0 where
  pub missing : List HistoryRow
  pub may : MayBeMissing (meaning_of s) key missing
  pub covers : CoversKey (meaning_of s) key runs missing own

-- so with runs before or after them that have no part
cover_before : (s : TableSchema) (key : Values) (runs others : List Run) (own : List HistoryRow) → CoverAt s key runs own → NoParts s key others → CoverAt s key (runs ++ others) own
cover_before s key runs others own c n = record {
  missing = c.missing;
  may = c.may;
  covers = record {
    parts = c.covers.parts ++ n.parts;
    split = c.covers.split ∙ ap (λ xs. c.missing ++ xs) (sym (joined-append c.covers.parts n.parts ∙ ap (λ xs. joined c.covers.parts ++ xs) n.none ∙ append-nil (joined c.covers.parts)));
    holds = zip-append _ runs others c.covers.parts n.parts c.covers.holds n.holds;
  };
}

cover_after : (s : TableSchema) (key : Values) (runs others : List Run) (own : List HistoryRow) → NoParts s key runs → CoverAt s key others own → CoverAt s key (runs ++ others) own
cover_after s key runs others own n c = record {
  missing = c.missing;
  may = c.may;
  covers = record {
    parts = n.parts ++ c.covers.parts;
    split = c.covers.split ∙ ap (λ xs. c.missing ++ xs) (sym (joined-append n.parts c.covers.parts ∙ ap (λ xs. xs ++ joined c.covers.parts) n.none));
    holds = zip-append _ runs others n.parts c.covers.parts n.holds c.covers.holds;
  };
}

-- the key's rows are those of the group g
abbrev HaveGroup : TableSchema → Values → List HistoryRow → Group → List HistoryRow → Type 0
HaveGroup s key rows g own = (h : Group) → rows_of (primary_of s) key (rows_in s h rows) ≡ cond (eq_by_cmp group_cmp g h) own []

-- groups above g aren't g
none-above : (s : TableSchema) (key : Values) (rows : List HistoryRow) (g : Group) (own : List HistoryRow) (ps : List GroupRuns) → HaveGroup s key rows g own
    → AllByRecursion (λ h. group_cmp g h ≡ Less) (map (λ (p : GroupRuns). p.0) ps) → AllByRecursion (λ (p : GroupRuns). rows_of (primary_of s) key (rows_in s p.0 rows) ≡ []) ps
none-above s key rows g own [] have above = tt
none-above s key rows g own (p ∷ ps) have above = (have p.0 ∙ ap (λ o. cond (is_eq o) own []) above.0, none-above s key rows g own ps have above.1)

-- either the group is none of them, and they have no part of the key's rows, or they cover these
named-at : (s : TableSchema) (key : Values) (rows : List HistoryRow) (g : Group) (own : List HistoryRow) (groups : List GroupRuns) → HaveGroup s key rows g own
    → IsStrictlySortedBy group_cmp (map (λ (p : GroupRuns). p.0) groups) → RowsCovered s rows groups
    → (AllByRecursion (λ (p : GroupRuns). p.0 ≢ g) groups × NoParts s key (runs_of_all groups)) ⊎ CoverAt s key (runs_of_all groups) own
unfolding IsStrictlySortedBy
named-at s key rows g own [] have rising covered = inl (tt, record { parts = []; none = refl; holds = tt })
named-at s key rows g own (p ∷ ps) have rising covered =
    elim (eq_by_cmp group_cmp g p.0) as (λ t. eq_by_cmp group_cmp g p.0 ≡ t
    → (AllByRecursion (λ (q : GroupRuns). q.0 ≢ g) (p ∷ ps) × NoParts s key (p.1 ++ runs_of_all ps)) ⊎ CoverAt s key (p.1 ++ runs_of_all ps) own) [
      | true ↦ λ t.
          let same : p.0 ≡ g = sym (tied_groups g p.0 t) in
          let later = none-above s key rows g own ps have (subst (λ h. AllByRecursion (λ k. group_cmp h k ≡ Less) (map (λ (p : GroupRuns). p.0) ps)) same rising.0) in
          let at = covered.0 key in
          let here : CoverAt s key p.1 own = record {
            missing = at.0;
            may = at.1;
            covers = subst (CoversKey (meaning_of s) key p.1 at.0) (have p.0 ∙ ap (λ b. cond b own []) t) at.2;
          } in
          inr (cover_before s key p.1 (runs_of_all ps) own here (none-at s key rows ps later covered.1))
      | false ↦ λ t.
          let here : NoParts s key p.1 = no_parts s key p.1 (rows_in s p.0 rows) covered.0 (have p.0 ∙ ap (λ b. cond b own []) t) in
          elim (named-at s key rows g own ps have rising.1 covered.1) [
            | inl rest ↦ inl ((another g p.0 t, rest.0), more_parts s key p.1 (runs_of_all ps) here rest.1)
            | inr at ↦ inr (cover_after s key p.1 (runs_of_all ps) own here at)
          ]
    ] refl

-- ---- all groups

each : {A : Type 0} (P : A → Type 0) (xs : List A) → ((x : A) → P x) → AllByRecursion P xs
each P [] all = tt
each P (x ∷ xs) all = (all x, each P xs all)

no_runs : (s : TableSchema) (key : Values) (parts : List (List HistoryRow)) → HoldParts s key [] parts → joined parts ≡ []
no_runs s key [] holds = refl
no_runs s key (p ∷ ps) holds = absurd holds

-- rows that no run covers, beside runs that have no part
cover_none : (s : TableSchema) (key : Values) (runs : List Run) (rows : List HistoryRow) → Covers (meaning_of s) [] rows → NoParts s key runs → CoverAt s key runs (rows_of (primary_of s) key rows)
cover_none s key runs rows covers n =
    let at = covers key in
    record {
      missing = at.0;
      may = at.1;
      covers = record {
        parts = n.parts;
        split = at.2.split ∙ ap (λ xs. at.0 ++ xs) (no_runs s key at.2.parts at.2.holds ∙ sym n.none);
        holds = n.holds;
      };
    }

-- by the key's rows
rows-at : (s : TableSchema) (key : Values) (rows own : List HistoryRow) (groups : List GroupRuns) → partition_holds s ≡ true → GroupsCover s groups rows → rows_of (primary_of s) key rows ≡ own
    → CoverAt s key (runs_of_all groups) own
rows-at s key rows [] groups holds covered is =
    let none : AllByRecursion (λ (p : GroupRuns). rows_of (primary_of s) key (rows_in s p.0 rows) ≡ []) groups =
    each (λ (p : GroupRuns). rows_of (primary_of s) key (rows_in s p.0 rows) ≡ []) groups (λ p. key_rows_in s key p.0 rows ∙ ap (rows_in s p.0) is) in
    let n = none-at s key rows groups none covered.each in
    record { missing = []; may = inl refl; covers = record { parts = n.parts; split = sym n.none; holds = n.holds } }
rows-at s key rows (r ∷ own) groups holds covered is =
    let g : Group = group_of s r.1 in
    let have : HaveGroup s key rows g (r ∷ own) = λ h. key_rows_of s key h rows r own holds is in
    let mine : rows_of (primary_of s) key (rows_in s g rows) ≡ r ∷ own = have g ∙ ap (λ b. cond b (r ∷ own) []) (ties_itself g) in
    elim (named-at s key rows g (r ∷ own) groups have covered.rising covered.each) [
      | inl apart ↦ subst (CoverAt s key (runs_of_all groups)) mine (cover_none s key (runs_of_all groups) (rows_in s g rows) (covered.others g apart.0) apart.1)
      | inr at ↦ at
    ]

-- where the runs of each group cover its rows, those of all groups cover all rows
pub all_covered : (s : TableSchema) (rows : List HistoryRow) (groups : List GroupRuns) → IsDeclared s → GroupsCover s groups rows → Covers (meaning_of s) (runs_of_all groups) rows
all_covered s rows groups declared covered key =
    let holds : partition_holds s ≡ true = declared.rules.1.1.1.0 in
    let at = rows-at s key rows (rows_of (primary_of s) key rows) groups holds covered refl in
    (at.missing, at.may, at.covers)
