-- Partial updates, column by column.
use Rattle.std.proofs.Common.{arith, nat_le, ◌+◌, ◌≡◌, ◌≢◌, ℕ, suc, List, [], ◌∷◌, ◌++◌, map, Bool, true, false, not, ◌||◌, ◌&&◌, ◌==◌, cond, Option, Some, None, IsTrue, refl, sym, ap, subst, ◌∙◌, slice_get, is_some, length}
use Rattle.std.specs.List.{count_by, find, last_or, list_all, position_or_len}
use Rattle.std.specs.Option.{option_map}
use Rattle.std.specs.Str.{bytes_eq}
use Rattle.std.proofs.lemmas.Bool.Decides.{nat_tests}
use Rattle.std.proofs.lemmas.List.{length-map}
use Rattle.std.proofs.lemmas.List.Sums.{sum_by-cons}
use Rattle.std.proofs.lemmas.Option.{slice_get-map}
use Rattle.std.proofs.lemmas.Slice.Eq.{bytes_eq-Decides}
use Rattle.pm_options.specs.declared.kinds.EngineKind.TheVariants.{PartialUpdate}
use Rattle.pm_schema.specs.Rules.{group_holds, groups_with, is_among, is_value_column, names_of}
use Rattle.pm_schema.specs.declared.schema.TableSchema.{TableSchema}
use Rattle.pm_values.specs.Fits.{Fits, FitsColumn}
use Rattle.pm_values.specs.Kind.{retracts}
use Rattle.pm_values.specs.Order.{Values}
use Rattle.pm_values.specs.declared.column.Column.{Column}
use Rattle.pm_values.specs.declared.kind.Kind.{Kind}
use Rattle.pm_values.specs.declared.kind.Kind.TheVariants.{Insert}
use Rattle.pm_values.specs.declared.value.Value.{Value}
use Rattle.pm_values.specs.declared.value.Value.TheVariants.{Null}
use Rattle.pm_model_history.specs.ColumnValue.{SequenceGroup, adding, group_of, group_value, index_of, is_in_group, is_null, last_value, non_null, updated_value, value_by, values_at}
use Rattle.pm_model_history.specs.Merge.{HistoryRow, key_of, value_at}
use Rattle.pm_model_history.specs.Merged.{shows, shows_by}
use Rattle.pm_model_history.specs.Taken.{is_key, stores, stores_by, verdict}
use Rattle.pm_model_history.specs.declared.verdict.Verdict.TheVariants.{Take}
use Rattle.pm_engine.specs.Meaning.{AreTaken, IsTaken, SpeaksFor}
use Rattle.pm_engine.specs.OfSchema as engine
use Rattle.pm_aggregate.specs.Column.{AreTakenCells, SpeaksForCells}
use Rattle.pm_aggregate.specs.Functions.{last_non_null_of}
use Rattle.pm_aggregate.proofs.CellLemmas.{by_column, cells-alone, cells-own, cells-worth, cells_at, fits-type, narrow-adding, narrow-values, nullable-at, type-fits}
use Rattle.pm_aggregate.proofs.StoredLemmas.{Made, Fits-column, at_name, made-speaks, some_last, speaks_both}
use Rattle.pm_partial.specs.PartialUpdate.{AreCombined, AreLifted, CanUpdate, follows}
use Rattle.pm_partial.specs.Update.{update_in, update_on}
use Rattle.pm_partial.specs.declared.update.Update.{Update}
use Rattle.pm_partial.specs.declared.update.Update.TheVariants.{Key, Latest, InGroup}
use Rattle.pm_partial.proofs.GroupLemmas.{Follows, known, combined-follows, combined-known, group-alone, group-among, group-follows, left-kept, lifted-follows, lifted-known, from-is}

-- ---- the column that leads a group

name_eq : (a b : List ℕ) → bytes_eq a b ≡ true → a ≡ b
name_eq a b = (bytes_eq-Decides a b).0

name_same : (a b : List ℕ) → a ≡ b → bytes_eq a b ≡ true
name_same a b = (bytes_eq-Decides a b).1

and_left : (a b : Bool) → (a && b) ≡ true → a ≡ true
and_left true b e = refl
and_left false b e = e

and_right : (a b : Bool) → (a && b) ≡ true → b ≡ true
and_right true b e = e
and_right false b e = cc

-- what is found passes, and is one of the items
find-passes : {A : Type 0} (p : A → Bool) (xs : List A) (x : A) → find p xs ≡ Some x → p x ≡ true
find-passes p [] x is = cc
find-passes p (y ∷ ys) x is =
    elim (p y) as (λ b. p y ≡ b → cond b (Some y) (find p ys) ≡ Some x → p x ≡ true) [
      | true ↦ λ e here. let same : y ≡ x = cc in ap p (sym same) ∙ e
      | false ↦ λ _ later. find-passes p ys x later
    ] refl is

find-all : {A : Type 0} (p q : A → Bool) (xs : List A) (x : A) → find p xs ≡ Some x → list_all q xs ≡ true → q x ≡ true
find-all p q [] x is all = cc
find-all p q (y ∷ ys) x is all =
    elim (p y) as (λ b. cond b (Some y) (find p ys) ≡ Some x → q x ≡ true) [
      | true ↦ λ here. let same : y ≡ x = cc in ap q (sym same) ∙ and_left (q y) (list_all q ys) all
      | false ↦ λ later. find-all p q ys x later (and_right (q y) (list_all q ys) all)
    ] is

-- where an item passes, one is found
find-some : {A : Type 0} (p : A → Bool) (xs : List A) (x : A) → find p xs ≡ Some x → (q : A → Bool) → q x ≡ true → (y : A) × (find q xs ≡ Some y)
find-some p [] x is q passes = cc
find-some p (z ∷ zs) x is q passes =
    elim (q z) as (λ b. q z ≡ b → (y : _) × (cond b (Some z) (find q zs) ≡ Some y)) [
      | true ↦ λ _. (z, refl)
      | false ↦ λ fails. find-some p zs x (past (p z) fails is) q passes
    ] refl
  where
    past : (b : Bool) → q z ≡ false → cond b (Some z) (find p zs) ≡ Some x → find p zs ≡ Some x
    past true fails here = let same : z ≡ x = cc in let e : q z ≡ true = ap q same ∙ passes in cc
    past false fails later = later

-- a name that is among those of columns has a column
named-some : (columns : List Column) (name : List ℕ) → is_among (names_of columns) name ≡ true → (c : Column) × (slice_get columns (position_or_len (λ (d : Column). bytes_eq d.name name) columns) ≡ Some c)
named-some [] name among = cc
named-some (d ∷ ds) name among =
    elim (bytes_eq d.name name) as (λ b. bytes_eq d.name name ≡ b → (b || is_among (names_of ds) name) ≡ true → (c : Column) × (slice_get (d ∷ ds) (cond (not b) (1 + position_or_len (λ (x : Column). bytes_eq x.name name) ds) 0) ≡ Some c)) [
      | true ↦ λ _ _. (d, refl)
      | false ↦ λ _ later.
          let more = named-some ds name later in
          (more.0, subst (λ n. slice_get (d ∷ ds) n ≡ Some more.0) (sym (one_more (position_or_len (λ (x : Column). bytes_eq x.name name) ds))) more.1)
    ] refl among
  where
    one_more : (n : ℕ) → 1 + n ≡ suc n
    one_more n = omega arith

-- the column that leads the group of a column: it is one outside the key, whose group it leads
pub record Leads (s : TableSchema) (lead : ℕ) : Type 0 where
  pub column : Column
  pub at : slice_get s.columns lead ≡ Some column
  pub other : is_key s column ≡ false
  pub update : update_on s column ≡ InGroup lead

-- where no item passes a test, one that is found doesn't
none-passes : {A : Type 0} (p q : A → Bool) (xs : List A) (x : A) → count_by q xs ≡ 0 → find p xs ≡ Some x → q x ≡ false
none-passes p q [] x none is = cc
none-passes p q (y ∷ ys) x none is =
    elim (p y) as (λ b. cond b (Some y) (find p ys) ≡ Some x → q x ≡ false) [
      | true ↦ λ here. let same : y ≡ x = cc in ap q (sym same) ∙ first (q y) (sym (sum_by-cons (λ z. cond (q z) 1 0) y ys) ∙ none)
      | false ↦ λ later. none-passes p q ys x (rest (q y) (sym (sum_by-cons (λ z. cond (q z) 1 0) y ys) ∙ none)) later
    ] is
  where
    first : (b : Bool) → cond b 1 0 + count_by q ys ≡ 0 → b ≡ false
    first true e = absurd (omega (arith, e))
    first false e = refl

    rest : (b : Bool) → cond b 1 0 + count_by q ys ≡ 0 → count_by q ys ≡ 0
    rest true e = absurd (omega (arith, e))
    rest false e = omega (arith, e)

zero-is : (n : ℕ) → (n == 0) ≡ true → n ≡ 0
zero-is n e = grind (arith, nat_tests)

leads-of : (s : TableSchema) (c : Column) (group : SequenceGroup) → CanUpdate s → group_of s c ≡ Some group → Leads s (index_of s group.0)
leads-of s c group can found = record {
  column = lead;
  at = there.1;
  other = ap (is_among s.primary) named ∙ not_true (is_among s.primary group.0) (and_right (is_among (names_of s.columns) group.0) (not (is_among s.primary group.0)) outside);
  update = ap (λ b. cond b Key (update_in s lead (group_of s lead))) (ap (is_among s.primary) named ∙ not_true (is_among s.primary group.0) (and_right (is_among (names_of s.columns) group.0) (not (is_among s.primary group.0)) outside))
      ∙ ap (update_in s lead) own.1 ∙ ap (λ name. InGroup (index_of s name)) (name_eq own.0.0 lead.name leads ∙ named);
}
  where
    not_true : (b : Bool) → not b ≡ true → b ≡ false
    not_true true e = cc
    not_true false e = refl

    names_all : Bool
    names_all = list_all (λ (d : Column). nat_le (groups_with s.options.groups d.name) 1) s.columns

    heads_all : Bool
    heads_all = list_all (λ (g : SequenceGroup). groups_with s.options.groups g.0 == 0) s.options.groups

    holds : group_holds s group ≡ true
    holds = find-all (is_in_group c) (group_holds s) s.options.groups group found (and_left (list_all (group_holds s) s.options.groups) (names_all && heads_all) can.groups)

    outside : is_value_column s group.0 ≡ true
    outside = and_left (is_value_column s group.0) (list_all (is_value_column s) group.1) holds

    unlisted : (groups_with s.options.groups group.0 == 0) ≡ true
    unlisted = find-all (is_in_group c) (λ (g : SequenceGroup). groups_with s.options.groups g.0 == 0) s.options.groups group found
        (and_right names_all heads_all (and_right (list_all (group_holds s) s.options.groups) (names_all && heads_all) can.groups))

    there : (d : Column) × (slice_get s.columns (index_of s group.0) ≡ Some d)
    there = named-some s.columns group.0 (and_left (is_among (names_of s.columns) group.0) (not (is_among s.primary group.0)) outside)

    lead : Column
    lead = there.0

    named : lead.name ≡ group.0
    named = name_eq lead.name group.0 (at_name s.columns group.0 lead there.1)

    own : (g : SequenceGroup) × (group_of s lead ≡ Some g)
    own = find-some (is_in_group c) s.options.groups group found (is_in_group lead) (ap (λ b. b || is_among group.1 lead.name) (name_same group.0 lead.name (sym named)))

    in_none : is_among own.0.1 lead.name ≡ false
    in_none = ap (is_among own.0.1) named ∙ none-passes (is_in_group lead) (λ (g : SequenceGroup). is_among g.1 group.0) s.options.groups own.0 (zero-is (groups_with s.options.groups group.0) unlisted) own.1

    leads : bytes_eq own.0.0 lead.name ≡ true
    leads = or_left (bytes_eq own.0.0 lead.name) (is_among own.0.1 lead.name) in_none (find-passes (is_in_group lead) s.options.groups own.0 own.1)
      where
        or_left : (a b : Bool) → b ≡ false → (a || b) ≡ true → a ≡ true
        or_left true b e f = refl
        or_left false b e f = sym e ∙ f

-- ---- one column of a stored row

of_kind : Kind → Values → HistoryRow
of_kind k values = (k, values)

inserting : Values → HistoryRow
inserting values = (Insert, values)

-- what a stored row has in a column outside the key: it fits, it is what it is worth by itself, and among others it is
-- worth the same as the rows of which it was made
record ColumnMade (s : TableSchema) (key : Values) (i : ℕ) (c : Column) (mid : List HistoryRow) (values : Values) : Type 0 where
  fits : FitsColumn c (value_at values i)
  alone : value_by s.options.engine s c i ((Insert, values) ∷ []) ≡ value_at values i
  worth : (before after : List HistoryRow) → AreTaken (engine.meaning_of s) key before → AreTaken (engine.meaning_of s) key after
      → value_by s.options.engine s c i (before ++ (mid ++ after)) ≡ value_by s.options.engine s c i (before ++ (Insert, values) ∷ after)

module _ (s : TableSchema) (is : s.options.engine ≡ PartialUpdate) (can : CanUpdate s) (key : Values) where
  -- in no group
  value-cells : (i : ℕ) (c : Column) (rows : List HistoryRow) → group_of s c ≡ None → value_by s.options.engine s c i rows ≡ (last_non_null_of c.kind true).value (cells_at i rows)
  value-cells i c rows none =
      ap (λ k. value_by k s c i rows) is ∙ ap (λ o. updated_value s i o rows) none
      ∙ ap (λ vs. last_value (non_null vs)) (narrow-values i (adding rows) ∙ ap (values_at 0) (sym (narrow-adding i rows)))

  taken-cells : (i : ℕ) (c : Column) (rows : List HistoryRow) → slice_get s.columns i ≡ Some c → AreTaken (engine.meaning_of s) key rows → AreTakenCells (last_non_null_of c.kind true) (cells_at i rows)
  taken-cells i c [] at all = tt
  taken-cells i c (r ∷ rows) at all = (record { of_type = fits-type c (value_at r.1 i) (Fits-column s.columns r.1 i c all.0.fits at); taken = refl }, taken-cells i c rows at all.1)

  cells-made : (i : ℕ) (c : Column) (mid : List HistoryRow) (values : Values) → slice_get s.columns i ≡ Some c → is_key s c ≡ false → group_of s c ≡ None
      → SpeaksForCells (last_non_null_of c.kind true) (value_at values i) (cells_at i mid) → ColumnMade s key i c mid values
  cells-made i c mid values at other none speaks = record {
    fits = type-fits c (value_at values i) (nullable-at s i c can.nullable at other) speaks.taken.of_type;
    alone = cells-alone s key i c (last_non_null_of c.kind true) (λ rows. value-cells i c rows none) (λ rows all. taken-cells i c rows at all) values mid speaks;
    worth = λ before after one two. cells-worth s key i c (last_non_null_of c.kind true) (λ rows. value-cells i c rows none) (λ rows all. taken-cells i c rows at all) values mid before after speaks one two;
  }

  -- in a group
  value-group : (i : ℕ) (c : Column) (group : SequenceGroup) (rows : List HistoryRow) → group_of s c ≡ Some group → value_by s.options.engine s c i rows ≡ group_value (index_of s group.0) i rows
  value-group i c group rows some = ap (λ k. value_by k s c i rows) is ∙ ap (λ o. updated_value s i o rows) some

  group-made : (i : ℕ) (c : Column) (group : SequenceGroup) (mid : List HistoryRow) (values : Values) → group_of s c ≡ Some group → FitsColumn c (value_at values i)
      → Follows (value_at values (index_of s group.0)) (value_at values i) → known (index_of s group.0) i mid ≡ known (index_of s group.0) i ((Insert, values) ∷ []) → ColumnMade s key i c mid values
  group-made i c group mid values some fits follows same = record {
    fits = fits;
    alone = value-group i c group ((Insert, values) ∷ []) some ∙ group-alone (index_of s group.0) i values follows;
    worth = λ before after _ _. value-group i c group (before ++ (mid ++ after)) some
        ∙ group-among (index_of s group.0) i mid ((Insert, values) ∷ []) before after same
        ∙ sym (value-group i c group (before ++ (Insert, values) ∷ after) some);
  }

  null-fits : (i : ℕ) (c : Column) → slice_get s.columns i ≡ Some c → is_key s c ≡ false → (b : Bool) (v : Value) → FitsColumn c v → FitsColumn c (cond b Null v)
  null-fits i c at other true v fits = nullable-at s i c can.nullable at other
  null-fits i c at other false v fits = fits

  -- ---- how columns are kept

  update-at : (updates : List Update) → updates ≡ map (update_on s) s.columns → (i : ℕ) (c : Column) → slice_get s.columns i ≡ Some c → slice_get updates i ≡ Some (update_on s c)
  update-at updates are i c at = ap (λ us. slice_get us i) are ∙ slice_get-map (update_on s) s.columns i ∙ ap (option_map (update_on s)) at

  key-at : (updates : List Update) → updates ≡ map (update_on s) s.columns → (i : ℕ) (c : Column) → slice_get s.columns i ≡ Some c → is_key s c ≡ true → slice_get updates i ≡ Some Key
  key-at updates are i c at own = update-at updates are i c at ∙ ap (λ b. Some (cond b Key (update_in s c (group_of s c)))) own

  other-at : (updates : List Update) → updates ≡ map (update_on s) s.columns → (i : ℕ) (c : Column) (o : Option SequenceGroup) → slice_get s.columns i ≡ Some c → is_key s c ≡ false → group_of s c ≡ o → slice_get updates i ≡ Some (update_in s c o)
  other-at updates are i c o at other group = update-at updates are i c at ∙ ap (λ b. Some (cond b Key (update_in s c (group_of s c)))) other ∙ ap (λ p. Some (update_in s c p)) group

  lead-at : (updates : List Update) → updates ≡ map (update_on s) s.columns → (c : Column) (group : SequenceGroup) → group_of s c ≡ Some group → slice_get updates (index_of s group.0) ≡ Some (InGroup (index_of s group.0))
  lead-at updates are c group some =
      let leads = leads-of s c group can some in
      update-at updates are (index_of s group.0) leads.column leads.at ∙ ap Some leads.update

  made : (front : List HistoryRow) (q : HistoryRow) (values : Values) → length values ≡ length s.columns
      → ((i : ℕ) (c : Column) → slice_get s.columns i ≡ Some c → is_key s c ≡ true → value_at values i ≡ value_at q.1 i)
      → ((i : ℕ) (c : Column) → slice_get s.columns i ≡ Some c → is_key s c ≡ false → (o : Option SequenceGroup) → group_of s c ≡ o → ColumnMade s key i c (front ++ q ∷ []) values)
      → Made s key (front ++ q ∷ []) q values
  made front q values size own others = record {
    size = size;
    own = own;
    fits = λ i c at other. (others i c at other (group_of s c) refl).fits;
    alone = λ i c at other. (others i c at other (group_of s c) refl).alone;
    worth = λ i c at other. (others i c at other (group_of s c) refl).worth;
  }

  same-size : (updates : List Update) → updates ≡ map (update_on s) s.columns → length updates ≡ length s.columns
  same-size updates are = ap length are ∙ length-map s.columns (update_on s)

  each-shows : (rows : List HistoryRow) → shows s rows ≡ is_some (last_or None rows)
  each-shows rows = ap (λ k. shows_by k rows) is

  stores-insert : IsTrue (stores s Insert)
  stores-insert = ap (λ k. stores_by k Insert) is

  -- the row that is made of a taken one speaks for it
  pub lifts : (updates : List Update) (k : Kind) (row stored : Values) → updates ≡ map (update_on s) s.columns → verdict s k ≡ Take → Fits s.columns row → key_of (engine.meaning_of s).primary row ≡ key
      → AreLifted updates (k, row) stored → SpeaksFor (engine.meaning_of s) key (Insert, stored) ((k, row) ∷ [])
  lifts updates k row stored are taken fits own lifted =
      let itself : IsTaken (engine.meaning_of s) key (k, row) = record { fits = fits; verdict = taken; of_key = own } in
      made-speaks s key each-shows stores-insert [] (k, row) stored (itself, tt) itself
      (made [] (k, row) stored (lifted.size ∙ same-size updates are) (λ i c at own. lifted.each i Key (key-at updates are i c at own)) column)
    where
      column : (i : ℕ) (c : Column) → slice_get s.columns i ≡ Some c → is_key s c ≡ false → (o : Option SequenceGroup) → group_of s c ≡ o → ColumnMade s key i c ((k, row) ∷ []) stored
      column i c at other None none =
          cells-made i c ((k, row) ∷ []) stored at other none
          (lifted.each i (Latest c.kind) (other-at updates are i c None at other none) (fits-type c (value_at row i) (Fits-column s.columns row i c fits at)))
      column i c at other (Some group) some =
          let lead = index_of s group.0 in
          let here = lifted.each i (InGroup lead) (other-at updates are i c (Some group) at other some) ∙ left-kept lead i (k, row) in
          let there = lifted.each lead (InGroup lead) (lead-at updates are c group some) ∙ left-kept lead lead (k, row) in
          group-made i c group ((k, row) ∷ []) stored some
          (subst (FitsColumn c) (sym here) (null-fits i c at other (is_null (value_at row lead)) _ (null-fits i c at other (retracts k && not (i == lead)) (value_at row i) (Fits-column s.columns row i c fits at))))
          (lifted-follows lead i (k, row) stored there here) (lifted-known lead i (k, row) stored there here)

  kind-stored : (k : Kind) → IsTrue (stores s k) → k ≡ Insert
  kind-stored k stored = of k (ap (λ e. stores_by e k) (sym is) ∙ stored)
    where
      of : (k : Kind) → stores_by PartialUpdate k ≡ true → k ≡ Insert
      of Insert e = refl
      of k e = cc

  -- a stored row as one that inserts
  inserted : (r : HistoryRow) (x : List HistoryRow) → SpeaksFor (engine.meaning_of s) key r x → r ≡ inserting r.1
  unfolding of_kind inserting
  inserted r x speaks = ap (λ k. of_kind k r.1) (kind-stored r.0 speaks.kind)

  stored-follows : (i : ℕ) (c : Column) (group : SequenceGroup) (r : HistoryRow) (x : List HistoryRow) → slice_get s.columns i ≡ Some c → is_key s c ≡ false → group_of s c ≡ Some group
      → SpeaksFor (engine.meaning_of s) key r x → Follows (value_at r.1 (index_of s group.0)) (value_at r.1 i)
  unfolding inserting
  stored-follows i c group r x at other some speaks =
      group-follows (index_of s group.0) i r.1
      (ap (λ q. group_value (index_of s group.0) i (q ∷ [])) (sym (inserted r x speaks)) ∙ sym (value-group i c group (r ∷ []) some) ∙ sym (by_column s i c (r ∷ []) at other) ∙ speaks.alone i)

  -- the row that is made of two stored ones speaks for what both speak for
  pub combines : (updates : List Update) (older newer : HistoryRow) (x y : List HistoryRow) (stored : Values) → updates ≡ map (update_on s) s.columns → AreCombined updates older.1 newer.1 stored
      → SpeaksFor (engine.meaning_of s) key older x → SpeaksFor (engine.meaning_of s) key newer y → SpeaksFor (engine.meaning_of s) key (Insert, stored) (x ++ y)
  unfolding inserting
  combines updates older newer x y stored are combined one two =
      speaks_both (engine.meaning_of s) key older newer (Insert, stored) x y one two
      (made-speaks s key each-shows stores-insert (older ∷ []) newer stored (one.taken, (two.taken, tt)) two.taken
      (made (older ∷ []) newer stored (combined.size ∙ same-size updates are) (λ i c at own. combined.each i Key (key-at updates are i c at own)) column))
    where
      column : (i : ℕ) (c : Column) → slice_get s.columns i ≡ Some c → is_key s c ≡ false → (o : Option SequenceGroup) → group_of s c ≡ o → ColumnMade s key i c (older ∷ newer ∷ []) stored
      column i c at other None none =
          let m = last_non_null_of c.kind true in
          let own = cells-own s key i c m (λ rows. value-cells i c rows none) (λ rows all. taken-cells i c rows at all) in
          let both = combined.each i (Latest c.kind) (other-at updates are i c None at other none) ((Insert, value_at older.1 i) ∷ []) ((Insert, value_at newer.1 i) ∷ [])
          (own older x at other (kind-stored older.0 one.kind) one) (own newer y at other (kind-stored newer.0 two.kind) two) in
          cells-made i c (older ∷ newer ∷ []) stored at other none
          (subst (λ (k : Kind). SpeaksForCells m (value_at stored i) ((k, value_at older.1 i) ∷ (newer.0, value_at newer.1 i) ∷ [])) (sym (kind-stored older.0 one.kind))
          (subst (λ (k : Kind). SpeaksForCells m (value_at stored i) ((Insert, value_at older.1 i) ∷ (k, value_at newer.1 i) ∷ [])) (sym (kind-stored newer.0 two.kind)) both))
      column i c at other (Some group) some =
          let lead = index_of s group.0 in
          let follow = follows (value_at older.1 lead) (value_at newer.1 lead) in
          let here = from-is follow (value_at older.1 i) (value_at newer.1 i) (value_at stored i) (combined.each i (InGroup lead) (other-at updates are i c (Some group) at other some)) in
          let there = from-is follow (value_at older.1 lead) (value_at newer.1 lead) (value_at stored lead) (combined.each lead (InGroup lead) (lead-at updates are c group some)) in
          group-made i c group (older ∷ newer ∷ []) stored some
          (subst (FitsColumn c) (sym here) (one_of (follows (value_at older.1 lead) (value_at newer.1 lead)) (Fits-column s.columns older.1 i c one.taken.fits at) (Fits-column s.columns newer.1 i c two.taken.fits at)))
          (combined-follows lead i older.1 newer.1 stored (stored-follows i c group older x at other some one) (stored-follows i c group newer y at other some two) there here)
          (ap (λ q. known lead i (q ∷ newer ∷ [])) (inserted older x one) ∙ ap (λ q. known lead i (inserting older.1 ∷ q ∷ [])) (inserted newer y two) ∙ combined-known lead i older.1 newer.1 stored there here)
        where
          one_of : (b : Bool) → FitsColumn c (value_at older.1 i) → FitsColumn c (value_at newer.1 i) → FitsColumn c (cond b (value_at newer.1 i) (value_at older.1 i))
          one_of true o n = n
          one_of false o n = o

  -- rows show
  pub shows-some : (rows : List HistoryRow) → rows ≢ [] → true ≡ shows s rows
  shows-some [] some = absurd (some refl)
  shows-some (r ∷ rows) some = sym (each-shows (r ∷ rows) ∙ some_last None r rows)

  -- no stored row is left out
  pub drops-none : (r : HistoryRow) → false ≡ engine.drops_by s.options.engine r
  drops-none r = sym (ap (λ k. engine.drops_by k r) is)
