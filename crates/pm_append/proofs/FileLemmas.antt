-- The new files of a batch, and the entries that add them.
use Rattle.std.proofs.Common.{◌≡◌, ◌≢◌, ℕ, ◌+◌, ◌≤◌, max, Bool, true, false, true≢false, cond, List, [], ◌∷◌, map, Option, None, Some, inl, inr, Contains, refl, sym, ap, subst, ◌∙◌, is_eq, arith}
use Rattle.std.specs.BTreeMap.{BTreeMap, is_at}
use Rattle.std.specs.Cmp.{Equal-is, tied_itself}
use Rattle.std.specs.List.{AllByRecursion, AllZip}
use Rattle.std.specs.List.Sorted.{IsStrictlySortedBy}
use Rattle.std.specs.Map.{keys_of}
use Rattle.std.specs.Ordering.{eq_by_cmp}
use Rattle.std.specs.declared.cmp.Ordering.TheVariants.{Less, Equal}
use Rattle.std.proofs.lemmas.Bool.Decides.{nat_tests}
use Rattle.pm_values.specs.GroupOrder.{group_cmp, group_total}
use Rattle.pm_values.specs.Names.{Naming, counted}
use Rattle.pm_values.specs.declared.group.Group.{Group}
use Rattle.pm_schema.specs.declared.schema.TableSchema.{TableSchema}
use Rattle.pm_model_history.specs.Merge.{HistoryRow}
use Rattle.pm_model_following.specs.Groups.{rows_in}
use Rattle.pm_manifest.specs.Live.{id_of}
use Rattle.pm_manifest.specs.declared.entry.Entry.{Entry}
use Rattle.pm_manifest.specs.declared.file_id.FileId.{FileId}
use Rattle.pm_write.specs.Batch.{GroupRows, Groups, HoldsRows, IsBatchOf, group_log, held_of}
use Rattle.pm_write.specs.Files.{AreFilesOfLogs, AreFilesOfRuns, next_run}
use Rattle.pm_write.specs.declared.files.NewFile.{NewFile}
use Rattle.pm_made.specs.Delta.{added_entry}
use Rattle.pm_made.specs.Refusals.{next_number}
use Rattle.pm_made.proofs.ListLemmas.{Pairs, in-head, in-map, in-or, in-tail, none-in}
use Rattle.pm_made.proofs.LiveLemmas.{AreAdds}
use Rattle.pm_made.proofs.NumberLemmas.{group-is}

-- ---- groups

pub group-ties : (a b : Group) → a ≡ b → is_at (group_cmp a) b ≡ true
group-ties a b e = subst (λ x. is_at (group_cmp a) x ≡ true) e (ap is_eq (tied_itself group_total a))

pub less-apart : (a b : Group) → group_cmp a b ≡ Less → a ≢ b
less-apart a b less same =
    let tied : group_cmp a b ≡ Equal = (Equal-is (group_cmp a b)).0 (group-ties a b same) in
    let no : Less ≡ Equal = sym less ∙ tied in
    cc

-- ---- the files of a batch

-- files of the groups of a batch: one for each in their order
abbrev pub AreOfGroups : Groups → List NewFile → Type 0
AreOfGroups batch xs = AllZip (λ (e : Group × GroupRows) (x : NewFile). x.group ≡ e.0) batch xs

-- its data files
abbrev pub AreDataFiles : TableSchema → BTreeMap Group ℕ → Naming → Groups → List NewFile → Type 0
AreDataFiles s next names batch xs = AreFilesOfRuns s names (map (next_run next) batch) xs

-- its changelog files, where each group has a log
abbrev pub AreLogFiles : TableSchema → Naming → Groups → List NewFile → Type 0
AreLogFiles s names batch xs = AreFilesOfLogs s names (map group_log batch) xs

pub data-of-groups : (s : TableSchema) (next : BTreeMap Group ℕ) (names : Naming) (batch : Groups) (xs : List NewFile) → AreDataFiles s next names batch xs
    → AreOfGroups batch xs
data-of-groups s next names [] [] new = tt
data-of-groups s next names [] (x ∷ xs) new = absurd new
data-of-groups s next names (e ∷ es) [] new = absurd new
data-of-groups s next names (e ∷ es) (x ∷ xs) new = (new.0.own, data-of-groups s next (counted names) es xs new.1)

pub logs-of-groups : (s : TableSchema) (names : Naming) (batch : Groups) (xs : List NewFile) → AreLogFiles s names batch xs → AreOfGroups batch xs
logs-of-groups s names [] [] new = tt
logs-of-groups s names [] (x ∷ xs) new = absurd new
logs-of-groups s names (e ∷ es) [] new = absurd new
logs-of-groups s names (e ∷ es) (x ∷ xs) new = (new.0.own, logs-of-groups s (counted names) es xs new.1)

-- those of later groups are of greater ones
pub later-groups : (g : Group) (es : Groups) (xs : List NewFile) (y : NewFile) → AreOfGroups es xs
    → AllByRecursion (λ (k : Group). group_cmp g k ≡ Less) (keys_of es) → Contains xs y → group_cmp g y.group ≡ Less
later-groups g [] [] y own above h = absurd (none-in y h)
later-groups g [] (x ∷ xs) y own above h = absurd own
later-groups g (e ∷ es) [] y own above h = absurd own
later-groups g (e ∷ es) (x ∷ xs) y own above h = elim (in-or x xs y h) as (λ _. group_cmp g y.group ≡ Less) [
  | inl is ↦ subst (λ (z : NewFile). group_cmp g z.group ≡ Less) is (subst (λ (k : Group). group_cmp g k ≡ Less) (sym own.0) above.0)
  | inr more ↦ later-groups g es xs y own.1 above.1 more
]

-- so they are of different groups
pub apart-files : (batch : Groups) (xs : List NewFile) → AreOfGroups batch xs → IsStrictlySortedBy group_cmp (keys_of batch)
    → Pairs (λ (a b : NewFile). a.group ≢ b.group) xs
unfolding IsStrictlySortedBy
apart-files [] [] own ordered = tt
apart-files [] (x ∷ xs) own ordered = absurd own
apart-files (e ∷ es) [] own ordered = tt
apart-files (e ∷ es) (x ∷ xs) own ordered = (
  λ y h. less-apart x.group y.group (subst (λ (k : Group). group_cmp k y.group ≡ Less) (sym own.0) (later-groups e.0 es xs y own.1 ordered.0 h)),
  apart-files es xs own.1 ordered.1,
)

-- a group's file among them
module _ (P : Group → GroupRows → NewFile → Type 0) where
  -- what a batch's files have of a group: one file, where the batch has the group, else none
  abbrev pub OwnFile : Group → Option GroupRows → List NewFile → Type 0
  OwnFile g None xs = (x : NewFile) → Contains xs x → x.group ≢ g
  OwnFile g (Some r) xs = (x : NewFile) × Contains xs x × (x.group ≡ g) × P g r x
      × ((y : NewFile) → Contains xs y → y.group ≡ g → y ≡ x)

  abbrev pub EachFile : Groups → List NewFile → Type 0
  EachFile batch xs = AllZip (λ (e : Group × GroupRows) (x : NewFile). P e.0 e.1 x) batch xs

  pub own-file : (g : Group) (batch : Groups) (xs : List NewFile) → AreOfGroups batch xs → EachFile batch xs
      → IsStrictlySortedBy group_cmp (keys_of batch) → OwnFile g (held_of g batch) xs
  unfolding IsStrictlySortedBy
  own-file g [] [] own each ordered = λ x h. absurd (none-in x h)
  own-file g [] (x ∷ xs) own each ordered = absurd own
  own-file g (e ∷ es) [] own each ordered = absurd own
  own-file g (e ∷ es) (x ∷ xs) own each ordered =
      at (own-file g es xs own.1 each.1 ordered.1) (is_at (group_cmp g) e.0) refl
    where
      later : Group → Type 0
      later k = (y : NewFile) → Contains xs y → group_cmp k y.group ≡ Less

      above : later e.0
      above y h = later-groups e.0 es xs y own.1 ordered.0 h

      more-file : (o : Option GroupRows) → x.group ≢ g → OwnFile g o xs → OwnFile g o (x ∷ xs)
      more-file None other rest = λ y h same. elim (in-or x xs y h) as (λ _. ⊥) [
        | inl is ↦ other (ap (λ (z : NewFile). z.group) is ∙ same)
        | inr more ↦ rest y more same
      ]
      more-file (Some r) other (y, there, same, is, one) = (
        y,
        in-tail x xs y there,
        same,
        is,
        λ z h of_g. elim (in-or x xs z h) as (λ _. z ≡ y) [
          | inl first ↦ absurd (other (ap (λ (z : NewFile). z.group) first ∙ of_g))
          | inr rest ↦ one z rest of_g
        ],
      )

      at : OwnFile g (held_of g es) xs → (t : Bool) → is_at (group_cmp g) e.0 ≡ t → OwnFile g (cond t (Some e.1) (held_of g es)) (x ∷ xs)
      at rest true is =
          let same : g ≡ e.0 = group-is g e.0 is in (
            x,
            in-head x xs,
            own.0 ∙ sym same,
            subst (λ (k : Group). P k e.1 x) (sym same) each.0,
            λ z h of_g. elim (in-or x xs z h) as (λ _. z ≡ x) [
              | inl first ↦ sym first
              | inr rest ↦ absurd (less-apart e.0 z.group (above z rest) (sym same ∙ sym of_g))
            ],
          )
      at rest false is = more-file (held_of g es) (λ of_g. true≢false (sym (group-ties g e.0 (sym of_g ∙ own.0)) ∙ is)) rest

-- ---- the entries that add them

-- they are adds, of different files
pub are-adds : (s : TableSchema) (xs : List NewFile) → Pairs (λ (a b : NewFile). a.group ≢ b.group) xs → AreAdds (map (added_entry s) xs)
are-adds s xs apart = record {
  add = λ e h. (let found = in-map (added_entry s) xs e h in ap (λ (z : Entry). z.add) (sym found.2));
  apart = all-apart xs apart;
}
  where
    all-apart : (xs : List NewFile) → Pairs (λ (a b : NewFile). a.group ≢ b.group) xs → Pairs (λ (a b : Entry). id_of a ≢ id_of b) (map (added_entry s) xs)
    all-apart [] apart = tt
    all-apart (x ∷ xs) apart = (
      λ e h same. (let found = in-map (added_entry s) xs e h in
          apart.0 found.0 found.1 (ap (λ (i : FileId). i.group) same ∙ ap (λ (z : Entry). z.group) (sym found.2))),
      all-apart xs apart.1,
    )

-- ---- numbers

-- the next number of a group is above those of its live files
pub next-above : (live : List Entry) (g : Group) (e : Entry) → Contains live e → e.group ≡ g → e.file.max_seq + 1 ≤ next_number live g
next-above [] g e h same = absurd (none-in e h)
next-above (x ∷ live) g e h same = elim (in-or x live e h) as (λ _. e.file.max_seq + 1 ≤ next_number (x ∷ live) g) [
  | inl is ↦ (let here : eq_by_cmp group_cmp x.group g ≡ true = group-ties x.group g (ap (λ (z : Entry). z.group) is ∙ same) in
      subst (λ (t : Bool). e.file.max_seq + 1 ≤ cond t (max (x.file.max_seq + 1) (next_number live g)) (next_number live g)) (sym here)
      (subst (λ (z : Entry). z.file.max_seq + 1 ≤ max (x.file.max_seq + 1) (next_number live g)) is (left-max (x.file.max_seq + 1) (next_number live g))))
  | inr more ↦ at (eq_by_cmp group_cmp x.group g) (next-above live g e more same)
]
  where
    left-max : (a b : ℕ) → a ≤ max a b
    left-max a b = grind (arith, nat_tests)

    at : (t : Bool) → e.file.max_seq + 1 ≤ next_number live g
        → e.file.max_seq + 1 ≤ cond t (max (x.file.max_seq + 1) (next_number live g)) (next_number live g)
    at true low = right-max (x.file.max_seq + 1) (next_number live g) low
      where
        right-max : (a b : ℕ) → e.file.max_seq + 1 ≤ b → e.file.max_seq + 1 ≤ max a b
        right-max a b low = grind (arith, nat_tests)
    at false low = low

-- a group that a batch holds has rows, and so many are counted
pub some-count : (s : TableSchema) (rows : List HistoryRow) (batch : Groups) (g : Group) (r : GroupRows) → IsBatchOf s rows batch → held_of g batch ≡ Some r
    → (1 ≤ r.count) × (rows_in s g rows ≢ [])
some-count s rows batch g r is found = at (rows_in s g rows) refl (subst (HoldsRows s (rows_in s g rows)) found (is.held g))
  where
    at : (own : List HistoryRow) → rows_in s g rows ≡ own → HoldsRows s own (Some r) → (1 ≤ r.count) × (rows_in s g rows ≢ [])
    at [] none held = absurd (let no : Some r ≡ None = held in cc)
    at (row ∷ more) some held = ((let last = held.last in omega (arith, last)), λ none. (let no : row ∷ more ≡ [] = sym some ∙ none in cc))

-- and one that it doesn't hold has none
pub none-rows : (s : TableSchema) (rows : List HistoryRow) (batch : Groups) (g : Group) → IsBatchOf s rows batch → held_of g batch ≡ None → rows_in s g rows ≡ []
none-rows s rows batch g is found = at (rows_in s g rows) (subst (HoldsRows s (rows_in s g rows)) found (is.held g))
  where
    at : (own : List HistoryRow) → HoldsRows s own None → own ≡ []
    at [] held = refl
    at (row ∷ more) held = absurd held
