-- Of the live files that share keys the first is one, so a view isn't refused at two paths; and none is where each group
-- has its runs.
use Rattle.std.proofs.Common.{◌≡◌, ◌≢◌, ℕ, ◌==◌, true, false, cond, List, Option, Some, None, refl, sym, ap, subst, ◌∙◌}
use Rattle.std.specs.Cmp.{nat_cmp_total}
use Rattle.std.specs.Cmp.Lexicographic.{nat_list_cmp_total, slice_cmp}
use Rattle.std.specs.FinMap.{nat_cmp-IsAntisymmetric, slice_cmp-IsAntisymmetric}
use Rattle.std.specs.Ordering.{is_le, nat_cmp, ordering_reverse, ordering_then}
use Rattle.std.specs.declared.cmp.Ordering.{Ordering}
use Rattle.std.specs.declared.cmp.Ordering.TheVariants.{Less, Equal, Greater}
use Rattle.pm_values.specs.GroupOrder.{group_cmp, group_total}
use Rattle.pm_values.specs.Order.{key_cmp, key_total}
use Rattle.pm_values.specs.declared.file_meta.FileMeta.{FileMeta}
use Rattle.pm_values.specs.declared.group.Group.{Group}
use Rattle.pm_values.specs.declared.refusal.Refusal.TheVariants as refusals
use Rattle.pm_values.proofs.Lemmas.{group_cmp-IsAntisymmetric}
use Rattle.pm_schema.specs.declared.schema.TableSchema.{TableSchema}
use Rattle.pm_levels.specs.Order.{file_cmp, within_level}
use Rattle.pm_levels.specs.Overlap.{AreDisjoint, IsFirstOverlap, IsOverlap}
use Rattle.pm_levels.specs.Runs.{RunView}
use Rattle.pm_manifest.specs.Live.{Live}
use Rattle.pm_model_contents.specs.Groups.{GroupRuns, Overlaps}
use Rattle.pm_model_contents.specs.Runs.{AreFilesOf, data_path}
use Rattle.pm_read_table.proofs.TwoLemmas.{first_in, two_in}

-- ---- files that are up to each other

-- of what is compared first, and then otherwise, both tie where each is up to the other
record Tie (o p q : Ordering) : Type 0 where
  first : o ≡ Equal
  then : is_le p ≡ true
  back : is_le q ≡ true

tied : (o p q : Ordering) → is_le (ordering_then o p) ≡ true → is_le (ordering_then (ordering_reverse o) q) ≡ true → Tie o p q
tied Less p q le ge = cc
tied Equal p q le ge = record { first = refl; then = le; back = ge }
tied Greater p q le ge = cc

one_tie : (o : Ordering) → is_le o ≡ true → is_le (ordering_reverse o) ≡ true → o ≡ Equal
one_tie Less le ge = cc
one_tie Equal le ge = refl
one_tie Greater le ge = cc

within_back : (a b : FileMeta) → a.level ≡ b.level → within_level b a ≡ ordering_reverse (within_level a b)
within_back a b level =
    subst (λ (n : ℕ). cond (n == 0) (nat_cmp a.max_seq b.max_seq) (key_cmp b.min_key a.min_key) ≡ ordering_reverse (within_level a b)) level
    (elim (a.level == 0) as (λ t. cond t (nat_cmp a.max_seq b.max_seq) (key_cmp b.min_key a.min_key)
    ≡ ordering_reverse (cond t (nat_cmp b.max_seq a.max_seq) (key_cmp a.min_key b.min_key))) [
      | true ↦ nat_cmp_total.antisymm a.max_seq b.max_seq
      | false ↦ key_total.antisymm b.min_key a.min_key
    ])

one_name : (a b : FileMeta) → is_le (file_cmp a b) ≡ true → is_le (file_cmp b a) ≡ true → a.name ≡ b.name
one_name a b le ge =
    let names : Ordering = slice_cmp nat_cmp a.name b.name in
    let back : Ordering = slice_cmp nat_cmp b.name a.name in
    let levels = tied (nat_cmp a.level b.level) (ordering_then (within_level a b) names) (ordering_then (within_level b a) back) le
    (subst (λ (o : Ordering). is_le (ordering_then o (ordering_then (within_level b a) back)) ≡ true) (nat_cmp_total.antisymm b.level a.level) ge) in
    let level : a.level ≡ b.level = nat_cmp-IsAntisymmetric a.level b.level levels.first in
    let inside = tied (within_level a b) names back levels.then
    (subst (λ (o : Ordering). is_le (ordering_then o back) ≡ true) (within_back a b level) levels.back) in
    slice_cmp-IsAntisymmetric nat_cmp-IsAntisymmetric a.name b.name
    (one_tie names inside.then (subst (λ (o : Ordering). is_le o ≡ true) (nat_list_cmp_total.antisymm b.name a.name) inside.back))

-- ---- of one group

-- the same files share the same keys, in whichever order they come
same_overlap : (live : Live) (g : Group) (files more : List FileMeta) (file : FileMeta) → AreFilesOf live g files → AreFilesOf live g more → IsOverlap more file
    → IsOverlap files file
same_overlap live g files more file are were (other, two, meet, le) =
    let both = first_in other file more two in
    let apart : other ≢ file = λ same. were.apart other file two meet.level (ap (λ (m : FileMeta). m.name) same) in
    (other, two_in other file files ((are.exact other).1 ((were.exact other).0 both.0)) ((are.exact file).1 ((were.exact file).0 both.1)) apart, meet, le)

one_first : (live : Live) (g : Group) (files more : List FileMeta) (one other : FileMeta) → AreFilesOf live g files → AreFilesOf live g more → IsFirstOverlap files one
    → IsFirstOverlap more other → one.name ≡ other.name
one_first live g files more one other are were is was =
    one_name one other (is.least other (same_overlap live g files more other are were was.overlaps))
    (was.least one (same_overlap live g more files one were are is.overlaps))

none_shared : (files : List FileMeta) (file : FileMeta) → AreDisjoint files → IsOverlap files file → ⊥
none_shared files file disjoint (other, two, meet, le) = disjoint other file two meet

-- ---- of all groups

damaged_same : (path at : List ℕ) (place from : ℕ) → path ≡ at → place ≡ 0 → from ≡ 0 → refusals.Damaged path place ≡ refusals.Damaged at from
damaged_same path at place from is first was =
    ap (λ (path : List ℕ). refusals.Damaged path place) is ∙ ap (refusals.Damaged at) (first ∙ sym was)

pub one_overlap : (s : TableSchema) (live : Live) (path at : List ℕ) (place from : ℕ) → Overlaps s live (refusals.Damaged path place)
    → Overlaps s live (refusals.Damaged at from) → refusals.Damaged path place ≡ refusals.Damaged at from
one_overlap s live path at place from (first, g, files, file, are, is, path_is, below) (start, h, more, other, were, was, at_is, under) =
    elim (group_cmp g h) as (λ o. group_cmp g h ≡ o → refusals.Damaged path place ≡ refusals.Damaged at from) [
      | Less ↦ λ e. absurd (none_shared files file (under g files e are) is.overlaps)
      | Equal ↦ λ e.
          let same : g ≡ h = group_cmp-IsAntisymmetric g h e in
          let names = one_first live h files more file other (subst (λ (g : Group). AreFilesOf live g files) same are) were is was in
          damaged_same path at place from (path_is ∙ ap (λ (g : Group). data_path s g file.name) same ∙ ap (data_path s h) names ∙ sym at_is) first start
      | Greater ↦ λ e.
          absurd (none_shared more other (below h more (group_total.antisymm h g ∙ ap ordering_reverse e) were) was.overlaps)
    ] refl

-- a group that has its runs, or no file, has no two files that share keys
runs_not : (live : Live) (g : Group) (runs : Option (List RunView)) (files : List FileMeta) (file : FileMeta) → GroupRuns live g runs → AreFilesOf live g files
    → IsOverlap files file → ⊥
runs_not live g (Some runs) files file (own, some) are (other, two, meet, le) =
    let both = first_in other file files two in
    let apart : other ≢ file = λ same. are.apart other file two meet.level (ap (λ (m : FileMeta). m.name) same) in
    own.disjoint other file (two_in other file own.files ((own.own.exact other).1 ((are.exact other).0 both.0)) ((own.own.exact file).1 ((are.exact file).0 both.1)) apart) meet
runs_not live g None files file none are (other, two, meet, le) =
    let live_one = (are.exact file).0 (first_in other file files two).1 in
    none live_one.0 live_one.1 live_one.2

pub runs_or_overlap : (s : TableSchema) (live : Live) (runs : Group → Option (List RunView)) (path : List ℕ) (place : ℕ) → ((g : Group) → GroupRuns live g (runs g))
    → Overlaps s live (refusals.Damaged path place) → ⊥
runs_or_overlap s live runs path place own (first, g, files, file, are, is, path_is, below) = runs_not live g (runs g) files file (own g) are is.overlaps
