-- Groups of files: one file more, the groups of a map one after another, and what all groups say of the live files.
use Rattle.std.proofs.Common.{◌≡◌, ◌≢◌, Bool, true, false, true≢false, cond, List, [], ◌∷◌, ◌++◌, map, filter, Option, None, Some, IfSome, IsSome, Vec, Contains, refl, sym, ap, subst, ◌∙◌, arith, IsPermutation, is_eq, Less, option_map, vec_len, if◌then◌else◌, append-nil, append_assoc}
use Rattle.std.specs.BTreeMap.{BTreeMap, get, get_by, is_at}
use Rattle.std.specs.List.{AllByRecursion}
use Rattle.std.specs.List.Sorted.{IsStrictlySortedBy}
use Rattle.std.specs.Map.{keys_of, lookup}
use Rattle.std.specs.Option.{UnwrapsOrElse, unwrap_or}
use Rattle.std.specs.Ordering.{ordering_reverse}
use Rattle.std.specs.declared.alloc.Global.{Global}
use Rattle.std.proofs.lemmas.List.{map-append}
use Rattle.std.proofs.lemmas.List.Elements.{filter-append}
use Rattle.std.proofs.lemmas.List.Sorted.{length_permutation}
use Rattle.std.proofs.lemmas.Map.{lookup-none}
use Rattle.std.proofs.lemmas.Map.Entries.{none_below_head}
use Rattle.std.proofs.lemmas.Map.Keys.{sorted_head, sorted_tail}
use Rattle.pm_base.proofs.Laws.{AllByRecursion-push}
use Rattle.pm_values.specs.GroupOrder.{group_cmp, group_total}
use Rattle.pm_values.specs.declared.file_meta.FileMeta.{FileMeta}
use Rattle.pm_values.specs.declared.group.Group.{Group}
use Rattle.pm_values.specs.declared.refusal.Refusal.{Refusal}
use Rattle.pm_values.specs.declared.refusal.Refusal.TheVariants as refusals
use Rattle.pm_schema.specs.Folder.{FitsPartition}
use Rattle.pm_schema.specs.declared.schema.TableSchema.{TableSchema}
use Rattle.pm_levels.specs.Overlap.{AreDisjoint}
use Rattle.pm_levels.specs.Runs.{AreRuns, RunView, files_of}
use Rattle.pm_manifest.specs.Live.{Live, id_of}
use Rattle.pm_manifest.specs.declared.entry.Entry.{Entry}
use Rattle.pm_model_contents.specs.Groups.{GroupRuns, HasRuns, HaveFolders, IsFirstRefused, Overlaps, RefusesGroups, files_in, grouped, some_files, with_file}
use Rattle.pm_model_contents.specs.Runs.{AreFilesOf, IsLive}
use Rattle.pm_model_contents.proofs.FileLemmas.{disjoint-moved, disjoint-none, files_in-cons, in-head, none-in, owner, same-files, tied, ties}

-- ---- one file more

joins : (files : List FileMeta) (file : FileMeta) (b : Bool) → some_files (files ++ cond b (file ∷ []) []) ≡ (if b then Some (unwrap_or (some_files files) [] ++ file ∷ []) else some_files files)
joins [] file true = refl
joins [] file false = refl
joins (f ∷ fs) file true = refl
joins (f ∷ fs) file false = ap some_files (append-nil (f ∷ fs))

files_in-append : (g : Group) (es more : List Entry) → files_in g (es ++ more) ≡ files_in g es ++ files_in g more
files_in-append g es more =
    let own : Entry → Bool = λ e. is_at (group_cmp e.group) g in
    ap (map (λ (e : Entry). e.file)) (filter-append own es more) ∙ map-append (λ (e : Entry). e.file) (filter own es) (filter own more)

pub files-push : (g : Group) (es : List Entry) (e : Entry) → some_files (files_in g (es ++ e ∷ [])) ≡ with_file g e (some_files (files_in g es))
files-push g es e =
    ap some_files (files_in-append g es (e ∷ []) ∙ ap (λ fs. files_in g es ++ fs) (files_in-cons g e []))
    ∙ joins (files_in g es) e.file (is_at (group_cmp e.group) g)

items-of : (o : Option (Vec FileMeta Global)) (v : Vec FileMeta Global) → UnwrapsOrElse o (λ (x : Vec FileMeta Global). (x.items ≡ []) × (vec_len x ≡ 0)) v
    → v.items ≡ unwrap_or (option_map (λ (v : Vec FileMeta Global). v.items) o) []
items-of None v is = is.0
items-of (Some x) v is = ap (λ (v : Vec FileMeta Global). v.items) is

-- once the vector of an entry's group, or a new one, has its file, the map has it at that group
pub put : (g : Group) (e : Entry) (m : BTreeMap Group (Vec FileMeta Global)) (new es : List (Group × Vec FileMeta Global)) (o : Option (Vec FileMeta Global)) (v w : Vec FileMeta Global)
    → ((q : Group) → lookup (is_at (group_cmp q)) es ≡ cond (is_at (group_cmp e.group) q) (Some w) (get group_cmp m q)) → o ≡ get group_cmp m e.group
    → UnwrapsOrElse o (λ (x : Vec FileMeta Global). (x.items ≡ []) × (vec_len x ≡ 0)) v → w.items ≡ v.items ++ e.file ∷ [] → new ≡ es
    → option_map (λ (v : Vec FileMeta Global). v.items) (lookup (is_at (group_cmp g)) new) ≡ with_file g e (option_map (λ (v : Vec FileMeta Global). v.items) (get_by (group_cmp g) m))
put g e m new es o v w up found value pushed same = by (is_at (group_cmp e.group) g) refl (ap (lookup (is_at (group_cmp g))) same ∙ up g)
  where
    by : (b : Bool) → is_at (group_cmp e.group) g ≡ b → lookup (is_at (group_cmp g)) new ≡ cond b (Some w) (get group_cmp m g)
        → option_map (λ (v : Vec FileMeta Global). v.items) (lookup (is_at (group_cmp g)) new)
        ≡ (if b then Some (unwrap_or (option_map (λ (v : Vec FileMeta Global). v.items) (get group_cmp m g)) [] ++ e.file ∷ []) else option_map (λ (v : Vec FileMeta Global). v.items) (get group_cmp m g))
    by true own is =
        ap (option_map (λ (v : Vec FileMeta Global). v.items)) is
        ∙ ap Some (pushed ∙ ap (λ xs. xs ++ e.file ∷ [])
        (items-of o v value ∙ ap (λ p. unwrap_or (option_map (λ (v : Vec FileMeta Global). v.items) p) []) (found ∙ ap (get group_cmp m) (ties e.group g own))))
    by false own is = ap (option_map (λ (v : Vec FileMeta Global). v.items)) is

-- what a map has at a group, once the files of entries were put to those of their groups, one after another
abbrev pub with_files : Group → List Entry → Option (List FileMeta) → Option (List FileMeta)
with_files g [] own = own
with_files g (e ∷ es) own = with_files g es (with_file g e own)

pub with-all : (g : Group) (done es : List Entry) → with_files g es (some_files (files_in g done)) ≡ some_files (files_in g (done ++ es))
with-all g done [] = ap (λ es. some_files (files_in g es)) (sym (append-nil done))
with-all g done (e ∷ es) =
    ap (with_files g es) (sym (files-push g done e)) ∙ with-all g (done ++ e ∷ []) es ∙ ap (λ all. some_files (files_in g all)) (append_assoc done (e ∷ []) es)

-- ---- groups and their files

abbrev pub Groups : Type 0
Groups = List (Group × List FileMeta)

pub lookup-grouped : (test : Group → Bool) (entries : List (Group × Vec FileMeta Global)) → lookup test (grouped entries) ≡ option_map (λ (v : Vec FileMeta Global). v.items) (lookup test entries)
lookup-grouped test [] = refl
lookup-grouped test (e ∷ es) = by (lookup-grouped test es) (test e.0)
  where
    by : lookup test (grouped es) ≡ option_map (λ (v : Vec FileMeta Global). v.items) (lookup test es)
        → (b : Bool) → cond b (Some e.1.items) (lookup test (grouped es)) ≡ option_map (λ (v : Vec FileMeta Global). v.items) (cond b (Some e.1) (lookup test es))
    by rest true = refl
    by rest false = rest

pub keys-grouped : (entries : List (Group × Vec FileMeta Global)) → keys_of (grouped entries) ≡ keys_of entries
keys-grouped [] = refl
keys-grouped (e ∷ es) = ap (λ ks. e.0 ∷ ks) (keys-grouped es)

-- what holds of all keys holds of one of them
at-key : (P : Group → Type 0) (done : Groups) (k : Group) (files : List FileMeta) (later : Groups) → AllByRecursion P (keys_of (done ++ (k, files) ∷ later)) → P k
at-key P [] k files later all = all.0
at-key P (e ∷ es) k files later all = at-key P es k files later all.1

not-tied : (a k : Group) → group_cmp a k ≡ Less → is_at (group_cmp k) a ≡ false
not-tied a k less = ap is_eq (group_total.antisymm k a ∙ ap ordering_reverse less)

-- a group isn't among those before it
not-before : (done : Groups) (k : Group) (files : List FileMeta) (later : Groups) → IsStrictlySortedBy group_cmp (keys_of (done ++ (k, files) ∷ later)) → lookup (is_at (group_cmp k)) done ≡ None
not-before [] k files later sorted = refl
not-before (e ∷ es) k files later sorted =
    let less = at-key (λ y. group_cmp e.0 y ≡ Less) es k files later (sorted_head group_cmp e.0 (keys_of (es ++ (k, files) ∷ later)) sorted) in
    ap (λ b. cond b (Some e.1) (lookup (is_at (group_cmp k)) es)) (not-tied e.0 k less)
    ∙ not-before es k files later (sorted_tail group_cmp e.0 (keys_of (es ++ (k, files) ∷ later)) sorted)

-- what is found among groups that follow others
lookup-after : (test : Group → Bool) (done : Groups) (e : Group × List FileMeta) (later : Groups) → lookup test done ≡ None → test e.0 ≡ true → lookup test (done ++ e ∷ later) ≡ Some e.1
lookup-after test [] e later none own = ap (λ b. cond b (Some e.1) (lookup test later)) own
lookup-after test (d ∷ ds) e later none own = by (λ k. lookup-after test ds e later k own) (test d.0) none
  where
    by : (lookup test ds ≡ None → lookup test (ds ++ e ∷ later) ≡ Some e.1)
        → (b : Bool) → cond b (Some d.1) (lookup test ds) ≡ None → cond b (Some d.1) (lookup test (ds ++ e ∷ later)) ≡ Some e.1
    by rest true is = cc
    by rest false is = rest is

lookup-other : (test : Group → Bool) (done : Groups) (e : Group × List FileMeta) → test e.0 ≡ false → lookup test (done ++ e ∷ []) ≡ lookup test done
lookup-other test [] e other = ap (λ b. cond b (Some e.1) None) other
lookup-other test (d ∷ ds) e other = ap (λ o. cond (test d.0) (Some d.1) o) (lookup-other test ds e other)

-- a group is found among those of which it is one
is-found : (done : Groups) (k : Group) (files : List FileMeta) (later : Groups) → IsSome (lookup (is_at (group_cmp k)) (done ++ (k, files) ∷ later))
is-found [] k files later = subst (λ b. IsSome (cond b (Some files) (lookup (is_at (group_cmp k)) later))) (sym (tied k k refl)) refl
is-found (e ∷ es) k files later = by (is-found es k files later) (is_at (group_cmp k) e.0)
  where
    by : IsSome (lookup (is_at (group_cmp k)) (es ++ (k, files) ∷ later)) → (b : Bool) → IsSome (cond b (Some e.1) (lookup (is_at (group_cmp k)) (es ++ (k, files) ∷ later)))
    by rest true = refl
    by rest false = rest

-- ---- the runs of one group more

runs-push : (done : Groups) (k : Group) (files : List FileMeta) (later : Groups) (runs : List RunView) (g : Group) (before after : Option (List RunView))
    → IsStrictlySortedBy group_cmp (keys_of (done ++ (k, files) ∷ later)) → AreRuns files runs → AreDisjoint files
    → after ≡ cond (is_at (group_cmp k) g) (Some runs) before
    → HasRuns (lookup (is_at (group_cmp g)) done) before → HasRuns (lookup (is_at (group_cmp g)) (done ++ (k, files) ∷ [])) after
runs-push done k files later runs g before after sorted are none is has = by (is_at (group_cmp k) g) refl is
  where
    by : (b : Bool) → is_at (group_cmp k) g ≡ b → after ≡ cond b (Some runs) before → HasRuns (lookup (is_at (group_cmp g)) (done ++ (k, files) ∷ [])) after
    by true own new =
        let same : k ≡ g = ties k g own in
        let nothing : lookup (is_at (group_cmp g)) done ≡ None = subst (λ h. lookup (is_at (group_cmp h)) done ≡ None) same (not-before done k files later sorted) in
        let here = lookup-after (is_at (group_cmp g)) done (k, files) [] nothing (tied g k (sym same)) in
        subst (λ o. HasRuns o after) (sym here) (subst (HasRuns (Some files)) (sym new) (are, none))
    by false other new =
        let apart : is_at (group_cmp g) k ≡ false = untied (is_at (group_cmp g) k) refl in
        subst (λ o. HasRuns o after) (sym (lookup-other (is_at (group_cmp g)) done (k, files) apart)) (subst (HasRuns (lookup (is_at (group_cmp g)) done)) (sym new) has)
      where
        untied : (b : Bool) → is_at (group_cmp g) k ≡ b → is_at (group_cmp g) k ≡ false
        untied true t = absurd (true≢false (sym (tied k g (sym (ties g k t))) ∙ other))
        untied false t = t

-- one group more of a map's entries
grouped-push : (done : List (Group × Vec FileMeta Global)) (k : Group) (own : Vec FileMeta Global) → grouped (done ++ (k, own) ∷ []) ≡ grouped done ++ (k, own.items) ∷ []
grouped-push [] k own = refl
grouped-push (e ∷ es) k own = ap (λ gs. (e.0, e.1.items) ∷ gs) (grouped-push es k own)

-- of a map's entries some groups are done and the others are left: those done have their runs, and share no keys
pub record Done (entries done left : List (Group × Vec FileMeta Global)) (at : Group → Option (List RunView)) : Type 0 where
  pub joined : grouped done ++ grouped left ≡ grouped entries
  pub sorted : IsStrictlySortedBy group_cmp (keys_of (grouped entries))
  pub runs : (g : Group) → HasRuns (lookup (is_at (group_cmp g)) (grouped done)) (at g)
  pub free : AllByRecursion (λ (e : Group × List FileMeta). AreDisjoint e.1) (grouped done)

module _ (entries done left : List (Group × Vec FileMeta Global)) (before : Group → Option (List RunView)) (known : Done entries done left before)
    (k : Group) (own : Vec FileMeta Global) (rest : List (Group × Vec FileMeta Global)) (next : left ≡ (k, own) ∷ rest) where
  joined-here : grouped done ++ (k, own.items) ∷ grouped rest ≡ grouped entries
  joined-here = ap (λ es. grouped done ++ grouped es) (sym next) ∙ known.joined

  -- the next group is one of the map
  pub next-found : IsSome (lookup (is_at (group_cmp k)) (grouped entries))
  next-found = subst (λ gs. IsSome (lookup (is_at (group_cmp k)) gs)) joined-here (is-found (grouped done) k own.items (grouped rest))

  -- and is done once it has its runs
  pub done-more : (runs : List RunView) (after : Group → Option (List RunView)) → AreRuns own.items runs → AreDisjoint own.items
      → ((g : Group) → after g ≡ cond (is_at (group_cmp k) g) (Some runs) (before g)) → Done entries (done ++ (k, own) ∷ []) rest after
  done-more runs after are none now =
      let more = grouped-push done k own in
      let sorted = subst (λ gs. IsStrictlySortedBy group_cmp (keys_of gs)) (sym joined-here) known.sorted in
      record {
        joined = ap (λ gs. gs ++ grouped rest) more ∙ append_assoc (grouped done) ((k, own.items) ∷ []) (grouped rest) ∙ joined-here;
        sorted = known.sorted;
        runs = λ g.
            subst (λ gs. HasRuns (lookup (is_at (group_cmp g)) gs) (after g)) (sym more)
            (runs-push (grouped done) k own.items (grouped rest) runs g (before g) (after g) sorted are none (now g) (known.runs g));
        free =
            subst (AllByRecursion (λ (e : Group × List FileMeta). AreDisjoint e.1)) (sym more)
            (AllByRecursion-push (λ (e : Group × List FileMeta). AreDisjoint e.1) (grouped done) (k, own.items) known.free none);
      }

-- ---- the first group that is refused

-- the groups below the first refused one are disjoint
below-free : (done : Groups) (k : Group) (files : List FileMeta) (later : Groups) (g : Group) → IsStrictlySortedBy group_cmp (keys_of (done ++ (k, files) ∷ later))
    → AllByRecursion (λ (e : Group × List FileMeta). AreDisjoint e.1) done → group_cmp g k ≡ Less
    → IfSome (lookup (is_at (group_cmp g)) (done ++ (k, files) ∷ later)) AreDisjoint
below-free [] k files later g sorted free less =
    subst (λ o. IfSome o AreDisjoint) (sym (lookup-none (is_at (group_cmp g)) ((k, files) ∷ later) (none_below_head group_total g (k, files) later sorted less))) tt
below-free (e ∷ es) k files later g sorted free less =
    by (below-free es k files later g (sorted_tail group_cmp e.0 (keys_of (es ++ (k, files) ∷ later)) sorted) free.1 less) (is_at (group_cmp g) e.0)
  where
    by : IfSome (lookup (is_at (group_cmp g)) (es ++ (k, files) ∷ later)) AreDisjoint
        → (b : Bool) → IfSome (cond b (Some e.1) (lookup (is_at (group_cmp g)) (es ++ (k, files) ∷ later))) AreDisjoint
    by rest true = free.0
    by rest false = rest

-- ---- what all groups say of the live files

runs-some : (files : List FileMeta) (runs : List RunView) (f : FileMeta) (fs : List FileMeta) → files ≡ f ∷ fs → AreRuns files runs → runs ≢ []
runs-some files runs f fs is are none =
    let whole : IsPermutation (f ∷ fs) [] = subst (λ xs. IsPermutation xs []) is (subst (λ rs. IsPermutation files (files_of rs)) none are.whole) in
    let long = length_permutation (f ∷ fs) [] whole in
    omega arith

pub group-runs : (live : Live) (g : Group) (files : List FileMeta) (o : Option (List RunView)) → AreFilesOf live g files → HasRuns (some_files files) o → GroupRuns live g o
group-runs live g [] None are has = λ e is own. none-in e.file ((are.exact e.file).1 (e, is, own, refl))
group-runs live g [] (Some runs) are has = absurd has
group-runs live g (f ∷ fs) None are has = absurd has
group-runs live g (f ∷ fs) (Some runs) are has =
    (record { files = f ∷ fs; own = are; made = has.0; disjoint = has.1 }, runs-some (f ∷ fs) runs f fs refl has.0)

some-is : (files own : List FileMeta) → some_files files ≡ Some own → files ≡ own
some-is [] own is = cc
some-is (f ∷ fs) own is = cc

all-disjoint : (files : List FileMeta) → IfSome (some_files files) AreDisjoint → AreDisjoint files
all-disjoint [] free = disjoint-none
all-disjoint (f ∷ fs) free = free

module _ (s : TableSchema) (live : Live) (files : Group → List FileMeta) (are : (g : Group) → AreFilesOf live g (files g)) (groups : Groups)
    (has : (g : Group) → lookup (is_at (group_cmp g)) groups ≡ some_files (files g)) (sorted : IsStrictlySortedBy group_cmp (keys_of groups)) where
  -- the groups below the first that is refused
  free-below : (r : Refusal) (h : IsFirstRefused s groups r) (below : Group) (others : List FileMeta) → group_cmp below h.group ≡ Less → AreFilesOf live below others → AreDisjoint others
  free-below r h below others less own =
      let order = subst (λ gs. IsStrictlySortedBy group_cmp (keys_of gs)) (sym h.joined) sorted in
      let free : IfSome (lookup (is_at (group_cmp below)) groups) AreDisjoint =
      subst (λ gs. IfSome (lookup (is_at (group_cmp below)) gs) AreDisjoint) h.joined (below-free h.done h.group h.files h.later below order h.free less) in
      disjoint-moved (files below) others (same-files live below (files below) others (are below) own)
      (all-disjoint (files below) (subst (λ o. IfSome o AreDisjoint) (has below) free))

  -- its files are those of the group
  own-files : (r : Refusal) (h : IsFirstRefused s groups r) → AreFilesOf live h.group h.files
  own-files r h =
      let order = subst (λ gs. IsStrictlySortedBy group_cmp (keys_of gs)) (sym h.joined) sorted in
      let here = lookup-after (is_at (group_cmp h.group)) h.done (h.group, h.files) h.later (not-before h.done h.group h.files h.later order) (tied h.group h.group refl) in
      let is : lookup (is_at (group_cmp h.group)) groups ≡ Some h.files = subst (λ gs. lookup (is_at (group_cmp h.group)) gs ≡ Some h.files) h.joined here in
      subst (AreFilesOf live h.group) (some-is (files h.group) h.files (sym (has h.group) ∙ is)) (are h.group)

  pub overlaps : (r : Refusal) → RefusesGroups s groups r → Overlaps s live r
  overlaps refusals.Memory h = tt
  overlaps (refusals.Damaged path place) h =
      let why = h.refused in
      (why.0, h.group, h.files, why.1, own-files (refusals.Damaged path place) h, why.2, why.3, free-below (refusals.Damaged path place) h)
  overlaps other h = h.refused

-- a group that has files is one of the table
pub has-folder : (s : TableSchema) (live : Live) (es : List Entry) (g : Group) (o : Option (List FileMeta)) → ((e : Entry) → Contains es e → IsLive live e) → HaveFolders s live
    → o ≡ some_files (files_in g es) → IsSome o → FitsPartition s g
has-folder s live es g o lives folders is some = by (files_in g es) refl (subst IsSome is some)
  where
    by : (files : List FileMeta) → files_in g es ≡ files → IsSome (some_files files) → FitsPartition s g
    by [] e none = cc
    by (f ∷ fs) e there =
        let own = owner g es f (subst (λ xs. Contains xs f) (sym e) (in-head f fs)) in
        subst (FitsPartition s) own.2 (folders (id_of own.0) own.0 (lives own.0 own.1))
