-- A group's runs go on with a compaction of it: one run, or none, stands where those stood that were taken.
use Rattle.std.proofs.Common.{◌≡◌, ◌≢◌, ◌↔◌, ◌⊎◌, inl, inr, ℕ, ◌<◌, ◌≤◌, Bool, true, false, true≢false, List, [], ◌∷◌, ◌++◌, map, length, Some, None, Contains, refl, sym, ap, subst, ◌∙◌, arith}
use Rattle.std.specs.List.{AllByRecursion}
use Rattle.std.proofs.lemmas.List.{map-append}
use Rattle.pm_base.proofs.Laws.{AllByRecursion-append, AllByRecursion-parts}
use Rattle.pm_store.specs.Files.{Files}
use Rattle.pm_values.specs.Names.{Naming}
use Rattle.pm_values.specs.declared.file_meta.FileMeta.{FileMeta}
use Rattle.pm_values.specs.declared.group.Group.{Group}
use Rattle.pm_model_history.specs.History.{Entry, IsTableOf}
use Rattle.pm_model_following.specs.Following.{base_of}
use Rattle.pm_schema.specs.declared.schema.TableSchema.{TableSchema}
use Rattle.pm_engine.specs.Meaning.{DropsNoEffect}
use Rattle.pm_engine.specs.OfSchema.{meaning_of}
use Rattle.pm_merge.specs.Source.{Rest}
use Rattle.pm_run.specs.declared.run.RunFile.{RunFile}
use Rattle.pm_levels.specs.Overlap.{AreDisjoint}
use Rattle.pm_levels.specs.Runs.{AreMadeAt, AreNamedApart, RunView, files_of}
use Rattle.pm_manifest.specs.Live.{Live}
use Rattle.pm_manifest.specs.declared.entry.Entry as files
use Rattle.pm_model_contents.specs.Runs.{AreRunsOf}
use Rattle.pm_model_folder.specs.Changes.{Actor}
use Rattle.pm_model_folder.specs.Entries.{AreLive}
use Rattle.pm_model_folder.specs.Ledger.{HasNamedNone, KnowsTable, Past, count_of}
use Rattle.pm_model_folder.specs.Runs.{AreInFiles, view_of}
use Rattle.pm_model_folder.specs.Stored.{AreNumberedApart, HasRun}
use Rattle.pm_model_folder.proofs.Facts.{same-or-other}
use Rattle.pm_model_folder.proofs.HoldLemmas.{Holds}
use Rattle.pm_model_folder.proofs.RunFacts.{hold-held}
use Rattle.pm_put.specs.Meaning.{IsPut}
use Rattle.pm_runs.specs.Stand.{top_of}
use Rattle.pm_runs.specs.Succession.{HasNewestOf, IsNew, IsReplaced, KnownRun, MayTakePlace, StillStands, Taking, replaced, without_files}
use Rattle.pm_compact.specs.Made.{IsMadeAt, made_run, metas_of}
use Rattle.pm_compact.specs.Rewritten.{AreRewritten}
use Rattle.pm_choice.specs.Choice.{live_entry}
use Rattle.pm_made.specs.Delta.{left_of}
use Rattle.pm_made.proofs.EntryLemmas.{ReadEntries}
use Rattle.pm_made.proofs.ListLemmas.{Pairs, all-weaker}
use Rattle.pm_made.proofs.StandLemmas.{GroupAfter}
use Rattle.pm_compaction.specs.Plan.{IsRewrittenAt, RewrittenGroup, group_file}
use Rattle.pm_compaction.proofs.BaseLemmas.{TakenStored}
use Rattle.pm_compaction.proofs.EntryLemmas.{LeftJoined}
use Rattle.pm_compaction.proofs.LiveLemmas.{OneId, after-files}
use Rattle.pm_compaction.proofs.MadeLemmas.{ComesBefore, OneName, made-held}
use Rattle.pm_compaction.proofs.NumberedLemmas.{Replaced, after-named, after-numbered, after-runs}
use Rattle.pm_compaction.proofs.PlaceLemmas.{TwoOfMore, made-at, made-disjoint, made-files, made-named}
use Rattle.pm_compaction.proofs.RewrittenLemmas.{IsGreatest, MadeStands, greatest-newest, made-in-turn, made-new, read-again, took-there}

-- what the laws of lower crates say
pub record GroupFacts : Type 0 where
  pub left : LeftJoined
  pub read : ReadEntries
  pub stored : TakenStored
  pub one_name : OneName
  pub one_id : OneId
  pub two : TwoOfMore
  pub place : Replaced
  pub stands : MadeStands
  pub told : (s : TableSchema) (drop : Bool) (level : ℕ) (names : Naming) (rests : List Rest) (files : List RunFile)
      → AreRewritten s (meaning_of s) drop level names rests files → AllByRecursion (IsMadeAt level) files
  pub drops : (s : TableSchema) → DropsNoEffect (meaning_of s)

abbrev pub three : List KnownRun → List KnownRun → List KnownRun → List RunView
three xs ys zs = map view_of xs ++ (map view_of ys ++ map view_of zs)

pub views-three : (xs ys zs : List KnownRun) → map view_of (xs ++ (ys ++ zs)) ≡ three xs ys zs
views-three xs ys zs = map-append view_of xs (ys ++ zs) ∙ ap (λ (vs : List RunView). map view_of xs ++ vs) (map-append view_of ys zs)

views-all : (P : ℕ → Type 0) (runs : List KnownRun) → AllByRecursion (λ (r : KnownRun). P r.level) runs → AllByRecursion (λ (r : RunView). P r.level) (map view_of runs)
views-all P [] all = tt
views-all P (r ∷ runs) all = (all.0, views-all P runs all.1)

pub no-above : (top out : ℕ) (runs : List KnownRun) → out ≡ top → AllByRecursion (λ (r : KnownRun). r.level ≤ top) runs
    → AllByRecursion (λ (r : KnownRun). out < r.level) runs → runs ≡ []
no-above top out [] same low high = refl
no-above top out (r ∷ runs) same low high = absurd (let a = low.0 in let b = high.0 in omega (arith, same, a, b))

-- whether a group is whole
by-whole : (b : Bool) (out top : ℕ) (P Q : Type 0) → (b ≡ true) ↔ (out ≡ top) → out ≤ top → (b ≡ true → P) → (b ≡ false → Q) → ((out ≡ top) × P) ⊎ ((out < top) × Q)
by-whole true out top P Q iff within all part = inl (iff.0 refl, all refl)
by-whole false out top P Q iff within all part = inr (below, part refl)
  where
    below : out < top
    below = elim (same-or-other out top) as (λ _. out < top) [
      | inl same ↦ absurd (true≢false (sym (iff.1 same)))
      | inr other ↦ (let apart = other in grind (arith))
    ]

module _ (facts : GroupFacts) (me : Actor) (f after : Files) (p : Past) (s : TableSchema) (entries : List Entry) (e : Entry) (base : ℕ)
    (known : KnowsTable f s entries p) (least : 1 ≤ base) (since : p.since ≤ base) (to : base ≤ length entries)
    (holds : Holds f after) (none : HasNamedNone me p) (is_table : IsTableOf s p.history) (many : count_of p.history ≡ length entries)
    (x : RewrittenGroup) (is : IsRewrittenAt me s base p x) (still : StillStands s x.group entries (λ n. p.runs n x.group) x.taking)
    (named : base_of false x.group e ≡ Some base) (whole : x.whole ≡ true → base_of true x.group e ≡ Some base) (part : x.whole ≡ false → base_of true x.group e ≡ None)
    (old : AreInFiles f s (length entries) x.group (p.runs (length entries) x.group))
    (live0 live1 : Live) (es removed added : List files.Entry) (were : AreLive live0 es) (now : AreLive live1 (left_of removed es ++ added))
    (own : AreRunsOf live0 x.group (map view_of (p.runs (length entries) x.group)))
    (own_numbered : (runs : List RunView) (own : AreRunsOf live0 x.group runs) → AreNumberedApart own.files)
    (goes : (m : FileMeta) → Contains (files_of (map view_of x.taking.taken)) m → Contains removed (live_entry s x.group m))
    (went : (r : files.Entry) → Contains removed r → r.group ≡ x.group
    → (m : FileMeta) × Contains (files_of (map view_of x.taking.taken)) m × (r ≡ live_entry s x.group m))
    (come : (m : FileMeta) → Contains (metas_of x.files) m → Contains added (live_entry s x.group m))
    (came : (a : files.Entry) → Contains added a → a.group ≡ x.group → Contains (metas_of x.files) a.file)
    (put : AllByRecursion (IsPut after) (map (group_file s x.group) x.files)) where
  abbrev g : Group
  g = x.group

  abbrev t : Taking
  t = x.taking

  newest : (n : ℕ) × IsGreatest t.taken n
  newest = greatest-newest t.taken is.took.some

  abbrev made : List KnownRun
  made = made_run t.out newest.0 is.made.run x.files

  abbrev runs : List KnownRun
  runs = still.later ++ (made ++ still.older)

  told : AllByRecursion (IsMadeAt t.out) x.files
  told = facts.told s x.whole t.out x.names is.rests x.files is.made

  pairs : Pairs ComesBefore (metas_of x.files)
  pairs = made-in-turn facts.left facts.read facts.stored me f p s entries base known least since to x is facts.one_name

  -- ---- their files

  files-made : files_of (map view_of made) ≡ metas_of x.files
  files-made = made-files t.out newest.0 is.made.run x.files

  own-three : AreRunsOf live0 g (three still.later t.taken still.older)
  own-three = subst (AreRunsOf live0 g) (ap (λ (rs : List KnownRun). map view_of rs) still.is ∙ views-three still.later t.taken still.older) own

  below-out : AllByRecursion (λ (r : KnownRun). r.level < t.out) still.later
  below-out = all-weaker (λ (r : KnownRun). (r.level ≡ 0) ⊎ AllByRecursion (λ (other : KnownRun). r.level < other.level) t.taken) (λ (r : KnownRun). r.level < t.out)
      (λ r low. elim low as (λ _. r.level < t.out) [
        | inl zero_level ↦ (let positive = is.took.positive in omega (arith, zero_level, positive))
        | inr under ↦ at r t.taken is.took.some under is.took.low
      ]) still.later still.below
    where
      at : (r : KnownRun) (taken : List KnownRun) → taken ≢ [] → AllByRecursion (λ (other : KnownRun). r.level < other.level) taken
          → AllByRecursion (λ (other : KnownRun). other.level ≤ t.out) taken → r.level < t.out
      at r [] some under low = absurd (some refl)
      at r (other ∷ taken) some under low = let a = under.0 in let b = low.0 in omega (arith, a, b)

  are-made : AreMadeAt t.out (map view_of made)
  are-made = made-at t.out newest.0 is.made.run x.files is.took.positive told pairs

  apart-made : AreNamedApart (files_of (map view_of made))
  apart-made = subst AreNamedApart (sym files-made) (made-named facts.two (metas_of x.files) pairs)

  disjoint-made : AreDisjoint (files_of (map view_of made))
  disjoint-made = subst AreDisjoint (sym files-made) (made-disjoint facts.two (metas_of x.files) pairs)

  low-later : AllByRecursion (λ (r : RunView). r.level < t.out) (map view_of still.later)
  low-later = views-all (λ (n : ℕ). n < t.out) still.later below-out

  high-older : AllByRecursion (λ (r : RunView). t.out < r.level) (map view_of still.older)
  high-older = views-all (λ (n : ℕ). t.out < n) still.older still.high

  abbrev after-own : AreRunsOf live1 g (three still.later made still.older)
  after-own = after-runs facts.place facts.two live0 live1 g (map view_of still.later) (map view_of t.taken) (map view_of made) (map view_of still.older) t.out
      is.took.positive own-three are-made low-later high-older apart-made disjoint-made
      (after-files facts.one_id live0 live1 es removed added were now s g (map view_of still.later) (map view_of t.taken) (map view_of still.older) (map view_of made)
      own-three goes went (λ m h. come m (subst (λ (fs : List FileMeta). Contains fs m) files-made h))
      (λ a h of_g. subst (λ (fs : List FileMeta). Contains fs a.file) (sym files-made) (came a h of_g))
      (after-named facts.place facts.two live0 live1 g (map view_of still.later) (map view_of t.taken) (map view_of made) (map view_of still.older) t.out
      is.took.positive own-three are-made low-later high-older apart-made disjoint-made))

  levels-made : AllByRecursion (λ (m : FileMeta). m.level ≡ t.out) (files_of (map view_of made))
  levels-made = subst (AllByRecursion (λ (m : FileMeta). m.level ≡ t.out)) (sym files-made) (at x.files told)
    where
      at : (files : List RunFile) → AllByRecursion (IsMadeAt t.out) files → AllByRecursion (λ (m : FileMeta). m.level ≡ t.out) (metas_of files)
      at [] all = tt
      at (y ∷ ys) all = (all.0.level_is, at ys all.1)

  numbered : AreNumberedApart after-own.files
  numbered = after-numbered facts.place facts.two live0 live1 g (map view_of still.later) (map view_of t.taken) (map view_of made) (map view_of still.older) t.out
      is.took.positive own-three are-made low-later high-older apart-made disjoint-made levels-made (own_numbered (three still.later t.taken still.older) own-three)

  -- ---- their rows

  abbrev Held : KnownRun → Type 0
  Held run = HasRun after s g (view_of run) (without_files run)

  old-held : AllByRecursion Held still.later × AllByRecursion Held (t.taken ++ still.older)
  old-held = AllByRecursion-parts Held still.later (t.taken ++ still.older)
      (hold-held f after holds s g (still.later ++ (t.taken ++ still.older))
      (subst (AllByRecursion (λ (run : KnownRun). HasRun f s g (view_of run) (without_files run))) still.is old.hold))

  made-rows : AllByRecursion Held made
  made-rows =
      let again = read-again facts.left facts.read facts.stored me f p s entries base known least since to x is in
      made-held after s g t.out newest.0 x.names x.files is.made.run is.made.files again.1 again.0.rising put

  held : AllByRecursion Held runs
  held = AllByRecursion-append Held still.later (made ++ still.older) old-held.0
      (AllByRecursion-append Held made still.older made-rows (AllByRecursion-parts Held t.taken still.older old-held.1).1)

  -- ---- how they follow

  none-older : t.out ≡ top_of s → still.older ≡ []
  none-older top = no-above (top_of s) t.out still.older top
      (AllByRecursion-parts (λ (r : KnownRun). r.level ≤ top_of s) t.taken still.older
      (AllByRecursion-parts (λ (r : KnownRun). r.level ≤ top_of s) still.later (t.taken ++ still.older)
      (subst (AllByRecursion (λ (r : KnownRun). r.level ≤ top_of s)) still.is ((known.runs.succession g).known (length entries) known.runs.since (omega arith)).levels)).1).1
      still.high

  in-place : MayTakePlace s t.out t.taken still.older made
  in-place = facts.stands s x.whole t.out newest.0 x.names is.rests x.files t.taken still.older (facts.drops s) (sym is.read)
      (λ all. (is.whole.0 all, none-older (is.whole.0 all))) is.made

  at-base : Some base ≡ Some t.base
  at-base = ap (λ (n : ℕ). Some n) (sym is.based)

  made-level : AllByRecursion (λ (run : KnownRun). run.level ≡ t.out) made
  made-level = at x.files
    where
      at : (files : List RunFile) → AllByRecursion (λ (run : KnownRun). run.level ≡ t.out) (made_run t.out newest.0 is.made.run files)
      at [] = tt
      at (y ∷ ys) = (refl, tt)

  one-made : length made ≤ 1
  one-made = at x.files
    where
      at : (files : List RunFile) → length (made_run t.out newest.0 is.made.run files) ≤ 1
      at [] = omega arith
      at (y ∷ ys) = omega arith

  is-replaced : IsReplaced s g e t still.later still.older made runs
  is-replaced = record {
    is = refl;
    one = one-made;
    levels = made-level;
    place = in-place;
    named = named ∙ at-base;
    whole = by-whole x.whole t.out (top_of s) (base_of true g e ≡ Some t.base) (base_of true g e ≡ None) is.whole is.took.within
        (λ all. whole all ∙ at-base) part;
  }

  newest-made : AllByRecursion (HasNewestOf t.taken) made
  newest-made = at x.files
    where
      at : (files : List RunFile) → AllByRecursion (HasNewestOf t.taken) (made_run t.out newest.0 is.made.run files)
      at [] = tt
      at (y ∷ ys) = (record { one = newest.1.0; greatest = newest.1.1 }, tt)

  abbrev New : KnownRun → Type 0
  New = IsNew p.since (λ n. p.runs n g) (length entries)

  some-meta : (m : FileMeta) (ms : List FileMeta) → m ∷ ms ≢ []
  some-meta m ms is = cc

  fresh-made : AllByRecursion New made
  fresh-made = at x.files refl
    where
      at : (files : List RunFile) → x.files ≡ files → AllByRecursion New (made_run t.out newest.0 is.made.run files)
      at [] same = tt
      at (y ∷ ys) same = (
        made-new facts.left facts.read facts.stored me f p s entries base known least since to x is none is_table many
            (record { level = t.out; files = metas_of (y ∷ ys); newest = newest.0; rows = is.made.run }) (some-meta y.meta (metas_of ys))
            (λ m h. subst (λ (files : List RunFile). Contains (metas_of files) m) (sym same) h),
        tt,
      )

  moved : (o : AreRunsOf live1 g (map view_of runs)) × AreNumberedApart o.files
  moved = subst (λ (vs : List RunView). (o : AreRunsOf live1 g vs) × AreNumberedApart o.files) (sym (views-three still.later made still.older)) (after-own, numbered)

  pub group-after : GroupAfter after s entries e p live1 x.group
  group-after = record {
    runs = runs;
    own = moved.0;
    numbered = moved.1;
    hold = held;
    follow = replaced (record {
      taking = t;
      took = took-there facts.left facts.read facts.stored me f p s entries base known least since to x is;
      later = still.later;
      older = still.older;
      made = made;
      was = still.is;
      put = is-replaced;
      newest = newest-made;
      fresh = fresh-made;
    });
  }
