-- What is known of a plan as it begins, once its groups were chosen of the runs at its base.
use Rattle.std.proofs.Common.{◌≡◌, ◌≢◌, ◌⊎◌, inl, inr, ℕ, zero, suc, ◌<◌, ◌≤◌, List, [], ◌∷◌, length, map, take, drop, Option, None, Some, unwrap_or, refl, sym, ap, subst, ◌∙◌, arith}
use Rattle.std.proofs.lemmas.List.{drop-map, length-map, take-append-drop, take-map}
use Rattle.std.specs.List.{AllByRecursion, AllZip}
use Rattle.std.specs.List.Sorted.{IsStrictlySortedBy}
use Rattle.pm_values.specs.GroupOrder.{group_cmp}
use Rattle.pm_values.specs.declared.group.Group.{Group}
use Rattle.pm_schema.specs.declared.schema.TableSchema.{TableSchema}
use Rattle.pm_snapshot.specs.declared.snapshot.Snapshot.{Snapshot}
use Rattle.pm_levels.specs.Runs.{RunView}
use Rattle.pm_levels.specs.declared.choice.Asked.{Asked}
use Rattle.pm_levels.specs.declared.choice.Asked.TheVariants.{Full, LevelZero, No}
use Rattle.pm_runs.specs.Stand.{top_of}
use Rattle.pm_runs.specs.Succession.{KnownRun, Taking}
use Rattle.pm_model_folder.specs.Changes.{Actor}
use Rattle.pm_model_folder.specs.Folder.{GroupsRise}
use Rattle.pm_model_folder.specs.Ledger.{Past}
use Rattle.pm_model_folder.specs.Runs.{view_of}
use Rattle.pm_made.specs.declared.newest.Author.{Author}
use Rattle.pm_made.specs.declared.newest.Newest.{Newest}
use Rattle.pm_choice.specs.Choice.{group_of, named_groups, IsChosen}
use Rattle.pm_choice.specs.Question.{appends_at, full_appends, question, rule_of}
use Rattle.pm_choice.specs.declared.choice.ChosenGroup.{ChosenGroup}
use Rattle.pm_compaction.specs.Plan.{NamesSoMany}
use Rattle.pm_plan.specs.Known.{AreChosenAt, AreStoredRuns, AreTakenAt, IsLoggedAt, IsTakenAt, KnowsPlanned, MayBegin}
use Rattle.pm_plan.specs.Planned.{IsPlanOf}
use Rattle.pm_plan.specs.declared.planned.Asking.{Asking}
use Rattle.pm_plan.specs.declared.planned.Planned.{Planned}

-- ---- what is taken of a group

all-mapped : {X Y : Type 0} (P : Y → Type 0) (f : X → Y) (xs : List X) → AllByRecursion P (map f xs) → AllByRecursion (λ (x : X). P (f x)) xs
all-mapped P f [] all = tt
all-mapped P f (x ∷ xs) all = (all.0, all-mapped P f xs all.1)

some-first : {X : Type 0} (n : ℕ) (xs : List X) → 1 ≤ n → 1 ≤ length xs → take n xs ≢ []
some-first zero xs least some none = absurd (omega (arith, least))
some-first (suc n) [] least some none = absurd (omega (arith, some))
some-first (suc n) (x ∷ xs) least some none = let clash : x ∷ take n xs ≡ [] = none in cc

low-out : (out take all top : ℕ) → ((take ≡ all) × (out ≡ top)) ⊎ ((take < all) × (out < top)) → out ≤ top
low-out out take all top (inl both) = let same = both.1 in omega (arith, same)
low-out out take all top (inr less) = let low = less.1 in omega (arith, low)

-- all runs go exactly to the highest level
all-top : (out take all top : ℕ) → ((take ≡ all) × (out ≡ top)) ⊎ ((take < all) × (out < top)) → take ≡ all → out ≡ top
all-top out take all top (inl both) is = both.1
all-top out take all top (inr less) is = let low = less.0 in absurd (omega (arith, low, is))

top-all : (out take all top : ℕ) → ((take ≡ all) × (out ≡ top)) ⊎ ((take < all) × (out < top)) → out ≡ top → take ≡ all
top-all out take all top (inl both) is = both.0
top-all out take all top (inr less) is = let low = less.1 in absurd (omega (arith, low, is))

abbrev taking-at : ℕ → Past → ChosenGroup → Taking
taking-at base p c = record {
  base = base;
  taken = take c.take (p.runs base c.group);
  rest = drop c.take (p.runs base c.group);
  out = c.out;
}

module _ (s : TableSchema) (base : ℕ) (p : Past) (since : p.since ≤ base) (after : 1 ≤ base) where
  is-taken : (c : ChosenGroup) → IsChosen (rule_of s) c → c.levels ≡ map view_of (p.runs base c.group) → AreStoredRuns s (p.runs base c.group)
      → IsTakenAt s base p c (taking-at base p c)
  is-taken c is levels stored =
      let runs : List KnownRun = p.runs base c.group in
      let first : take c.take c.levels ≡ map view_of (take c.take runs) = ap (λ (rs : List RunView). take c.take rs) levels ∙ take-map view_of c.take runs in
      let last : drop c.take c.levels ≡ map view_of (drop c.take runs) = ap (λ (rs : List RunView). drop c.take rs) levels ∙ drop-map view_of c.take runs in
      let many : length c.levels ≡ length runs = ap (λ (rs : List RunView). length rs) levels ∙ length-map runs view_of in
      record {
        chosen = is;
        levels = levels;
        runs = stored;
        based = refl;
        took = record {
          from = since;
          after_origin = after;
          to = omega arith;
          was = sym (take-append-drop c.take runs);
          some = some-first c.take runs is.choice.some (let least = is.choice.some in let within = is.choice.within in omega (arith, least, within, many));
          positive = is.choice.positive;
          within = low-out c.out c.take (length c.levels) (top_of s) is.choice.whole;
          low = all-mapped (λ (run : RunView). run.level ≤ c.out) view_of (take c.take runs)
              (subst (λ (rs : List RunView). AllByRecursion (λ (run : RunView). run.level ≤ c.out) rs) first is.choice.low);
          high = all-mapped (λ (run : RunView). c.out < run.level) view_of (drop c.take runs)
              (subst (λ (rs : List RunView). AllByRecursion (λ (run : RunView). c.out < run.level) rs) last is.choice.high);
        };
        out = refl;
        first = refl;
        others = refl;
        seen = sym first;
        whole = (
          λ whole. all-top c.out c.take (length c.levels) (top_of s) is.choice.whole (is.whole.0 whole),
          λ top. is.whole.1 (top-all c.out c.take (length c.levels) (top_of s) is.choice.whole top),
        );
      }

  all-taken : (cs : List ChosenGroup) → AllByRecursion (IsChosen (rule_of s)) cs → AreChosenAt base p cs
      → AllByRecursion (λ (c : ChosenGroup). AreStoredRuns s (p.runs base c.group)) cs → AreTakenAt s base p cs (map (taking-at base p) cs)
  all-taken [] are levels stored = tt
  all-taken (c ∷ cs) are levels stored = (is-taken c are.0 levels.0 stored.0, all-taken cs are.1 levels.1 stored.1)

-- ---- all of them

some-named : (cs : List ChosenGroup) → cs ≢ [] → named_groups cs ≢ []
some-named [] some none = some refl
some-named (c ∷ cs) some none = let clash : (c.group, c.whole) ∷ named_groups cs ≡ [] = none in cc

names-are : (cs : List ChosenGroup) → map group_of cs ≡ map (λ g. g.0) (named_groups cs)
names-are [] = refl
names-are (c ∷ cs) = ap (λ (gs : List Group). c.group ∷ gs) (names-are cs)

full-of : (asked : Asked) (o : Option Snapshot) (y : Snapshot) (appends : ℕ) → o ≡ Some y → full_appends asked o ≡ Some appends → appends ≡ y.appends
full-of Full o y appends is full = sym (ap (λ (n : Option ℕ). unwrap_or n 0) full) ∙ ap appends_at is
full-of LevelZero o y appends is full = let clash : None ≡ Some appends = full in absurd cc
full-of No o y appends is full = let clash : None ≡ Some appends = full in absurd cc

begins-as : (me : Actor) (p : Past) (asking : Asking) (x : Planned) → IsPlanOf asking x.schema x.newest x.left.items x → MayBegin me p asking x.schema x.newest x.left.items
    → KnowsPlanned me p x [] (map (taking-at x.newest.id p) x.left.items)
begins-as me p asking x is may = record {
  table = may.table;
  known = may.known;
  since = may.since;
  author = ap (λ (a : Author). a.base) is.author_is;
  names = subst (NamesSoMany me x.newest.id 0) (sym is.names_are) may.names;
  made = tt;
  left = all-taken x.schema x.newest.id p may.since may.known.after_origin x.left.items may.each may.levels may.stored;
  some = λ none. some-named x.left.items may.some (sym is.groups ∙ none);
  named = is.groups;
  rise = subst (λ gs. GroupsRise gs) (sym is.groups) (subst (λ (gs : List Group). IsStrictlySortedBy group_cmp gs) (names-are x.left.items) may.rise);
  goes = is.removed;
  comes = is.added;
  logs = subst (AllZip (IsLoggedAt x.schema x.newest.id p) []) (sym is.logs) tt;
  untold = is.changes;
  files = is.files;
  full = λ appends asked.
      let (y, found, at) = may.snapshot in
      (y, at, full-of (question asking.full x.schema x.newest.snapshot) x.newest.snapshot y appends found (sym is.full ∙ asked));
}

pub planned-begins : (me : Actor) (p : Past) (asking : Asking) (s : TableSchema) (newest : Newest) (chosen : List ChosenGroup) (x : Planned)
    → IsPlanOf asking s newest chosen x → MayBegin me p asking s newest chosen → (takings : List Taking) × KnowsPlanned me p x [] takings
planned-begins me p asking s newest chosen x is may = (
  map (taking-at x.newest.id p) x.left.items,
  begins-as me p asking x
      (subst (λ (cs : List ChosenGroup). IsPlanOf asking x.schema x.newest cs x) (sym is.left)
      (subst (λ (n : Newest). IsPlanOf asking x.schema n chosen x) (sym is.newest_is)
      (subst (λ (t : TableSchema). IsPlanOf asking t newest chosen x) (sym is.schema_is) is)))
      (subst (λ (cs : List ChosenGroup). MayBegin me p asking x.schema x.newest cs) (sym is.left)
      (subst (λ (n : Newest). MayBegin me p asking x.schema n chosen) (sym is.newest_is)
      (subst (λ (t : TableSchema). MayBegin me p asking t newest chosen) (sym is.schema_is) may))),
)
