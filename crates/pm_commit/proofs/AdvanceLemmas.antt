-- A change of an actor whose files no known snapshot names advances what is known.
use Rattle.std.proofs.Common.{◌≡◌, ◌≢◌, ◌⊎◌, inl, inr, ◌↔◌, ℕ, zero, suc, ◌+◌, ◌-◌, ◌≤◌, ◌==◌, Bool, true, false, if◌then◌else◌, List, [], ◌∷◌, ◌++◌, Contains, drop, get_or, length, length-append, take, Option, None, Some, IsSome, refl, sym, ap, subst, ◌∙◌, eqb-true, true≢false, arith}
use Rattle.std.specs.FinMap as map
use Rattle.std.proofs.lemmas.Bool.{eq-eqb}
use Rattle.pm_store.specs.Files.{Files, Puts}
use Rattle.pm_model_history.specs.History.{Entry, History, IsTableOf, no_table, table}
use Rattle.pm_values.specs.declared.group.Group.{Group}
use Rattle.pm_schema.specs.declared.schema.TableSchema.{TableSchema}
use Rattle.pm_snapshot.specs.Names.{greatest, snapshot_name}
use Rattle.pm_snapshot.specs.declared.snapshot.Snapshot.{Snapshot}
use Rattle.pm_model_contents.specs.Named.{Contents, HasContents, IsNamed}
use Rattle.pm_model_folder.specs.Changes.{Actor, Change, HavePlainNames, IsNamedBy, IsNoOrigin, IsOwn, IsTablePath, NamesOwn, nothing, own_file}
use Rattle.pm_model_folder.specs.Commits.{IsCommitted, Names, Needs}
use Rattle.pm_model_folder.specs.Folder.{HasTable}
use Rattle.pm_model_folder.specs.Ledger.{Advances, HasNamedNone, IsKnown, IsOldOrUnnamed, IsUnnamed, KnowsTable, Past, RunsFollow, Stands, count_of, untouched}
use Rattle.pm_model_folder.specs.Meaning.{HasSnapshotAt, SnapshotAt}
use Rattle.pm_model_folder.specs.Paths.{consumer_path, snapshot_path}
use Rattle.pm_model_folder.specs.Runs.{AreInFiles}
use Rattle.pm_model_folder.proofs.Facts.{same-or-other, some-none, split-last, still_there}
use Rattle.pm_model_folder.proofs.HoldLemmas.{OneContents, SameContents, one-commit}
use Rattle.pm_model_folder.proofs.LedgerFacts.{NoneGoes, at-table, beside, count-is, is-table, none-gone, none-puts, none-spared, one-entry}
use Rattle.pm_model_folder.proofs.PathLemmas.{consumer-own, consumer-snapshot}
use Rattle.pm_runs.specs.Succession.{Follows, KnownRun}
use Rattle.pm_paths.proofs.ListLemmas.{cases, here, more, nowhere}
use Rattle.pm_read_table.specs.Named.{named_paths, parts_of}
use Rattle.pm_read_table.specs.View.{live_entries}
use Rattle.pm_commit.proofs.PathLemmas.{names-in, not-schema, not-snapshot, same-id, snapshot-schema}

-- ---- whether a path is in a list

nil-cons : (b : ℕ) (bs : List ℕ) → [] ≢ b ∷ bs
nil-cons b bs e = cc

cons-nil : (b : ℕ) (bs : List ℕ) → b ∷ bs ≢ []
cons-nil b bs e = cc

same-list : (a b : List ℕ) → (a ≡ b) ⊎ (a ≢ b)
same-list [] [] = inl refl
same-list [] (y ∷ b) = inr (nil-cons y b)
same-list (x ∷ a) [] = inr (cons-nil x a)
same-list (x ∷ a) (y ∷ b) = elim (same-or-other x y) as (λ _. (x ∷ a ≡ y ∷ b) ⊎ (x ∷ a ≢ y ∷ b)) [
  | inr other ↦ inr (λ e. other (ap (λ (l : List ℕ). get_or l 0 0) e))
  | inl first ↦ elim (same-list a b) as (λ _. (x ∷ a ≡ y ∷ b) ⊎ (x ∷ a ≢ y ∷ b)) [
    | inl rest ↦ inl (λ i. first i ∷ rest i)
    | inr other ↦ inr (λ e. other (ap (drop 1) e))
  ]
]

is-in : (paths : List (List ℕ)) (path : List ℕ) → Contains paths path ⊎ (Contains paths path → ⊥)
is-in [] path = inr (λ c. nowhere path c)
is-in (first ∷ paths) path = elim (same-list first path) as (λ _. Contains (first ∷ paths) path ⊎ (Contains (first ∷ paths) path → ⊥)) [
  | inl same ↦ inl (subst (λ (q : List ℕ). Contains (first ∷ paths) q) same (here first paths))
  | inr other ↦ elim (is-in paths path) as (λ _. Contains (first ∷ paths) path ⊎ (Contains (first ∷ paths) path → ⊥)) [
    | inl later ↦ inl (more first paths path later)
    | inr none ↦ inr (λ c. elim (cases first paths path c) as (λ _. ⊥) [ inl same ↦ other same | inr later ↦ none later ])
  ]
]

-- ---- one table

pub one-table : (s t : TableSchema) (h : History) → IsTableOf s h → IsTableOf t h → s ≡ t
one-table s t no_table one other = absurd one
one-table s t (table u entries) one other = sym one ∙ other

-- what the law of listed paths says
abbrev pub NamedPaths : Type 0
NamedPaths = (s : TableSchema) (x : Snapshot) (c : Contents) (path : List ℕ)
    → Contains (named_paths s x (parts_of (c.base ++ c.delta) (live_entries c.entries) c.changelog c.changes)) path ↔ IsNamed s x c path

-- ---- nothing changes

pub same-advances : (me : Actor) (f after : Files) (p : Past) → ((path : List ℕ) → map.get after path ≡ map.get f path) → Advances me f p after p
same-advances me f after p same =
    beside me f after p p.history (nothing same) refl (λ s path is none here. absurd (some-none (map.get after path) here (same path ∙ none)))
    (λ path there. still_there f after path (same path) there) (λ name. same (consumer_path name))

-- ---- a path that no known snapshot needs appears

-- a file that the actor named
pub own-unnamed : (me : Actor) (p : Past) (s : TableSchema) (path : List ℕ) → IsTableOf s p.history → HasNamedNone me p → IsTablePath path → IsNamedBy me path
    → IsUnnamed p s path
own-unnamed me p s path is none at by id known (inl same) = not-snapshot (snapshot_name id) path at (sym same)
own-unnamed me p s path is none at by id known (inr (inl (x, there, same))) = not-schema x.schema_id path at (sym same)
own-unnamed me p s path is none at by id known (inr (inr named)) = none s id path is known named by

-- the snapshot after the newest
next-unnamed : (p : Past) (s : TableSchema) (entries : List Entry) → HavePlainNames s → p.history ≡ table s entries → suc (length entries) ≤ greatest
    → IsUnnamed p s (snapshot_path (suc (length entries)))
next-unnamed p s entries plain was bound id known (inl same) =
    let high = known.to in
    let many = count-is p s entries was in
    let one = same-id (suc (length entries)) id bound (omega (arith, high, many, bound)) same in
    omega (arith, one, high, many)
next-unnamed p s entries plain was bound id known (inr (inl (x, there, same))) = snapshot-schema (suc (length entries)) x.schema_id same
next-unnamed p s entries plain was bound id known (inr (inr named)) =
    let path : List ℕ = snapshot_path (suc (length entries)) in
    not-snapshot (snapshot_name (suc (length entries))) path (names-in (p.stood id) s id path plain named) refl

-- where it alone changed, what appears is unnamed
fresh-at : (f after : Files) (p : Past) (s : TableSchema) (path : List ℕ) (content : Option (List ℕ)) → IsTableOf s p.history → IsUnnamed p s path
    → Puts f path content after → (t : TableSchema) (q : List ℕ) → IsTableOf t p.history → map.get f q ≡ None → IsSome (map.get after q) → IsUnnamed p t q
fresh-at f after p s path content is unnamed puts t q same none here id known needs =
    let one = one-table t s p.history same is in
    let own : Needs (p.stood id) s id q = subst (λ (u : TableSchema). Needs (p.stood id) u id q) one needs in
    let apart : q ≢ path = λ e. unnamed id known (subst (λ (q : List ℕ). Needs (p.stood id) s id q) e own) in
    some-none (map.get after q) here (puts.others q apart ∙ none)

pub own-advances : (me : Actor) (f after : Files) (p : Past) (s : TableSchema) (path content : List ℕ) → IsTableOf s p.history → HasNamedNone me p
    → IsOwn me path → IsTablePath path → IsNamedBy me path → IsNoOrigin p.history path → map.get f path ≡ None → Puts f path (Some content) after
    → Advances me f p after p
own-advances me f after p s path content is none own at by apart absent puts =
    beside me f after p p.history (own_file path content own apart absent puts) refl
    (fresh-at f after p s path (Some content) is (own-unnamed me p s path is none at by) puts) (none-puts f after path content puts)
    (λ name. puts.others (consumer_path name) (consumer-own me path name own))

-- ---- rows are appended

-- what a known snapshot that is there names, it named when it was committed
named-stood : OneContents → SameContents → (f : Files) (p : Past) (s : TableSchema) (entries : List Entry) (id : ℕ) (path : List ℕ) → KnowsTable f s entries p
    → (known : IsKnown p id) → HasSnapshotAt f s id → (commit : IsCommitted (p.stood id) s (take id entries) id) → Names f s id path
    → IsNamed s commit.snapshot commit.contents path
named-stood one same f p s entries id path past known there commit (x, c, has, named) =
    let kept = (past.kept id known).there there in
    let y = commit.snapshot in
    let d = commit.contents in
    let at : SnapshotAt f id y = (commit.there.0, kept (snapshot_path id) (inl refl) ∙ commit.there.1, commit.there.2) in
    let held : HasContents f s y d = same (p.stood id) f s y d (λ q is. kept q (inr (inr (y, d, (commit.there, commit.has), is)))) commit.has in
    let both = one-commit one f s id x y c d has (at, held) in
    subst (λ (d : Contents). IsNamed s y d path) both.1 (subst (λ (y : Snapshot). IsNamed s y c path) both.0 named)

-- the past once rows were appended, and the groups have these runs
abbrev pub later_past : Past → TableSchema → List Entry → Entry → Files → (Group → List KnownRun) → Past
later_past p s entries e after new = record {
  history = table s (entries ++ e ∷ []);
  first = p.first;
  stood = λ id. if id == suc (length entries) then after else p.stood id;
  since = p.since;
  runs = λ id g. if id == suc (length entries) then new g else p.runs id g;
  claims = p.claims;
}

at-other : {A : Type 0} (f g : A) (id n : ℕ) → id ≢ n → (if id == n then f else g) ≡ g
at-other f g id n other = by_test (id == n) refl
  where
    by_test : (b : Bool) → (id == n) ≡ b → (if b then f else g) ≡ g
    by_test true same = absurd (other (eqb-true id n same))
    by_test false differ = refl

at-same : {A : Type 0} (f g : A) (id n : ℕ) → id ≡ n → (if id == n then f else g) ≡ f
at-same f g id n is = by_test (id == n) refl
  where
    by_test : (b : Bool) → (id == n) ≡ b → (if b then f else g) ≡ f
    by_test true same = refl
    by_test false differ = absurd (true≢false (sym (eq-eqb id n is) ∙ differ))

-- a group's runs at the new snapshot are those of its files, and follow
abbrev pub GoesWith : Files → Past → TableSchema → List Entry → Entry → Group → List KnownRun → Type 0
GoesWith after p s entries e g new =
    AreInFiles after s (suc (length entries)) g new × Follows s g p.since (λ n. p.runs n g) (length entries) e new

module _ (one : OneContents) (same : SameContents) (paths : NamedPaths) (me : Actor) (f after : Files) (p : Past) (s : TableSchema) (entries : List Entry) (e : Entry)
    (content : List ℕ) (stands : Stands f p) (plain : HavePlainNames s) (was : p.history ≡ table s entries) (none : HasNamedNone me p)
    (newest : HasSnapshotAt f s (length entries)) (bound : suc (length entries) ≤ greatest) (puts : Puts f (snapshot_path (suc (length entries))) (Some content) after)
    (own : NamesOwn me f after s (length entries)) (new : Group → List KnownRun) (goes : (g : Group) → GoesWith after p s entries e g (new g)) where
  abbrev n : ℕ
  n = length entries

  abbrev q : Past
  q = later_past p s entries e after new

  is : IsTableOf s p.history
  is = is-table p s entries was

  many : count_of p.history ≡ n
  many = count-is p s entries was

  size : count_of q.history ≡ suc n
  size = length-append entries (e ∷ []) ∙ (let next : n + 1 ≡ suc n = omega arith in next)

  own-table : (es : List Entry) × (p.history ≡ table s es) × HasTable f s es × KnowsTable f s es p
  own-table = at-table f p s stands is

  -- what is new of the newest was named by the actor
  new-named : (path : List ℕ) → Names after s (suc n) path → (Names f s n path → ⊥) → IsUnnamed p s path
  new-named path named differs = own-unnamed me p s path is none (names-in after s (suc n) path plain named) (own path named differs)

  old-or-unnamed : (path : List ℕ) → Names after s (suc n) path → (IsKnown p n × Names (p.stood n) s n path) ⊎ IsUnnamed p s path
  old-or-unnamed path named = at n refl
    where
      at : (k : ℕ) → n ≡ k → (IsKnown p n × Names (p.stood n) s n path) ⊎ IsUnnamed p s path
      at zero first = inr (λ id known needs. (let low = known.after_origin in let high = known.to in omega (arith, low, high, many, first)))
      at (suc k) later =
          let own_size : length own-table.0 ≡ n = sym (count-is p s own-table.0 own-table.1) ∙ many in
          let known : IsKnown p n = record {
            after_origin = omega (arith, later);
            from = own-table.3.reaches n (omega (arith, later)) (omega (arith, own_size)) newest;
            to = omega (arith, many);
          } in
          let commit = own-table.3.committed n known in
          let x = commit.snapshot in
          let c = commit.contents in
          let exact = paths s x c path in
          elim (is-in (named_paths s x (parts_of (c.base ++ c.delta) (live_entries c.entries) c.changelog c.changes)) path)
          as (λ _. (IsKnown p n × Names (p.stood n) s n path) ⊎ IsUnnamed p s path) [
            | inl found ↦ inl (known, (x, c, (commit.there, commit.has), exact.0 found))
            | inr absent ↦ inr (new-named path named
                (λ old. absent (exact.1 (named-stood one same f p s own-table.0 n path own-table.3 known newest commit old))))
          ]

  -- a snapshot that is known now and wasn't is the next one
  last-known : (id : ℕ) → IsKnown q id → (IsKnown p id → ⊥) → id ≡ suc n
  last-known id known unknown = elim (split-last n id (let high = known.to in omega (arith, high, size))) as (λ _. id ≡ suc n) [
    | inl low ↦ absurd (unknown (record { after_origin = known.after_origin; from = known.from; to = omega (arith, low, many) }))
    | inr last ↦ last
  ]

  old-known : (id : ℕ) → IsKnown p id → id ≢ suc n
  old-known id known last = let high = known.to in omega (arith, high, many, last)

  new-advances : (t : TableSchema) (id : ℕ) (path : List ℕ) → IsTableOf t q.history → IsKnown q id → (IsKnown p id → ⊥) → Names after t id path
      → IsOldOrUnnamed p t id path
  new-advances t id path is_t known unknown named =
      let last = last-known id known unknown in
      let before : id - 1 ≡ n = omega (arith, last) in
      let here : Names after s (suc n) path = subst (λ (k : ℕ). Names after s k path) last (subst (λ (u : TableSchema). Names after u id path) (sym is_t) named) in
      subst (λ (u : TableSchema). IsOldOrUnnamed p u id path) is_t
      (subst (λ (k : ℕ). (IsKnown p k × Names (p.stood k) s k path) ⊎ IsUnnamed p s path) (sym before) (old-or-unnamed path here))

  -- the runs of the new snapshot
  runs-follow : (g : Group) → RunsFollow after s entries e g p q
  runs-follow g =
      let is : q.runs (suc n) g ≡ new g = at-same (new g) (p.runs (suc n) g) (suc n) (suc n) refl in record {
        are = subst (AreInFiles after s (suc n) g) (sym is) (goes g).0;
        follow = subst (Follows s g p.since (λ k. p.runs k g) n e) (sym is) (goes g).1;
      }

  none-goes : NoneGoes f after
  none-goes = none-puts f after (snapshot_path (suc n)) content puts

  pub append-advances : Change me f (table s entries) after q.history → Advances me f p after q
  append-advances change = record {
    change = subst (λ (h : History). Change me f h after q.history) (sym was) change;
    fresh = fresh-at f after p s (snapshot_path (suc n)) (Some content) is (next-unnamed p s entries plain was bound) puts;
    first = refl;
    same = λ id known. at-other after (p.stood id) id (suc n) (old-known id known);
    stood = λ id known unknown. at-same after (p.stood id) id (suc n) (last-known id known unknown);
    new = new-advances;
    since = refl;
    runs = λ id g within. at-other (new g) (p.runs id g) id (suc n) (λ last. omega (arith, within, many, last));
    follows = λ t es d g before now.
        one-entry (λ (t : TableSchema) (es : List Entry) (d : Entry). RunsFollow after t es d g p q) s t entries es e d (sym was ∙ before) now (runs-follow g);
    consumers = untouched (λ name. puts.others (consumer_path name) (consumer-snapshot name (snapshot_name (suc n))));
    gone = λ t path is_t in_table there absent. none-gone f after p t path none-goes there absent;
    spared = λ t least is_t first gone. none-spared f after p.claims t least none-goes first gone;
  }
