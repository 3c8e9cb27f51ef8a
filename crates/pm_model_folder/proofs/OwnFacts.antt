-- Which snapshot is the newest, and that no snapshot comes to name a file that an actor named and didn't commit.
use Rattle.std.proofs.Common.{◌≡◌, ◌≢◌, inl, inr, ℕ, zero, suc, ◌+◌, ◌-◌, ◌≤◌, nat_le, List, [], ◌∷◌, ◌++◌, length, length-append, true, false, Bool, Option, None, IsSome, Ok, refl, sym, ap, subst, ◌∙◌, arith}
use Rattle.std.specs.FinMap as map
use Rattle.std.proofs.lemmas.Bool.Decides.{nat_tests}
use Rattle.pm_store.specs.Files.{Files}
use Rattle.pm_model_history.specs.History.{Entry, History, IsTableOf, table}
use Rattle.pm_schema.specs.declared.schema.TableSchema.{TableSchema}
use Rattle.pm_snapshot.specs.Names.{greatest}
use Rattle.pm_snapshot.specs.Snapshot.{IsConsistent, snapshot_in}
use Rattle.pm_snapshot.specs.declared.snapshot.Snapshot.{Snapshot}
use Rattle.pm_model_contents.specs.Named.{Contents, HasContents, IsNamed}
use Rattle.pm_model_folder.specs.Changes.{Actor, Change, IsNamedBy, NamesOwn, beside, committed, nothing, own_file, schema}
use Rattle.pm_model_folder.specs.Commits.{Names}
use Rattle.pm_model_folder.specs.Folder.{HasTable}
use Rattle.pm_model_folder.specs.Ledger.{Advances, HasNamedNone, IsKnown, IsOldOrUnnamed, KnowsTable, Past, Stands, count_of}
use Rattle.pm_model_folder.specs.Meaning.{HasSnapshotAt, SnapshotAt}
use Rattle.pm_model_folder.specs.Paths.{snapshot_path}
use Rattle.pm_model_folder.proofs.Facts.{some-none}
use Rattle.pm_model_folder.proofs.HoldLemmas.{OneContents, SameContents, one-commit}
use Rattle.pm_model_folder.proofs.LedgerFacts.{at-table, count-is, is-table}

-- ---- the newest snapshot

pub newest-is : (f : Files) (s : TableSchema) (entries : List Entry) (id : ℕ) → HasTable f s entries → HasSnapshotAt f s id → id + 1 ≤ greatest
    → map.get f (snapshot_path (id + 1)) ≡ None → id ≡ length entries
newest-is f s entries id folder there within absent = at (nat_le (id + 1) (length entries)) refl
  where
    bounds : (folder.snapshots.least ≤ id) × (id ≤ length entries)
    bounds = (folder.snapshots.exact id (omega (arith, within))).0 there

    at : (t : Bool) → nat_le (id + 1) (length entries) ≡ t → id ≡ length entries
    at false above = let high = bounds.1 in grind (arith, nat_tests)
    at true below =
        let next : suc id ≡ id + 1 = omega arith in
        let low = bounds.0 in
        let here : HasSnapshotAt f s (suc id) = (folder.snapshots.exact (suc id) (omega (arith, within))).1 (omega (arith, low), grind (arith, nat_tests)) in
        absurd (some-none (map.get f (snapshot_path (suc id))) here (ap (λ n. map.get f (snapshot_path n)) next ∙ absent))

-- ---- what the laws of lower crates say

-- a file is named by one actor at most
abbrev pub OneNamer : Type 0
OneNamer = (me other : Actor) (path : List ℕ) → IsNamedBy me path → IsNamedBy other path → me ≡ other

-- what the file of an id reads as bears it, and is consistent
abbrev pub BearsId : Type 0
BearsId = (id : ℕ) (text : List ℕ) (x : Snapshot) → snapshot_in id text ≡ Ok x → x.id ≡ id

abbrev pub AreConsistent : Type 0
AreConsistent = (id : ℕ) (text : List ℕ) (x : Snapshot) → snapshot_in id text ≡ Ok x → IsConsistent x

-- ---- what the newest snapshot names

-- no file is that of a snapshot 0
none-first : BearsId → AreConsistent → (f : Files) (s : TableSchema) (path : List ℕ) → Names f s 0 path → ⊥
none-first bears consistent f s path (x, c, ((bytes, there, reads), has), named) =
    let id = bears 0 bytes x reads in
    let below = (consistent 0 bytes x reads).base_below in
    omega (arith, id, below)

-- what a known snapshot that is there names, it named when it was committed
named-stood : OneContents → SameContents → (f : Files) (p : Past) (s : TableSchema) (entries : List Entry) (id : ℕ) (path : List ℕ) → KnowsTable f s entries p
    → IsKnown p id → HasSnapshotAt f s id → Names f s id path → Names (p.stood id) s id path
named-stood one same f p s entries id path past known there (x, c, has, named) =
    let commit = past.committed id known in
    let kept = (past.kept id known).there there in
    let y = commit.snapshot in
    let d = commit.contents in
    let at : SnapshotAt f id y = (commit.there.0, kept (snapshot_path id) (inl refl) ∙ commit.there.1, commit.there.2) in
    let held : HasContents f s y d = same (p.stood id) f s y d (λ q is. kept q (inr (inr (y, d, (commit.there, commit.has), is)))) commit.has in
    let both = one-commit one f s id x y c d has (at, held) in
    (y, d, (commit.there, commit.has), subst (λ (d : Contents). IsNamed s y d path) both.1 (subst (λ (y : Snapshot). IsNamed s y c path) both.0 named))

-- so where no known snapshot names a file of the actor, none that is there does
pub none-here : OneContents → SameContents → BearsId → AreConsistent → (me : Actor) (f : Files) (p : Past) (s : TableSchema) (id : ℕ) (path : List ℕ)
    → Stands f p → IsTableOf s p.history → id ≤ greatest → HasNamedNone me p → Names f s id path → IsNamedBy me path → ⊥
none-here one same bears consistent me f p s zero path stands is within none named by = none-first bears consistent f s path named
none-here one same bears consistent me f p s (suc k) path stands is within none named by =
    let t = at-table f p s stands is in
    let there : HasSnapshotAt f s (suc k) = subst (λ (o : Option (List ℕ)). IsSome o) (sym named.2.0.1) refl in
    let bounds = (t.2.snapshots.exact (suc k) within).0 there in
    let known : IsKnown p (suc k) = record {
      after_origin = omega arith;
      from = t.3.reaches (suc k) (omega arith) bounds.1 there;
      to = (let high = bounds.1 in let many = count-is p s t.0 t.1 in omega (arith, high, many));
    } in
    none s (suc k) path is known (named-stood one same f p s t.0 (suc k) path t.3 known there named) by

module _ (one : OneContents) (same : SameContents) (namer : OneNamer) (bears : BearsId) (consistent : AreConsistent)
    (me other : Actor) (f after : Files) (p q : Past) (stands : Stands f p) (advances : Advances other f p after q) (none : HasNamedNone me p) where
  -- a snapshot that was known names none of them
  still-none : (s : TableSchema) (id : ℕ) (path : List ℕ) → IsTableOf s p.history → IsKnown p id → Names (q.stood id) s id path → IsNamedBy me path → ⊥
  still-none s id path is known named by =
      none s id path is known (subst (λ (g : Files). Names g s id path) (advances.same id known) named) by

  known-before : (id : ℕ) → count_of q.history ≡ count_of p.history → IsKnown q id → IsKnown p id
  known-before id many known = record {
    after_origin = known.after_origin;
    from = (let from = known.from in let first = advances.first in omega (arith, from, first));
    to = (let to = known.to in omega (arith, to, many));
  }

  -- where the history stays
  same-none : (h : History) → p.history ≡ h → q.history ≡ h → HasNamedNone me q
  same-none h was now s id path is known named by =
      still-none s id path (subst (λ (h : History). IsTableOf s h) (now ∙ sym was) is) (known-before id (ap count_of (now ∙ sym was)) known) named by

  -- where rows were appended by another actor
  module _ (s : TableSchema) (entries : List Entry) (e : Entry) (apart : me ≢ other) (was : p.history ≡ table s entries)
      (now : q.history ≡ table s (entries ++ e ∷ [])) (newest : HasSnapshotAt f s (length entries)) (bound : suc (length entries) ≤ greatest)
      (own : NamesOwn other f after s (length entries)) where
    abbrev n : ℕ
    n = length entries

    is-one : IsTableOf s p.history
    is-one = is-table p s entries was

    now-one : IsTableOf s q.history
    now-one = is-table q s (entries ++ e ∷ []) now

    many : count_of p.history ≡ n
    many = count-is p s entries was

    more : count_of q.history ≡ suc n
    more = count-is q s (entries ++ e ∷ []) now ∙ length-append entries (e ∷ []) ∙ (let next : n + 1 ≡ suc n = omega arith in next)

    -- the newest snapshot names no file that none named
    newest-not : (path : List ℕ) → ((id : ℕ) → IsKnown p id → Names (p.stood id) s id path → ⊥) → Names f s n path → ⊥
    newest-not path unnamed named = at n refl
      where
        at : (k : ℕ) → n ≡ k → ⊥
        at zero first = none-first bears consistent f s path (subst (λ (k : ℕ). Names f s k path) first named)
        at (suc k) later =
            let t = at-table f p s stands is-one in
            let size : length t.0 ≡ n = sym (count-is p s t.0 t.1) ∙ many in
            let known : IsKnown p n = record {
              after_origin = omega (arith, later);
              from = t.3.reaches n (omega (arith, later)) (omega (arith, size)) newest;
              to = omega (arith, many);
            } in
            unnamed n known (named-stood one same f p s t.0 n path t.3 known newest named)

    appended-none : HasNamedNone me q
    appended-none t id path is known named by = at (nat_le id n) refl
      where
        same_table : s ≡ t
        same_table = subst (λ (h : History). IsTableOf t h) now is

        here : Names (q.stood id) s id path
        here = subst (λ (t : TableSchema). Names (q.stood id) t id path) (sym same_table) named

        at : (b : Bool) → nat_le id n ≡ b → ⊥
        at true low =
            let before : IsKnown p id = record {
              after_origin = known.after_origin;
              from = (let from = known.from in let first = advances.first in omega (arith, from, first));
              to = grind (arith, nat_tests, many);
            } in
            still-none s id path is-one before here by
        at false above =
            let to = known.to in
            let last : id ≡ suc n = grind (arith, nat_tests, more) in
            let unknown : IsKnown p id → ⊥ = λ was_known. (let high = was_known.to in omega (arith, high, many, last)) in
            let fresh : Names after s id path = subst (λ (g : Files). Names g s id path) (advances.stood id known unknown) here in
            decide last fresh (advances.new s id path now-one known unknown fresh)
          where
            decide : id ≡ suc n → Names after s id path → IsOldOrUnnamed p s id path → ⊥
            decide last fresh (inl (before, was_named)) = none s (id - 1) path is-one before was_named by
            decide last fresh (inr unnamed) =
                let others : (k : ℕ) → IsKnown p k → Names (p.stood k) s k path → ⊥ = λ k was_known was_named. unnamed k was_known (inr (inr was_named)) in
                let theirs = own path (subst (λ (k : ℕ). Names after s k path) last fresh) (newest-not path others) in
                apart (namer me other path by theirs)

  pub others-none : me ≢ other → HasNamedNone me q
  others-none apart = at p.history q.history refl refl advances.change
    where
      at : (h later : History) → p.history ≡ h → q.history ≡ later → Change other f h after later → HasNamedNone me q
      at h later was now (nothing stays) = same-none h was now
      at h later was now (own_file path content own no_origin absent puts) = same-none h was now
      at h later was now (schema s bytes origin named puts reads) = λ t id path is known named by.
          (let low = known.after_origin in let high = known.to in let many = count-is q s [] now in absurd (omega (arith, low, high, many)))
      at h later was now (committed s entries e bytes newest bound absent puts fit commit own) =
          appended-none s entries e apart was now newest bound own
      at h later was now (beside s entries plain change) = same-none (table s entries) was now

  -- a step that commits nothing
  pub own-none : count_of q.history ≡ count_of p.history → HasNamedNone me q
  own-none many = at p.history q.history refl refl advances.change
    where
      at : (h later : History) → p.history ≡ h → q.history ≡ later → Change other f h after later → HasNamedNone me q
      at h later was now (nothing stays) = same-none h was now
      at h later was now (own_file path content own no_origin absent puts) = same-none h was now
      at h later was now (schema s bytes origin named puts reads) = λ t id path is known named by.
          (let low = known.after_origin in let high = known.to in let none = count-is q s [] now in absurd (omega (arith, low, high, none)))
      at h later was now (committed s entries e bytes newest bound absent puts fit commit own) =
          let before = count-is p s entries was in
          let longer = count-is q s (entries ++ e ∷ []) now in
          let size = length-append entries (e ∷ []) in
          absurd (omega (arith, many, before, longer, size))
      at h later was now (beside s entries plain change) = same-none (table s entries) was now
