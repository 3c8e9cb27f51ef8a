-- Of a folder that stands no snapshot between two others lacks, so the chain that counts is all.
use Rattle.std.proofs.Common.{◌≡◌, ◌≢◌, inl, inr, ℕ, zero, suc, ◌+◌, ◌-◌, ◌<◌, ◌≤◌, ℤ, List, [], ◌∷◌, ◌++◌, slice_index, Contains, length, map, IsSome, refl, sym, ap, ◌∙◌, subst, arith}
use Rattle.std.specs.FinMap as finite
use Rattle.std.specs.List.Sorted.{IsStrictlyIncreasing}
use Rattle.std.proofs.lemmas.List.Kept.{AllPairs-from_increasing}
use Rattle.pm_store.specs.Files.{Files}
use Rattle.pm_model_history.specs.History.{Entry}
use Rattle.pm_schema.specs.declared.schema.TableSchema.{TableSchema}
use Rattle.pm_snapshot.specs.Names.{greatest}
use Rattle.pm_model_folder.specs.Folder.{HasTable, HasSnapshots}
use Rattle.pm_model_folder.specs.Meaning.{HasSnapshotAt}
use Rattle.pm_model_folder.specs.Paths.{snapshot_path}
use Rattle.pm_paths.proofs.ListLemmas.{cases, here, more}
use Rattle.pm_expire_end.specs.Expiry.{first_id, id_at, last_id}
use Rattle.pm_snapshots.specs.AllCalls.{AreIdsOf, AreLinesOf}
use Rattle.pm_snapshots.specs.declared.line.SnapshotLine.{SnapshotLine}
use Rattle.pm_read_expiry.specs.Times.{times_of, IsChain}

abbrev pub ids_in : List (ℕ × ℤ) → List ℕ
ids_in times = map (λ (t : ℕ × ℤ). t.0) times

abbrev pub ids_of : List SnapshotLine → List ℕ
ids_of lines = map (λ (l : SnapshotLine). l.id) lines

pub same_ids : (lines : List SnapshotLine) → ids_of lines ≡ ids_in (times_of lines)
same_ids [] = refl
same_ids (l ∷ lines) = ap (λ (ids : List ℕ). l.id ∷ ids) (same_ids lines)

pub above_head : (x : ℕ) (xs : List ℕ) → IsStrictlyIncreasing (x ∷ xs) → (y : ℕ) → Contains xs y → x < y
above_head x xs rises y c =
    let below = c.1 in
    subst (λ (z : ℕ). x < z) c.2 (AllPairs-from_increasing (x ∷ xs) rises 0 (suc c.0) y (omega arith) (omega (arith, below)))

-- between two of the numbers none lacks
abbrev pub IsDense : List ℕ → Type 0
IsDense ids = (low high : ℕ) → Contains ids low → Contains ids high → low < high → Contains ids (low + 1)

pub rising_tail : (x : ℕ) (xs : List ℕ) → IsStrictlyIncreasing (x ∷ xs) → IsStrictlyIncreasing xs
rising_tail x xs rises = λ k within.
    let more : suc k + 1 ≡ suc (k + 1) = omega arith in
    subst (λ (n : ℕ). slice_index xs k < slice_index (x ∷ xs) n) more (rises (suc k) (omega (arith, within)))

-- after the origin a snapshot is there where its path is
pub snapshot_at : (f : Files) (s : TableSchema) (id : ℕ) → 1 ≤ id → IsSome (finite.get f (snapshot_path id)) → HasSnapshotAt f s id
snapshot_at f s zero after there = absurd (omega (arith, after))
snapshot_at f s (suc id) after there = there

pub at_snapshot : (f : Files) (s : TableSchema) (id : ℕ) → 1 ≤ id → HasSnapshotAt f s id → IsSome (finite.get f (snapshot_path id))
at_snapshot f s zero after there = absurd (omega (arith, after))
at_snapshot f s (suc id) after there = there

module _ (f : Files) (s : TableSchema) (newest : ℕ) (ids : List ℕ) (has : HasSnapshots f s newest) (are : AreIdsOf f ids) where
  pub in_range : (id : ℕ) → Contains ids id → (1 ≤ id) × (id ≤ greatest) × (has.least ≤ id) × (id ≤ newest)
  in_range id c =
      let at = (are.exact id).0 c in
      let within = (has.exact id at.1).0 (snapshot_at f s id at.0 at.2) in
      (at.0, at.1, within.0, within.1)

  pub listed : (id : ℕ) → 1 ≤ id → has.least ≤ id → id ≤ newest → Contains ids id
  listed id after from to =
      let top = has.within in
      let low : id ≤ greatest = omega (arith, to, top) in
      (are.exact id).1 (after, low, at_snapshot f s id after ((has.exact id low).1 (from, to)))

  -- none lacks between two that are there
  pub none_lacks : IsDense ids
  none_lacks low high one other below =
      let least = in_range low one in
      let most = in_range high other in
      let from = least.2 in
      let to = most.3 in
      listed (low + 1) (omega arith) (omega (arith, from)) (omega (arith, to, below))

pub dense_tail : (x : ℕ) (xs : List ℕ) → IsStrictlyIncreasing (x ∷ xs) → IsDense (x ∷ xs) → IsDense xs
dense_tail x xs rising dense low high one other below =
    elim (cases x xs (low + 1) (dense low high (more x xs low one) (more x xs high other) below)) as (λ _. Contains xs (low + 1)) [
      | inl same ↦ (let above = above_head x xs rising low one in absurd (omega (arith, above, same)))
      | inr later ↦ later
    ]

pub last_tail : (t v : ℕ × ℤ) (before : List (ℕ × ℤ)) → last_id (t ∷ v ∷ before) ≡ last_id (v ∷ before)
last_tail t v before =
    let size : ℕ = length before in
    let all : suc (suc size) - 1 ≡ suc size = omega arith in
    let fewer : size ≡ suc size - 1 = omega arith in
    ap (λ (k : ℕ). id_at (t ∷ v ∷ before) k) all ∙ ap (λ (k : ℕ). id_at (v ∷ before) k) fewer

pub follows : (before : List (ℕ × ℤ)) (u : ℕ × ℤ) (chain : List (ℕ × ℤ)) → IsStrictlyIncreasing (ids_in (before ++ u ∷ chain))
    → IsDense (ids_in (before ++ u ∷ chain)) → 0 < length before → last_id before + 1 ≡ u.0
follows [] u chain rising dense some = absurd (omega (arith, some))
follows (t ∷ []) u chain rising dense some =
    let rest : List ℕ = ids_in chain in
    let next : Contains (u.0 ∷ rest) u.0 = here u.0 rest in
    let below : t.0 < u.0 = above_head t.0 (u.0 ∷ rest) rising u.0 next in
    elim (cases t.0 (u.0 ∷ rest) (t.0 + 1) (dense t.0 u.0 (here t.0 (u.0 ∷ rest)) (more t.0 (u.0 ∷ rest) u.0 next) below)) as (λ _. t.0 + 1 ≡ u.0) [
      | inl same ↦ absurd (omega (arith, same))
      | inr later ↦ elim (cases u.0 rest (t.0 + 1) later) as (λ _. t.0 + 1 ≡ u.0) [
        | inl same ↦ sym same
        | inr after ↦ (let above = above_head u.0 rest (rising_tail t.0 (u.0 ∷ rest) rising) (t.0 + 1) after in
            absurd (omega (arith, above, below)))
      ]
    ]
follows (t ∷ v ∷ before) u chain rising dense some =
    let rest : List ℕ = ids_in (v ∷ before ++ u ∷ chain) in
    ap (λ (n : ℕ). n + 1) (last_tail t v before)
    ∙ follows (v ∷ before) u chain (rising_tail t.0 rest rising) (dense_tail t.0 rest rising dense) (omega arith)

none_before : (before chain : List (ℕ × ℤ)) → IsStrictlyIncreasing (ids_in (before ++ chain)) → IsDense (ids_in (before ++ chain)) → 0 < length chain
    → (0 < length before → last_id before + 1 ≢ first_id chain) → before ≡ []
none_before [] chain rising dense some gap = refl
none_before (t ∷ before) [] rising dense some gap = absurd (omega (arith, some))
none_before (t ∷ before) (u ∷ chain) rising dense some gap =
    let begun : 0 < length (t ∷ before) = omega arith in
    absurd (gap begun (follows (t ∷ before) u chain rising dense begun))

pub chain_all : (f : Files) (s : TableSchema) (entries : List Entry) (lines : List SnapshotLine) (chain : List (ℕ × ℤ)) → HasTable f s entries
    → AreLinesOf f lines → IsChain (times_of lines) chain → chain ≡ times_of lines
chain_all f s entries lines chain table are is =
    let ids : List ℕ = ids_of lines in
    let same : ids ≡ ids_in (is.before ++ chain) = same_ids lines ∙ ap ids_in is.is in
    let none = none_before is.before chain (subst IsStrictlyIncreasing same are.ids.rising)
    (subst IsDense same (none_lacks f s (length entries) ids table.snapshots are.ids)) is.each.some is.gap in
    sym (is.is ∙ ap (λ (before : List (ℕ × ℤ)). before ++ chain) none)
