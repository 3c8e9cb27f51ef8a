-- What the snapshot of a commit bears of its entry, by what the commit is for.
use Rattle.std.proofs.Common.{◌≡◌, ℕ, ℤ, pos, negsuc, suc, ◌+◌, ◌*◌, ◌≤◌, ◌<ℤ◌, ◌≤ℤ◌, int_le, int_lt, Bool, true, cond, List, [], ◌∷◌, ◌++◌, length, length-append, Option, None, Some, refl, sym, ap, subst, ◌∙◌, arith}
use Rattle.std.specs.List.{fold}
use Rattle.std.specs.Prelude.{unwrap_or}
use Rattle.std.proofs.lemmas.Int.{ints}
use Rattle.std.proofs.lemmas.List.{take_all}
use Rattle.pm_model_history.specs.History.{Entry}
use Rattle.pm_snapshot.specs.declared.snapshot.Snapshot.{Snapshot}
use Rattle.pm_model_folder.specs.Entries.{BearsEntry, appends_in, fence_at, raised}
use Rattle.pm_write.specs.Batch.{Groups, logs_in}
use Rattle.pm_made.specs.Commit.{IsFullWithin, MayRaise}
use Rattle.pm_made.specs.Intent.{IsEntryFor, batch_of, most_files}
use Rattle.pm_made.specs.Refusals.{fence_of}
use Rattle.pm_made.specs.Snapshot.{appends_after, appends_of, fence_after, full_after, full_of}
use Rattle.pm_made.specs.declared.intent.Intent.{Intent}
use Rattle.pm_made.specs.declared.intent.Intent.TheVariants as intents
use Rattle.pm_made.specs.declared.newest.Author.{Author}
use Rattle.pm_made.proofs.LogLemmas.{changelog-least, changelog-most, logs-few}
use Rattle.pm_made.proofs.OldLemmas.{Bounds}

-- ---- one more entry

pub longer : (entries : List Entry) (e : Entry) → length (entries ++ e ∷ []) ≡ suc (length entries)
longer entries e = length-append entries (e ∷ []) ∙ (let more : length entries + 1 ≡ suc (length entries) = omega arith in more)

fold-last : {A X : Type 0} (step : A → X → A) (a : A) (xs : List X) (x : X) → fold step a (xs ++ x ∷ []) ≡ step (fold step a xs) x
fold-last step a [] x = refl
fold-last step a (y ∷ xs) x = fold-last step (step a y) xs x

module _ (entries : List Entry) (e : Entry) where
  later-fence : fence_at (entries ++ e ∷ []) (suc (length entries)) ≡ raised (fence_at entries (length entries)) e
  later-fence =
      ap (fold raised (negsuc 0)) (take_all (suc (length entries)) (entries ++ e ∷ []) (let size = longer entries e in omega (arith, size)))
      ∙ fold-last raised (negsuc 0) entries e
      ∙ ap (λ (z : ℤ). raised z e) (ap (fold raised (negsuc 0)) (sym (take_all (length entries) entries (omega arith))))

-- ---- by what it is for

-- it makes no fewer files than its batch has groups and logs
pub batch_within : (intent : Intent) → length (batch_of intent) + length (logs_in (batch_of intent)) ≤ most_files intent
batch_within (intents.Append batch) = let logs = changelog-least (length (logs_in batch)) in omega (arith, logs)
batch_within (intents.Compact plan) = omega arith
batch_within (intents.Fence number) = omega arith

-- and an append few more than it has groups
pub few-appended : (batch : Groups) → most_files (intents.Append batch) ≤ 2 * length batch + 6
few-appended batch =
    let logs = changelog-most (length (logs_in batch)) in
    let few = logs-few batch in
    omega (arith, logs, few)

below-le : (a b : ℤ) → int_lt a b ≡ true → int_le a b ≡ true
below-le a b is = grind (arith, ints)

below-least : (a b : ℤ) → negsuc 0 ≤ℤ a → int_lt a b ≡ true → negsuc 0 ≤ℤ b
below-least a b least is = grind (arith, ints)

below-next : (z : ℤ) (k id : ℕ) → k ≡ id → int_lt z (pos (suc k)) ≡ true → z <ℤ pos (id + 1)
below-next z k id same is = grind (arith, ints)

no-more : (count : ℕ) → count ≡ count + 0
no-more count = omega arith

module _ (author : Author) (e : Entry) where
  pub bears-entry : (intent : Intent) (x : Snapshot) → IsEntryFor author intent e → x.user ≡ author.user → x.ident ≡ author.identifier
      → x.base ≡ author.base → BearsEntry (Some e) x
  bears-entry (intents.Append batch) x means user ident base = subst (λ (e : Entry). BearsEntry (Some e) x) (sym means) (user, ident)
  bears-entry (intents.Compact plan) x means user ident base = subst (λ (e : Entry). BearsEntry (Some e) x) (sym means) base
  bears-entry (intents.Fence number) x means user ident base = subst (λ (e : Entry). BearsEntry (Some e) x) (sym means) tt

  -- it counts the appends on
  pub counts-on : (o : Option Snapshot) (intent : Intent) → IsEntryFor author intent e → appends_after o intent ≡ appends_of o + appends_in e
  counts-on o (intents.Append batch) means = sym (ap (λ (e : Entry). appends_of o + appends_in e) means)
  counts-on o (intents.Compact plan) means = no-more (appends_of o) ∙ sym (ap (λ (e : Entry). appends_of o + appends_in e) means)
  counts-on o (intents.Fence number) means = no-more (appends_of o) ∙ sym (ap (λ (e : Entry). appends_of o + appends_in e) means)

  module _ (entries : List Entry) (o : Option Snapshot) where
    abbrev k : ℕ
    k = length entries

    -- the fence after it
    pub bears-fence : (intent : Intent) → IsEntryFor author intent e → MayRaise entries intent → fence_of o ≡ fence_at entries k
        → fence_after o intent ≡ fence_at (entries ++ e ∷ []) (suc k)
    bears-fence (intents.Append batch) means raise old =
        old ∙ sym (ap (raised (fence_at entries k)) means) ∙ sym (later-fence entries e)
    bears-fence (intents.Compact plan) means raise old =
        old ∙ sym (ap (raised (fence_at entries k)) means) ∙ sym (later-fence entries e)
    bears-fence (intents.Fence number) means raise old =
        sym (ap (λ (t : Bool). cond t number (fence_at entries k)) (below-le (fence_at entries k) number raise.0))
        ∙ sym (ap (raised (fence_at entries k)) means) ∙ sym (later-fence entries e)

module _ (entries : List Entry) (o : Option Snapshot) (id : ℕ) (bounds : Bounds o id) (is_id : id ≡ length entries) where
  -- the numbers of the next snapshot are within their bounds
  pub fence-least : (intent : Intent) → MayRaise entries intent → fence_of o ≡ fence_at entries (length entries) → negsuc 0 ≤ℤ fence_after o intent
  fence-least (intents.Append batch) raise old = bounds.least
  fence-least (intents.Compact plan) raise old = bounds.least
  fence-least (intents.Fence number) raise old =
      below-least (fence_of o) number bounds.least (subst (λ (z : ℤ). int_lt z number ≡ true) (sym old) raise.0)

  pub fence-below : (intent : Intent) → MayRaise entries intent → fence_after o intent <ℤ pos (id + 1)
  fence-below (intents.Append batch) raise = bounds.below
  fence-below (intents.Compact plan) raise = bounds.below
  fence-below (intents.Fence number) raise = below-next number (length entries) id (sym is_id) raise.1

  pub appends-within : (intent : Intent) → appends_after o intent ≤ id + 1
  appends-within (intents.Append batch) = let within = bounds.appends in omega (arith, within)
  appends-within (intents.Compact plan) = let within = bounds.appends in omega (arith, within)
  appends-within (intents.Fence number) = let within = bounds.appends in omega (arith, within)

asked-full : (full appends : ℕ) (o : Option ℕ) → full ≤ appends → ((asked : ℕ) → o ≡ Some asked → asked ≤ appends) → unwrap_or o full ≤ appends
asked-full full appends None old within = old
asked-full full appends (Some asked) old within = within asked refl

-- so is the count of the last compaction that was asked in full
pub full-within : (o : Option Snapshot) (intent : Intent) → full_of o ≤ appends_of o → IsFullWithin o intent → full_after o intent ≤ appends_after o intent
full-within o (intents.Append batch) old within = omega (arith, old)
full-within o (intents.Compact plan) old within = asked-full (full_of o) (appends_of o) plan.full old within
full-within o (intents.Fence number) old within = old
