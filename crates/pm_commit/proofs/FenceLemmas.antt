-- A base that is fenced stays so, and the newest snapshot shows it.
use Rattle.std.proofs.Common.{◌≡◌, ℕ, ℤ, pos, negsuc, int_le, Bool, true, false, if◌then◌else◌, List, [], ◌∷◌, ◌++◌, length, take, None, refl, sym, ap, subst, ◌∙◌, true≢false, arith}
use Rattle.std.specs.List.{fold}
use Rattle.std.proofs.lemmas.Bool.Decides.{nat_tests}
use Rattle.std.proofs.lemmas.List.{take_all}
use Rattle.pm_store.specs.Files.{Files}
use Rattle.pm_model_history.specs.History.{Entry, GoesOn, History, append, compaction, fence, no_table, table}
use Rattle.pm_schema.specs.declared.schema.TableSchema.{TableSchema}
use Rattle.pm_snapshot.specs.declared.snapshot.Snapshot.{Snapshot}
use Rattle.pm_model_folder.specs.Entries.{IsFenced, fence_at, raised}
use Rattle.pm_model_folder.specs.Ledger.{Past, Stands}
use Rattle.pm_model_folder.proofs.HoldLemmas.{one-snapshot}
use Rattle.pm_model_folder.proofs.LedgerFacts.{at-table}
use Rattle.pm_read_table.specs.Meaning.{IsViewIn, view_origin, view_snapshot}
use Rattle.pm_read_table.specs.declared.view.View.{View}
use Rattle.pm_made.specs.Refusals.{fence_of, refusal_of}
use Rattle.pm_made.specs.declared.intent.Intent.{Intent}
use Rattle.pm_made.specs.declared.newest.Author.{Author}
use Rattle.pm_made.specs.declared.newest.Newest.{Newest}
use Rattle.pm_made.proofs.AllowedLemmas.{allowed-of}
use Rattle.pm_commit.specs.Meaning.{IsFoundIn}
use Rattle.pm_commit.specs.declared.found.Found.{Found}

-- ---- it stays fenced

not-least : (b m : ℕ) → int_le (pos b) (negsuc m) ≡ true → ⊥
not-least b m is = true≢false (sym is)

at-most : (b : ℕ) (z y : ℤ) → int_le (pos b) z ≡ true → int_le z y ≡ true → int_le (pos b) y ≡ true
at-most b (pos m) (pos k) low high = grind (arith, nat_tests)
at-most b (pos m) (negsuc k) low high = absurd (not-least m k high)
at-most b (negsuc m) y low high = absurd (not-least b m low)

raised-fenced : (b : ℕ) (z : ℤ) (e : Entry) → int_le (pos b) z ≡ true → int_le (pos b) (raised z e) ≡ true
raised-fenced b z (append user identifier rows) is = is
raised-fenced b z (compaction base groups) is = is
raised-fenced b z (fence number) is = at (int_le z number) refl
  where
    at : (t : Bool) → int_le z number ≡ t → int_le (pos b) (if t then number else z) ≡ true
    at true higher = at-most b z number is higher
    at false lower = is

fold-fenced : (b : ℕ) (z : ℤ) (entries : List Entry) → int_le (pos b) z ≡ true → int_le (pos b) (fold raised z entries) ≡ true
fold-fenced b z [] is = is
fold-fenced b z (e ∷ entries) is = fold-fenced b (raised z e) entries (raised-fenced b z e is)

fold-both : (z : ℤ) (xs ys : List Entry) → fold raised z (xs ++ ys) ≡ fold raised (fold raised z xs) ys
fold-both z [] ys = refl
fold-both z (x ∷ xs) ys = fold-both (raised z x) xs ys

all-of : (entries : List Entry) → fence_at entries (length entries) ≡ fold raised (negsuc 0) entries
all-of entries = ap (fold raised (negsuc 0)) (take_all (length entries) entries (omega arith))

pub fenced-later : (base : ℕ) (h later : History) → GoesOn h later → IsFenced base h → IsFenced base later
fenced-later base no_table later goes fenced = absurd fenced
fenced-later base (table s entries) no_table goes fenced = absurd goes
fenced-later base (table s entries) (table t later) (same, more, is) fenced =
    subst (λ (z : ℤ). int_le (pos base) z ≡ true)
    (sym (all-of later ∙ ap (fold raised (negsuc 0)) is ∙ fold-both (negsuc 0) entries more))
    (fold-fenced base (fold raised (negsuc 0) entries) more (subst (λ (z : ℤ). int_le (pos base) z ≡ true) (all-of entries) fenced))

-- ---- the newest snapshot bears the fence

abbrev entries_of : History → List Entry
entries_of no_table = []
entries_of (table s entries) = entries

no-entries : (entries : List Entry) → length entries ≡ 0 → entries ≡ []
no-entries [] none = refl
no-entries (e ∷ entries) none = absurd (omega (arith, none))

module _ (f : Files) (p : Past) (s : TableSchema) (entries : List Entry) (stands : Stands f p) (was : p.history ≡ table s entries) where
  view-fence : (v : View) → IsViewIn p v → v.id ≡ length entries → fence_of v.snapshot ≡ fence_at entries (length entries)
  view-fence v (view_origin is) newest =
      ap fence_of is.snapshot
      ∙ sym (ap (λ (es : List Entry). fence_at es (length es)) (no-entries entries (sym newest ∙ is.id)))
  view-fence v (view_snapshot y base delta es live stood has leaves is) newest =
      let own = at-table f p v.schema stands stood.table in
      let same : own.0 ≡ entries = ap entries_of (sym own.1 ∙ was) in
      let commit = own.3.committed y.id stood.known in
      let one : commit.snapshot ≡ y = one-snapshot (p.stood y.id) y.id commit.snapshot y commit.there stood.was in
      let id : y.id ≡ length entries = sym is.id ∙ newest in
      let whole : take y.id own.0 ≡ entries = ap (take y.id) same ∙ take_all y.id entries (omega (arith, id)) in
      ap fence_of is.snapshot
      ∙ ap (λ (x : Snapshot). x.fence) (sym one)
      ∙ commit.fence
      ∙ ap (λ (es : List Entry). fence_at es y.id) whole
      ∙ ap (fence_at entries) id

  pub newest-fence : (found : Found) → IsFoundIn p found → found.newest.id ≡ length entries → fence_of found.newest.snapshot ≡ fence_at entries (length entries)
  newest-fence found is_found newest =
      ap (λ (found : Found). fence_of found.newest.snapshot) is_found.is
      ∙ view-fence is_found.view is_found.stood (sym (ap (λ (found : Found). found.newest.id) is_found.is) ∙ newest)

-- so no try that was allowed then has a fenced base
pub not-fenced : (newest : Newest) (author : Author) (intent : Intent) (s : TableSchema) (entries : List Entry) → refusal_of newest author intent ≡ None
    → fence_of newest.snapshot ≡ fence_at entries (length entries) → IsFenced author.base (table s entries) → ⊥
not-fenced newest author intent s entries allowed is fenced =
    true≢false (sym fenced ∙ ap (int_le (pos author.base)) (sym is) ∙ (allowed-of newest author intent allowed).fence)
