-- The counts of a commit.
use Rattle.std.proofs.Common.{◌≡◌, ◌+◌, true, Bool, cond, not, List, [], ◌∷◌, ◌++◌, map, filter, refl, sym, ap, ◌∙◌}
use Rattle.std.specs.List.{AllByRecursion}
use Rattle.std.proofs.lemmas.List.Sums.{sum_by-append}
use Rattle.indexmap.specs.IndexSet.{IndexSet, contains}
use Rattle.pm_manifest.specs.FileId.{id_eq}
use Rattle.pm_manifest.specs.Live.{id_of}
use Rattle.pm_manifest.specs.declared.entry.Entry.{Entry}
use Rattle.pm_manifest.specs.declared.file_id.FileId.{FileId}
use Rattle.pm_model_folder.specs.Entries.{rows_in_files}
use Rattle.pm_made.specs.Delta.{Delta, IsDeltaOf, deleted, is_of_any, left_of}

-- entries that take files away add none
adds-only : (gone es : List Entry) → filter (λ (e : Entry). e.add) (map deleted gone ++ es) ≡ filter (λ (e : Entry). e.add) es
adds-only [] es = refl
adds-only (e ∷ gone) es = adds-only gone es

all-add : (es : List Entry) → AllByRecursion (λ (e : Entry). e.add ≡ true) es → filter (λ (e : Entry). e.add) es ≡ es
all-add [] all = refl
all-add (e ∷ es) (first, rest) =
    ap (λ (t : Bool). cond t (e ∷ filter (λ (e : Entry). e.add) es) (filter (λ (e : Entry). e.add) es)) first
    ∙ ap (λ (more : List Entry). e ∷ more) (all-add es rest)

added-of : (removed entries changes : List Entry) (d : Delta) → IsDeltaOf removed entries changes d → filter (λ (e : Entry). e.add) entries ≡ d.added
added-of removed entries changes d is =
    ap (filter (λ (e : Entry). e.add)) is.whole ∙ adds-only d.removed d.added ∙ all-add d.added is.adds

-- files that are joined have the rows of both
rows-both : (left added : List Entry) → rows_in_files (left ++ added) ≡ rows_in_files left + rows_in_files added
rows-both left added = sum_by-append (λ (e : Entry). e.file.rows) left added

-- the files that are live then have the rows that are left and those of the entries that add
pub total_is : (removed live entries changes : List Entry) (d : Delta) → IsDeltaOf removed entries changes d
    → rows_in_files (left_of removed live) + rows_in_files (filter (λ (e : Entry). e.add) entries) ≡ rows_in_files (left_of d.removed live ++ d.added)
total_is removed live entries changes d is =
    ap (λ (es : List Entry). rows_in_files (left_of removed live) + rows_in_files es) (added-of removed entries changes d is)
    ∙ ap (λ (gone : List Entry). rows_in_files (left_of gone live) + rows_in_files d.added) (sym is.goes)
    ∙ sym (rows-both (left_of d.removed live) d.added)

-- ---- what is left of live files

-- all of them, where none goes
pub left-none : (live : List Entry) → left_of [] live ≡ live
left-none [] = refl
left-none (e ∷ live) = ap (λ (rest : List Entry). e ∷ rest) (left-none live)

-- and those whose files aren't among the files of those that go
pub left-same : (removed : List Entry) {S : Type 0} (files : IndexSet FileId S) → ((e : Entry) → contains id_eq files (id_of e) ≡ is_of_any removed e) → (live : List Entry)
    → filter (λ (e : Entry). not (contains id_eq files (id_of e))) live ≡ left_of removed live
left-same removed files are [] = refl
left-same removed files are (e ∷ live) =
    ap (λ (t : Bool). cond (not t) (e ∷ filter (λ (e : Entry). not (contains id_eq files (id_of e))) live)
    (filter (λ (e : Entry). not (contains id_eq files (id_of e))) live)) (are e)
    ∙ ap (λ (rest : List Entry). cond (not (is_of_any removed e)) (e ∷ rest) rest) (left-same removed files are live)
