-- The new files of a batch have names in order.
use Rattle.std.proofs.Common.{◌≡◌, ℕ, suc, ◌+◌, ◌<◌, List, [], ◌∷◌, length, length-append, map, inl, inr, Contains, sym, ap, subst, ◌∙◌, arith}
use Rattle.std.specs.BTreeMap.{BTreeMap}
use Rattle.pm_values.specs.Names.{Naming, counted, name_of}
use Rattle.pm_values.specs.declared.group.Group.{Group}
use Rattle.pm_values.specs.declared.record.Change.{Change}
use Rattle.pm_schema.specs.declared.schema.TableSchema.{TableSchema}
use Rattle.pm_engine.specs.Covers.{Run}
use Rattle.pm_snapshot.specs.Names.{BasedFile, changelog_file, prefix_of, rows_file, suffix_of}
use Rattle.pm_write.specs.Batch.{Groups, logs_in}
use Rattle.pm_write.specs.Files.{AreFilesOfLogs, AreFilesOfRuns, AreNewFiles, after_names, next_run}
use Rattle.pm_write.specs.declared.files.NewFile.{NewFile}
use Rattle.pm_made.proofs.ListLemmas.{in-either, in-or, none-in}

-- a file has one of so many names, of a data file or of a changelog file
pub record HasName (names : Naming) (total : ℕ) (x : NewFile) : Type 0 where
  pub index : ℕ
  pub within : index < total
  pub kind : BasedFile
  pub name : x.meta.name ≡ name_of (prefix_of kind) (suffix_of kind) (after_names index names)

after-more : (n m : ℕ) (names : Naming) → after_names m (after_names n names) ≡ after_names (n + m) names
after-more n m names = let more : names.count + n + m ≡ names.count + (n + m) = omega arith in λ i. record names { count = more i }

after-none : (names : Naming) → after_names 0 names ≡ names
after-none names = let same : names.count + 0 ≡ names.count = omega arith in λ i. record names { count = same i }

-- the first of them, and one of those after so many
first-name : (names : Naming) (total : ℕ) (kind : BasedFile) (y x : NewFile) → y.meta.name ≡ name_of (prefix_of kind) (suffix_of kind) names → y ≡ x
    → HasName names (suc total) x
first-name names total kind y x named is = record {
  index = 0;
  within = omega arith;
  kind = kind;
  name = ap (λ (z : NewFile). z.meta.name) (sym is) ∙ named ∙ ap (name_of (prefix_of kind) (suffix_of kind)) (sym (after-none names));
}

later-name : (n : ℕ) (names : Naming) (total : ℕ) (x : NewFile) → HasName (after_names n names) total x → HasName names (n + total) x
later-name n names total x later = let w = later.within in record {
  index = n + later.index;
  within = omega (arith, w);
  kind = later.kind;
  name = later.name ∙ ap (name_of (prefix_of later.kind) (suffix_of later.kind)) (after-more n later.index names);
}

next-name : (names : Naming) (total : ℕ) (x : NewFile) → HasName (counted names) total x → HasName names (suc total) x
next-name names total x later =
    subst (λ (n : ℕ). HasName names n x) (let same : 1 + total ≡ suc total = omega arith in same) (later-name 1 names total x later)

named-run : (s : TableSchema) (names : Naming) (runs : List (Group × Run)) (xs : List NewFile) (x : NewFile)
    → AreFilesOfRuns s names runs xs → Contains xs x → HasName names (length xs) x
named-run s names [] [] x are h = absurd (none-in x h)
named-run s names [] (y ∷ xs) x are h = absurd are
named-run s names (p ∷ runs) [] x are h = absurd are
named-run s names (p ∷ runs) (y ∷ xs) x are h = elim (in-or y xs x h) as (λ _. HasName names (suc (length xs)) x) [
  | inl is ↦ first-name names (length xs) rows_file y x are.0.file.made.meta.named is
  | inr more ↦ next-name names (length xs) x (named-run s (counted names) runs xs x are.1 more)
]

named-log : (s : TableSchema) (names : Naming) (logs : List (Group × List Change)) (xs : List NewFile) (x : NewFile)
    → AreFilesOfLogs s names logs xs → Contains xs x → HasName names (length xs) x
named-log s names [] [] x are h = absurd (none-in x h)
named-log s names [] (y ∷ xs) x are h = absurd are
named-log s names (p ∷ logs) [] x are h = absurd are
named-log s names (p ∷ logs) (y ∷ xs) x are h = elim (in-or y xs x h) as (λ _. HasName names (suc (length xs)) x) [
  | inl is ↦ first-name names (length xs) changelog_file y x are.0.file.made.meta.named is
  | inr more ↦ next-name names (length xs) x (named-log s (counted names) logs xs x are.1 more)
]

-- as many, or more
more-names : (names : Naming) (few many : ℕ) (x : NewFile) → HasName names few x → few < suc many → HasName names many x
more-names names few many x has room = let w = has.within in
    record { index = has.index; within = omega (arith, w, room); kind = has.kind; name = has.name }

pub named-file : (s : TableSchema) (next : BTreeMap Group ℕ) (names : Naming) (batch : Groups) (xs : List NewFile) (x : NewFile)
    → AreNewFiles s next names batch xs → Contains xs x → HasName names (length xs) x
named-file s next names batch xs x new h =
    let all : length xs ≡ length new.data_files + length new.changes = ap (λ (ys : List NewFile). length ys) new.both ∙ length-append new.data_files new.changes in
    elim (in-either new.data_files new.changes x (subst (λ (ys : List NewFile). Contains ys x) new.both h)) as (λ _. HasName names (length xs) x) [
      | inl left ↦ more-names names (length new.data_files) (length xs) x (named-run s names (map (next_run next) batch) new.data_files x new.runs left)
          (omega (arith, all))
      | inr right ↦ more-names names (length new.data_files + length new.changes) (length xs) x
          (later-name (length new.data_files) names (length new.changes) x
          (named-log s (after_names (length new.data_files) names) (logs_in batch) new.changes x new.logs right))
          (omega (arith, all))
    ]
