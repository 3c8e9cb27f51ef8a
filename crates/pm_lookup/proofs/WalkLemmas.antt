-- Files one after another: each as it is seen, put after others and looked in where it lies.
use Rattle.std.proofs.Common.{◌≡◌, ◌≤◌, ◌<◌, ◌+◌, ℕ, zero, suc, List, [], ◌∷◌, ◌++◌, length, map, take, drop, get_or, Option, None, Ok, Err, refl, sym, ap, subst, ◌∙◌, append-nil, append_assoc, arith}
use Rattle.std.specs.List.{AllByRecursion}
use Rattle.std.proofs.Math.ListN.{set}
use Rattle.std.proofs.lemmas.List.{map-append, map-set, set-get_or, set_split, take_all, take_more}
use Rattle.std.proofs.lemmas.Grind.{flat_map-append}
use Rattle.pm_values.specs.Order.{Values}
use Rattle.pm_values.specs.declared.file_meta.FileMeta.{FileMeta}
use Rattle.pm_values.specs.declared.record.Stamped.{Stamped}
use Rattle.pm_values.specs.declared.refusal.Refusal.{Refusal}
use Rattle.pm_schema.specs.declared.schema.TableSchema.{TableSchema}
use Rattle.pm_engine.specs.Meaning.{Meaning}
use Rattle.pm_run.specs.declared.run.RunBytes.{RunBytes}
use Rattle.pm_lookup.specs.File.{SeenFile, seen}
use Rattle.pm_lookup.specs.Lookup.{HaveOne, IsOldValue, LooksOn, file_in, files_in, files_of}
use Rattle.pm_lookup.specs.declared.file.LookedFile.{LookedFile}

-- ---- an element in its place

pub kept_map : {A B : Type 0} (f : A → B) (xs : List A) (i : ℕ) (x y : A) → get_or xs i x ≡ x → f y ≡ f x → map f (set xs i y) ≡ map f xs
kept_map f xs i x y at same =
    map-set f xs i y ∙ ap (set (map f xs) i) (same ∙ ap f (sym at)) ∙ sym (map-set f xs i (get_or xs i x)) ∙ ap (map f) (set-get_or xs i x)

pub kept_all : {A : Type 0} (P : A → Type 0) (xs : List A) (i : ℕ) (y : A) → P y → AllByRecursion P xs → AllByRecursion P (set xs i y)
kept_all P [] i y here all = tt
kept_all P (x ∷ xs) zero y here all = (here, all.1)
kept_all P (x ∷ xs) (suc i) y here all = (all.0, kept_all P xs i y here all.1)

pub all_at : {A : Type 0} (P : A → Type 0) (xs : List A) (i : ℕ) (x : A) → i < length xs → AllByRecursion P xs → P (get_or xs i x)
all_at P [] i x within all = absurd (omega arith)
all_at P (y ∷ xs) zero x within all = all.0
all_at P (y ∷ xs) (suc i) x within all = all_at P xs i x (omega arith) all.1

pub map_at : {A B : Type 0} (f : A → B) (xs : List A) (i : ℕ) (x : A) → get_or (map f xs) i (f x) ≡ f (get_or xs i x)
map_at f [] i x = refl
map_at f (y ∷ xs) zero x = refl
map_at f (y ∷ xs) (suc i) x = map_at f xs i x

pub all_push : {A : Type 0} (P : A → Type 0) (xs : List A) (x : A) → AllByRecursion P xs → P x → AllByRecursion P (xs ++ x ∷ [])
all_push P [] x all here = (here, tt)
all_push P (y ∷ xs) x all here = (all.0, all_push P xs x all.1 here)

-- ---- files that are put after others

pub file_pushed : (files : List LookedFile) (f : LookedFile) (before : List SeenFile) (folder : List ℕ) (done : List (FileMeta × List ℕ)) (one : FileMeta × List ℕ)
    → map seen files ≡ before ++ map (file_in folder) done → seen f ≡ file_in folder one → map seen (files ++ f ∷ []) ≡ before ++ map (file_in folder) (done ++ one ∷ [])
file_pushed files f before folder done one have same =
    map-append seen files (f ∷ []) ∙ ap (λ (fs : List SeenFile). fs ++ seen f ∷ []) have ∙ append_assoc before (map (file_in folder) done) (seen f ∷ [])
    ∙ ap (λ (x : SeenFile). before ++ (map (file_in folder) done ++ x ∷ [])) same
    ∙ ap (λ (fs : List SeenFile). before ++ fs) (sym (map-append (file_in folder) done (one ∷ [])))

pub run_pushed : (done : List RunBytes) (run : RunBytes) → files_of (done ++ run ∷ []) ≡ files_of done ++ files_in run
run_pushed done run = flat_map-append files_in done (run ∷ []) ∙ ap (λ (fs : List SeenFile). files_of done ++ fs) (append-nil (files_in run))

-- ---- files in which a key is looked for

module _ (m : Meaning) (s : TableSchema) (key : Values) (files : List SeenFile) (i : ℕ) (f : SeenFile) (within : i < length files) (at : get_or files i f ≡ f) where
  -- one file more
  pub walked : (one : Option Stamped) → LooksOn m s key (take i files) f (Ok one) → HaveOne m s key (take (i + 1) files) one
  walked one looks =
      subst (λ (fs : List SeenFile). HaveOne m s key fs one) (sym (take_more files i f within ∙ ap (λ (x : SeenFile). take i files ++ x ∷ []) at)) looks

  -- its refusal is that of all
  pub walk_refused : (e : Refusal) → LooksOn m s key (take i files) f (Err e) → IsOldValue m s key files (Err e)
  walk_refused e looks =
      subst (λ (fs : List SeenFile). IsOldValue m s key fs (Err e)) (sym (sym (set-get_or files i f) ∙ ap (set files i) at ∙ set_split files i f within)) (looks (drop (suc i) files))

-- before the first none was looked in
pub none_walked : (m : Meaning) (s : TableSchema) (key : Values) → HaveOne m s key [] None
none_walked m s key = record { found = []; looked = tt; combined = refl }

-- after the last all were
pub all_walked : (m : Meaning) (s : TableSchema) (key : Values) (files : List SeenFile) (n : ℕ) (one : Option Stamped) → length files ≤ n → HaveOne m s key (take n files) one
    → HaveOne m s key files one
all_walked m s key files n one all h = subst (λ (fs : List SeenFile). HaveOne m s key fs one) (take_all n files all) h
