-- What answers say of the files after a call, path by path.
use Rattle.std.proofs.Common.{◌≡◌, ◌≢◌, ℕ, List, if◌then◌else◌, Option, None, Some, is_none, is_some, ◌&&◌, cond, refl, sym, ap, ◌∙◌, subst}
use Rattle.std.specs.Cmp.Lexicographic.{slice_cmp, nat_list_cmp_total}
use Rattle.std.specs.FinMap as map
use Rattle.std.specs.Ordering.{nat_cmp, is_eq}
use Rattle.std.specs.declared.cmp.Ordering.{Ordering}
use Rattle.std.specs.declared.cmp.Ordering.TheVariants.{Less, Equal, Greater}
use Rattle.std.proofs.lemmas.Cmp.{tied_itself}
use Rattle.std.proofs.lemmas.Map.Lookups.{exact_bytes}
use Rattle.pm_store.specs.declared.answer.Answer.{Answer}
use Rattle.pm_store.specs.declared.answer.Answer.TheVariants as answers
use Rattle.pm_store.specs.declared.answer.Swapped.TheVariants as swaps
use Rattle.pm_store.specs.declared.call.Call.{Call}
use Rattle.pm_store.specs.declared.call.Call.TheVariants as calls
use Rattle.pm_store.specs.Answers.{Answers, Changed, made_at, published_at, removed_at}
use Rattle.pm_store.specs.Files.{Files, carried, Puts}
use Rattle.pm_store.proofs.FileLaws.{carried-swapped, carried-differs, get-insert_other}

-- a path that is written has the bytes
pub get-insert_itself : (files : Files) (path bytes : List ℕ) → map.get (map.insert files path bytes) path ≡ Some bytes
get-insert_itself files path bytes =
    map.get-insert nat_list_cmp_total files path bytes path
    ∙ ap (λ r. cond (is_eq r) (Some bytes) (map.get files path)) (tied_itself nat_list_cmp_total path)

pub Puts-insert : (files : Files) (path bytes : List ℕ) → Puts files path (Some bytes) (map.insert files path bytes)
Puts-insert files path bytes = record { here = get-insert_itself files path bytes; others = get-insert_other files path bytes }

-- a path that is taken away is absent
pub get-remove_itself : (files : Files) (path : List ℕ) → map.get (map.remove files path) path ≡ None
get-remove_itself files path =
    map.get-remove nat_list_cmp_total files path path
    ∙ ap (λ r. cond (is_eq r) None (map.get files path)) (tied_itself nat_list_cmp_total path)

pub get-remove_other : (files : Files) (path q : List ℕ) → q ≢ path → map.get (map.remove files path) q ≡ map.get files q
get-remove_other files path q other =
    let cases : (r : Ordering) → slice_cmp nat_cmp q path ≡ r → cond (is_eq r) None (map.get files q) ≡ map.get files q = λ r. elim r as (λ r. slice_cmp nat_cmp q path ≡ r → cond (is_eq r) None (map.get files q) ≡ map.get files q) [
      | Less ↦ λ e. refl
      | Equal ↦ λ e. absurd (other (exact_bytes q path e))
      | Greater ↦ λ e. refl
    ] in
    map.get-remove nat_list_cmp_total files path q ∙ cases (slice_cmp nat_cmp q path) refl

pub Puts-remove : (files : Files) (path : List ℕ) → Puts files path None (map.remove files path)
Puts-remove files path = record { here = get-remove_itself files path; others = get-remove_other files path }

-- what a path was written with in the place of what it had
pub Puts-is : (files : Files) (path : List ℕ) (content : Option (List ℕ)) (after later : Files) → later ≡ after →
    Puts files path content after → Puts files path content later
Puts-is files path content after later is puts = subst (Puts files path content) (sym is) puts

-- the same files at each path
same_at : (files after : Files) → after ≡ files → (path : List ℕ) → map.get after path ≡ map.get files path
same_at files after is path = ap (λ (f : Files). map.get f path) is

-- ---- creates

create_changes : (path bytes : List ℕ) (files : Files) (found : Option (List ℕ)) → map.get files path ≡ found →
    Changed (calls.Create path bytes) (answers.Made (made_at found)) files (if is_none found then map.insert files path bytes else files)
create_changes path bytes files None is = Puts-insert files path bytes
create_changes path bytes files (Some content) is = λ q. refl

-- ---- publishes

publish_changes : (after path bytes : List ℕ) (files : Files) (found before : Option (List ℕ)) →
    Changed (calls.Publish after path bytes) (answers.Published (published_at found before)) files
    (if is_none found && is_some before then map.insert files path bytes else files)
publish_changes after path bytes files (Some content) before = λ q. refl
publish_changes after path bytes files None None = λ q. refl
publish_changes after path bytes files None (Some present) = Puts-insert files path bytes

-- ---- removes

gone_at : (files : Files) (path q : List ℕ) → map.get files path ≡ None → map.get (map.remove files path) q ≡ map.get files q
gone_at files path q is =
    let cases : (r : Ordering) → slice_cmp nat_cmp q path ≡ r → cond (is_eq r) None (map.get files q) ≡ map.get files q = λ r. elim r as (λ r. slice_cmp nat_cmp q path ≡ r → cond (is_eq r) None (map.get files q) ≡ map.get files q) [
      | Less ↦ λ e. refl
      | Equal ↦ λ e. sym (ap (map.get files) (exact_bytes q path e) ∙ is)
      | Greater ↦ λ e. refl
    ] in
    map.get-remove nat_list_cmp_total files path q ∙ cases (slice_cmp nat_cmp q path) refl

remove_changes : (path : List ℕ) (files : Files) (found : Option (List ℕ)) → map.get files path ≡ found →
    Changed (calls.Remove path) (answers.Removed (removed_at found)) files (map.remove files path)
remove_changes path files None is = λ q. gone_at files path q is
remove_changes path files (Some content) is = Puts-remove files path

-- what each answer says of the files after its call
pub Answers-Changed : (call : Call) (answer : Answer) (files : Files) → Answers call answer files → Changed call answer files (carried call files)
Answers-Changed (calls.List folder) (answers.Listed names) files is = λ q. refl
Answers-Changed (calls.Read path) (answers.Found found) files is = λ q. refl
Answers-Changed (calls.Create path bytes) (answers.Made answer) files is =
    subst (λ answer. Changed (calls.Create path bytes) (answers.Made answer) files (carried (calls.Create path bytes) files)) (sym is)
    (create_changes path bytes files (map.get files path) refl)
Answers-Changed (calls.Publish after path bytes) (answers.Published answer) files is =
    subst (λ answer. Changed (calls.Publish after path bytes) (answers.Published answer) files (carried (calls.Publish after path bytes) files)) (sym is)
    (publish_changes after path bytes files (map.get files path) (map.get files after))
Answers-Changed (calls.Swap path expected bytes) (answers.Swapped swaps.Swapped) files is =
    Puts-is files path (Some bytes) (map.insert files path bytes) (carried (calls.Swap path expected bytes) files)
    (carried-swapped path bytes expected files is) (Puts-insert files path bytes)
Answers-Changed (calls.Swap path expected bytes) (answers.Swapped (swaps.Differs other)) files is =
    same_at files (carried (calls.Swap path expected bytes) files)
    (carried-differs path bytes expected files (λ e. is.1 (sym is.0 ∙ e)))
Answers-Changed (calls.Remove path) (answers.Removed answer) files is =
    subst (λ answer. Changed (calls.Remove path) (answers.Removed answer) files (carried (calls.Remove path) files)) (sym is)
    (remove_changes path files (map.get files path) refl)
Answers-Changed call other files is = absurd is
