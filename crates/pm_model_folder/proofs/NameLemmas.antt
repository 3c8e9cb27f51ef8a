-- The names in the folders of schemas, of snapshots, of floors and of consumers that paths lead to.
use Rattle.std.proofs.Common.{◌≡◌, ◌≢◌, ℕ, ◌+◌, ◌<◌, ◌≤◌, suc, List, [], ◌∷◌, ◌++◌, take, drop, length, get_or, codes, ◌==◌, nat_eq, Bool, true, false, not, cond, Option, None, Some, refl, sym, ap, ◌∙◌, eqb-true, arith}
use Rattle.std.specs.Char.{digit_value}
use Rattle.std.specs.Cmp.{unsigned_Decides}
use Rattle.std.specs.Fmt.{decimal}
use Rattle.std.specs.List.{AllByRecursion, before_first, position_or_len, starts_with}
use Rattle.std.specs.Option.{option_map_or}
use Rattle.std.specs.Str.Parse.{AllDigits}
use Rattle.std.proofs.lemmas.Fmt.{decimal_injective, decimal_is_IsNumeral}
use Rattle.std.proofs.lemmas.List.{append_cancel_left}
use Rattle.std.proofs.lemmas.Slice.Eq.{starts_is}
use Rattle.std.proofs.lemmas.Str.Parse.{digit_from_value}
use Rattle.uuid.specs.Text.{hyphenated_text, hyphen, lower}
use Rattle.pm_store.specs.Files.{slash, some_name, name_after, name_in}
use Rattle.pm_snapshot.specs.Names.{floor_name, greatest, snapshot_name}
use Rattle.pm_model_folder.specs.Changes.{Actor, IsOwn, IsPlain, its_file, its_origin, origin_name}
use Rattle.pm_model_folder.proofs.PathLemmas.{named-apart, other-consumers, other-floors, other-schemas, other-snapshots}
use Rattle.pm_model_folder.specs.Paths.{consumer_file, consumer_folder, consumer_path, floor_folder, floor_path, schema_folder, schema_name, schema_path, snapshot_file, snapshot_folder, snapshot_path}

-- ---- what stands before a slash

abbrev before_slash : List ℕ → List ℕ
before_slash bytes = before_first (λ b. b == slash) bytes

before-cons : (b : ℕ) (bytes : List ℕ) → (b == slash) ≡ false → before_slash (b ∷ bytes) ≡ b ∷ before_slash bytes
before-cons b bytes other =
    let n : ℕ = position_or_len (λ b. b == slash) bytes in
    let more : 1 + n ≡ suc n = omega arith in
    ap (λ t. take (cond (not t) (1 + n) 0) (b ∷ bytes)) other ∙ ap (λ k. take k (b ∷ bytes)) more

before-all : (bytes : List ℕ) → AllByRecursion (λ b. (b == slash) ≡ false) bytes → before_slash bytes ≡ bytes
before-all [] all = refl
before-all (b ∷ bytes) all = before-cons b bytes all.0 ∙ ap (λ rest. b ∷ rest) (before-all bytes all.1)

-- a digit is no slash
digit-other : (b : ℕ) → digit_value b < 10 → (b == slash) ≡ false
digit-other b is = by_test (b == slash) refl
  where
    by_test : (t : Bool) → (b == slash) ≡ t → (b == slash) ≡ false
    by_test true same = absurd (let digit = digit_from_value b is in let is_slash = eqb-true b slash same in omega (arith, digit, is_slash))
    by_test false other = other

digits-other : (bytes : List ℕ) → AllDigits 10 bytes → AllByRecursion (λ b. (b == slash) ≡ false) bytes
digits-other [] all = tt
digits-other (b ∷ bytes) all = (digit-other b all.0, digits-other bytes all.1)

number-other : (id : ℕ) → id ≤ greatest → AllByRecursion (λ b. (b == slash) ≡ false) (decimal id)
number-other id within = digits-other (decimal id) (decimal_is_IsNumeral id (omega (arith, within))).0.1

-- ---- the names in each folder

-- a file leads to its own name in its folder
pub schema-leads : (id : ℕ) → id ≤ greatest → name_in schema_folder (schema_path id) ≡ Some (schema_name id)
schema-leads id within =
    ap some_name (before-all (schema_name id) (refl, (refl, (refl, (refl, (refl, (refl, (refl, number-other id within))))))))

pub snapshot-leads : (id : ℕ) → id ≤ greatest → name_in snapshot_folder (snapshot_path id) ≡ Some (snapshot_name id)
snapshot-leads id within =
    ap some_name (before-all (snapshot_name id) (refl, (refl, (refl, (refl, (refl, (refl, (refl, (refl, (refl, number-other id within))))))))))

pub floor-leads : (n : ℕ) → n ≤ greatest → name_in floor_folder (floor_path n) ≡ Some (floor_name n)
floor-leads n within = ap some_name (before-all (floor_name n) (refl, (refl, (refl, (refl, (refl, (refl, number-other n within)))))))

-- a byte that is no slash, by the test
no-slash : (b : ℕ) → b ≢ 47 → (b == slash) ≡ false
no-slash b other = by_test (b == slash) refl
  where
    by_test : (t : Bool) → (b == slash) ≡ t → (b == slash) ≡ false
    by_test true same = absurd (other (eqb-true b slash same))
    by_test false is = is

plain-other : (name : List ℕ) → IsPlain name → AllByRecursion (λ b. (b == slash) ≡ false) name
plain-other [] plain = tt
plain-other (b ∷ name) plain = (no-slash b plain.0, plain-other name plain.1)

pub consumer-leads : (name : List ℕ) → IsPlain name → name_in consumer_folder (consumer_path name) ≡ Some (consumer_file name)
consumer-leads name plain = ap some_name
    (before-all (consumer_file name) (refl, (refl, (refl, (refl, (refl, (refl, (refl, (refl, (refl, plain-other name plain))))))))))

-- and to none in the other folder
pub schema-none : (id : ℕ) → name_in snapshot_folder (schema_path id) ≡ None
schema-none id = refl

pub snapshot-none : (name : List ℕ) → name_in schema_folder (snapshot_file name) ≡ None
snapshot-none name = refl

-- neither leads to a floor or to a consumer
pub schema-no_floor : (id : ℕ) → name_in floor_folder (schema_path id) ≡ None
schema-no_floor id = refl

pub schema-no_consumer : (id : ℕ) → name_in consumer_folder (schema_path id) ≡ None
schema-no_consumer id = refl

pub snapshot-no_floor : (name : List ℕ) → name_in floor_folder (snapshot_file name) ≡ None
snapshot-no_floor name = refl

pub snapshot-no_consumer : (name : List ℕ) → name_in consumer_folder (snapshot_file name) ≡ None
snapshot-no_consumer name = refl

pub none-some : {A : Type 0} (x : A) → None ≢ Some x
none-some x e = cc

-- schema 0 leads to the name of no other
pub first-other : (id : ℕ) → id ≤ greatest → id ≢ 0 → name_in schema_folder (schema_path 0) ≢ Some (schema_name id)
first-other id within other e =
    let same : Some (schema_name 0) ≡ Some (schema_name id) = sym (schema-leads 0 (omega arith)) ∙ e in
    let names : schema_name 0 ≡ schema_name id = cc in
    other (decimal_injective id 0 (omega (arith, within)) (omega arith)
    (sym (append_cancel_left (codes "schema-") (decimal 0) (decimal id) names)))

-- a snapshot leads to the name of no other
pub other-led : (id other : ℕ) → id ≤ greatest → other ≤ greatest → id ≢ other → name_in snapshot_folder (snapshot_path id) ≢ Some (snapshot_name other)
other-led id other within bound apart e =
    let same : Some (snapshot_name id) ≡ Some (snapshot_name other) = sym (snapshot-leads id within) ∙ e in
    let names : snapshot_name id ≡ snapshot_name other = cc in
    apart (decimal_injective id other (omega (arith, within)) (omega (arith, bound))
    (append_cancel_left (codes "snapshot-") (decimal id) (decimal other) names))

-- ---- an actor's own files

-- a path that leads to a name after a prefix begins with it
after-begins : (prefix path name : List ℕ) → name_after prefix path ≡ Some name → path ≡ prefix ++ drop (length prefix) path
after-begins prefix path name is = at (starts_with nat_eq path prefix) refl is
  where
    at : (t : Bool) → starts_with nat_eq path prefix ≡ t
        → cond t (some_name (before_slash (drop (length prefix) path))) None ≡ Some name → path ≡ prefix ++ drop (length prefix) path
    at true starts leads = (starts_is unsigned_Decides path prefix (starts_with nat_eq path prefix) refl).0 starts
    at false starts leads = absurd (none-some name leads)

-- a path of the folder of schemas, and of that of snapshots
leads-schema : (path name : List ℕ) → name_in schema_folder path ≡ Some name → path ≡ codes "schema" ++ 47 ∷ drop 7 path
leads-schema path name is = after-begins (codes "schema/") path name is

leads-snapshot : (path name : List ℕ) → name_in snapshot_folder path ≡ Some name → path ≡ codes "snapshot" ++ 47 ∷ drop 9 path
leads-snapshot path name is = after-begins (codes "snapshot/") path name is

leads-floor : (path name : List ℕ) → name_in floor_folder path ≡ Some name → path ≡ codes "floor" ++ 47 ∷ drop 6 path
leads-floor path name is = after-begins (codes "floor/") path name is

leads-consumer : (path name : List ℕ) → name_in consumer_folder path ≡ Some name → path ≡ codes "consumer" ++ 47 ∷ drop 9 path
leads-consumer path name is = after-begins (codes "consumer/") path name is

-- an own file leads to no name of a schema, and to none of a snapshot
pub own-no_schema : (me : Actor) (path : List ℕ) (id : ℕ) → IsOwn me path → name_in schema_folder path ≢ Some (schema_name id)
own-no_schema me path id (its_origin own) e =
    none-some (schema_name id) (sym (snapshot-none (origin_name me)) ∙ ap (name_in schema_folder) (sym own) ∙ e)
own-no_schema me path id (its_file by in_table) e =
    named-apart me path (codes "schema") (drop 7 path) by in_table other-schemas (leads-schema path (schema_name id) e)

pub own-no_snapshot : (me : Actor) (path : List ℕ) (id : ℕ) → IsOwn me path → name_in snapshot_folder path ≢ Some (snapshot_name id)
own-no_snapshot me path id (its_origin own) e =
    let rest : List ℕ = codes "RIGIN-" ++ (hyphenated_text lower me.session ++ hyphen ∷ decimal me.number) in
    let begins : Some (79 ∷ before_slash rest) ≡ Some (snapshot_name id) =
    sym (ap some_name (before-cons 79 rest refl)) ∙ ap (name_in snapshot_folder) (sym own) ∙ e in
    let first : 79 ≡ 115 = ap (λ (o : Option (List ℕ)). option_map_or (λ name. get_or name 0 0) o 0) begins in
    omega (arith, first)
own-no_snapshot me path id (its_file by in_table) e =
    named-apart me path (codes "snapshot") (drop 9 path) by in_table other-snapshots (leads-snapshot path (snapshot_name id) e)

-- and to none of a floor or of a consumer
pub own-no_floor : (me : Actor) (path : List ℕ) (n : ℕ) → IsOwn me path → name_in floor_folder path ≢ Some (floor_name n)
own-no_floor me path n (its_origin own) e =
    none-some (floor_name n) (sym (snapshot-no_floor (origin_name me)) ∙ ap (name_in floor_folder) (sym own) ∙ e)
own-no_floor me path n (its_file by in_table) e =
    named-apart me path (codes "floor") (drop 6 path) by in_table other-floors (leads-floor path (floor_name n) e)

pub own-no_consumer : (me : Actor) (path name : List ℕ) → IsOwn me path → name_in consumer_folder path ≢ Some (consumer_file name)
own-no_consumer me path name (its_origin own) e =
    none-some (consumer_file name) (sym (snapshot-no_consumer (origin_name me)) ∙ ap (name_in consumer_folder) (sym own) ∙ e)
own-no_consumer me path name (its_file by in_table) e =
    named-apart me path (codes "consumer") (drop 9 path) by in_table other-consumers (leads-consumer path (consumer_file name) e)
