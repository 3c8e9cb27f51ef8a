-- A row's group depends on its key alone, so the rows of a key lie in one group.
use Rattle.std.proofs.Common.{◌≡◌, ℕ, List, [], ◌∷◌, map, filter, Bool, true, false, cond, ◌&&◌, ◌||◌, refl, ap, subst, ◌∙◌}
use Rattle.std.specs.List.{AllByRecursion, list_all}
use Rattle.std.specs.Ordering.{eq_by_cmp}
use Rattle.std.specs.Str.{bytes_eq}
use Rattle.std.proofs.lemmas.Slice.Eq.{bytes_eq-Decides}
use Rattle.pm_binrow.specs.Hashing.{bucket_of, hash_of}
use Rattle.pm_binrow.specs.Row.{body}
use Rattle.pm_values.specs.GroupOrder.{group_cmp}
use Rattle.pm_values.specs.Order.{Values, key_cmp}
use Rattle.pm_values.specs.declared.group.Group.{Group}
use Rattle.pm_schema.specs.Rules.{is_among, partition_holds}
use Rattle.pm_schema.specs.declared.schema.TableSchema.{TableSchema}
use Rattle.pm_model_history.specs.ColumnValue.{index_of}
use Rattle.pm_model_history.specs.Merge.{HistoryRow, key_of, rows_of, value_at}
use Rattle.pm_model_history.specs.Merged.{primary_of}
use Rattle.pm_model_following.specs.Groups.{bucket_key_of, group_of, kind_at, partition_of, rows_in}

-- ---- lists

-- what holds of all items holds of those that pass
pub all-filter : {A : Type 0} (P : A → Type 0) (p : A → Bool) (xs : List A) → AllByRecursion P xs → AllByRecursion P (filter p xs)
all-filter P p [] all = tt
all-filter P p (x ∷ xs) all =
    elim (p x) as (λ b. AllByRecursion P (cond b (x ∷ filter p xs) (filter p xs))) [
      | true ↦ (all.0, all-filter P p xs all.1)
      | false ↦ all-filter P p xs all.1
    ]

-- two tests pass the same items in either order
pub filter-swap : {A : Type 0} (p q : A → Bool) (xs : List A) → filter p (filter q xs) ≡ filter q (filter p xs)
filter-swap p q [] = refl
filter-swap p q (x ∷ xs) =
    elim (p x) as (λ b. p x ≡ b → filter p (cond (q x) (x ∷ filter q xs) (filter q xs)) ≡ filter q (cond b (x ∷ filter p xs) (filter p xs))) [
      | true ↦ λ e. elim (q x) as (λ c. filter p (cond c (x ∷ filter q xs) (filter q xs)) ≡ cond c (x ∷ filter q (filter p xs)) (filter q (filter p xs))) [
        | true ↦ ap (λ b. cond b (x ∷ filter p (filter q xs)) (filter p (filter q xs))) e ∙ ap (λ ys. x ∷ ys) (filter-swap p q xs)
        | false ↦ filter-swap p q xs
      ]
      | false ↦ λ e. elim (q x) as (λ c. filter p (cond c (x ∷ filter q xs) (filter q xs)) ≡ filter q (filter p xs)) [
        | true ↦ ap (λ b. cond b (x ∷ filter p (filter q xs)) (filter p (filter q xs))) e ∙ filter-swap p q xs
        | false ↦ filter-swap p q xs
      ]
    ] refl

both : (a b : Bool) → (a && b) ≡ true → (a ≡ true) × (b ≡ true)
both true b e = (refl, e)
both false b e = (e, cc)

-- ---- the group of a key

-- two rows have one value at the column of the name
abbrev AgreeAt : TableSchema → Values → Values → List ℕ → Type 0
AgreeAt s a b name = value_at a (index_of s name) ≡ value_at b (index_of s name)

agree-names : (s : TableSchema) (a b : Values) (names : List (List ℕ)) → key_of (map (index_of s) names) a ≡ key_of (map (index_of s) names) b → AllByRecursion (AgreeAt s a b) names
agree-names s a b [] same = tt
agree-names s a b (name ∷ names) same = (cc, agree-names s a b names cc)

agree-keys : (s : TableSchema) (a b : Values) (names : List (List ℕ)) → AllByRecursion (AgreeAt s a b) names → key_of (map (index_of s) names) a ≡ key_of (map (index_of s) names) b
agree-keys s a b [] all = refl
agree-keys s a b (name ∷ names) all =
    let here : value_at a (index_of s name) ≡ value_at b (index_of s name) = all.0 in
    let rest = agree-keys s a b names all.1 in
    λ i. here i ∷ rest i

agree-among : (s : TableSchema) (a b : Values) (names : List (List ℕ)) (name : List ℕ) → AllByRecursion (AgreeAt s a b) names → is_among names name ≡ true → AgreeAt s a b name
agree-among s a b [] name all among = cc
agree-among s a b (other ∷ names) name all among =
    elim (bytes_eq other name) as (λ t. bytes_eq other name ≡ t → (t || is_among names name) ≡ true → AgreeAt s a b name) [
      | true ↦ λ t e. subst (AgreeAt s a b) ((bytes_eq-Decides other name).0 t) all.0
      | false ↦ λ t e. agree-among s a b names name all.1 e
    ] refl among

agree-some : (s : TableSchema) (a b : Values) (names some : List (List ℕ)) → AllByRecursion (AgreeAt s a b) names → list_all (is_among names) some ≡ true → AllByRecursion (AgreeAt s a b) some
agree-some s a b names [] all among = tt
agree-some s a b names (name ∷ some) all among =
    let parts = both (is_among names name) (list_all (is_among names) some) among in
    (agree-among s a b names name all parts.0, agree-some s a b names some all parts.1)

-- rows of one key are of one group
pub same_group : (s : TableSchema) (a b : Values) → partition_holds s ≡ true → key_of (primary_of s) a ≡ key_of (primary_of s) b → group_of s a ≡ group_of s b
same_group s a b holds same =
    let all : AllByRecursion (AgreeAt s a b) s.primary = agree-names s a b s.primary same in
    let partition : key_of (partition_of s) a ≡ key_of (partition_of s) b = agree-keys s a b s.partition (agree-some s a b s.primary s.partition all (both (list_all (is_among s.primary) s.partition) _ holds).0) in
    let others : key_of (bucket_key_of s) a ≡ key_of (bucket_key_of s) b = agree-keys s a b _ (all-filter (AgreeAt s a b) _ s.primary all) in
    λ i. record {
      partition = partition i;
      bucket = bucket_of (hash_of (body (map (kind_at s) (bucket_key_of s)) (others i))) s.options.bucket;
    }

-- of a group, the rows of a key are those that the key has in it
pub key_rows_in : (s : TableSchema) (key : Values) (h : Group) (rows : List HistoryRow) → rows_of (primary_of s) key (rows_in s h rows) ≡ rows_in s h (rows_of (primary_of s) key rows)
key_rows_in s key h rows = filter-swap (λ (r : HistoryRow). eq_by_cmp key_cmp key (key_of (primary_of s) r.1)) (λ (r : HistoryRow). eq_by_cmp group_cmp (group_of s r.1) h) rows
