-- The rows of each group, one row after another.
use Rattle.std.proofs.Common.{◌≡◌, ℕ, suc, ◌+◌, ◌<◌, List, [], ◌∷◌, ◌++◌, map, filter, length, take, get_or, Bool, true, false, cond, Option, Some, None, refl, sym, ap, subst, ◌∙◌, append-nil, arith, if◌then◌else◌}
use Rattle.std.specs.BTreeMap.{BTreeMap, get, get_by, is_at}
use Rattle.std.specs.Cmp.{Equal-is}
use Rattle.std.specs.Map.{lookup}
use Rattle.std.specs.Option.{unwrap_or}
use Rattle.std.specs.Ordering.{eq_by_cmp}
use Rattle.std.proofs.lemmas.List.{get_or-map, length-append, take_more}
use Rattle.std.proofs.lemmas.List.Elements.{filter-append}
use Rattle.pm_values.specs.GroupOrder.{group_cmp}
use Rattle.pm_values.specs.Order.{Values}
use Rattle.pm_values.specs.declared.group.Group.{Group}
use Rattle.pm_values.specs.declared.record.Stamped.{Stamped}
use Rattle.pm_values.proofs.Lemmas.{group_cmp-IsAntisymmetric}
use Rattle.pm_schema.specs.declared.schema.TableSchema.{TableSchema}
use Rattle.pm_model_history.specs.ColumnValue.{index_of}
use Rattle.pm_model_history.specs.Merge.{key_of}
use Rattle.pm_model_following.specs.Groups.{bucket_in, group_of, partition_of}
use Rattle.pm_group_rows.specs.Cut.{cut_of, in_only_group, lying_in, only_group, put_last, renumbered, some_rows, with_row}
use Rattle.pm_group_rows.proofs.BucketLemmas.{blank, in_first}

-- ---- one row more

length-renumbered : (n : ℕ) (rows : List Stamped) → length (renumbered n rows) ≡ length rows
length-renumbered n [] = refl
length-renumbered n (x ∷ rows) = ap suc (length-renumbered (n + 1) rows)

renumbered-push : (n : ℕ) (rows : List Stamped) (x : Stamped) → renumbered n (rows ++ x ∷ []) ≡ renumbered n rows ++ record x { seq = n + length rows } ∷ []
renumbered-push n [] x = ap (λ (k : ℕ). record x { seq = k } ∷ []) (let same : n ≡ n + 0 = omega arith in same)
renumbered-push n (y ∷ rows) x =
    let first : Stamped = record y { seq = n } in
    ap (λ (ys : List Stamped). first ∷ ys) (renumbered-push (n + 1) rows x
    ∙ ap (λ (k : ℕ). renumbered (n + 1) rows ++ record x { seq = k } ∷ []) (let same : n + 1 + length rows ≡ n + suc (length rows) = omega arith in same))

-- behind the rows of a group it has the next number
put-is : (rows : List Stamped) (x : Stamped) → renumbered 0 (rows ++ x ∷ []) ≡ put_last x (renumbered 0 rows)
put-is rows x =
    renumbered-push 0 rows x ∙ ap (λ (k : ℕ). renumbered 0 rows ++ record x { seq = k } ∷ []) (let same : 0 + length rows ≡ length (renumbered 0 rows) = omega (arith, length-renumbered 0 rows) in same)

some-put : (rows : List Stamped) (x : Stamped) → some_rows (put_last x rows) ≡ Some (put_last x (unwrap_or (some_rows rows) []))
some-put [] x = refl
some-put (y ∷ rows) x = refl

lying_in-push : (s : TableSchema) (g : Group) (rows : List Stamped) (x : Stamped) → lying_in s g (rows ++ x ∷ []) ≡ lying_in s g rows ++ cond (eq_by_cmp group_cmp (group_of s x.row) g) (x ∷ []) []
lying_in-push s g rows x = filter-append (λ (y : Stamped). eq_by_cmp group_cmp (group_of s y.row) g) rows (x ∷ [])

pub cut_more : (s : TableSchema) (g : Group) (rows : List Stamped) (x : Stamped) → cut_of s g (rows ++ x ∷ []) ≡ with_row g (group_of s x.row) x (cut_of s g rows)
cut_more s g rows x = ap (λ (own : List Stamped). some_rows (renumbered 0 own)) (lying_in-push s g rows x) ∙ by (is_at (group_cmp (group_of s x.row)) g)
  where
    by : (b : Bool) → some_rows (renumbered 0 (lying_in s g rows ++ cond b (x ∷ []) [])) ≡ (if b then Some (put_last x (unwrap_or (cut_of s g rows) [])) else cut_of s g rows)
    by true = ap some_rows (put-is (lying_in s g rows) x) ∙ some-put (renumbered 0 (lying_in s g rows)) x
    by false = ap (λ (own : List Stamped). some_rows (renumbered 0 own)) (append-nil (lying_in s g rows))

-- once a row was put to those of its group, the rows so far are one more
pub dealt-more : (s : TableSchema) (rows : List Stamped) (i : ℕ) (row : Stamped) (group : Group) (partition : List ℕ) (buckets : List ℕ) (g : Group) (before after : Option (List Stamped))
    → i < length rows → row ≡ get_or rows i blank → partition ≡ partition_of s → group.partition ≡ key_of partition row.row → buckets ≡ map (λ (x : Stamped). bucket_in s x.row) rows
    → group.bucket ≡ get_or buckets i 0 → after ≡ with_row g group row before → before ≡ cut_of s g (take i rows) → after ≡ cut_of s g (take (i + 1) rows)
dealt-more s rows i row group partition buckets g before after inside is columns values all bucket now so_far =
    let x = get_or rows i blank in
    let own : group.partition ≡ key_of (partition_of s) row.row = values ∙ ap (λ (cs : List ℕ). key_of cs row.row) columns in
    let there : group.bucket ≡ bucket_in s row.row =
    bucket ∙ ap (λ (bs : List ℕ). get_or bs i 0) all ∙ get_or-map (λ (x : Stamped). bucket_in s x.row) rows i blank 0 inside ∙ ap (λ (x : Stamped). bucket_in s x.row) (sym is) in
    let same : group ≡ group_of s row.row = λ i. record { partition = own i; bucket = there i } in
    now
    ∙ ap (λ (h : Group). with_row g h row before) same
    ∙ ap (with_row g (group_of s row.row) row) so_far
    ∙ sym (cut_more s g (take i rows) row)
    ∙ ap (λ (y : Stamped). cut_of s g (take i rows ++ y ∷ [])) is
    ∙ ap (cut_of s g) (sym (take_more rows i blank inside))

-- ---- the map with a row more

ties : (a b : Group) → is_at (group_cmp a) b ≡ true → a ≡ b
ties a b is = group_cmp-IsAntisymmetric a b ((Equal-is (group_cmp a b)).0 is)

pub put : (g group : Group) (x row : Stamped) (m : BTreeMap Group (List Stamped)) (new es : List (Group × List Stamped)) (o : Option (List Stamped)) (own w : List Stamped) (n : ℕ)
    → ((q : Group) → lookup (is_at (group_cmp q)) es ≡ cond (is_at (group_cmp group) q) (Some w) (get group_cmp m q)) → o ≡ get group_cmp m group → own ≡ unwrap_or o []
    → n ≡ length own → row ≡ record x { seq = n } → w ≡ own ++ row ∷ [] → new ≡ es
    → lookup (is_at (group_cmp g)) new ≡ with_row g group x (get_by (group_cmp g) m)
put g group x row m new es o own w n up found is many numbered pushed same = by (is_at (group_cmp group) g) refl (ap (lookup (is_at (group_cmp g))) same ∙ up g)
  where
    by : (b : Bool) → is_at (group_cmp group) g ≡ b → lookup (is_at (group_cmp g)) new ≡ cond b (Some w) (get group_cmp m g)
        → lookup (is_at (group_cmp g)) new ≡ (if b then Some (put_last x (unwrap_or (get group_cmp m g) [])) else get group_cmp m g)
    by true tie now =
        let here : own ≡ unwrap_or (get group_cmp m g) [] = is ∙ ap (λ (p : Option (List Stamped)). unwrap_or p []) (found ∙ ap (get group_cmp m) (ties group g tie)) in
        let last : row ≡ record x { seq = length own } = numbered ∙ ap (λ (k : ℕ). record x { seq = k }) many in
        now ∙ ap Some (pushed ∙ ap (λ (r : Stamped). own ++ r ∷ []) last ∙ ap (put_last x) here)
    by false tie now = now

-- ---- one group

group-only : (s : TableSchema) (row : Values) → s.options.bucket ≡ 1 → s.partition ≡ [] → group_of s row ≡ only_group
group-only s row one none =
    let partition : key_of (map (index_of s) s.partition) row ≡ [] = ap (λ (names : List (List ℕ)). key_of (map (index_of s) names) row) none in
    let bucket = in_first s row one in
    λ i. record { partition = partition i; bucket = bucket i }

lying-only : (s : TableSchema) (g : Group) (rows : List Stamped) → s.options.bucket ≡ 1 → s.partition ≡ [] → lying_in s g rows ≡ cond (is_at (group_cmp only_group) g) rows []
lying-only s g [] one none = let nothing : List Stamped = [] in elim (is_at (group_cmp only_group) g) as (λ b. nothing ≡ cond b nothing nothing) [ true ↦ refl | false ↦ refl ]
lying-only s g (x ∷ rows) one none =
    ap (λ (h : Group). cond (eq_by_cmp group_cmp h g) (x ∷ lying_in s g rows) (lying_in s g rows)) (group-only s x.row one none)
    ∙ ap (λ (rest : List Stamped). cond (is_at (group_cmp only_group) g) (x ∷ rest) rest) (lying-only s g rows one none)
    ∙ elim (is_at (group_cmp only_group) g) as (λ b. cond b (x ∷ cond b rows []) (cond b rows []) ≡ cond b (x ∷ rows) []) [ true ↦ refl | false ↦ refl ]

pub cut-only : (s : TableSchema) (g : Group) (rows : List Stamped) → s.options.bucket ≡ 1 → s.partition ≡ [] → renumbered 0 rows ≡ rows → in_only_group g rows ≡ cut_of s g rows
cut-only s g rows one none counted = by (is_at (group_cmp only_group) g) ∙ sym (ap (λ (own : List Stamped). some_rows (renumbered 0 own)) (lying-only s g rows one none))
  where
    by : (b : Bool) → (if b then some_rows rows else None) ≡ some_rows (renumbered 0 (cond b rows []))
    by true = ap some_rows (sym counted)
    by false = refl
