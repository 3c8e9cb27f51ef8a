-- The folders of groups.
use Rattle.std.proofs.Common.{◌≡◌, ℕ, ◌+◌, ◌<◌, ◌≤◌, ◌^◌, ◌==◌, false, true, List, [], ◌∷◌, ◌++◌, length, codes}
use Rattle.std.proofs.Common.{decimal}
use Rattle.std.proofs.Common.{refl, sym, ap, ◌∙◌, append_assoc, arith, IsTrue}
use Rattle.std.proofs.lemmas.Bool.{ltb-false}
use Rattle.std.proofs.lemmas.Fmt.{decimal_injective}
use Rattle.std.proofs.lemmas.List.{append_cancel_left}
use Rattle.std.specs.List.{AllByRecursion, AllZip, find, list_all, list_any, slice_split}
use Rattle.std.specs.Str.{bytes_eq}
use Rattle.pm_values.specs.Fits.{IsInType}
use Rattle.pm_values.specs.Order.{Values}
use Rattle.pm_values.specs.declared.column.Column.{Column}
use Rattle.pm_values.specs.declared.group.Group.{Group}
use Rattle.pm_values.specs.declared.value.Value.{Value}
use Rattle.pm_schema.specs.Again.{IsDeclared}
use Rattle.pm_schema.specs.Folder.{FitsPart, FitsPartition, escaped, folder_text, parts_text, value_text}
use Rattle.pm_schema.specs.Rules.{is_name, names_of}
use Rattle.pm_schema.specs.declared.schema.TableSchema.{TableSchema}
use Rattle.pm_partitions.specs.Names.{bucket_name, folder_names, is_folder_name, is_too_long, part_names}
use Rattle.pm_partitions.proofs.Escapes.{one_text, same_heads}
use Rattle.pm_partitions.proofs.Names.{bucket_plain, bucket_short, column_named, cut, part_plain, part_short, whole}
use Rattle.pm_partitions.proofs.Tests.{neither}
use Rattle.pm_partitions.proofs.Texts.{one_value, text_bytes}

-- a part with what stands after it
regrouped : (name text parts rest : List ℕ)
    → (name ++ 61 ∷ (text ++ 47 ∷ []) ++ parts) ++ rest ≡ name ++ 61 ∷ (text ++ 47 ∷ (parts ++ rest))
regrouped name text parts rest =
    append_assoc (name ++ 61 ∷ (text ++ 47 ∷ [])) parts rest
    ∙ append_assoc name (61 ∷ (text ++ 47 ∷ [])) (parts ++ rest)
    ∙ ap (λ (l : List ℕ). name ++ 61 ∷ l) (append_assoc text (47 ∷ []) (parts ++ rest))

-- ---- one group

module _ (columns : List Column) where
  one_partition : (names : List (List ℕ)) (vs ws : Values) (x y : List ℕ) → AllZip (FitsPart columns) names vs
      → AllZip (FitsPart columns) names ws → parts_text names vs ++ x ≡ parts_text names ws ++ y → (vs ≡ ws) × (x ≡ y)
  one_partition [] [] [] x y fits also e = (refl, e)
  one_partition [] [] (w ∷ ws) x y fits also e = absurd also
  one_partition [] (v ∷ vs) ws x y fits also e = absurd fits
  one_partition (n ∷ names) [] ws x y fits also e = absurd fits
  one_partition (n ∷ names) (v ∷ vs) [] x y fits also e = absurd also
  one_partition (n ∷ names) (v ∷ vs) (w ∷ ws) x y fits also e =
      let t = escaped (value_text v) in
      let u = escaped (value_text w) in
      let same : n ++ 61 ∷ (t ++ 47 ∷ (parts_text names vs ++ x)) ≡ n ++ 61 ∷ (u ++ 47 ∷ (parts_text names ws ++ y)) =
      sym (regrouped n t (parts_text names vs) x) ∙ e ∙ regrouped n u (parts_text names ws) y in
      let after = (same_heads 61 61 (t ++ 47 ∷ (parts_text names vs ++ x)) (u ++ 47 ∷ (parts_text names ws ++ y))
      (append_cancel_left n (61 ∷ (t ++ 47 ∷ (parts_text names vs ++ x)))
      (61 ∷ (u ++ 47 ∷ (parts_text names ws ++ y))) same)).1 in
      let here = one_text (value_text v) (value_text w) (parts_text names vs ++ x) (parts_text names ws ++ y) after in
      let first : v ≡ w = one_value (find (λ c. bytes_eq c.name n) columns) v w fits.0 also.0 here.0 in
      let later = one_partition names vs ws x y fits.1 also.1 here.1 in
      (ap (λ (z : Value). z ∷ vs) first ∙ ap (λ (zs : Values). w ∷ zs) later.0, later.1)

pub one_group : (s : TableSchema) (g h : Group) → FitsPartition s g → FitsPartition s h → g.bucket < 2 ^ 32
    → h.bucket < 2 ^ 32 → folder_text s g ≡ folder_text s h → g ≡ h
one_group s g h fits also low high e =
    let parts = one_partition s.columns s.partition g.partition h.partition
    (bucket_name g.bucket) (bucket_name h.bucket) fits also e in
    let digits : decimal g.bucket ≡ decimal h.bucket =
    append_cancel_left (codes "bucket-") (decimal g.bucket) (decimal h.bucket) parts.1 in
    let bucket : g.bucket ≡ h.bucket = decimal_injective g.bucket h.bucket (omega arith) (omega arith) digits in
    let partition = parts.0 in
    λ i. record { partition = partition i; bucket = bucket i }

-- ---- its names

module _ (columns : List Column) (named : list_all is_name (names_of columns) ≡ true) (last : List ℕ) where
  parts_plain : (names : List (List ℕ)) (vs : Values) → AllZip (FitsPart columns) names vs → is_folder_name last ≡ true
      → AllByRecursion (λ name. IsTrue (is_folder_name name)) (part_names names vs ++ last ∷ [])
  parts_plain [] [] fits is = (is, tt)
  parts_plain [] (v ∷ vs) fits is = absurd fits
  parts_plain (n ∷ names) [] fits is = absurd fits
  parts_plain (n ∷ names) (v ∷ vs) fits is =
      let found = find (λ c. bytes_eq c.name n) columns in (
        part_plain n (value_text v) (column_named columns n (λ c. IsInType c.kind v) named fits.0)
            (text_bytes found v fits.0),
        parts_plain names vs fits.1 is,
      )

  parts_short : (names : List (List ℕ)) (vs : Values) → AllZip (FitsPart columns) names vs
      → list_any is_too_long vs ≡ false
      → length last ≤ 255 → AllByRecursion (λ name. length name ≤ 255) (part_names names vs ++ last ∷ [])
  parts_short [] [] fits few is = (is, tt)
  parts_short [] (v ∷ vs) fits few is = absurd fits
  parts_short (n ∷ names) [] fits few is = absurd fits
  parts_short (n ∷ names) (v ∷ vs) fits few is =
      let p = neither (is_too_long v) (list_any is_too_long vs) few in
      let le : length (value_text v) ≤ 60 = ltb-false 60 (length (value_text v)) p.0 in (
        part_short n (value_text v) (column_named columns n (λ c. IsInType c.kind v) named fits.0) le,
        parts_short names vs fits.1 p.1 is,
      )

  parts_cut : (names : List (List ℕ)) (vs : Values) → AllZip (FitsPart columns) names vs → is_folder_name last ≡ true
      → slice_split (λ b. b == 47) (parts_text names vs ++ last) ≡ part_names names vs ++ last ∷ []
  parts_cut [] [] fits is = whole last is
  parts_cut [] (v ∷ vs) fits is = absurd fits
  parts_cut (n ∷ names) [] fits is = absurd fits
  parts_cut (n ∷ names) (v ∷ vs) fits is =
      let t = escaped (value_text v) in
      let found = find (λ c. bytes_eq c.name n) columns in
      let plain = part_plain n (value_text v) (column_named columns n (λ c. IsInType c.kind v) named fits.0)
      (text_bytes found v fits.0) in
      let whole_text : parts_text (n ∷ names) (v ∷ vs) ++ last ≡ (n ++ 61 ∷ t) ++ 47 ∷ (parts_text names vs ++ last) =
      regrouped n t (parts_text names vs) last ∙ sym (append_assoc n (61 ∷ t) (47 ∷ (parts_text names vs ++ last))) in
      ap (slice_split (λ b. b == 47)) whole_text
      ∙ cut (n ++ 61 ∷ t) (parts_text names vs ++ last) plain
      ∙ ap (λ (l : List (List ℕ)). (n ++ 61 ∷ t) ∷ l) (parts_cut names vs fits.1 is)

parts_count : (R : List ℕ → Value → Type 0) (names : List (List ℕ)) (vs : Values) (last : List ℕ) → AllZip R names vs
    → length (part_names names vs ++ last ∷ []) ≡ length names + 1
parts_count R [] [] last fits = refl
parts_count R [] (v ∷ vs) last fits = absurd fits
parts_count R (n ∷ names) [] last fits = absurd fits
parts_count R (n ∷ names) (v ∷ vs) last fits = omega (arith, parts_count R names vs last fits.1)

module _ (s : TableSchema) (g : Group) where
  pub names : IsDeclared s → FitsPartition s g → g.bucket < 2 ^ 32
      → slice_split (λ b. b == 47) (folder_text s g) ≡ folder_names s g
  names is fits lt =
      parts_cut s.columns is.rules.0 (bucket_name g.bucket) s.partition g.partition fits (bucket_plain g.bucket lt)

  pub count : FitsPartition s g → length (folder_names s g) ≡ length s.partition + 1
  count fits = parts_count (FitsPart s.columns) s.partition g.partition (bucket_name g.bucket) fits

  pub plain : IsDeclared s → FitsPartition s g → g.bucket < 2 ^ 32
      → AllByRecursion (λ name. IsTrue (is_folder_name name)) (folder_names s g)
  plain is fits lt =
      parts_plain s.columns is.rules.0 (bucket_name g.bucket) s.partition g.partition fits (bucket_plain g.bucket lt)

  pub short : IsDeclared s → FitsPartition s g → g.bucket < 2 ^ 32 → list_any is_too_long g.partition ≡ false
      → AllByRecursion (λ name. length name ≤ 255) (folder_names s g)
  short is fits lt few =
      parts_short s.columns is.rules.0 (bucket_name g.bucket) s.partition g.partition fits few
      (bucket_short g.bucket lt)
