-- A schema's JSON has no float, so that its text is defined.
use Rattle.std.proofs.Common.{◌≡◌, ℕ, ℤ, pos, negsuc, Bool, true, false, ◌||◌, List, [], ◌∷◌, map, codes, Option, None, Some, Ordering, Less, Equal, Greater, refl}
use Rattle.std.specs.Cmp.Lexicographic.{slice_cmp}
use Rattle.std.specs.Ordering.{nat_cmp, match_ordering}
use Rattle.serde_json.specs.Data.{Data, string, Members, no_members, member, put}
use Rattle.serde_json.specs.Find.{is_float, of_integer}
use Rattle.serde_json.specs.View.{items_of}
use Rattle.serde_json.specs.Written.{has_float, items_have_float, members_have_float}
use Rattle.pm_options.specs.Table.{Setting}
use Rattle.pm_options.specs.Written.{settings_of}
use Rattle.pm_values.specs.declared.column.Column.{Column}
use Rattle.pm_schema.specs.Written.{column_data, comment_data, first_members, last_members, schema_members, settings_members, with_origin}
use Rattle.pm_schema.specs.declared.schema.TableSchema.{TableSchema}

neither : (a b : Bool) → a ≡ false → b ≡ false → a || b ≡ false
neither true b is was = cc
neither false b is was = was

left : (a b : Bool) → a || b ≡ false → a ≡ false
left true b is = cc
left false b is = refl

right : (a b : Bool) → a || b ≡ false → b ≡ false
right true b is = cc
right false b is = is

put_at : (o : Ordering) (k l : List ℕ) (d e : Data) (ms rest : Members) → has_float d ≡ false → has_float e ≡ false → members_have_float ms ≡ false → members_have_float rest ≡ false
    → members_have_float (match_ordering o (member k d (member l e ms)) (member l d ms) (member l e rest)) ≡ false
put_at Less k l d e ms rest p q r s = neither (has_float d) _ p (neither (has_float e) _ q r)
put_at Equal k l d e ms rest p q r s = neither (has_float d) _ p r
put_at Greater k l d e ms rest p q r s = neither (has_float e) _ q s

pub no_float-put : (k : List ℕ) (d : Data) (ms : Members) → has_float d ≡ false → members_have_float ms ≡ false → members_have_float (put k d ms) ≡ false
no_float-put k d no_members p r = neither (has_float d) false p refl
no_float-put k d (member l e ms) p r =
    let here = left (has_float e) (members_have_float ms) r in
    let there = right (has_float e) (members_have_float ms) r in
    put_at (slice_cmp nat_cmp k l) k l d e ms (put k d ms) p here there (no_float-put k d ms p there)

no_float-texts : (texts : List (List ℕ)) → items_have_float (items_of (map string texts)) ≡ false
no_float-texts [] = refl
no_float-texts (text ∷ texts) = no_float-texts texts

no_float-columns : (columns : List Column) → items_have_float (items_of (map column_data columns)) ≡ false
no_float-columns [] = refl
no_float-columns (c ∷ columns) = no_float-columns columns

no_float-settings : (settings : List Setting) → members_have_float (settings_members settings) ≡ false
no_float-settings [] = refl
no_float-settings (s ∷ settings) = no_float-put s.0 (string s.1) (settings_members settings) refl (no_float-settings settings)

no_float-integer : (z : ℤ) → is_float (of_integer z) ≡ false
no_float-integer (pos n) = refl
no_float-integer (negsuc n) = refl

no_float-comment : (comment : Option (List ℕ)) → has_float (comment_data comment) ≡ false
no_float-comment None = refl
no_float-comment (Some text) = refl

no_float-origin : (origin : Option (List ℕ)) (ms : Members) → members_have_float ms ≡ false → members_have_float (with_origin origin ms) ≡ false
no_float-origin None ms is = is
no_float-origin (Some text) ms is = no_float-put (codes "origin") (string text) ms refl is

no_float-members : (s : TableSchema) → members_have_float (last_members s (first_members s)) ≡ false
no_float-members s =
    rw (no_float-comment s.comment, no_float-columns s.columns, no_float-settings (settings_of s.options), no_float-texts s.partition, no_float-texts s.primary, no_float-integer s.time)
    refl

pub no_float-schema : (s : TableSchema) → members_have_float (schema_members s) ≡ false
no_float-schema s = no_float-origin s.origin (last_members s (first_members s)) (no_float-members s)
