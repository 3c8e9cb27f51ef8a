-- The JSON of a schema states the schema.
use Rattle.std.proofs.Common.{◌≡◌, ℕ, ◌^◌, ◌<◌, ◌≤◌, ℤ, pos, negsuc, true, cond, nat_lt, List, [], ◌∷◌, map, codes, Option, None, Some, option_and_then, Ordering, Less, Equal, Greater, refl, ap, ◌∙◌, arith, rules}
use Rattle.std.proofs.lemmas.Bool.Decides.{nat_tests}
use Rattle.std.specs.BTreeMap.{insert_entry}
use Rattle.std.specs.Cmp.Lexicographic.{slice_cmp}
use Rattle.std.specs.List.{AllByRecursion}
use Rattle.std.specs.Ordering.{nat_cmp, match_ordering}
use Rattle.std.specs.Prelude.{FitsSigned}
use Rattle.std.specs.Int.{w64}
use Rattle.serde_json.specs.Data.{Data, Num, Items, number, unsigned, string, array, object, Members, no_members, member, put, depth, items_depth, members_depth}
use Rattle.serde_json.specs.Find.{as_str, as_i64, of_integer}
use Rattle.serde_json.specs.View.{items_of}
use Rattle.pm_options.specs.Fields.{by_name}
use Rattle.pm_options.specs.Table.{Setting}
use Rattle.pm_options.specs.Written.{settings_of}
use Rattle.pm_values.specs.declared.column.Column.{Column}
use Rattle.pm_schema.specs.ColumnType.{Field}
use Rattle.pm_schema.specs.Again.{HasRanges, field_of, stated_again}
use Rattle.pm_schema.specs.Stated.{all_in, field_in, file_in, settings_in, text_or_null}
use Rattle.pm_schema.specs.Written.{column_data, comment_data, first_members, last_members, schema_members, settings_members, with_origin}
use Rattle.pm_schema.specs.declared.schema.TableSchema.{TableSchema}
use Rattle.pm_schema.proofs.Steps.{member_parts}

-- ---- how deep it nests

put_depth_at : (o : Ordering) (k l : List ℕ) (d e : Data) (ms rest : Members) (n : ℕ) → depth d ≤ n → depth e ≤ n → members_depth ms ≤ n → members_depth rest ≤ n
    → members_depth (match_ordering o (member k d (member l e ms)) (member l d ms) (member l e rest)) ≤ n
put_depth_at Less k l d e ms rest n p q r s = omega arith
put_depth_at Equal k l d e ms rest n p q r s = omega arith
put_depth_at Greater k l d e ms rest n p q r s = omega arith

put_depth : (k : List ℕ) (d : Data) (ms : Members) (n : ℕ) → depth d ≤ n → members_depth ms ≤ n → members_depth (put k d ms) ≤ n
put_depth k d no_members n p r = omega arith
put_depth k d (member l e ms) n p r =
    let here : depth e ≤ n = omega arith in
    let there : members_depth ms ≤ n = omega arith in
    put_depth_at (slice_cmp nat_cmp k l) k l d e ms (put k d ms) n p here there (put_depth k d ms n p there)

settings_depth : (ss : List Setting) → members_depth (settings_members ss) ≤ 0
settings_depth [] = omega arith
settings_depth (s ∷ ss) = put_depth s.0 (string s.1) (settings_members ss) 0 (omega arith) (settings_depth ss)

texts_depth : (texts : List (List ℕ)) → items_depth (items_of (map string texts)) ≤ 0
texts_depth [] = omega arith
texts_depth (text ∷ texts) = let rest = texts_depth texts in omega arith

columns_depth : (columns : List Column) → items_depth (items_of (map column_data columns)) ≤ 1
columns_depth [] = omega arith
columns_depth (c ∷ columns) = let rest = columns_depth columns in omega arith

comment_depth : (comment : Option (List ℕ)) → depth (comment_data comment) ≤ 0
comment_depth None = omega arith
comment_depth (Some text) = omega arith

rest_depth : (s : TableSchema) → members_depth (last_members s (first_members s)) ≤ 2
rest_depth s =
    let comment = comment_depth s.comment in
    let columns = columns_depth s.columns in
    let settings = settings_depth (settings_of s.options) in
    let partition = texts_depth s.partition in
    let primary = texts_depth s.primary in
    omega arith

origin_depth : (origin : Option (List ℕ)) (ms : Members) → members_depth ms ≤ 2 → members_depth (with_origin origin ms) ≤ 2
origin_depth None ms small = small
origin_depth (Some text) ms small = put_depth (codes "origin") (string text) ms 2 (omega arith) small

pub schema_depth : (s : TableSchema) → depth (object (schema_members s)) ≤ 127
schema_depth s = let small = origin_depth s.origin (last_members s (first_members s)) (rest_depth s) in omega arith

-- ---- its parts

texts_again : (texts : List (List ℕ)) → all_in as_str (items_of (map string texts)) ≡ Some texts
texts_again [] = refl
texts_again (text ∷ texts) = ap (λ o. option_and_then (λ more. Some (text ∷ more)) o) (texts_again texts)

small_at : (n : ℕ) → n < 2 ^ 32 → nat_lt n (2 ^ 32) ≡ true
small_at n small = search (rules, nat_tests)

column_again : (c : Column) → c.id < 2 ^ 32 → field_in (column_data c) ≡ Some (field_of c)
column_again c small = rw (small_at c.id small) refl

columns_again : (columns : List Column) → AllByRecursion (λ c. c.id < 2 ^ 32) columns → all_in field_in (items_of (map column_data columns)) ≡ Some (map field_of columns)
columns_again [] all = refl
columns_again (c ∷ columns) all =
    ap (λ o. option_and_then (λ x. option_and_then (λ more. Some (x ∷ more)) (all_in field_in (items_of (map column_data columns)))) o) (column_again c all.0)
    ∙ ap (λ o. option_and_then (λ more. Some (field_of c ∷ more)) o) (columns_again columns all.1)

comment_again : (comment : Option (List ℕ)) → text_or_null (comment_data comment) ≡ Some comment
comment_again None = refl
comment_again (Some text) = refl

below : (n : ℕ) → n < 2 ^ 63 → nat_lt n (2 ^ 63) ≡ true
below n small = search (rules, nat_tests)

time_again : (z : ℤ) → FitsSigned w64 z → as_i64 (of_integer z) ≡ Some z
time_again (pos n) fits = ap (λ b. cond b (Some (pos n)) None) (below n fits.sfits)
time_again (negsuc n) fits = refl

member_whole : (l : List ℕ) (e : Data) (ms : Members) (text : List ℕ) (rest : List Setting) → as_str e ≡ Some text → settings_in ms ≡ Some rest → settings_in (member l e ms) ≡ Some ((l, text) ∷ rest)
member_whole l e ms text rest a b =
    ap (λ o. option_and_then (λ t. option_and_then (λ more. Some ((l, t) ∷ more)) (settings_in ms)) o) a
    ∙ ap (λ o. option_and_then (λ more. Some ((l, text) ∷ more)) o) b

put_again_at : (o : Ordering) (k v l : List ℕ) (e : Data) (ms more : Members) (text : List ℕ) (rest put_rest : List Setting) → as_str e ≡ Some text → settings_in ms ≡ Some rest → settings_in more ≡ Some put_rest
    → settings_in (match_ordering o (member k (string v) (member l e ms)) (member l (string v) ms) (member l e more)) ≡ Some (match_ordering o ((k, v) ∷ (l, text) ∷ rest) ((l, v) ∷ rest) ((l, text) ∷ put_rest))
put_again_at Less k v l e ms more text rest put_rest a b d = member_whole k (string v) (member l e ms) v ((l, text) ∷ rest) refl (member_whole l e ms text rest a b)
put_again_at Equal k v l e ms more text rest put_rest a b d = member_whole l (string v) ms v rest refl b
put_again_at Greater k v l e ms more text rest put_rest a b d = member_whole l e more text put_rest a d

put_again : (k v : List ℕ) (ms : Members) (ss : List Setting) → settings_in ms ≡ Some ss → settings_in (put k (string v) ms) ≡ Some (insert_entry (slice_cmp nat_cmp) ss k v)
put_again k v no_members ss is = let none : [] ≡ ss = cc in ap (λ ts. Some (insert_entry (slice_cmp nat_cmp) ts k v)) none
put_again k v (member l e ms) ss is =
    let parts = member_parts l e ms ss is in
    put_again_at (slice_cmp nat_cmp k l) k v l e ms (put k (string v) ms) parts.0 parts.1 (insert_entry (slice_cmp nat_cmp) parts.1 k v) parts.2 parts.3 (put_again k v ms parts.1 parts.3)
    ∙ ap (λ ts. Some (insert_entry (slice_cmp nat_cmp) ts k v)) parts.4

pub settings_again : (ss : List Setting) → settings_in (settings_members ss) ≡ Some (by_name ss)
settings_again [] = refl
settings_again (s ∷ ss) = put_again s.0 s.1 (settings_members ss) (by_name ss) (settings_again ss)

-- ---- the whole

-- the members of a schema's object but for the origin, in order, around what may stand between `options` and `partitionKeys`
abbrev chain : ℕ → ℕ → Items → Items → Items → Members → Data → Num → (Members → Members) → Members
chain id highest columns partition primary options comment time around =
    member (codes "comment") comment
    (member (codes "fields") (array columns)
    (member (codes "highestFieldId") (number (unsigned highest))
    (member (codes "id") (number (unsigned id))
    (member (codes "options") (object options)
    (around
    (member (codes "partitionKeys") (array partition)
    (member (codes "primaryKeys") (array primary)
    (member (codes "timeMillis") (number time)
    (member (codes "version") (number (unsigned 3)) no_members)))))))))

no_origin : (id highest : ℕ) (columns partition primary : Items) (options : Members) (comment : Data) (time : Num)
    (fields : List Field) (ps ks : List (List ℕ)) (ss : List Setting) (c : Option (List ℕ)) (t : ℤ)
    → nat_lt highest (2 ^ 32) ≡ true → all_in field_in columns ≡ Some fields → all_in as_str partition ≡ Some ps → all_in as_str primary ≡ Some ks → settings_in options ≡ Some ss
    → text_or_null comment ≡ Some c → as_i64 time ≡ Some t
    → file_in (object (chain id highest columns partition primary options comment time (λ ms. ms)))
    ≡ Some (record { id = id; fields = fields; highest = highest; partition = ps; primary = ks; settings = ss; comment = c; time = t; origin = None })
unfolding file_in
no_origin id highest columns partition primary options comment time fields ps ks ss c t small a b d e f g = rw (a, small, b, d, e, f, g) refl

some_origin : (id highest : ℕ) (columns partition primary : Items) (options : Members) (comment : Data) (time : Num) (origin : List ℕ)
    (fields : List Field) (ps ks : List (List ℕ)) (ss : List Setting) (c : Option (List ℕ)) (t : ℤ)
    → nat_lt highest (2 ^ 32) ≡ true → all_in field_in columns ≡ Some fields → all_in as_str partition ≡ Some ps → all_in as_str primary ≡ Some ks → settings_in options ≡ Some ss
    → text_or_null comment ≡ Some c → as_i64 time ≡ Some t
    → file_in (object (chain id highest columns partition primary options comment time (member (codes "origin") (string origin))))
    ≡ Some (record { id = id; fields = fields; highest = highest; partition = ps; primary = ks; settings = ss; comment = c; time = t; origin = Some origin })
unfolding file_in
some_origin id highest columns partition primary options comment time origin fields ps ks ss c t small a b d e f g = rw (a, small, b, d, e, f, g) refl

again_with : (s : TableSchema) (o : Option (List ℕ)) → HasRanges s → file_in (object (with_origin o (last_members s (first_members s)))) ≡ Some (record (stated_again s) { origin = o })
again_with s None has =
    no_origin s.id s.highest (items_of (map column_data s.columns)) (items_of (map string s.partition)) (items_of (map string s.primary)) (settings_members (settings_of s.options))
    (comment_data s.comment) (of_integer s.time) (map field_of s.columns) s.partition s.primary (by_name (settings_of s.options)) s.comment s.time
    (small_at s.highest has.highest) (columns_again s.columns has.ids) (texts_again s.partition) (texts_again s.primary) (settings_again (settings_of s.options)) (comment_again s.comment)
    (time_again s.time has.time)
again_with s (Some origin) has =
    some_origin s.id s.highest (items_of (map column_data s.columns)) (items_of (map string s.partition)) (items_of (map string s.primary)) (settings_members (settings_of s.options))
    (comment_data s.comment) (of_integer s.time) origin (map field_of s.columns) s.partition s.primary (by_name (settings_of s.options)) s.comment s.time
    (small_at s.highest has.highest) (columns_again s.columns has.ids) (texts_again s.partition) (texts_again s.primary) (settings_again (settings_of s.options)) (comment_again s.comment)
    (time_again s.time has.time)

pub file_again : (s : TableSchema) → HasRanges s → file_in (object (schema_members s)) ≡ Some (stated_again s)
file_again s has = again_with s s.origin has
