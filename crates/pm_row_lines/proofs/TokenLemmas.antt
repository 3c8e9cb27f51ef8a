-- A line that is read straight from its tokens reads as that row.
use Rattle.std.proofs.Common.{◌≡◌, ℕ, suc, ◌+◌, ◌<◌, ◌≤◌, List, [], ◌∷◌, ◌++◌, length, drop, get_or, Some, Ok, option_map, option_and_then, ℤ, IsUtf8, refl, sym, ap, ◌∙◌, arith, append-nil, append_assoc, add-one, drop-cons, eq-eqb}
use Rattle.std.proofs.lemmas.Str.{is_utf8-from_IsUtf8}
use Rattle.json.specs.Json as json
use Rattle.json.specs.Lex.{tokens}
use Rattle.json.specs.Token as tok
use Rattle.json.specs.Tree as tree
use Rattle.json.proofs.Printed.Trees.{value-json_tokens}
use Rattle.serde_json.specs.Data.{Data, null, boolean, number, string, array, object}
use Rattle.serde_json.specs.Read.{of_json, of_items, max_depth, read}
use Rattle.serde_json.specs.View.{items_of}
use Rattle.pm_values.specs.Fits.{Fits}
use Rattle.pm_values.specs.Order.{Values}
use Rattle.pm_values.specs.declared.column.ColType.{ColType}
use Rattle.pm_values.specs.declared.column.ColType.TheVariants as types
use Rattle.pm_values.specs.declared.column.Column.{Column}
use Rattle.pm_values.specs.declared.kind.Kind.{Kind}
use Rattle.pm_values.specs.declared.value.Value.{Value}
use Rattle.pm_values.specs.declared.value.Value.TheVariants.{Int, Millis}
use Rattle.pm_rows.specs.Reading.{least, greatest, integer_at, whole_at, millis_at, json_in, list_of, value_at, item_at, values_at, row_of}
use Rattle.pm_rows.proofs.Lemmas.{Fits-row_of}
use Rattle.pm_row_lines.specs.Tokens.{item_data, ReadsAs, AreItems, AreRow}

-- ---- one item

-- the JSON of a token that is an item by itself
record IsLeaf (t : tok.Token) (d : Data) : Type 0 where
  leaf : json.Json
  means : of_json leaf ≡ Some d
  spelled : tree.json_tokens leaf ≡ t ∷ []
  shallow : tree.depth leaf ≡ 0

leaf_of : (t : tok.Token) (d : Data) → item_data t ≡ Some d → IsLeaf t d
leaf_of tok.begin_object d e = cc
leaf_of tok.end_object d e = cc
leaf_of tok.begin_array d e = cc
leaf_of tok.end_array d e = cc
leaf_of (tok.key s) d e = cc
leaf_of (tok.string s) d e = record { leaf = json.string s; means = e; spelled = refl; shallow = refl }
leaf_of (tok.number s) d e = record { leaf = json.number s; means = e; spelled = refl; shallow = refl }
leaf_of (tok.boolean b) d e = record { leaf = json.boolean b; means = e; spelled = refl; shallow = refl }
leaf_of tok.null d e = record { leaf = json.null; means = e; spelled = refl; shallow = refl }
leaf_of tok.bad d e = cc

-- ---- the items

record AreLeaves (columns : List Column) (ts : List tok.Token) (values : Values) : Type 0 where
  leaves : json.Items
  ds : List Data
  means : of_items leaves ≡ Some (items_of ds)
  spelled : ts ≡ tree.items_tokens leaves
  shallow : tree.items_depth leaves ≡ 0
  count : length ds ≡ length columns
  reads : (index : ℕ) → values_at index columns ds ≡ Ok values

leaves_of : (columns : List Column) (ts : List tok.Token) (values : Values) → AreItems columns ts values (tok.end_array ∷ []) → AreLeaves columns ts values
leaves_of [] ts [] are = record { leaves = json.no_items; ds = []; means = refl; spelled = are; shallow = refl; count = refl; reads = λ index. refl }
leaves_of [] ts (v ∷ values) are = absurd are
leaves_of (column ∷ columns) [] values are = absurd are
leaves_of (column ∷ columns) (t ∷ ts) [] are = absurd are
leaves_of (column ∷ columns) (t ∷ ts) (v ∷ values) are =
    let first = leaf_of t are.0.0 are.0.1 in
    let rest = leaves_of columns ts values are.1 in
    record {
      leaves = json.item first.leaf rest.leaves;
      ds = are.0.0 ∷ rest.ds;
      means = rw (first.means, rest.means) refl;
      spelled = rw (first.spelled, ← rest.spelled) refl;
      shallow = rw (first.shallow, rest.shallow) refl;
      count = ap suc rest.count;
      reads = λ index. rw (are.0.2 index, rest.reads (suc index)) refl;
    }

-- ---- the line

json_in-ok : (line : List ℕ) (d : Data) → IsUtf8 line → read line ≡ Some d → json_in line ≡ Ok d
json_in-ok line d utf8 is = rw (is_utf8-from_IsUtf8 line utf8, is)

list_of-items_of : (ds : List Data) → list_of (items_of ds) ≡ ds
list_of-items_of [] = refl
list_of-items_of (d ∷ ds) = ap (λ l. d ∷ l) (list_of-items_of ds)

pub row_as_read : (columns : List Column) (line : List ℕ) (row : Kind × Values) → IsUtf8 line → AreRow columns (tokens line) row → row_of columns line ≡ Ok row
unfolding row_of
row_as_read columns line row utf8 are =
    let text = are.kind.0 in
    let items = leaves_of columns are.items row.1 are.values in
    let leaves = json.item (json.string text) items.leaves in
    let ds = string text ∷ items.ds in
    let shallow : tree.depth (json.array leaves) ≤ max_depth = omega (arith, items.shallow) in
    let first : tokens line ≡ tok.begin_array ∷ tok.string text ∷ are.items = are.begins ∙ ap (λ ts. tok.begin_array ∷ ts) are.kind.1 in
    let lexed : tokens line ≡ tree.json_tokens (json.array leaves) ++ [] =
    first ∙ ap (λ ts. tok.begin_array ∷ tok.string text ∷ ts) items.spelled ∙ sym (append-nil (tree.json_tokens (json.array leaves))) in
    let parsed = ap (json.value max_depth) lexed ∙ value-json_tokens (json.array leaves) max_depth [] shallow in
    let means : of_items leaves ≡ Some (items_of ds) = rw items.means refl in
    let reads : read line ≡ Some (array (items_of ds)) =
    ap (λ p. option_and_then of_json (option_and_then (λ p. json.if_last p.0 p.1) p)) parsed ∙ ap (option_map array) means in
    rw (json_in-ok line (array (items_of ds)) utf8 reads, list_of-items_of items.ds, are.kind.2, eq-eqb (length items.ds) (length columns) items.count, items.reads 0)
    refl

pub row_fits : (columns : List Column) (line : List ℕ) (row : Kind × Values) → row_of columns line ≡ Ok row → Fits columns row.1
row_fits columns line row is = Fits-row_of columns line row is

-- ---- what the stages read

-- the values of the next items, after those so far
abbrev pub Continues : List Column → List tok.Token → Values → List Column → List tok.Token → Type 0
Continues columns ts before later now = (values : Values) (rest : List tok.Token) → AreItems later now values rest → AreItems columns ts (before ++ values) rest

pub continues_more : (columns : List Column) (ts : List tok.Token) (before : Values) (index : ℕ) (column : Column) (t : tok.Token) (now after : List tok.Token) (v : Value)
    → index < length columns → column ≡ get_or columns index column → now ≡ t ∷ after → ReadsAs (λ index. item_at index column) t v
    → Continues columns ts before (drop index columns) now → Continues columns ts (before ++ v ∷ []) (drop (index + 1) columns) after
continues_more columns ts before index column t now after v here is next reads so_far values rest are =
    let first : AreItems (column ∷ drop (suc index) columns) (t ∷ after) (v ∷ values) rest = (reads, rw add-one at are) in
    rw (append_assoc before (v ∷ []) values)
    (so_far (v ∷ values) rest (rw (next, drop-cons columns index column here, ← is) first))

no_null : (index : ℕ) (kind : ColType) (v : Value) → value_at index kind null ≡ Ok v → ⊥
no_null index types.Boolean v e = cc
no_null index types.TinyInt v e = cc
no_null index types.SmallInt v e = cc
no_null index types.Int v e = cc
no_null index types.BigInt v e = cc
no_null index types.Text v e = cc
no_null index types.Bytes v e = cc
no_null index types.Date v e = cc
no_null index types.Timestamp v e = cc

item_at-value_at : (index : ℕ) (column : Column) (d : Data) (v : Value) → value_at index column.kind d ≡ Ok v → item_at index column d ≡ Ok v
item_at-value_at index column null v e = absurd (no_null index column.kind v e)
item_at-value_at index column (boolean b) v e = e
item_at-value_at index column (number n) v e = e
item_at-value_at index column (string s) v e = e
item_at-value_at index column (array ds) v e = e
item_at-value_at index column (object ms) v e = e

pub item_of_value : (column : Column) (t : tok.Token) (v : Value) → ReadsAs (λ index. value_at index column.kind) t v → ReadsAs (λ index. item_at index column) t v
item_of_value column t v reads = (reads.0, reads.1, λ index. item_at-value_at index column reads.0 v (reads.2 index))

pub whole_of_integer : (low high n : ℤ) (t : tok.Token) → ReadsAs (λ index. integer_at index low high) t n → ReadsAs (λ index. whole_at index low high) t (Int n)
whole_of_integer low high n t reads = (reads.0, reads.1, λ index. rw (reads.2 index) refl)

pub millis_of_integer : (n : ℤ) (t : tok.Token) → ReadsAs (λ index. integer_at index (least 64) (greatest 64)) t n → ReadsAs millis_at t (Millis n)
millis_of_integer n t reads = (reads.0, reads.1, λ index. rw (reads.2 index) refl)
