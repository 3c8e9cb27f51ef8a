-- The row of a key among rows whose keys rise.
use Rattle.std.proofs.Common.{◌≡◌, [], ◌∷◌, ◌++◌, Bool, true, false, not, ◌&&◌, cond, Option, None, Some, refl, sym, ap, subst, ◌∙◌}
use Rattle.std.specs.Prelude.{option_to_list}
use Rattle.std.specs.Cmp.{tied_itself}
use Rattle.std.specs.Option.{option_map_or}
use Rattle.std.specs.Ordering.{eq_by_cmp, is_eq, is_gt, is_lt, ordering_reverse}
use Rattle.std.specs.declared.cmp.Ordering.{Ordering}
use Rattle.std.specs.declared.cmp.Ordering.TheVariants.{Less, Equal, Greater}
use Rattle.pm_values.specs.Order.{Values, key_cmp, key_total}
use Rattle.pm_values.specs.declared.file_meta.FileMeta.{FileMeta}
use Rattle.pm_values.specs.declared.record.Stamped.{Stamped}
use Rattle.pm_engine.specs.Covers.{Run, of_key}
use Rattle.pm_engine.proofs.Rising.{apart, apart_back, tied}
use Rattle.pm_run.specs.Order.{are_in_order, last_key}
use Rattle.pm_run.proofs.OrderLemmas.{from_none, in_order-first}
use Rattle.pm_lookup.specs.File.{may_hold}
use Rattle.pm_lookup.specs.Looking.{reaches, row_of_key}
use Rattle.pm_lookup.specs.Lookup.{BearsKeys}

-- ---- the order of two keys

less_from : (o : Ordering) → is_lt o ≡ true → o ≡ Less
less_from Less e = refl
less_from Equal e = let no : false ≡ true = e in cc
less_from Greater e = let no : false ≡ true = e in cc

less_from_not : (o : Ordering) → not (is_lt o) ≡ false → o ≡ Less
less_from_not Less e = refl
less_from_not Equal e = let no : true ≡ false = e in cc
less_from_not Greater e = let no : true ≡ false = e in cc

greater_from : (o : Ordering) → is_gt o ≡ true → o ≡ Greater
greater_from Less e = let no : false ≡ true = e in cc
greater_from Equal e = let no : false ≡ true = e in cc
greater_from Greater e = refl

turned : (a b : Values) (o : Ordering) → key_cmp a b ≡ o → key_cmp b a ≡ ordering_reverse o
turned a b o is = key_total.antisymm b a ∙ ap ordering_reverse is

not_less : (low high : Values) → key_cmp low high ≡ Less → is_lt (key_cmp high low) ≡ false
not_less low high less = ap is_lt (turned low high Less less)

not_less_itself : (key other : Values) → eq_by_cmp key_cmp key other ≡ true → is_lt (key_cmp other key) ≡ false
not_less_itself key other test = ap is_lt (ap (key_cmp other) (tied key other test) ∙ tied_itself key_total other)

-- a key that isn't above another is below what is above that one
below_from : (key low high : Values) → is_lt (key_cmp low key) ≡ false → key_cmp low high ≡ Less → key_cmp key high ≡ Less
below_from key low high up less = at (key_cmp low key) refl up
  where
    at : (o : Ordering) → key_cmp low key ≡ o → is_lt o ≡ false → key_cmp key high ≡ Less
    at Less is up = let not_so : true ≡ false = up in cc
    at Equal is up = subst (λ (k : Values). key_cmp k high ≡ Less) (tied low key (ap is_eq is)) less
    at Greater is up = key_total.trans key low high (turned low key Greater is) less

-- ---- rows of which none has the key

-- those after one that isn't below it
none_over : (key low : Values) (rows : Run) → is_lt (key_cmp low key) ≡ false → are_in_order false (Some low) rows ≡ true → row_of_key key rows ≡ None
none_over key low [] up order = refl
none_over key low (x ∷ rows) up order =
    let parts = in_order-first false (Some low) x rows order in
    let above : key_cmp key x.key ≡ Less = below_from key low x.key up (less_from (key_cmp low x.key) parts.0) in
    ap (λ (b : Bool). cond b (Some x) (row_of_key key rows)) (apart key x.key above) ∙ none_over key x.key rows (not_less key x.key above) parts.1

-- those of which the last is below it
none_under : (key low : Values) (rows : Run) → are_in_order false (Some low) rows ≡ true
    → option_map_or (λ (last : Values). not (is_lt (key_cmp last key))) (last_key (Some low) rows) false ≡ false → (key_cmp low key ≡ Less) × (row_of_key key rows ≡ None)
none_under key low [] order below = (less_from_not (key_cmp low key) below, refl)
none_under key low (x ∷ rows) order below =
    let parts = in_order-first false (Some low) x rows order in
    let later = none_under key x.key rows parts.1 below in (
      key_total.trans low x.key key (less_from (key_cmp low x.key) parts.0) later.0,
      ap (λ (b : Bool). cond b (Some x) (row_of_key key rows)) (apart_back x.key key later.0) ∙ later.1,
    )

pub none_passed : (key : Values) (rows : Run) → are_in_order false None rows ≡ true → reaches key rows ≡ false → row_of_key key rows ≡ None
none_passed key [] order below = refl
none_passed key (x ∷ rows) order below =
    let later = none_under key x.key rows (in_order-first false None x rows order).1 below in
    ap (λ (b : Bool). cond b (Some x) (row_of_key key rows)) (apart_back x.key key later.0) ∙ later.1

-- those after a block that reaches it
pub none_after : (key : Values) (rows more : Run) → reaches key rows ≡ true → are_in_order false (last_key None rows) more ≡ true → row_of_key key more ≡ None
none_after key rows more reach order = at (last_key None rows) reach order
  where
    not_from : (b : Bool) → not b ≡ true → b ≡ false
    not_from true e = let no : false ≡ true = e in cc
    not_from false e = refl

    at : (last : Option Values) → option_map_or (λ (k : Values). not (is_lt (key_cmp k key))) last false ≡ true → are_in_order false last more ≡ true → row_of_key key more ≡ None
    at None reach order = let no : false ≡ true = reach in cc
    at (Some last) reach order = none_over key last more (not_from (is_lt (key_cmp last key)) reach) order

-- those of a file whose range doesn't hold it
pub none_outside : (key : Values) (meta : FileMeta) (rows : Run) → BearsKeys meta rows → are_in_order false None rows ≡ true → may_hold key meta ≡ false → row_of_key key rows ≡ None
none_outside key meta [] bears order outside = let no : None ≡ Some meta.min_key = bears.least in cc
none_outside key meta (x ∷ rows) bears order outside =
    at (is_gt (key_cmp meta.min_key key)) refl (is_gt (key_cmp key meta.max_key)) refl outside
  where
    at : (below : Bool) → is_gt (key_cmp meta.min_key key) ≡ below → (above : Bool) → is_gt (key_cmp key meta.max_key) ≡ above → (not below && not above) ≡ false
        → row_of_key key (x ∷ rows) ≡ None
    at true is above is_above e =
        let first : meta.min_key ≡ x.key = (let a : Some x.key ≡ Some meta.min_key = bears.least in cc) in
        let under : key_cmp key x.key ≡ Less = subst (λ (k : Values). key_cmp key k ≡ Less) first (turned meta.min_key key Greater (greater_from (key_cmp meta.min_key key) is)) in
        ap (λ (b : Bool). cond b (Some x) (row_of_key key rows)) (apart key x.key under)
        ∙ none_over key x.key rows (not_less key x.key under) (in_order-first false None x rows order).1
    at false is true is_above e =
        let over : key_cmp meta.max_key key ≡ Less = turned key meta.max_key Greater (greater_from (key_cmp key meta.max_key) is_above) in
        none_passed key (x ∷ rows) order
        (ap (λ (last : Option Values). option_map_or (λ (k : Values). not (is_lt (key_cmp k key))) last false) bears.greatest ∙ ap (λ (o : Ordering). not (is_lt o)) over)
    at false is false is_above e = let no : true ≡ false = e in cc

-- ---- the first that has the key

pub found_first : (key : Values) (xs ys : Run) → row_of_key key ys ≡ None → row_of_key key (xs ++ ys) ≡ row_of_key key xs
found_first key [] ys none = none
found_first key (x ∷ xs) ys none = ap (λ (r : Option Stamped). cond (eq_by_cmp key_cmp key x.key) (Some x) r) (found_first key xs ys none)

pub found_later : (key : Values) (xs ys : Run) → row_of_key key xs ≡ None → row_of_key key (xs ++ ys) ≡ row_of_key key ys
found_later key [] ys none = refl
found_later key (x ∷ xs) ys none = at (eq_by_cmp key_cmp key x.key) (found_later key xs ys) none
  where
    at : (b : Bool) → (row_of_key key xs ≡ None → row_of_key key (xs ++ ys) ≡ row_of_key key ys) → cond b (Some x) (row_of_key key xs) ≡ None
        → cond b (Some x) (row_of_key key (xs ++ ys)) ≡ row_of_key key ys
    at true later e = let no : Some x ≡ None = e in cc
    at false later e = later e

-- of rows whose keys rise it is the only one
pub only_row : (key : Values) (rows : Run) → are_in_order false None rows ≡ true → option_to_list (row_of_key key rows) ≡ of_key key rows
only_row key [] order = refl
only_row key (x ∷ rows) order =
    let after : are_in_order false (Some x.key) rows ≡ true = (in_order-first false None x rows order).1 in
    at (eq_by_cmp key_cmp key x.key) refl after (only_row key rows (from_none false (Some x.key) rows after))
  where
    at : (b : Bool) → eq_by_cmp key_cmp key x.key ≡ b → are_in_order false (Some x.key) rows ≡ true → option_to_list (row_of_key key rows) ≡ of_key key rows
        → option_to_list (cond b (Some x) (row_of_key key rows)) ≡ cond b (x ∷ of_key key rows) (of_key key rows)
    at true test after later = ap (λ (r : Run). x ∷ r) (ap option_to_list (sym (none_over key x.key rows (not_less_itself key x.key test) after)) ∙ later)
    at false test after later = later
