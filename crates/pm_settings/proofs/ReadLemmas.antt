-- Settings and tables, read.
use Rattle.std.proofs.Common.{nat_le, ◌&&◌, ◌++◌, take, codes, unwrap_or, option_and_then, is_some, lit≤, rules, ◌≡◌, ℕ, ◌+◌, ◌<◌, ◌≤◌, arith, List, [], ◌∷◌, length, drop, get_or, Bool, true, false, cond, Option, Some, None, option_map, Ordering, Less, Equal, Greater, Bor, refl, sym, ap, ◌∙◌, add-one}
use Rattle.std.proofs.Math.Seq.{drop-cons}
use Rattle.std.specs.BTreeMap.{insert_entry}
use Rattle.std.specs.Cmp.Lexicographic.{slice_cmp}
use Rattle.std.specs.List.{filter_map, cons_option}
use Rattle.std.specs.Ordering.{nat_cmp, match_ordering}
use Rattle.pm_options.specs.Fields.{by_name, column_in, column_setting, entries_views, texts_of}
use Rattle.std.specs.Str.{bytes_eq}
use Rattle.std.proofs.lemmas.Bool.Decides.{nat_tests}
use Rattle.std.proofs.lemmas.List.{map-append, take-map, drop-map}
use Rattle.std.specs.List.{prefix_len}
use Rattle.pm_options.specs.Entries.{entry_at, keyed}
use Rattle.pm_options.specs.Numbers.{number_from, number_in, within}
use Rattle.pm_options.specs.Options.{number_or}
use Rattle.pm_options.specs.Settings.{views, is_below, placed, filled}
use Rattle.pm_options.specs.Table.{Setting}

abbrev view : Bor (List ℕ) × Bor (List ℕ) → Setting
view s = (s.0.now, s.1.now)

chosen-now : (b : Bool) (x : Bor (List ℕ)) (r : Option (Bor (List ℕ))) (s : Option (List ℕ)) → option_map (λ t. t.now) r ≡ s
    → option_map (λ t. t.now) (cond b (Some x) r) ≡ cond b (Some x.now) s
chosen-now true x r s is = refl
chosen-now false x r s is = is

-- a borrowed text that is found is that of the setting
pub entry_at-views : (key : List ℕ) (settings : List (Bor (List ℕ) × Bor (List ℕ)))
    → option_map (λ t. t.now) (entry_at key (keyed settings)) ≡ entry_at key (views settings)
entry_at-views key [] = refl
entry_at-views key (s ∷ ss) = chosen-now (bytes_eq s.0.now key) s.1 _ _ (entry_at-views key ss)

entries_views-match_ordering : (o : Ordering) (a b c : List (List ℕ × Bor (List ℕ))) → entries_views (match_ordering o a b c) ≡ match_ordering o (entries_views a) (entries_views b) (entries_views c)
entries_views-match_ordering Less a b c = refl
entries_views-match_ordering Equal a b c = refl
entries_views-match_ordering Greater a b c = refl

-- a text that is put into the map is put into what it is seen as
pub entries_views-insert_entry : (es : List (List ℕ × Bor (List ℕ))) (k : List ℕ) (v : Bor (List ℕ))
    → entries_views (insert_entry (slice_cmp nat_cmp) es k v) ≡ insert_entry (slice_cmp nat_cmp) (entries_views es) k v.now
entries_views-insert_entry [] k v = refl
entries_views-insert_entry (e ∷ es) k v =
    entries_views-match_ordering (slice_cmp nat_cmp k e.0) _ _ _ ∙ rw (entries_views-insert_entry es k v)

-- a setting whose key has it
pub texts_of-column : (suffix : List ℕ) (settings : List (Bor (List ℕ) × Bor (List ℕ))) (left i : ℕ) (d : Bor (List ℕ) × Bor (List ℕ)) (column name : List ℕ)
    (old new : List (List ℕ × Bor (List ℕ))) → i + 1 ≡ left → left ≤ length settings
    → column_in suffix (get_or settings i d).0.now ≡ Some column → name ≡ column → entries_views old ≡ texts_of suffix (views (drop left settings))
    → new ≡ insert_entry (slice_cmp nat_cmp) old name (get_or settings i d).1 → entries_views new ≡ texts_of suffix (views (drop i settings))
texts_of-column suffix settings left i d column name old new next within found same before put =
    let s = get_or settings i d in
    let inside : i < length settings = omega arith in
    let cut : drop i settings ≡ get_or settings i d ∷ drop (i + 1) settings = rw (add-one, drop-cons settings i d) in
    let later : views (drop left settings) ≡ views (drop (i + 1) settings) = ap (λ n. views (drop n settings)) (sym next) in
    let more = filter_map (column_setting suffix) (views (drop (i + 1) settings)) in
    ap entries_views put ∙ entries_views-insert_entry old name s.1
    ∙ ap (λ es. insert_entry (slice_cmp nat_cmp) es name s.1.now) (before ∙ ap (texts_of suffix) later)
    ∙ ap (λ n. insert_entry (slice_cmp nat_cmp) (by_name more) n s.1.now) same
    ∙ sym (ap (λ o. by_name (cons_option (option_map (λ c. (c, s.1.now)) o) more)) found)
    ∙ sym (ap (λ ss. texts_of suffix (views ss)) cut)

pub is_some-map : {A B : Type 0} (f : A → B) (o : Option A) → is_some (option_map f o) ≡ is_some o
is_some-map f None = refl
is_some-map f (Some x) = refl

-- the setting that is put at its place
pub placed-views : (settings : List (Bor (List ℕ) × Bor (List ℕ))) (index : ℕ) (s : Bor (List ℕ) × Bor (List ℕ)) → index ≡ prefix_len (is_below s.0.now) (views settings)
    → views (take index settings ++ s ∷ drop index settings) ≡ placed (s.0.now, s.1.now) (views settings)
placed-views settings index s is =
    let ss = views settings in
    map-append view (take index settings) (s ∷ drop index settings)
    ∙ ap (λ front. front ++ view s ∷ views (drop index settings)) (sym (take-map view index settings))
    ∙ ap (λ back. take index ss ++ view s ∷ back) (sym (drop-map view index settings))
    ∙ ap (λ n. take n ss ++ view s ∷ drop n ss) is

-- a setting whose key doesn't stand is put at its place
pub filled-new : (s : Setting) (ss : List Setting) → is_some (entry_at s.0 ss) ≡ false → filled s ss ≡ placed s ss
filled-new s ss none = ap (λ b. cond b ss (placed s ss)) none

-- the trigger is at most 100, whatever is stated
within-small : (b : Bool) (n : ℕ) → nat_le 1 n && nat_le n 100 ≡ b → unwrap_or (cond b (Some n) None) 5 ≤ 100
within-small true n is = search (rules, nat_tests)
within-small false n is = lit≤ tt

number-small : (o : Option ℕ) → unwrap_or (option_and_then (within 1 100) o) 5 ≤ 100
number-small None = lit≤ tt
number-small (Some n) = within-small _ n refl

text-small : (o : Option (List ℕ)) → unwrap_or (option_and_then (number_from 1 100) o) 5 ≤ 100
text-small None = lit≤ tt
text-small (Some text) = number-small (number_in text)

pub trigger-small : (settings : List Setting) → number_or 5 (codes "num-sorted-run.compaction-trigger") settings ≤ 100
trigger-small settings = text-small (entry_at (codes "num-sorted-run.compaction-trigger") settings)
