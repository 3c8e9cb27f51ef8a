-- The live entries are those of the files that are live after all entries, each once.
use Rattle.std.proofs.Common.{◌≡◌, inl, inr, ◌<◌, Bool, true, false, cond, not, ◌&&◌, ◌||◌, if◌then◌else◌, List, [], ◌∷◌, filter, Contains, Option, None, Some, refl, sym, ap, ◌∙◌, subst, arith}
use Rattle.std.specs.List.{AllPairs, last_or}
use Rattle.std.specs.Option.{option_map_or}
use Rattle.std.proofs.lemmas.List.Elements.{All-contains_itself, All-weaker}
use Rattle.std.proofs.lemmas.List.Kept.{AllPairs-cons}
use Rattle.pm_paths.proofs.ListLemmas.{here, more, nowhere, cases}
use Rattle.pm_manifest.specs.FileId.{id_eq, id_equiv}
use Rattle.pm_manifest.specs.Live.{id_of, left_by, live_after, live_at}
use Rattle.pm_manifest.specs.declared.entry.Entry.{Entry}
use Rattle.pm_manifest.specs.declared.file_id.FileId.{FileId}
use Rattle.pm_model_contents.specs.Lists.{none_live}
use Rattle.pm_model_folder.specs.Entries.{AreLive}
use Rattle.pm_read_table.specs.View.{has_entry, live_entries}

-- ---- what is live of a file, by whether one of the entries is of it

with_last : (x : Entry) (xs : List Entry) (b c : Option Entry) → option_map_or left_by (last_or (Some x) xs) b ≡ option_map_or left_by (last_or (Some x) xs) c
with_last x [] b c = refl
with_last x (y ∷ ys) b c = with_last y ys b c

after_last : (o : Option Entry) (xs : List Entry) (b : Option Entry) → option_map_or left_by (last_or o xs) b ≡ option_map_or left_by (last_or None xs) (option_map_or left_by o b)
after_last o [] b = refl
after_last o (x ∷ xs) b = with_last x xs b (option_map_or left_by o b)

-- where none is of it, that is what was live before
live_none : (id : FileId) (es : List Entry) (b : Option Entry) → has_entry id es ≡ false → live_at b id es ≡ b
live_none id [] b none = refl
live_none id (e ∷ es) b none = at (λ none. live_none id es b none) (id_eq (id_of e) id) none
  where
    at : (has_entry id es ≡ false → live_at b id es ≡ b) → (t : Bool) → (t || has_entry id es) ≡ false
        → option_map_or left_by (last_or None (cond t (e ∷ filter (λ (e : Entry). id_eq (id_of e) id) es) (filter (λ (e : Entry). id_eq (id_of e) id) es))) b ≡ b
    at rest true none = cc
    at rest false none = rest none

-- where one is of it, that doesn't count
live_some : (id : FileId) (es : List Entry) (b c : Option Entry) → has_entry id es ≡ true → live_at b id es ≡ live_at c id es
live_some id [] b c none = cc
live_some id (e ∷ es) b c some = at (λ is. live_some id es b c is) (id_eq (id_of e) id) some
  where
    at : (has_entry id es ≡ true → live_at b id es ≡ live_at c id es) → (t : Bool) → (t || has_entry id es) ≡ true
        → option_map_or left_by (last_or None (cond t (e ∷ filter (λ (e : Entry). id_eq (id_of e) id) es) (filter (λ (e : Entry). id_eq (id_of e) id) es))) b
        ≡ option_map_or left_by (last_or None (cond t (e ∷ filter (λ (e : Entry). id_eq (id_of e) id) es) (filter (λ (e : Entry). id_eq (id_of e) id) es))) c
    at rest true is = with_last e (filter (λ (e : Entry). id_eq (id_of e) id) es) b c
    at rest false is = rest is

-- the first entry is what is live of its file before the others
live_cons : (id : FileId) (e : Entry) (es : List Entry) → live_at None id (e ∷ es) ≡ live_at (cond (id_eq (id_of e) id) (left_by e) None) id es
live_cons id e es = at (id_eq (id_of e) id)
  where
    at : (t : Bool) → option_map_or left_by (last_or None (cond t (e ∷ filter (λ (e : Entry). id_eq (id_of e) id) es) (filter (λ (e : Entry). id_eq (id_of e) id) es))) None
        ≡ live_at (cond t (left_by e) None) id es
    at true = after_last (Some e) (filter (λ (e : Entry). id_eq (id_of e) id) es) None
    at false = refl

-- one is of a file that is live after them
has_live : (id : FileId) (es : List Entry) (a : Entry) → live_at None id es ≡ Some a → has_entry id es ≡ true
has_live id es a live = at (has_entry id es) refl
  where
    at : (t : Bool) → has_entry id es ≡ t → has_entry id es ≡ true
    at true is = is
    at false is = absurd (let clash : None ≡ Some a = sym (live_none id es None is) ∙ live in cc)

-- ---- exactly they

both_true : (a b : Bool) → (a && b) ≡ true → (a ≡ true) × (b ≡ true)
both_true true true is = (refl, refl)
both_true true false is = cc
both_true false b is = cc

not_true : (a : Bool) → not a ≡ true → a ≡ false
not_true true is = cc
not_true false is = refl

left_add : (e : Entry) → e.add ≡ true → left_by e ≡ Some e
left_add e add = ap (λ (b : Bool). if b then Some e else None) add

left_some : (e a : Entry) → left_by e ≡ Some a → (e.add ≡ true) × (e ≡ a)
left_some e a is = at e.add refl is
  where
    at : (t : Bool) → e.add ≡ t → (if t then Some e else None) ≡ Some a → (e.add ≡ true) × (e ≡ a)
    at true add is = (add, let same : e ≡ a = cc in same)
    at false add is = cc

module _ (e : Entry) (es : List Entry) where
  -- what is live after the others is live with the first entry before them
  live_later : (a : Entry) → live_at None (id_of a) es ≡ Some a → live_at None (id_of a) (e ∷ es) ≡ Some a
  live_later a live =
      live_cons (id_of a) e es ∙ live_some (id_of a) es (cond (id_eq (id_of e) (id_of a)) (left_by e) None) None (has_live (id_of a) es a live) ∙ live

  live_first : (e.add && not (has_entry (id_of e) es)) ≡ true → live_at None (id_of e) (e ∷ es) ≡ Some e
  live_first is =
      let both = both_true e.add (not (has_entry (id_of e) es)) is in
      live_cons (id_of e) e es
      ∙ ap (λ (t : Bool). live_at (cond t (left_by e) None) (id_of e) es) (id_equiv.refl (id_of e))
      ∙ live_none (id_of e) es (left_by e) (not_true (has_entry (id_of e) es) both.1)
      ∙ left_add e both.0

  to_by : (a : Entry) → (Contains (live_entries es) a → live_at None (id_of a) es ≡ Some a) → (t : Bool) → (e.add && not (has_entry (id_of e) es)) ≡ t
      → Contains (if t then e ∷ live_entries es else live_entries es) a → live_at None (id_of a) (e ∷ es) ≡ Some a
  to_by a rest true is c = elim (cases e (live_entries es) a c) as (λ _. live_at None (id_of a) (e ∷ es) ≡ Some a) [
    | inl same ↦ subst (λ (a : Entry). live_at None (id_of a) (e ∷ es) ≡ Some a) same (live_first is)
    | inr later ↦ live_later a (rest later)
  ]
  to_by a rest false is c = live_later a (rest c)

  in_later : (a : Entry) → Contains (live_entries es) a → (t : Bool) → Contains (if t then e ∷ live_entries es else live_entries es) a
  in_later a c true = more e (live_entries es) a c
  in_later a c false = c

  in_first : (a : Entry) → has_entry (id_of a) es ≡ false → (t : Bool) → cond t (left_by e) None ≡ Some a → Contains (live_entries (e ∷ es)) a
  in_first a none false is = cc
  in_first a none true is =
      let own = left_some e a is in
      let known : has_entry (id_of e) es ≡ false = ap (λ (x : Entry). has_entry (id_of x) es) own.1 ∙ none in
      let test : (e.add && not (has_entry (id_of e) es)) ≡ true =
      ap (λ (b : Bool). b && not (has_entry (id_of e) es)) own.0 ∙ ap (λ (b : Bool). true && not b) known in
      subst (λ (t : Bool). Contains (if t then e ∷ live_entries es else live_entries es) a) (sym test)
      (subst (λ (x : Entry). Contains (e ∷ live_entries es) x) own.1 (here e (live_entries es)))

  from_by : (a : Entry) → (live_at None (id_of a) es ≡ Some a → Contains (live_entries es) a) → live_at None (id_of a) (e ∷ es) ≡ Some a
      → (t : Bool) → has_entry (id_of a) es ≡ t → Contains (live_entries (e ∷ es)) a
  from_by a rest live true some =
      let whole = sym (live_cons (id_of a) e es) ∙ live in
      in_later a (rest (live_some (id_of a) es None (cond (id_eq (id_of e) (id_of a)) (left_by e) None) some ∙ whole)) (e.add && not (has_entry (id_of e) es))
  from_by a rest live false none =
      let whole = sym (live_cons (id_of a) e es) ∙ live in
      in_first a none (id_eq (id_of e) (id_of a)) (sym (live_none (id_of a) es (cond (id_eq (id_of e) (id_of a)) (left_by e) None) none) ∙ whole)

pub live_to : (es : List Entry) (a : Entry) → Contains (live_entries es) a → live_at None (id_of a) es ≡ Some a
live_to [] a c = absurd (nowhere a c)
live_to (e ∷ es) a c = to_by e es a (λ c. live_to es a c) (e.add && not (has_entry (id_of e) es)) refl c

pub live_from : (es : List Entry) (a : Entry) → live_at None (id_of a) es ≡ Some a → Contains (live_entries es) a
live_from [] a live = cc
live_from (e ∷ es) a live = from_by e es a (λ live. live_from es a live) live (has_entry (id_of a) es) refl

-- ---- each once

others : (e : Entry) (es : List Entry) → has_entry (id_of e) es ≡ false → (a : Entry) → Contains (live_entries es) a → id_of e ≡ id_of a → ⊥
others e es none a c same =
    let some : has_entry (id_of e) es ≡ true = ap (λ (id : FileId). has_entry id es) same ∙ has_live (id_of a) es a (live_to es a c) in
    let clash : false ≡ true = sym none ∙ some in cc

apart_by : (e : Entry) (es : List Entry) → AllPairs (λ (a b : Entry). id_of a ≡ id_of b → ⊥) (live_entries es) → (t : Bool)
    → (e.add && not (has_entry (id_of e) es)) ≡ t → AllPairs (λ (a b : Entry). id_of a ≡ id_of b → ⊥) (if t then e ∷ live_entries es else live_entries es)
apart_by e es rest true is =
    AllPairs-cons (λ (a b : Entry). id_of a ≡ id_of b → ⊥) e (live_entries es)
    (All-weaker (Contains (live_entries es)) (λ (b : Entry). id_of e ≡ id_of b → ⊥)
    (others e es (not_true (has_entry (id_of e) es) (both_true e.add (not (has_entry (id_of e) es)) is).1)) (live_entries es)
    (All-contains_itself (live_entries es))) rest
apart_by e es rest false is = rest

apart : (es : List Entry) → AllPairs (λ (a b : Entry). id_of a ≡ id_of b → ⊥) (live_entries es)
apart [] = λ i j d below within. absurd (let none : j < 0 = within in omega (arith, none))
apart (e ∷ es) = apart_by e es (apart es) (e.add && not (has_entry (id_of e) es)) refl

pub are_live : (es : List Entry) → AreLive (live_after none_live es) (live_entries es)
are_live es = record { exact = λ e. (live_to es e, live_from es e); apart = apart es }
