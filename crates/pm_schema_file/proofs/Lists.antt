-- Items that are read one after another.
use Rattle.std.proofs.Common.{◌≡◌, ℕ, ◌+◌, ◌<◌, ◌≤◌, List, [], ◌∷◌, ◌++◌, length, get_or, drop, Option, Some, None, String, Global, string_bytes, option_and_then, refl, sym, ap, ◌∙◌, append_assoc, add-one}
use Rattle.std.proofs.Math.Seq.{drop-cons}
use Rattle.std.proofs.lemmas.List.{drop_all}
use Rattle.serde_json.specs.Data.{Data, item}
use Rattle.serde_json.specs.Find.{as_str}
use Rattle.serde_json.specs.View.{view, items_view, members_view}
use Rattle.pm_options.specs.Table.{Setting}
use Rattle.serde_json.specs.declared.value.Value.{Value}
use Rattle.pm_schema.specs.Stated.{all_in, settings_in}

-- what is read, after the items so far
abbrev pub after : {A : Type 0} → List A → Option (List A) → Option (List A)
after front None = None
after front (Some more) = Some (front ++ more)

append-nothing : {A : Type 0} (xs : List A) → xs ++ [] ≡ xs
append-nothing [] = refl
append-nothing (x ∷ xs) = ap (λ ys. x ∷ ys) (append-nothing xs)

after-push : {A : Type 0} (front : List A) (x : A) (o : Option (List A)) → after front (option_and_then (λ more. Some (x ∷ more)) o) ≡ after (front ++ x ∷ []) o
after-push front x None = refl
after-push front x (Some more) = ap Some (sym (append_assoc front (x ∷ []) more))

next_item : (vs : List Value) (i : ℕ) (v : Value) → i < length vs → v ≡ get_or vs i v → items_view (drop i vs) ≡ item (view v) (items_view (drop (i + 1) vs))
next_item vs i v within is =
    let cut : drop i vs ≡ get_or vs i v ∷ drop (i + 1) vs = rw (add-one, drop-cons vs i v) refl in
    ap items_view cut ∙ ap (λ w. item (view w) (items_view (drop (i + 1) vs))) (sym is)

-- an item that is read
pub all_in-next : {A : Type 0} (reading : Data → Option A) (front : List A) (vs : List Value) (i : ℕ) (v : Value) (x : A) (whole : Option (List A)) → i < length vs → v ≡ get_or vs i v
    → reading (view v) ≡ Some x → after front (all_in reading (items_view (drop i vs))) ≡ whole → after (front ++ x ∷ []) (all_in reading (items_view (drop (i + 1) vs))) ≡ whole
all_in-next reading front vs i v x whole within is reads before =
    let rest = all_in reading (items_view (drop (i + 1) vs)) in
    sym (after-push front x rest)
    ∙ sym (ap (λ o. after front (option_and_then (λ y. option_and_then (λ more. Some (y ∷ more)) rest) o)) reads)
    ∙ sym (ap (λ ds. after front (all_in reading ds)) (next_item vs i v within is)) ∙ before

-- an item that isn't
pub all_in-failed : {A : Type 0} (reading : Data → Option A) (front : List A) (vs : List Value) (i : ℕ) (v : Value) (whole : Option (List A)) → i < length vs → v ≡ get_or vs i v
    → reading (view v) ≡ None → after front (all_in reading (items_view (drop i vs))) ≡ whole → whole ≡ None
all_in-failed reading front vs i v whole within is fails before =
    let rest = all_in reading (items_view (drop (i + 1) vs)) in
    sym before ∙ ap (λ ds. after front (all_in reading ds)) (next_item vs i v within is)
    ∙ ap (λ o. after front (option_and_then (λ y. option_and_then (λ more. Some (y ∷ more)) rest) o)) fails

-- all items
pub all_in-end : {A : Type 0} (reading : Data → Option A) (front : List A) (vs : List Value) (i : ℕ) (whole : Option (List A)) → length vs ≤ i
    → after front (all_in reading (items_view (drop i vs))) ≡ whole → whole ≡ Some front
all_in-end reading front vs i whole past before =
    sym before ∙ ap (λ ws. after front (all_in reading (items_view ws))) (drop_all i vs past) ∙ ap Some (append-nothing front)

-- a member that is read
pub settings_in-next : (front : List Setting) (es rest : List (String Global × Value)) (e : String Global × Value) (text : List ℕ) (whole : Option (List Setting)) → es ≡ e ∷ rest
    → Some text ≡ as_str (view e.1) → after front (settings_in (members_view es)) ≡ whole
    → after (front ++ (string_bytes e.0, text) ∷ []) (settings_in (members_view rest)) ≡ whole
settings_in-next front es rest e text whole is reads before =
    let more = settings_in (members_view rest) in
    sym (after-push front (string_bytes e.0, text) more)
    ∙ ap (λ o. after front (option_and_then (λ y. option_and_then (λ ms. Some ((string_bytes e.0, y) ∷ ms)) more) o)) reads
    ∙ sym (ap (λ ds. after front (settings_in (members_view ds))) is) ∙ before
