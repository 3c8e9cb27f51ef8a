-- A line that is put together item by item, each as it is printed.
use Rattle.std.proofs.Common.{◌≡◌, ℕ, ◌+◌, ◌<◌, ◌≤◌, List, [], ◌∷◌, ◌++◌, length, drop, get_or, take, Result, Ok, Err, refl, ap, sym, ◌∙◌, subst, append-nil}
use Rattle.std.specs.List.{flat_map}
use Rattle.std.proofs.lemmas.List.{drop_more, take_all, take_more, take-append-drop}
use Rattle.std.proofs.lemmas.Grind.{flat_map-append}
use Rattle.pm_io.specs.Sink.{SinkView}
use Rattle.pm_io.specs.LineBuffer.{LineAt, Wrote, Broke, Writes}
use Rattle.pm_io.proofs.LineLemmas.{Wrote-then, Broke-first, Broke-then}
use Rattle.pm_report.specs.Escaping.{escaped, printed}

-- what is printed of texts one after the other is what is printed of each
pub escaped_each : {X : Type 0} (text_of : X → List ℕ) (items : List X) → escaped (flat_map text_of items) ≡ flat_map (λ x. escaped (text_of x)) items
escaped_each text_of [] = refl
escaped_each text_of (x ∷ items) = flat_map-append printed (text_of x) (flat_map text_of items) ∙ ap (λ (l : List ℕ). escaped (text_of x) ++ l) (escaped_each text_of items)

-- one item more
pub Wrote-item : {W X : Type 0} (seen : W → SinkView) (text_of : X → List ℕ) (items : List X) (i : ℕ) (item : X) (first mid last : LineAt W) → i < length items
    → Wrote seen (flat_map text_of (take i items)) first mid → Wrote seen (text_of (get_or items i item)) mid last → Wrote seen (flat_map text_of (take (i + 1) items)) first last
Wrote-item {W} {X} seen text_of items i item first mid last within begun own =
    let x = get_or items i item in
    let text : flat_map text_of (take (i + 1) items) ≡ flat_map text_of (take i items) ++ text_of x =
    ap (flat_map text_of) (take_more items i item within) ∙ flat_map-append text_of (take i items) (x ∷ []) ∙ ap (λ (l : List ℕ). flat_map text_of (take i items) ++ l) (append-nil (text_of x)) in
    subst (λ (t : List ℕ). Wrote seen t first last) (sym text) (Wrote-then seen (flat_map text_of (take i items)) (text_of x) first mid last begun own)

-- all items
pub Wrote-items : {W X : Type 0} (seen : W → SinkView) (text_of : X → List ℕ) (items : List X) (i : ℕ) (first last : LineAt W) → length items ≤ i
    → Wrote seen (flat_map text_of (take i items)) first last → Wrote seen (flat_map text_of items) first last
Wrote-items seen text_of items i first last all wrote = subst (λ (l : List _). Wrote seen (flat_map text_of l) first last) (take_all i items all) wrote

-- the sink failed in an item
pub Broke-item : {W X : Type 0} (seen : W → SinkView) (text_of : X → List ℕ) (items : List X) (i : ℕ) (item : X) (first mid last : LineAt W) → i < length items
    → Wrote seen (flat_map text_of (take i items)) first mid → Broke seen (text_of (get_or items i item)) mid last → Broke seen (flat_map text_of items) first last
Broke-item {W} {X} seen text_of items i item first mid last within begun own =
    let x = get_or items i item in
    let early = flat_map text_of (take i items) in
    let late = flat_map text_of (drop (i + 1) items) in
    let text : flat_map text_of items ≡ early ++ (text_of x ++ late) =
    ap (flat_map text_of) (sym (take-append-drop i items)) ∙ flat_map-append text_of (take i items) (drop i items)
    ∙ ap (λ (l : List X). early ++ flat_map text_of l) (drop_more items i item within) in
    subst (λ (t : List ℕ). Broke seen t first last) (sym text)
    (Broke-then seen early (text_of x ++ late) first mid last begun (Broke-first seen (text_of x) late mid last own))

-- all texts, each as it is printed
pub Wrote-each : {W X : Type 0} (seen : W → SinkView) (text_of : X → List ℕ) (items : List X) (i : ℕ) (first last : LineAt W) → length items ≤ i
    → Wrote seen (flat_map (λ x. escaped (text_of x)) (take i items)) first last → Wrote seen (escaped (flat_map text_of items)) first last
Wrote-each seen text_of items i first last all wrote =
    subst (λ (t : List ℕ). Wrote seen t first last) (sym (escaped_each text_of items)) (Wrote-items seen (λ x. escaped (text_of x)) items i first last all wrote)

-- the sink failed in one of them
pub Broke-each : {W X : Type 0} (seen : W → SinkView) (text_of : X → List ℕ) (items : List X) (i : ℕ) (item : X) (first mid last : LineAt W) → i < length items
    → Wrote seen (flat_map (λ x. escaped (text_of x)) (take i items)) first mid → Broke seen (escaped (text_of (get_or items i item))) mid last
    → Broke seen (escaped (flat_map text_of items)) first last
Broke-each seen text_of items i item first mid last within begun own =
    subst (λ (t : List ℕ). Broke seen t first last) (sym (escaped_each text_of items)) (Broke-item seen (λ x. escaped (text_of x)) items i item first mid last within begun own)

-- two texts, each as it is printed
pub Wrote-both : {W : Type 0} (seen : W → SinkView) (a b text : List ℕ) (first mid last : LineAt W) → a ++ b ≡ text → Wrote seen (escaped a) first mid
    → Wrote seen (escaped b) mid last → Wrote seen (escaped text) first last
Wrote-both seen a b text first mid last is one two =
    subst (λ (t : List ℕ). Wrote seen t first last) (sym (flat_map-append printed a b) ∙ ap escaped is) (Wrote-then seen (escaped a) (escaped b) first mid last one two)

-- the sink failed in the second
pub Broke-both : {W : Type 0} (seen : W → SinkView) (a b text : List ℕ) (first mid last : LineAt W) → a ++ b ≡ text → Wrote seen (escaped a) first mid
    → Broke seen (escaped b) mid last → Broke seen (escaped text) first last
Broke-both seen a b text first mid last is one two =
    subst (λ (t : List ℕ). Broke seen t first last) (sym (flat_map-append printed a b) ∙ ap escaped is) (Broke-then seen (escaped a) (escaped b) first mid last one two)

-- what came of the second
pub Writes-both : {W E : Type 0} (seen : W → SinkView) (a b text : List ℕ) (first mid last : LineAt W) (r : Result (Unit {0}) E) → a ++ b ≡ text
    → Wrote seen (escaped a) first mid → Writes seen (escaped b) mid last r → Writes seen (escaped text) first last r
Writes-both seen a b text first mid last (Ok done) is one two = Wrote-both seen a b text first mid last is one two
Writes-both seen a b text first mid last (Err e) is one two = Broke-both seen a b text first mid last is one two

-- the sink failed in the first
pub Broke-one : {W : Type 0} (seen : W → SinkView) (a b text : List ℕ) (first last : LineAt W) → a ++ b ≡ text → Broke seen (escaped a) first last → Broke seen (escaped text) first last
Broke-one seen a b text first last is broke =
    subst (λ (t : List ℕ). Broke seen t first last) (sym (flat_map-append printed a b) ∙ ap escaped is) (Broke-first seen (escaped a) (escaped b) first last broke)
