-- Metadata: the last value of a key, and the datum that keys and values are.
use Rattle.std.proofs.Common.{◌≡◌, ℕ, List, [], ◌∷◌, ◌++◌, map, length, take, get_or, ◌+◌, ◌<◌}
use Rattle.std.proofs.Common.{Option, Some, None, Bool, true, false, refl, sym, ap, ◌∙◌}
use Rattle.std.specs.Prelude.{if◌then◌else◌}
use Rattle.std.specs.Option.{option_or}
use Rattle.std.specs.List.{AllByRecursion}
use Rattle.std.specs.Str.{bytes_eq}
use Rattle.std.proofs.lemmas.List.{take_more, map_push}
use Rattle.pm_avro_schema.specs.Avro as types
use Rattle.pm_avro_data.specs.Datum.{Data, bytes, map_of, entries, entries_of, view, entry_view}
use Rattle.pm_avro_data.specs.declared.datum.Datum.{Datum}
use Rattle.pm_avro_data.specs.HasType.{HasType}
use Rattle.pm_avro_data.proofs.Facts.{entries-entries_of, entries_of-entries}
use Rattle.pm_avro_file.specs.Container.{Pairs, metadata, last_value}
use Rattle.pm_avro_file.specs.Views.{content, pairs_of, pairs_view, entries_in, newer}

-- ---- the last value

or_assoc : {A : Type 0} (a b c : Option A) → option_or (option_or a b) c ≡ option_or a (option_or b c)
or_assoc None b c = refl
or_assoc (Some x) b c = refl

or_none : {A : Type 0} (a : Option A) → option_or a None ≡ a
or_none None = refl
or_none (Some x) = refl

-- after the others the last one counts
pub last_value-push : (key : List ℕ) (pairs : Pairs) (name value : List ℕ)
    → last_value key (pairs ++ (name, value) ∷ []) ≡ option_or (if bytes_eq name key then Some value else None) (last_value key pairs)
last_value-push key [] name value = sym (or_none (if bytes_eq name key then Some value else None))
last_value-push key (p ∷ pairs) name value =
    ap (λ (o : Option (List ℕ)). option_or o (if bytes_eq p.0 key then Some p.1 else None)) (last_value-push key pairs name value)
    ∙ or_assoc (if bytes_eq name key then Some value else None) (last_value key pairs) (if bytes_eq p.0 key then Some p.1 else None)

or_newer : (b : Bool) (value : List ℕ) (found : Option (List ℕ)) → option_or (if b then Some value else None) found ≡ (if b then Some value else found)
or_newer true value found = refl
or_newer false value found = refl

-- the step of a loop over entries
pub last_value-more : (key : List ℕ) (es : List (List ℕ × Datum)) (i : ℕ) (e : List ℕ × Datum) (found : Option (List ℕ)) → i < length es → e ≡ get_or es i e
    → found ≡ last_value key (pairs_view (take i es)) → newer key (entry_view e) found ≡ last_value key (pairs_view (take (i + 1) es))
last_value-more key es i e found within is so_far =
    let value = content (view e.1) in
    let taken : take (i + 1) es ≡ take i es ++ e ∷ [] = take_more es i e within ∙ ap (λ (x : List ℕ × Datum). take i es ++ x ∷ []) (sym is) in
    let viewed : pairs_view (take i es ++ e ∷ []) ≡ pairs_view (take i es) ++ (e.0, value) ∷ [] =
    ap pairs_of (map_push entry_view (take i es) e) ∙ map_push (λ (x : List ℕ × Data). (x.0, content x.1)) (map entry_view (take i es)) (entry_view e) in
    sym (or_newer (bytes_eq e.0 key) value found) ∙ ap (λ (o : Option (List ℕ)). option_or (if bytes_eq e.0 key then Some value else None) o) so_far
    ∙ sym (last_value-push key (pairs_view (take i es)) e.0 value) ∙ ap (last_value key) (sym viewed) ∙ ap (λ (xs : List (List ℕ × Datum)). last_value key (pairs_view xs)) (sym taken)

-- ---- as a datum

content-bytes : (d : Data) → HasType types.bytes d → bytes (content d) ≡ d
content-bytes (bytes bs) h = refl
content-bytes d h = absurd h

pairs-entries : (es : List (List ℕ × Data)) → AllByRecursion (λ e. HasType types.bytes e.1) es → map (λ (p : List ℕ × List ℕ). (p.0, bytes p.1)) (pairs_of es) ≡ es
pairs-entries [] h = refl
pairs-entries (e ∷ es) h =
    let first = content-bytes e.1 h.0 in
    let later = pairs-entries es h.1 in
    λ i. (e.0, first i) ∷ later i

-- a map from texts to bytes is metadata
pub metadata_of : (d : Data) (es : List (List ℕ × Data)) → HasType (types.map_of types.bytes) d → entries_in d ≡ Some es → metadata (pairs_of es) ≡ d
metadata_of (map_of fs) es h e =
    let same : entries fs ≡ es = cc in
    ap (λ (xs : List (List ℕ × Data)). metadata (pairs_of xs)) (sym same) ∙ ap (λ (xs : List (List ℕ × Data)). map_of (entries_of xs)) (pairs-entries (entries fs) h) ∙ ap map_of (entries_of-entries fs)
metadata_of d es h e = absurd h

-- and nothing else is
pub metadata_none : (d : Data) (pairs : Pairs) → entries_in d ≡ None → d ≡ metadata pairs → ⊥
metadata_none d pairs none e =
    let f : ◌≡◌ {A = Option (List (List ℕ × Data))} None (entries_in (metadata pairs)) = sym none ∙ ap entries_in e in
    absurd cc

-- the keys and values of metadata
abbrev pairs_in : Data → Pairs
pairs_in (map_of es) = pairs_of (entries es)
pairs_in d = []

pairs-back : (pairs : Pairs) → pairs_of (map (λ (p : List ℕ × List ℕ). (p.0, bytes p.1)) pairs) ≡ pairs
pairs-back [] = refl
pairs-back (p ∷ pairs) = ap (λ (ps : Pairs). p ∷ ps) (pairs-back pairs)

pairs_in-metadata : (pairs : Pairs) → pairs_in (metadata pairs) ≡ pairs
pairs_in-metadata pairs = ap pairs_of (entries-entries_of (map (λ (p : List ℕ × List ℕ). (p.0, bytes p.1)) pairs)) ∙ pairs-back pairs

pub metadata_one : (pairs others : Pairs) → metadata pairs ≡ metadata others → pairs ≡ others
metadata_one pairs others e = sym (pairs_in-metadata pairs) ∙ ap pairs_in e ∙ pairs_in-metadata others
