-- What a type is read from, and only that, declares the type.
use Rattle.std.proofs.Common.{◌≡◌, ℕ, ◌+◌, List, [], ◌∷◌, ◌++◌, Bool, true, false, cond, codes, Option}
use Rattle.std.proofs.Common.{Some, None, option_and_then, Result, Ok, refl, ap, subst, ◌∙◌, inl, inr}
use Rattle.std.proofs.lemmas.Slice.Eq.{bytes_eq-Decides}
use Rattle.std.specs.Cmp.Lexicographic.{slice_cmp}
use Rattle.std.specs.List.{list_any}
use Rattle.std.specs.Ordering.{nat_cmp, match_ordering}
use Rattle.std.specs.Str.{bytes_eq}
use Rattle.std.specs.declared.cmp.Ordering.{Ordering}
use Rattle.std.specs.declared.cmp.Ordering.TheVariants.{Less, Equal, Greater}
use Rattle.serde_json.specs.Data.{Data, null as json_null, boolean as json_boolean, number, string}
use Rattle.serde_json.specs.Data.{array, object, Items, no_items, item, Members, no_members, member}
use Rattle.serde_json.specs.Find.{get, get_member, as_str}
use Rattle.pm_avro_schema.proofs.Again.{nested-within, array_with-filled, field_with-new}
use Rattle.pm_avro_schema.proofs.Apart.{Apart, IsNew, Apart-none, Apart-split, Apart-push, Apart-join, Apart-unpush}
use Rattle.pm_avro_schema.proofs.Attributes.{type_at-object, field_at-get}
use Rattle.pm_base.proofs.Laws.{step_ok}
use Rattle.pm_avro_schema.proofs.Steps.{refused, nested_ok, array_with_ok, field_new}
use Rattle.pm_avro_schema.specs.Attribute.{present}
use Rattle.pm_avro_schema.specs.Avro.{Avro, null, boolean, int, long, bytes, text, record_of}
use Rattle.pm_avro_schema.specs.Avro.{array_of, map_of, union_of, Fields, no_fields, field}
use Rattle.pm_avro_schema.specs.Avro.{Branches, no_branches, branch, takes_no_byte}
use Rattle.pm_avro_schema.specs.Meaning.{HasType, IsNamed, Declares, DeclareFields, DeclareBranches}
use Rattle.pm_base.specs.Outcome.{◌>>=◌}
use Rattle.pm_avro_schema.specs.Reading.{named, nested, array_with, array_from, map_from}
use Rattle.pm_avro_schema.specs.Reading.{object_with, field_with, text_in, type_at, branches_at}
use Rattle.pm_avro_schema.specs.Reading.{type_in, fields_in, fields_from, fields_at, field_at}
use Rattle.pm_avro_schema.specs.declared.fault.AvroFault.{AvroFault}

-- an object with this `type` is read by it
type_at-typed : (d : Data) (n : ℕ) (name : List ℕ) → HasType name d
    → type_at d n ≡ object_with (Some name) n (present (λ e. fields_from e (n + 1)) (get (codes "fields") d)) (present (λ e. type_at e (n + 1)) (get (codes "items") d)) (present (λ e. type_at e (n + 1)) (get (codes "values") d))
type_at-typed json_null n name is = cc
type_at-typed (json_boolean b) n name is = cc
type_at-typed (number x) n name is = cc
type_at-typed (string s) n name is = cc
type_at-typed (array ds) n name is = cc
type_at-typed (object ms) n name is =
    let fields = present (λ e. fields_from e (n + 1)) (get (codes "fields") (object ms)) in
    let items = present (λ e. type_at e (n + 1)) (get (codes "items") (object ms)) in
    let values = present (λ e. type_at e (n + 1)) (get (codes "values") (object ms)) in
    type_at-object ms n ∙ ap (λ (o : Option Data). object_with (option_and_then as_str o) n fields items values) is

-- a type that a text alone names
type_at-named : (name : List ℕ) (t : Avro) (d : Data) (n : ℕ) → named name ≡ Ok t
    → ((fields : Result Fields AvroFault) (items values : Result Avro AvroFault) → object_with (Some name) n fields items values ≡ named name) → IsNamed name d → type_at d n ≡ Ok t
type_at-named name t d n is plain (inl alone) = ap (λ e. type_at e n) alone ∙ is
type_at-named name t d n is plain (inr typed) =
    let inner = λ (key : List ℕ). present (λ e. type_at e (n + 1)) (get key d) in
    type_at-typed d n name typed ∙ plain (present (λ e. fields_from e (n + 1)) (get (codes "fields") d)) (inner (codes "items")) (inner (codes "values")) ∙ is

mutual
  pub type_at-Declares : (t : Avro) (d : Data) (n : ℕ) → Declares t d n → type_at d n ≡ Ok t
  type_at-Declares null d n is = type_at-named (codes "null") null d n refl (λ fields items values. refl) is
  type_at-Declares boolean d n is = type_at-named (codes "boolean") boolean d n refl (λ fields items values. refl) is
  type_at-Declares int d n is = type_at-named (codes "int") int d n refl (λ fields items values. refl) is
  type_at-Declares long d n is = type_at-named (codes "long") long d n refl (λ fields items values. refl) is
  type_at-Declares bytes d n is = type_at-named (codes "bytes") bytes d n refl (λ fields items values. refl) is
  type_at-Declares text d n is = type_at-named (codes "string") text d n refl (λ fields items values. refl) is
  type_at-Declares (record_of fs) d n is =
      let inner = ap (present (λ e. fields_from e (n + 1))) is.2 ∙ fields_at-DeclareFields fs is.1 [] (n + 1) is.3 tt in
      type_at-typed d n (codes "record") is.0 ∙ ap (λ r. r >>= λ gs. Ok (record_of gs)) inner
  type_at-Declares (array_of t) d n is =
      let inner = ap (present (λ e. type_at e (n + 1))) is.3 ∙ type_at-Declares t is.2 (n + 1) is.4 in
      type_at-typed d n (codes "array") is.0 ∙ nested-within n _ is.1 ∙ ap array_from inner ∙ array_with-filled t is.5
  type_at-Declares (map_of t) d n is =
      let inner = ap (present (λ e. type_at e (n + 1))) is.3 ∙ type_at-Declares t is.2 (n + 1) is.4 in
      type_at-typed d n (codes "map") is.0 ∙ nested-within n _ is.1 ∙ ap map_from inner
  type_at-Declares (union_of ts) d n is =
      ap (λ e. type_at e n) is.1 ∙ ap (λ r. r >>= λ us. Ok (union_of us)) (branches_at-DeclareBranches ts is.0 (n + 1) is.2)

  fields_at-DeclareFields : (fs : Fields) (ds : Items) (before : List (List ℕ)) (n : ℕ) → DeclareFields fs ds n → Apart before fs → fields_at ds before n ≡ Ok fs
  fields_at-DeclareFields no_fields ds before n is apart = ap (λ es. fields_at es before n) is
  fields_at-DeclareFields (field name t fs) ds before n is apart =
      let d = is.0 in
      let rest = is.2 in
      let parts = Apart-split before name t fs apart in
      let kind = ap (present (λ e. type_at e n)) is.5 ∙ type_at-Declares t is.1 n is.6 in
      let here = field_at-get d before n ∙ ap (λ (o : Option Data). field_with (option_and_then as_str o) before (present (λ e. type_at e n) (get (codes "type") d))) is.4
      ∙ field_with-new name before (present (λ e. type_at e n) (get (codes "type") d)) t parts.0 kind in
      let more = fields_at-DeclareFields fs rest (before ++ name ∷ []) n is.8 (Apart-push before name fs parts.1 is.7) in
      ap (λ es. fields_at es before n) is.3 ∙ ap (λ r. r >>= λ f. fields_at rest (before ++ f.0 ∷ []) n >>= λ gs. Ok (field f.0 f.1 gs)) here ∙ ap (λ r. r >>= λ gs. Ok (field name t gs)) more

  branches_at-DeclareBranches : (ts : Branches) (ds : Items) (n : ℕ) → DeclareBranches ts ds n → branches_at ds n ≡ Ok ts
  branches_at-DeclareBranches no_branches ds n is = ap (λ es. branches_at es n) is
  branches_at-DeclareBranches (branch t ts) ds n is =
      let here = type_at-Declares t is.0 n is.3 in
      let more = branches_at-DeclareBranches ts is.1 n is.4 in
      ap (λ es. branches_at es n) is.2 ∙ ap (λ r. r >>= λ u. branches_at is.1 n >>= λ us. Ok (branch u us)) here ∙ ap (λ r. r >>= λ us. Ok (branch t us)) more

same_name : (name other : List ℕ) → bytes_eq name other ≡ true → name ≡ other
same_name name other is = (bytes_eq-Decides name other).0 is

named_or : (b : Bool) (s t : Avro) (d : Data) (n : ℕ) (rest : Result Avro AvroFault) → (b ≡ true → Declares s d n) → (rest ≡ Ok t → Declares t d n) → cond b (Ok s) rest ≡ Ok t → Declares t d n
named_or true s t d n rest here later h = let same : s ≡ t = cc in subst (λ u. Declares u d n) same (here refl)
named_or false s t d n rest here later h = later h

Declares-named : (name : List ℕ) (t : Avro) (d : Data) (n : ℕ) → IsNamed name d → named name ≡ Ok t → Declares t d n
Declares-named name t d n is =
    let here = λ (other : List ℕ) (same : bytes_eq name other ≡ true). subst (λ x. IsNamed x d) (same_name name other same) is in
    named_or _ null t d n _ (here (codes "null"))
    (named_or _ boolean t d n _ (here (codes "boolean"))
    (named_or _ int t d n _ (here (codes "int"))
    (named_or _ long t d n _ (here (codes "long"))
    (named_or _ bytes t d n _ (here (codes "bytes"))
    (named_or _ text t d n _ (here (codes "string")) (refused (Declares t d n) _ t))))))

as_str-some : (d : Data) (name : List ℕ) → as_str d ≡ Some name → d ≡ string name
as_str-some json_null name h = cc
as_str-some (json_boolean b) name h = cc
as_str-some (number x) name h = cc
as_str-some (string s) name h = cc
as_str-some (array ds) name h = cc
as_str-some (object ms) name h = cc

text_at-some : (o : Option Data) (name : List ℕ) → option_and_then as_str o ≡ Some name → o ≡ Some (string name)
text_at-some None name h = cc
text_at-some (Some d) name h = ap Some (as_str-some d name h)

either_ok : {A : Type 0} (b : Bool) (x y : Result A AvroFault) (z : A) (P : Type 0) → (b ≡ true → x ≡ Ok z → P) → (y ≡ Ok z → P) → cond b x y ≡ Ok z → P
either_ok true x y z P left right h = left refl h
either_ok false x y z P left right h = right h

-- an attribute that declares a type
abbrev Holds : Members → List ℕ → Avro → ℕ → Type 0
Holds ms key t n = (e : Data) × (get_member key ms ≡ Some e) × Declares t e n

-- an attribute that declares fields
abbrev HoldsFields : Members → List ℕ → Fields → ℕ → Type 0
HoldsFields ms key fs n = (ds : Items) × (get_member key ms ≡ Some (array ds)) × DeclareFields fs ds n

Declares-record : (ms : Members) (n : ℕ) (fields : Result Fields AvroFault) (t : Avro) → HasType (codes "record") (object ms) → ((fs : Fields) → fields ≡ Ok fs → HoldsFields ms (codes "fields") fs (n + 1)) → (fields >>= λ fs. Ok (record_of fs)) ≡ Ok t → Declares t (object ms) n
Declares-record ms n fields t typed inner h =
    let found = step_ok fields (λ fs. Ok (record_of fs)) t h in
    let same : record_of found.0 ≡ t = let whole = found.2 in cc in
    let held = inner found.0 found.1 in
    subst (λ u. Declares u (object ms) n) same (typed, held.0, held.1, held.2)

Declares-array : (ms : Members) (n : ℕ) (items : Result Avro AvroFault) (t : Avro) → HasType (codes "array") (object ms) → ((s : Avro) → items ≡ Ok s → Holds ms (codes "items") s (n + 1)) → nested n (array_from items) ≡ Ok t → Declares t (object ms) n
Declares-array ms n items t typed inner h =
    let shallow = nested_ok n (array_from items) t h in
    let found = step_ok items array_with t shallow.1 in
    let filled = array_with_ok (takes_no_byte found.0) found.0 t found.2 in
    let held = inner found.0 found.1 in
    subst (λ u. Declares u (object ms) n) filled.1 (typed, shallow.0, held.0, held.1, held.2, filled.0)

Declares-map : (ms : Members) (n : ℕ) (values : Result Avro AvroFault) (t : Avro) → HasType (codes "map") (object ms) → ((s : Avro) → values ≡ Ok s → Holds ms (codes "values") s (n + 1)) → nested n (map_from values) ≡ Ok t → Declares t (object ms) n
Declares-map ms n values t typed inner h =
    let shallow = nested_ok n (map_from values) t h in
    let found = step_ok values (λ u. Ok (map_of u)) t shallow.1 in
    let same : map_of found.0 ≡ t = let whole = found.2 in cc in
    let held = inner found.0 found.1 in
    subst (λ u. Declares u (object ms) n) same (typed, shallow.0, held.0, held.1, held.2)

Declares-object : (ms : Members) (o : Option (List ℕ)) (n : ℕ) (fields : Result Fields AvroFault) (items values : Result Avro AvroFault) (t : Avro) → text_in ms (codes "type") ≡ o
    → ((fs : Fields) → fields ≡ Ok fs → HoldsFields ms (codes "fields") fs (n + 1)) → ((s : Avro) → items ≡ Ok s → Holds ms (codes "items") s (n + 1)) → ((s : Avro) → values ≡ Ok s → Holds ms (codes "values") s (n + 1))
    → object_with o n fields items values ≡ Ok t → Declares t (object ms) n
Declares-object ms None n fields items values t is record_inner array_inner map_inner h = refused _ _ t h
Declares-object ms (Some name) n fields items values t is record_inner array_inner map_inner h =
    let typed : HasType name (object ms) = text_at-some (get_member (codes "type") ms) name is in
    let with = λ (other : List ℕ) (same : bytes_eq name other ≡ true). subst (λ x. HasType x (object ms)) (same_name name other same) typed in
    either_ok (bytes_eq name (codes "record")) _ _ t (Declares t (object ms) n) (λ same. Declares-record ms n fields t (with (codes "record") same) record_inner)
    (either_ok (bytes_eq name (codes "array")) _ _ t (Declares t (object ms) n) (λ same. Declares-array ms n items t (with (codes "array") same) array_inner)
    (either_ok (bytes_eq name (codes "map")) _ _ t (Declares t (object ms) n) (λ same. Declares-map ms n values t (with (codes "map") same) map_inner)
    (Declares-named name t (object ms) n (inr typed)))) h

-- the value of the key that was sought, or of a later one
Holds-either : (o : Ordering) (d : Data) (found : Option Data) (here later : Result Avro AvroFault) (t : Avro) (n : ℕ) → (here ≡ Ok t → Declares t d n) → (later ≡ Ok t → (e : Data) × (found ≡ Some e) × Declares t e n)
    → match_ordering o later here later ≡ Ok t → (e : Data) × (match_ordering o found (Some d) found ≡ Some e) × Declares t e n
Holds-either Less d found here later t n in_here in_later h = in_later h
Holds-either Equal d found here later t n in_here in_later h = (d, refl, in_here h)
Holds-either Greater d found here later t n in_here in_later h = in_later h

HoldsFields-either : (o : Ordering) (d : Data) (found : Option Data) (here later : Result Fields AvroFault) (fs : Fields) (n : ℕ) → (here ≡ Ok fs → (ds : Items) × (d ≡ array ds) × DeclareFields fs ds n) → (later ≡ Ok fs → (ds : Items) × (found ≡ Some (array ds)) × DeclareFields fs ds n)
    → match_ordering o later here later ≡ Ok fs → (ds : Items) × (match_ordering o found (Some d) found ≡ Some (array ds)) × DeclareFields fs ds n
HoldsFields-either Less d found here later fs n in_here in_later h = in_later h
HoldsFields-either Equal d found here later fs n in_here in_later h = let held = in_here h in (held.0, ap Some held.1, held.2)
HoldsFields-either Greater d found here later fs n in_here in_later h = in_later h

-- a field that is read: its name, which none before has, and its type
abbrev HoldsField : Data → List ℕ × Avro → List (List ℕ) → ℕ → Type 0
HoldsField d f before n = (get (codes "name") d ≡ Some (string f.0)) × (e : Data) × (get (codes "type") d ≡ Some e) × Declares f.1 e n × IsNew f.0 before

HoldsField-object : (ms : Members) (o : Option (List ℕ)) (before : List (List ℕ)) (n : ℕ) (kind : Result Avro AvroFault) (f : List ℕ × Avro) → text_in ms (codes "name") ≡ o → ((t : Avro) → kind ≡ Ok t → Holds ms (codes "type") t n)
    → field_with o before kind ≡ Ok f → HoldsField (object ms) f before n
HoldsField-object ms None before n kind f is inner h = refused _ _ f h
HoldsField-object ms (Some name) before n kind f is inner h =
    let parts = field_new (list_any (λ other. bytes_eq other name) before) name kind f h in
    let held = inner parts.1 parts.2 in
    subst (λ g. HoldsField (object ms) g before n) parts.3 (text_at-some (get_member (codes "name") ms) name is, held.0, held.1, held.2, parts.0)

-- the fields of a list, of which none has a name before
abbrev HoldsList : Items → Fields → List (List ℕ) → ℕ → Type 0
HoldsList ds fs before n = DeclareFields fs ds n × Apart before fs

HoldsList-cons : (d : Data) (ds : Items) (f : List ℕ × Avro) (fs all : Fields) (before : List (List ℕ)) (n : ℕ) → HoldsField d f before n → HoldsList ds fs (before ++ f.0 ∷ []) n → field f.0 f.1 fs ≡ all → HoldsList (item d ds) all before n
HoldsList-cons d ds f fs all before n here rest is =
    let parts = Apart-unpush before f.0 fs rest.1 in
    let whole : HoldsList (item d ds) (field f.0 f.1 fs) before n = ((d, here.1, ds, refl, here.0, here.2, here.3, parts.1, rest.0), Apart-join before f.0 f.1 fs here.4 parts.0) in
    subst (λ u. HoldsList (item d ds) u before n) is whole

mutual
  pub Declares-type_at : (d : Data) (n : ℕ) (t : Avro) → type_at d n ≡ Ok t → Declares t d n
  Declares-type_at json_null n t h = refused _ _ t h
  Declares-type_at (json_boolean b) n t h = refused _ _ t h
  Declares-type_at (number x) n t h = refused _ _ t h
  Declares-type_at (string name) n t h = Declares-named name t (string name) n (inl refl) h
  Declares-type_at (array ds) n t h =
      let found = step_ok (branches_at ds (n + 1)) (λ ts. Ok (union_of ts)) t h in
      let same : union_of found.0 ≡ t = let whole = found.2 in cc in
      subst (λ u. Declares u (array ds) n) same (ds, refl, Declares-branches_at ds (n + 1) found.0 found.1)
  Declares-type_at (object ms) n t h =
      Declares-object ms (text_in ms (codes "type")) n (fields_in ms (codes "fields") (n + 1)) (type_in ms (codes "items") (n + 1)) (type_in ms (codes "values") (n + 1)) t refl
      (Declares-fields_in ms (codes "fields") (n + 1)) (Declares-type_in ms (codes "items") (n + 1)) (Declares-type_in ms (codes "values") (n + 1)) h

  Declares-branches_at : (ds : Items) (n : ℕ) (ts : Branches) → branches_at ds n ≡ Ok ts → DeclareBranches ts ds n
  Declares-branches_at no_items n ts h = let same : no_branches ≡ ts = cc in subst (λ u. DeclareBranches u no_items n) same refl
  Declares-branches_at (item d ds) n ts h =
      let first = step_ok (type_at d n) (λ u. branches_at ds n >>= λ us. Ok (branch u us)) ts h in
      let rest = step_ok (branches_at ds n) (λ us. Ok (branch first.0 us)) ts first.2 in
      let same : branch first.0 rest.0 ≡ ts = let whole = rest.2 in cc in
      subst (λ u. DeclareBranches u (item d ds) n) same (d, ds, refl, Declares-type_at d n first.0 first.1, Declares-branches_at ds n rest.0 rest.1)

  Declares-type_in : (ms : Members) (key : List ℕ) (n : ℕ) (t : Avro) → type_in ms key n ≡ Ok t → Holds ms key t n
  Declares-type_in no_members key n t h = refused _ _ t h
  Declares-type_in (member other d ms) key n t h = Holds-either (slice_cmp nat_cmp key other) d (get_member key ms) (type_at d n) (type_in ms key n) t n (Declares-type_at d n t) (Declares-type_in ms key n t) h

  Declares-fields_in : (ms : Members) (key : List ℕ) (n : ℕ) (fs : Fields) → fields_in ms key n ≡ Ok fs → HoldsFields ms key fs n
  Declares-fields_in no_members key n fs h = refused _ _ fs h
  Declares-fields_in (member other d ms) key n fs h = HoldsFields-either (slice_cmp nat_cmp key other) d (get_member key ms) (fields_from d n) (fields_in ms key n) fs n (Declares-fields_from d n fs) (Declares-fields_in ms key n fs) h

  Declares-fields_from : (d : Data) (n : ℕ) (fs : Fields) → fields_from d n ≡ Ok fs → (ds : Items) × (d ≡ array ds) × DeclareFields fs ds n
  Declares-fields_from json_null n fs h = refused _ _ fs h
  Declares-fields_from (json_boolean b) n fs h = refused _ _ fs h
  Declares-fields_from (number x) n fs h = refused _ _ fs h
  Declares-fields_from (string name) n fs h = refused _ _ fs h
  Declares-fields_from (array ds) n fs h = (ds, refl, (Declares-fields_at ds [] n fs h).0)
  Declares-fields_from (object ms) n fs h = refused _ _ fs h

  Declares-fields_at : (ds : Items) (before : List (List ℕ)) (n : ℕ) (fs : Fields) → fields_at ds before n ≡ Ok fs → HoldsList ds fs before n
  Declares-fields_at no_items before n fs h = let same : no_fields ≡ fs = cc in subst (λ u. HoldsList no_items u before n) same (refl, Apart-none before)
  Declares-fields_at (item d ds) before n fs h =
      let first = step_ok (field_at d before n) (λ f. fields_at ds (before ++ f.0 ∷ []) n >>= λ gs. Ok (field f.0 f.1 gs)) fs h in
      let f = first.0 in
      let rest = step_ok (fields_at ds (before ++ f.0 ∷ []) n) (λ gs. Ok (field f.0 f.1 gs)) fs first.2 in
      HoldsList-cons d ds f rest.0 fs before n (Declares-field_at d before n f first.1) (Declares-fields_at ds (before ++ f.0 ∷ []) n rest.0 rest.1) (let whole = rest.2 in cc)

  Declares-field_at : (d : Data) (before : List (List ℕ)) (n : ℕ) (f : List ℕ × Avro) → field_at d before n ≡ Ok f → HoldsField d f before n
  Declares-field_at json_null before n f h = refused _ _ f h
  Declares-field_at (json_boolean b) before n f h = refused _ _ f h
  Declares-field_at (number x) before n f h = refused _ _ f h
  Declares-field_at (string name) before n f h = refused _ _ f h
  Declares-field_at (array ds) before n f h = refused _ _ f h
  Declares-field_at (object ms) before n f h = HoldsField-object ms (text_in ms (codes "name")) before n (type_in ms (codes "type") n) f refl (Declares-type_in ms (codes "type") n) h
