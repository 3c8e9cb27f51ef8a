-- An attribute of an object: how deep it nests, and what it is read as.
use Rattle.std.proofs.Common.{◌≡◌, ℕ, ◌+◌, ◌≤◌, max, List, Option, Some, Result}
use Rattle.std.proofs.Common.{Ok, codes, false, refl, sym, ap, subst, ◌∙◌, arith}
use Rattle.std.specs.Ordering.{nat_cmp, match_ordering}
use Rattle.std.specs.declared.cmp.Ordering.{Ordering}
use Rattle.std.specs.declared.cmp.Ordering.TheVariants.{Less, Equal, Greater}
use Rattle.std.specs.Cmp.Lexicographic.{slice_cmp}
use Rattle.std.specs.List.{list_any}
use Rattle.std.specs.Str.{bytes_eq}
use Rattle.serde_json.specs.Data.{Data, null, boolean, number, string, array, object}
use Rattle.serde_json.specs.Data.{Members, no_members, member, depth, members_depth}
use Rattle.serde_json.specs.Find.{get, get_member}
use Rattle.pm_avro_schema.specs.Attribute.{text_at, present, object_at}
use Rattle.pm_avro_schema.specs.Reading.{type_at, type_in, fields_in, fields_from, field_at, field_with}
use Rattle.pm_base.specs.Outcome.{◌>>=◌, Fails}
use Rattle.pm_base.proofs.Laws.{Fails-step}
use Rattle.pm_avro_schema.specs.Fault.{fault_of}
use Rattle.pm_avro_schema.specs.declared.fault.AvroFault.{AvroFault}

no_deeper-at : (o : Ordering) (key : List ℕ) (d e : Data) (ms : Members) → match_ordering o (get_member key ms) (Some d) (get_member key ms) ≡ Some e → (get_member key ms ≡ Some e → depth e ≤ members_depth ms) → depth e ≤ max (depth d) (members_depth ms)
no_deeper-at Less key d e ms is later = let below = later is in omega arith
no_deeper-at Equal key d e ms is later = let same : d ≡ e = cc in let deep = ap depth same in omega arith
no_deeper-at Greater key d e ms is later = let below = later is in omega arith

no_deeper : (key : List ℕ) (e : Data) (ms : Members) → get_member key ms ≡ Some e → depth e ≤ members_depth ms
no_deeper key e no_members is = cc
no_deeper key e (member other d ms) is = no_deeper-at (slice_cmp nat_cmp key other) key d e ms is (no_deeper key e ms)

-- what an attribute holds nests less deep
pub depth-get : (key : List ℕ) (d e : Data) → get key d ≡ Some e → depth e + 1 ≤ depth d
depth-get key null e is = cc
depth-get key (boolean b) e is = cc
depth-get key (number x) e is = cc
depth-get key (string s) e is = cc
depth-get key (array ds) e is = cc
depth-get key (object ms) e is = let below = no_deeper key e ms is in omega arith

present-match : {A : Type 0} (read : Data → Result A AvroFault) (o : Ordering) (a b c : Option Data) → present read (match_ordering o a b c) ≡ match_ordering o (present read a) (present read b) (present read c)
present-match read Less a b c = refl
present-match read Equal a b c = refl
present-match read Greater a b c = refl

pub type_in-get : (ms : Members) (key : List ℕ) (n : ℕ) → type_in ms key n ≡ present (λ d. type_at d n) (get_member key ms)
type_in-get no_members key n = refl
type_in-get (member other d ms) key n =
    let rest = type_in-get ms key n in
    ap (λ r. match_ordering (slice_cmp nat_cmp key other) r (type_at d n) r) rest ∙ sym (present-match (λ e. type_at e n) (slice_cmp nat_cmp key other) (get_member key ms) (Some d) (get_member key ms))

pub fields_in-get : (ms : Members) (key : List ℕ) (n : ℕ) → fields_in ms key n ≡ present (λ d. fields_from d n) (get_member key ms)
fields_in-get no_members key n = refl
fields_in-get (member other d ms) key n =
    let rest = fields_in-get ms key n in
    ap (λ r. match_ordering (slice_cmp nat_cmp key other) r (fields_from d n) r) rest ∙ sym (present-match (λ e. fields_from e n) (slice_cmp nat_cmp key other) (get_member key ms) (Some d) (get_member key ms))

-- an object is read by its `type` and the attribute that this needs
pub type_at-object : (ms : Members) (n : ℕ) → type_at (object ms) n ≡ object_at (object ms) n
type_at-object ms n = rw (fields_in-get ms (codes "fields") (n + 1), type_in-get ms (codes "items") (n + 1), type_in-get ms (codes "values") (n + 1))

-- a field is read by its name and its type
pub field_at-get : (d : Data) (before : List (List ℕ)) (n : ℕ) → field_at d before n ≡ field_with (text_at (codes "name") d) before (present (λ e. type_at e n) (get (codes "type") d))
field_at-get null before n = refl
field_at-get (boolean b) before n = refl
field_at-get (number x) before n = refl
field_at-get (string s) before n = refl
field_at-get (array ds) before n = refl
field_at-get (object ms) before n = rw (type_in-get ms (codes "type") n) refl

-- a field with a new name is read as its type is
pub field_at-named : (d : Data) (before : List (List ℕ)) (n : ℕ) (name : List ℕ) → Some name ≡ text_at (codes "name") d → list_any (λ other. bytes_eq other name) before ≡ false
    → field_at d before n ≡ (present (λ e. type_at e n) (get (codes "type") d) >>= λ t. Ok (name, t))
field_at-named d before n name is new = field_at-get d before n ∙ rw (sym is, new)

pub field_at-fails : (d : Data) (before : List (List ℕ)) (n : ℕ) (name : List ℕ) (e : AvroFault) → Some name ≡ text_at (codes "name") d → list_any (λ other. bytes_eq other name) before ≡ false
    → Fails (fault_of e) (present (λ e. type_at e n) (get (codes "type") d)) → Fails (fault_of e) (field_at d before n)
field_at-fails d before n name e is new fault =
    subst (Fails (fault_of e)) (sym (field_at-named d before n name is new))
    (Fails-step (fault_of e) (present (λ e. type_at e n) (get (codes "type") d)) (λ t. Ok (name, t)) fault)
