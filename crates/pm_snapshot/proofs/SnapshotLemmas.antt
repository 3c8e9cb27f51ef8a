-- What is read as a snapshot bears its id and is consistent, and what is written is read again.
use Rattle.std.proofs.Common.{◌≡◌, ℕ, ◌≤◌, ◌==◌, ◌&&◌, Bool, true, false, cond, nat_lt, nat_le, ℤ, pos, negsuc, int_le, int_lt, ◌≤ℤ◌, ◌<ℤ◌, List, codes, Result, Ok, Err, refl, sym, ap, subst, ◌∙◌, arith}
use Rattle.std.proofs.lemmas.Bool.Decides.{Decides-eqb, Decides-ltb, nat_tests}
use Rattle.std.proofs.lemmas.Int.{ints}
use Rattle.pm_base.specs.Outcome.{◌>>=◌}
use Rattle.serde_json.specs.Data.{Data}
use Rattle.pm_snapshot.specs.Field.{json_in, natural_at, integer_at, text_at, maybe_integer_at, maybe_text_at}
use Rattle.pm_snapshot.specs.Properties.{properties_at}
use Rattle.pm_snapshot.specs.Snapshot.{IsConsistent, is_consistent, checked, kind_at, snapshot_from, snapshot_in}
use Rattle.pm_snapshot.specs.declared.fault.SnapFault.{SnapFault}
use Rattle.pm_snapshot.specs.declared.fault.SnapFault.TheVariants.{Bad}
use Rattle.pm_snapshot.specs.declared.snapshot.Snapshot.{Snapshot}

both : (a b : Bool) → (a && b) ≡ true → (a ≡ true) × (b ≡ true)
both true b is = (refl, is)
both false b is = cc

-- ---- the numbers stand to each other as the test says

int_le-true : (x y : ℤ) → int_le x y ≡ true → x ≤ℤ y
int_le-true x y is = grind (arith, ints)

int_lt-true : (x y : ℤ) → int_lt x y ≡ true → x <ℤ y
int_lt-true x y is = grind (arith, ints)

nat_le-true : (m n : ℕ) → nat_le m n ≡ true → m ≤ n
nat_le-true m n is = grind (arith, nat_tests)

consistent : (s : Snapshot) → is_consistent s ≡ true → IsConsistent s
consistent s is =
    let a = both (nat_lt s.base s.id) _ is in
    let b = both (int_le (negsuc 0) s.fence) _ a.1 in
    let d = both (int_lt s.fence (pos s.id)) _ b.1 in
    let e = both (nat_le s.appends s.id) (nat_le s.full s.appends) d.1 in
    record {
      base_below = (Decides-ltb s.base s.id).0 a.0;
      fence_least = int_le-true (negsuc 0) s.fence b.0;
      fence_below = int_lt-true s.fence (pos s.id) d.0;
      appends_within = nat_le-true s.appends s.id e.0;
      full_within = nat_le-true s.full s.appends e.1;
    }

-- what the last check takes
pub record Taken (id own : ℕ) (s : Snapshot) : Type 0 where
  pub named : s.id ≡ id
  pub own_is : s.id ≡ own
  pub consistent : IsConsistent s

taken : (b : Bool) (s t : Snapshot) → cond b (Ok s) (Err Bad) ≡ Ok t → (b ≡ true) × (s ≡ t)
taken true s t is = (refl, cc)
taken false s t is = cc

Taken-checked : (id : ℕ) (s t : Snapshot) → checked id s ≡ Ok t → Taken id s.id t
Taken-checked id s t is =
    let parts = taken ((s.id == id) && is_consistent s) s t is in
    let tests = both (s.id == id) (is_consistent s) parts.0 in
    subst (Taken id s.id) parts.1
    (record { named = (Decides-eqb s.id id).0 tests.0; own_is = refl; consistent = consistent s tests.1 })

-- what holds of all that a reading may give
abbrev AllOf : (Snapshot → Type 0) → Result Snapshot SnapFault → Type 0
AllOf Q r = (t : Snapshot) → r ≡ Ok t → Q t

-- after any step it holds where it holds of what follows
AllOf-step : {A : Type 0} (Q : Snapshot → Type 0) (r : Result A SnapFault) (f : A → Result Snapshot SnapFault)
    → ((x : A) → r ≡ Ok x → AllOf Q (f x)) → AllOf Q (r >>= f)
AllOf-step Q (Ok x) f more = more x refl
AllOf-step Q (Err e) f more = λ t is. cc

-- the snapshot of JSON bears the id that stands there, and that of its file
abbrev IsOf : ℕ → Data → Snapshot → Type 0
IsOf id d t = (own : ℕ) × (natural_at (codes "id") d ≡ Ok own) × Taken id own t

AllOf-snapshot_from : (id : ℕ) (d : Data) → AllOf (IsOf id d) (snapshot_from id d)
unfolding snapshot_from
AllOf-snapshot_from id d =
    let Q = IsOf id d in
    AllOf-step Q (natural_at (codes "id") d) _ (λ own_id bears.
    AllOf-step Q (natural_at (codes "schemaId") d) _ (λ schema_id _.
    AllOf-step Q (text_at (codes "baseManifestList") d) _ (λ base_list _.
    AllOf-step Q (text_at (codes "deltaManifestList") d) _ (λ delta_list _.
    AllOf-step Q (maybe_text_at (codes "changelogManifestList") d) _ (λ changelog_list _.
    AllOf-step Q (text_at (codes "commitUser") d) _ (λ user _.
    AllOf-step Q (integer_at (codes "commitIdentifier") d) _ (λ ident _.
    AllOf-step Q (kind_at (codes "commitKind") d) _ (λ kind _.
    AllOf-step Q (integer_at (codes "timeMillis") d) _ (λ time _.
    AllOf-step Q (integer_at (codes "totalRecordCount") d) _ (λ total _.
    AllOf-step Q (integer_at (codes "deltaRecordCount") d) _ (λ delta _.
    AllOf-step Q (maybe_integer_at (codes "changelogRecordCount") d) _ (λ changelog _.
    AllOf-step Q (maybe_integer_at (codes "watermark") d) _ (λ watermark _.
    AllOf-step Q (properties_at id d) _ (λ own _ t is. (
      own_id,
      bears,
      Taken-checked id (record {
        id = own_id;
        schema_id = schema_id;
        base_list = base_list;
        delta_list = delta_list;
        changelog_list = changelog_list;
        user = user;
        ident = ident;
        kind = kind;
        time = time;
        total = total;
        delta = delta;
        changelog = changelog;
        watermark = watermark;
        base = own.base;
        fence = own.fence;
        appends = own.appends;
        full = own.full;
      }) t is,
    )))))))))))))))

abbrev IsIn : ℕ → List ℕ → Snapshot → Type 0
IsIn id text t = (d : Data) × (json_in text ≡ Ok d) × IsOf id d t

AllOf-snapshot_in : (id : ℕ) (text : List ℕ) → AllOf (IsIn id text) (snapshot_in id text)
unfolding snapshot_in
AllOf-snapshot_in id text =
    AllOf-step (IsIn id text) (json_in text) (snapshot_from id) (λ d found t is. (d, found, AllOf-snapshot_from id d t is))

pub snapshot_in-id : (id : ℕ) (text : List ℕ) (s : Snapshot) → snapshot_in id text ≡ Ok s → s.id ≡ id
snapshot_in-id id text s is = (AllOf-snapshot_in id text s is).2.2.named

pub snapshot_in-consistent : (id : ℕ) (text : List ℕ) (s : Snapshot) → snapshot_in id text ≡ Ok s → IsConsistent s
snapshot_in-consistent id text s is = (AllOf-snapshot_in id text s is).2.2.consistent

-- one text is one snapshot
pub snapshot_in-one : (i j : ℕ) (text : List ℕ) (s t : Snapshot) → snapshot_in i text ≡ Ok s
    → snapshot_in j text ≡ Ok t → s ≡ t
snapshot_in-one i j text s t in_i in_j =
    let a = AllOf-snapshot_in i text s in_i in
    let b = AllOf-snapshot_in j text t in_j in
    let jsons : a.0 ≡ b.0 = (let p = a.1 in let q = b.1 in cc) in
    let owns : a.2.0 ≡ b.2.0 = (let p = ap (natural_at (codes "id")) jsons in let q = a.2.1 in let r = b.2.1 in cc) in
    let ids : i ≡ j = sym a.2.2.named ∙ a.2.2.own_is ∙ owns ∙ sym b.2.2.own_is ∙ b.2.2.named in
    let same : snapshot_in i text ≡ snapshot_in j text = ap (λ k. snapshot_in k text) ids in
    (let p = sym in_i ∙ same ∙ in_j in cc)
