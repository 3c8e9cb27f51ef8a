-- A type that JSON declares keeps to the bounds, and its text nests no deeper than that JSON.
use Rattle.std.proofs.Common.{ℕ, ◌+◌, ◌≤◌, codes, ap, arith}
use Rattle.serde_json.specs.Data.{Data, array, Items, depth, items_depth}
use Rattle.pm_avro_schema.proofs.Attributes.{depth-get}
use Rattle.pm_avro_schema.specs.Avro.{Avro, null, boolean, int, long, bytes, text, record_of, array_of, map_of}
use Rattle.pm_avro_schema.specs.Avro.{union_of, Fields, no_fields, field, Branches, no_branches, branch}
use Rattle.pm_avro_schema.specs.Meaning.{Declares, DeclareFields, DeclareBranches}
use Rattle.pm_avro_schema.specs.Readable.{KeepsBounds, FieldsKeepBounds, BranchesKeepBounds}
use Rattle.pm_avro_schema.specs.Readable.{levels, fields_levels, branches_levels}

-- the type keeps to the bounds with n types around it, and its text nests at most so deep
pub record Fit (t : Avro) (n deep : ℕ) : Type 0 where
  pub bounds : KeepsBounds t n
  pub within : levels t ≤ deep

record FitFields (fs : Fields) (n deep : ℕ) : Type 0 where
  bounds : FieldsKeepBounds fs n
  within : fields_levels fs ≤ deep

record FitBranches (ts : Branches) (n deep : ℕ) : Type 0 where
  bounds : BranchesKeepBounds ts n
  within : branches_levels ts ≤ deep

mutual
  pub Fit-Declares : (t : Avro) (d : Data) (n : ℕ) → Declares t d n → Fit t n (depth d)
  Fit-Declares null d n is = record { bounds = tt; within = omega arith }
  Fit-Declares boolean d n is = record { bounds = tt; within = omega arith }
  Fit-Declares int d n is = record { bounds = tt; within = omega arith }
  Fit-Declares long d n is = record { bounds = tt; within = omega arith }
  Fit-Declares bytes d n is = record { bounds = tt; within = omega arith }
  Fit-Declares text d n is = record { bounds = tt; within = omega arith }
  Fit-Declares (record_of fs) d n is =
      let inner = Fit-DeclareFields fs is.1 (n + 1) is.3 in
      let below = depth-get (codes "fields") d (array is.1) is.2 in
      record { bounds = inner.bounds; within = let within = inner.within in omega arith }
  Fit-Declares (array_of t) d n is =
      let inner = Fit-Declares t is.2 (n + 1) is.4 in
      let below = depth-get (codes "items") d is.2 is.3 in
      record { bounds = (is.1, is.5, inner.bounds); within = let within = inner.within in omega arith }
  Fit-Declares (map_of t) d n is =
      let inner = Fit-Declares t is.2 (n + 1) is.4 in
      let below = depth-get (codes "values") d is.2 is.3 in
      record { bounds = (is.1, inner.bounds); within = let within = inner.within in omega arith }
  Fit-Declares (union_of ts) d n is =
      let inner = Fit-DeclareBranches ts is.0 (n + 1) is.2 in
      let same = ap depth is.1 in
      record { bounds = inner.bounds; within = let within = inner.within in omega arith }

  Fit-DeclareFields : (fs : Fields) (ds : Items) (n : ℕ) → DeclareFields fs ds n → FitFields fs n (items_depth ds)
  Fit-DeclareFields no_fields ds n is = record { bounds = tt; within = omega arith }
  Fit-DeclareFields (field name t fs) ds n is =
      let here = Fit-Declares t is.1 n is.6 in
      let more = Fit-DeclareFields fs is.2 n is.8 in
      let below = depth-get (codes "type") is.0 is.1 is.5 in
      let same = ap items_depth is.3 in
      record { bounds = (is.7, here.bounds, more.bounds); within = let one = here.within in let rest = more.within in omega arith }

  Fit-DeclareBranches : (ts : Branches) (ds : Items) (n : ℕ) → DeclareBranches ts ds n → FitBranches ts n (items_depth ds)
  Fit-DeclareBranches no_branches ds n is = record { bounds = tt; within = omega arith }
  Fit-DeclareBranches (branch t ts) ds n is =
      let here = Fit-Declares t is.0 n is.3 in
      let more = Fit-DeclareBranches ts is.1 n is.4 in
      let same = ap items_depth is.2 in
      record { bounds = (here.bounds, more.bounds); within = let one = here.within in let rest = more.within in omega arith }
