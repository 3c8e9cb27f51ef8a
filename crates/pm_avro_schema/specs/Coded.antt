-- A type as a list of the steps that build it, parts first, by which a proof tells types apart.
use Rattle.std.specs.Prelude.{◌≡◌, ℕ, List, [], ◌∷◌, get_or}
use Rattle.std.specs.Coded.{Coded, code_by, coded×, coded_ℕ, coded_list}
use Rattle.std.proofs.Common.{refl, ap, ◌∙◌}
use Rattle.pm_avro_schema.specs.Avro.{Avro, null, boolean, int, long, bytes, text, record_of, array_of, map_of}
use Rattle.pm_avro_schema.specs.Avro.{union_of, Fields, no_fields, field, Branches, no_branches, branch}

-- a step takes the parts that were built last, and leaves what it builds of them
pub data Step : Type 0 where
  a_null : Step
  a_boolean : Step
  an_int : Step
  a_long : Step
  some_bytes : Step
  a_text : Step
  a_record : Step
  an_array : Step
  a_map : Step
  a_union : Step
  fields_end : Step
  a_field : List ℕ → Step
  branches_end : Step
  a_branch : Step

abbrev mutual
  -- the steps that build a type, and then these
  pub steps : Avro → List Step → List Step
  steps null later = a_null ∷ later
  steps boolean later = a_boolean ∷ later
  steps int later = an_int ∷ later
  steps long later = a_long ∷ later
  steps bytes later = some_bytes ∷ later
  steps text later = a_text ∷ later
  steps (record_of fs) later = fields_steps fs (a_record ∷ later)
  steps (array_of t) later = steps t (an_array ∷ later)
  steps (map_of t) later = steps t (a_map ∷ later)
  steps (union_of ts) later = branches_steps ts (a_union ∷ later)

  -- the steps that build fields
  pub fields_steps : Fields → List Step → List Step
  fields_steps no_fields later = fields_end ∷ later
  fields_steps (field name t fs) later = fields_steps fs (steps t (a_field name ∷ later))

  -- the steps that build branches
  pub branches_steps : Branches → List Step → List Step
  branches_steps no_branches later = branches_end ∷ later
  branches_steps (branch t ts) later = branches_steps ts (steps t (a_branch ∷ later))

-- what has been built and isn't part of anything yet, the last first
pub record Parts : Type 0 where
  pub kinds : List Avro
  pub fields : List Fields
  pub branches : List Branches

-- the first, or another
abbrev pub first_or : {A : Type 0} → A → List A → A
first_or other [] = other
first_or other (x ∷ xs) = x

-- all but the first
abbrev pub later : {A : Type 0} → List A → List A
later [] = []
later (x ∷ xs) = xs

-- with a type, fields or branches that were built
abbrev pub with_kind : Avro → Parts → Parts
with_kind t p = record { kinds = t ∷ p.kinds; fields = p.fields; branches = p.branches }

abbrev pub with_fields : Fields → Parts → Parts
with_fields fs p = record { kinds = p.kinds; fields = fs ∷ p.fields; branches = p.branches }

abbrev pub with_branches : Branches → Parts → Parts
with_branches ts p = record { kinds = p.kinds; fields = p.fields; branches = ts ∷ p.branches }

-- one step
abbrev pub after_step : Step → Parts → Parts
after_step a_null p = with_kind null p
after_step a_boolean p = with_kind boolean p
after_step an_int p = with_kind int p
after_step a_long p = with_kind long p
after_step some_bytes p = with_kind bytes p
after_step a_text p = with_kind text p
after_step a_record p = record {
  kinds = record_of (first_or no_fields p.fields) ∷ p.kinds;
  fields = later p.fields;
  branches = p.branches;
}
after_step an_array p = record {
  kinds = array_of (first_or null p.kinds) ∷ later p.kinds;
  fields = p.fields;
  branches = p.branches;
}
after_step a_map p = record {
  kinds = map_of (first_or null p.kinds) ∷ later p.kinds;
  fields = p.fields;
  branches = p.branches;
}
after_step a_union p = record {
  kinds = union_of (first_or no_branches p.branches) ∷ p.kinds;
  fields = p.fields;
  branches = later p.branches;
}
after_step fields_end p = with_fields no_fields p
after_step (a_field name) p = record {
  kinds = later p.kinds;
  fields = field name (first_or null p.kinds) (first_or no_fields p.fields) ∷ later p.fields;
  branches = p.branches;
}
after_step branches_end p = with_branches no_branches p
after_step a_branch p = record {
  kinds = later p.kinds;
  fields = p.fields;
  branches = branch (first_or null p.kinds) (first_or no_branches p.branches) ∷ later p.branches;
}

-- all steps
abbrev pub after : List Step → Parts → Parts
after [] p = p
after (s ∷ ss) p = after ss (after_step s p)

mutual
  pub after-steps : (t : Avro) (ss : List Step) (p : Parts) → after (steps t ss) p ≡ after ss (with_kind t p)
  after-steps null ss p = refl
  after-steps boolean ss p = refl
  after-steps int ss p = refl
  after-steps long ss p = refl
  after-steps bytes ss p = refl
  after-steps text ss p = refl
  after-steps (record_of fs) ss p = after-fields_steps fs (a_record ∷ ss) p
  after-steps (array_of t) ss p = after-steps t (an_array ∷ ss) p
  after-steps (map_of t) ss p = after-steps t (a_map ∷ ss) p
  after-steps (union_of ts) ss p = after-branches_steps ts (a_union ∷ ss) p

  pub after-fields_steps : (fs : Fields) (ss : List Step) (p : Parts)
      → after (fields_steps fs ss) p ≡ after ss (with_fields fs p)
  after-fields_steps no_fields ss p = refl
  after-fields_steps (field name t fs) ss p =
      after-fields_steps fs (steps t (a_field name ∷ ss)) p ∙ after-steps t (a_field name ∷ ss) (with_fields fs p)

  pub after-branches_steps : (ts : Branches) (ss : List Step) (p : Parts)
      → after (branches_steps ts ss) p ≡ after ss (with_branches ts p)
  after-branches_steps no_branches ss p = refl
  after-branches_steps (branch t ts) ss p =
      after-branches_steps ts (steps t (a_branch ∷ ss)) p ∙ after-steps t (a_branch ∷ ss) (with_branches ts p)

-- before any step
abbrev pub nothing : Parts
nothing = record { kinds = []; fields = []; branches = [] }

-- the type that steps build
abbrev pub built : List Step → Avro
built ss = first_or null (after ss nothing).kinds

-- a step's number, and the name that it has
abbrev pub step_number : Step → ℕ × List ℕ
step_number a_null = (0, [])
step_number a_boolean = (1, [])
step_number an_int = (2, [])
step_number a_long = (3, [])
step_number some_bytes = (4, [])
step_number a_text = (5, [])
step_number a_record = (6, [])
step_number an_array = (7, [])
step_number a_map = (8, [])
step_number a_union = (9, [])
step_number fields_end = (10, [])
step_number (a_field name) = (11, name)
step_number branches_end = (12, [])
step_number a_branch = (13, [])

-- the step with this number and this name
abbrev pub step_of : ℕ × List ℕ → Step
step_of p = get_or
    (a_null ∷ a_boolean ∷ an_int ∷ a_long ∷ some_bytes ∷ a_text ∷ a_record ∷ an_array ∷ a_map ∷ a_union
    ∷ fields_end ∷ a_field p.1 ∷ branches_end ∷ a_branch ∷ [])
    p.0 a_null

pub step_of-step_number : (s : Step) → step_of (step_number s) ≡ s
step_of-step_number a_null = refl
step_of-step_number a_boolean = refl
step_of-step_number an_int = refl
step_of-step_number a_long = refl
step_of-step_number some_bytes = refl
step_of-step_number a_text = refl
step_of-step_number a_record = refl
step_of-step_number an_array = refl
step_of-step_number a_map = refl
step_of-step_number a_union = refl
step_of-step_number fields_end = refl
step_of-step_number (a_field name) = refl
step_of-step_number branches_end = refl
step_of-step_number a_branch = refl

-- the code of steps, and that of types
abbrev pub step_code : Coded Step
step_code = code_by (ℕ × List ℕ) (coded× coded_ℕ (coded_list coded_ℕ)) step_number step_of step_of-step_number

abbrev pub avro_code : Coded Avro
avro_code = code_by (List Step) (coded_list step_code) (λ t. steps t []) built
    (λ t. ap (λ (p : Parts). first_or null p.kinds) (after-steps t [] nothing))
