use Rattle.std.proofs.Common.{◌≡◌, ℕ, List, [], ◌∷◌, ◌++◌, codes, sym, ap, ◌∙◌, append_assoc, arith}
use Rattle.std.specs.Fmt.{decimal}
use Rattle.std.proofs.lemmas.List.{append_cancel_left}
use Rattle.uuid.specs.Text.{hyphenated_text, hyphen, lower}
use Rattle.pm_values.specs.Names.{Naming, IsNaming, naming, name_of}
use Rattle.pm_model_folder.specs.Changes.{Actor, IsActor, IsOwn, its_file, its_origin, origin_name}
use Rattle.pm_model_folder.specs.Paths.{snapshot_file}
use Rattle.pm_model_folder.proofs.PathLemmas.{PathParts, named-apart, one-namer, other-snapshots}
use Rattle.pm_model_folder.proofs.laws.own_law.Goals as goal

-- an actor as a maker of names
abbrev maker : Actor → Naming
maker me = naming me.session me.number 0

abbrev actor_in : Naming → Actor
actor_in names = record { session = names.session; number = names.actor }

-- what such a name has after the actor
abbrev tail : List ℕ
tail = hyphen ∷ (decimal 0 ++ hyphen ∷ (decimal 0 ++ []))

maker-is : (me : Actor) → IsActor me → IsNaming (maker me)
maker-is me is = record { sixteen = is.sixteen; bytes = is.bytes; actor_bits = is.bits; base_bits = omega arith; count_bits = omega arith }

longer : (me : Actor) → origin_name me ++ tail ≡ name_of (codes "ORIGIN-") [] (maker me)
longer me =
    append_assoc (codes "ORIGIN-") (hyphenated_text lower me.session ++ hyphen ∷ decimal me.number) tail
    ∙ ap (λ text. codes "ORIGIN-" ++ text) (append_assoc (hyphenated_text lower me.session) (hyphen ∷ decimal me.number) tail)

-- ---- an origin, and a file that an actor named

module _ (one : (prefix suffix : List ℕ) (m n : Naming) → IsNaming m → IsNaming n → name_of prefix suffix m ≡ name_of prefix suffix n → m ≡ n)
    (parts : PathParts) where
  one_origin : (me other : Actor) (path : List ℕ) → IsActor me → IsActor other → path ≡ snapshot_file (origin_name me)
      → path ≡ snapshot_file (origin_name other) → me ≡ other
  one_origin me other path is_me is_other own_me own_other =
      let same : origin_name me ≡ origin_name other =
      append_cancel_left (codes "snapshot/") (origin_name me) (origin_name other) (sym own_me ∙ own_other) in
      ap actor_in (one (codes "ORIGIN-") [] (maker me) (maker other) (maker-is me is_me) (maker-is other is_other)
      (sym (longer me) ∙ ap (λ text. text ++ tail) same ∙ longer other))

  one_actor : (me other : Actor) (path : List ℕ) → IsActor me → IsActor other → IsOwn me path → IsOwn other path → me ≡ other
  one_actor me other path is_me is_other (its_origin mine) (its_origin its) = one_origin me other path is_me is_other mine its
  one_actor me other path is_me is_other (its_file mine in_table) (its_file its below) = one-namer parts me other path mine its
  one_actor me other path is_me is_other (its_origin mine) (its_file its below) =
      absurd (named-apart other path (codes "snapshot") (origin_name me) its below other-snapshots mine)
  one_actor me other path is_me is_other (its_file mine in_table) (its_origin its) =
      absurd (named-apart me path (codes "snapshot") (origin_name other) mine in_table other-snapshots its)

pub returns-clause-named : goal.returns-clause-named
returns-clause-named c = one-namer c.path_law.ensures

pub returns-clause-own : goal.returns-clause-own
returns-clause-own c = one_actor c.names_law.ensures.one c.path_law.ensures
