-- What is left of a datum without null.
use Rattle.std.proofs.Common.{◌≡◌, ℕ, zero, suc, Bool, true, false, Some, None, refl, subst}
use Rattle.pm_avro_schema.specs.Avro as types
use Rattle.pm_avro_schema.specs.Avro.{Avro, Branches, no_branches, branch}
use Rattle.pm_avro_data.specs.Datum.{Data, null, union_of}
use Rattle.pm_avro_data.specs.HasType.{HasType}
use Rattle.pm_record.specs.Record.{is_null, beside_null, not_null, present}

-- null alone is of the type of null
null_only : (t : Avro) (d : Data) → is_null t ≡ true → HasType t d → d ≡ null
null_only types.null null is h = refl
null_only types.null d is h = absurd h
null_only t d is h = let no : false ≡ true = is in cc

-- a datum that isn't null is itself
not_null_same : (d e : Data) → not_null d ≡ Some e → d ≡ e
not_null_same null e is = let no : None ≡ Some e = is in cc
not_null_same d e is = cc

-- nothing is left of null
null_none : (d e : Data) → d ≡ null → not_null d ≡ Some e → ⊥
null_none d e is some = let no : None ≡ Some e = rw is at some in cc

abbrev pair : Avro → Avro → Avro
pair a b = types.union_of (branch a (branch b no_branches))

-- of a union of two
pair_typed : (a b : Avro) (x y : Bool) → is_null a ≡ x → is_null b ≡ y → (k : ℕ) (d e : Data)
    → HasType (pair a b) (union_of k d) → present (pair a b) (union_of k d) ≡ Some e → HasType (beside_null (pair a b)) e
pair_typed a b true y p q zero d e h some = absurd (null_none d e (null_only a d p h.1) (rw p at some))
pair_typed a b true y p q (suc zero) d e h some = rw p (subst (HasType b) (not_null_same d e (rw p at some)) h.1)
pair_typed a b true y p q (suc (suc k)) d e h some = absurd h.1
pair_typed a b false true p q zero d e h some = rw (p, q) (subst (HasType a) (not_null_same d e (rw (p, q) at some)) h.1)
pair_typed a b false true p q (suc zero) d e h some = absurd (null_none d e (null_only b d q h.1) (rw (p, q) at some))
pair_typed a b false true p q (suc (suc k)) d e h some = absurd h.1
pair_typed a b false false p q k d e h some = rw (p, q) (subst (HasType (pair a b)) (not_null_same (union_of k d) e (rw (p, q) at some)) h)

-- of a datum that isn't taken out of a union
same_typed : (t : Avro) (d e : Data) → HasType t d → not_null d ≡ Some e → HasType t e
same_typed t d e h some = subst (HasType t) (not_null_same d e some) h

-- what is left has the type that is left
pub present_typed : (t : Avro) (d e : Data) → HasType t d → present t d ≡ Some e → HasType (beside_null t) e
present_typed (types.union_of no_branches) d e h some = same_typed (types.union_of no_branches) d e h some
present_typed (types.union_of (branch a no_branches)) d e h some = same_typed (types.union_of (branch a no_branches)) d e h some
present_typed (types.union_of (branch a (branch b no_branches))) (union_of k d) e h some = pair_typed a b (is_null a) (is_null b) refl refl k d e h some
present_typed (types.union_of (branch a (branch b no_branches))) d e h some = absurd h
present_typed (types.union_of (branch a (branch b (branch c ts)))) d e h some = same_typed (types.union_of (branch a (branch b (branch c ts)))) d e h some
present_typed t d e h some = same_typed t d e h some
