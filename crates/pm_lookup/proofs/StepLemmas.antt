-- One file more in which a key is looked for.
use Rattle.std.proofs.Common.{◌≡◌, List, [], ◌∷◌, ◌++◌, reverse, Bool, true, false, cond, Option, None, Some, Ok, Err, refl, sym, ap, subst, ◌∙◌, append-nil}
use Rattle.std.specs.Prelude.{option_to_list}
use Rattle.std.specs.List.{AllZip, flat_map}
use Rattle.std.proofs.lemmas.List.{reverse-append}
use Rattle.std.proofs.lemmas.List.Elements.{filter-append}
use Rattle.std.proofs.lemmas.Grind.{flat_map-append}
use Rattle.pm_values.specs.Order.{Values}
use Rattle.pm_values.specs.declared.record.Stamped.{Stamped}
use Rattle.pm_values.specs.declared.refusal.Refusal.{Refusal}
use Rattle.pm_values.specs.declared.refusal.Refusal.TheVariants.{Memory}
use Rattle.pm_schema.specs.declared.schema.TableSchema.{TableSchema}
use Rattle.pm_engine.specs.Covers.{Run}
use Rattle.pm_engine.specs.Meaning.{Meaning}
use Rattle.pm_lookup.specs.File.{LooksIn, SeenFile, may_hold}
use Rattle.pm_lookup.specs.Lookup.{AreOne, HaveOf, HaveOne, LooksOn, asked_for, rows_found}

pub AllZip-append : {A B : Type 0} (R : A → B → Type 0) (xs us : List A) (ys vs : List B) → AllZip R xs ys → AllZip R us vs → AllZip R (xs ++ us) (ys ++ vs)
AllZip-append R [] us [] vs first then = then
AllZip-append R [] us (y ∷ ys) vs first then = absurd first
AllZip-append R (x ∷ xs) us [] vs first then = absurd first
AllZip-append R (x ∷ xs) us (y ∷ ys) vs first then = (first.0, AllZip-append R xs us ys vs first.1 then)

-- rows of one file or none stand the same from either end
turned_one : (found : Option Stamped) → reverse (option_to_list found ++ []) ≡ option_to_list found
turned_one None = refl
turned_one (Some s) = refl

-- what is found last is the oldest
found_more : (found : List (Option Stamped)) (x : Option Stamped) → rows_found (found ++ x ∷ []) ≡ option_to_list x ++ rows_found found
found_more found x =
    ap reverse (flat_map-append option_to_list found (x ∷ []))
    ∙ reverse-append (flat_map option_to_list found) (option_to_list x ++ [])
    ∙ ap (λ (rs : Run). rs ++ rows_found found) (turned_one x)

asked_more : (key : Values) (before : List SeenFile) (file : SeenFile) (after : List SeenFile)
    → asked_for key (before ++ file ∷ after) ≡ asked_for key before ++ cond (may_hold key file.meta) (file ∷ asked_for key after) (asked_for key after)
asked_more key before file after = filter-append (λ (f : SeenFile). may_hold key f.meta) before (file ∷ after)

asked_here : (key : Values) (before : List SeenFile) (file : SeenFile) (after : List SeenFile) → may_hold key file.meta ≡ true
    → asked_for key (before ++ file ∷ after) ≡ asked_for key before ++ file ∷ asked_for key after
asked_here key before file after is = asked_more key before file after ∙ ap (λ (b : Bool). asked_for key before ++ cond b (file ∷ asked_for key after) (asked_for key after)) is

module _ (m : Meaning) (s : TableSchema) (key : Values) (before : List SeenFile) (file : SeenFile) (newer : Option Stamped) (h : HaveOne m s key before newer) where
  -- a file whose range doesn't hold the key changes nothing
  pub one_same : may_hold key file.meta ≡ false → HaveOne m s key (before ++ file ∷ []) newer
  one_same is =
      let same : asked_for key (before ++ file ∷ []) ≡ asked_for key before =
      asked_more key before file [] ∙ ap (λ (b : Bool). asked_for key before ++ cond b (file ∷ []) []) is ∙ append-nil (asked_for key before) in
      record { found = h.found; looked = subst (λ (fs : List SeenFile). HaveOf s key fs h.found) (sym same) h.looked; combined = h.combined }

  -- the row of one that was asked stands under the newer ones
  pub one_more : may_hold key file.meta ≡ true → (x one : Option Stamped) → LooksIn s file key (Ok x) → ((rows : Run) → AreOne m rows newer → AreOne m (option_to_list x ++ rows) one)
      → HaveOne m s key (before ++ file ∷ []) one
  one_more is x one looks under = record {
    found = h.found ++ x ∷ [];
    looked = subst (λ (fs : List SeenFile). HaveOf s key fs (h.found ++ x ∷ [])) (sym (asked_here key before file [] is))
        (AllZip-append (λ (f : SeenFile) (y : Option Stamped). LooksIn s f key (Ok y)) (asked_for key before) (file ∷ []) h.found (x ∷ []) h.looked (looks, tt));
    combined = subst (λ (rs : Run). AreOne m rs one) (sym (found_more h.found x)) (under (rows_found h.found) h.combined);
  }

  -- its refusal is that of all
  pub one_refused : may_hold key file.meta ≡ true → (e : Refusal) → LooksIn s file key (Err e) → LooksOn m s key before file (Err e)
  one_refused is Memory looks = λ after. tt
  one_refused is e looks = λ after. record {
    before = asked_for key before;
    file = file;
    after = asked_for key after;
    found = h.found;
    split = asked_here key before file after is;
    looked = h.looked;
    refuses = looks;
  }
