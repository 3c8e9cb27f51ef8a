-- What is added of data, one after another.
use Rattle.std.proofs.Common.{◌≡◌, ℕ, List, [], ◌∷◌, ◌++◌, refl, sym, ap, ◌∙◌, append_assoc}
use Rattle.std.proofs.lemmas.List.{append-nil}
use Rattle.pm_avro_data.specs.Adding.{Adds}
use Rattle.pm_avro_data.specs.Datum.{Data, items_of, null, record_of}
use Rattle.pm_avro_data.specs.Writing.{ItemsFit, encoding, items_encoding}

encoding-append : (ds es : List Data) → items_encoding (items_of (ds ++ es)) ≡ items_encoding (items_of ds) ++ items_encoding (items_of es)
encoding-append [] es = refl
encoding-append (d ∷ ds) es =
    ap (λ (x : List ℕ). encoding d ++ x) (encoding-append ds es) ∙ sym (append_assoc (encoding d) (items_encoding (items_of ds)) (items_encoding (items_of es)))

fit-append : (ds es : List Data) → ItemsFit (items_of ds) → ItemsFit (items_of es) → ItemsFit (items_of (ds ++ es))
fit-append [] es f g = g
fit-append (d ∷ ds) es f g = (f.0, fit-append ds es f.1 g)

-- null takes no byte
pub added_null : (out : List ℕ) → Adds out out null
added_null out = record { added = sym (append-nil out); fits = tt }

-- no data
pub added_none : (out : List ℕ) → Adds out out (record_of (items_of []))
added_none out = record { added = sym (append-nil out); fits = tt }

-- some data, and then others
pub added_all : (before middle after : List ℕ) (ds es : List Data) → Adds before middle (record_of (items_of ds)) → Adds middle after (record_of (items_of es))
    → Adds before after (record_of (items_of (ds ++ es)))
added_all before middle after ds es f g = record {
  added = g.added ∙ ap (λ (x : List ℕ). x ++ items_encoding (items_of es)) f.added
      ∙ append_assoc before (items_encoding (items_of ds)) (items_encoding (items_of es)) ∙ ap (λ (x : List ℕ). before ++ x) (sym (encoding-append ds es));
  fits = fit-append ds es f.fits g.fits;
}

-- one more datum
pub added_more : (before middle after : List ℕ) (ds : List Data) (d : Data) → Adds before middle (record_of (items_of ds)) → Adds middle after d
    → Adds before after (record_of (items_of (ds ++ d ∷ [])))
added_more before middle after ds d f g =
    added_all before middle after ds (d ∷ []) f (record {
      added = g.added ∙ ap (λ (x : List ℕ). middle ++ x) (sym (append-nil (encoding d)));
      fits = (g.fits, tt);
    })
