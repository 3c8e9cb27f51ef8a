-- Rows of a file that are read block by block.
use Rattle.std.proofs.Common.{◌≡◌, ℕ, List, [], ◌∷◌, ◌++◌, length, Option, None, Some, Ok, Err, refl, sym, ap, subst, ◌∙◌, append_assoc, append-nil}
use Rattle.pm_values.specs.Order.{Values}
use Rattle.pm_values.specs.declared.record.Stamped.{Stamped}
use Rattle.pm_values.specs.declared.refusal.Refusal.{Refusal}
use Rattle.pm_run_form.specs.declared.rows_read.RowsRead.{RowsRead}
use Rattle.pm_run_bytes.specs.Block.{ReadsBlock}
use Rattle.pm_run.specs.Order.{last_key}
use Rattle.pm_run.specs.Reader.{StopsAfter}
use Rattle.pm_run.specs.Rows.{Follow, Judged, Opened, all_judged, judged, placed, then_refused}
use Rattle.pm_run.proofs.FollowLemmas.{follow_block, follow_end, follow_none, follow_refused, unless_memory, unless_then}

-- the last key of rows joined
pub last-joined : (before : Option Values) (xs ys : List Stamped) → last_key before (xs ++ ys) ≡ last_key (last_key before xs) ys
last-joined before [] ys = refl
last-joined before (x ∷ xs) ys = last-joined (Some x.key) xs ys

pub judged-as : (xs : List Stamped) (p q : Option Refusal) → p ≡ q → ◌≡◌ {A = Judged} (record { rows = xs; refusal = p }) (record { rows = xs; refusal = q })
judged-as xs p q e = ap (λ (r : Option Refusal). record { rows = xs; refusal = r }) e

-- rows from the beginning up to an offset were read, and what follows from there on follows them
pub record IsRead (o : Opened) (offset : ℕ) (before : Option Values) (rows : List Stamped) (last : Option Values) : Type 0 where
  pub last_is : last ≡ last_key before rows
  pub follow : (later : List Stamped) (end : Option Refusal) → Follow o offset last later end → Follow o o.file.first before (rows ++ later) end

pub read-none : (o : Opened) (before last : Option Values) (rows : List Stamped) → rows ≡ [] → last ≡ before → IsRead o o.file.first before rows last
read-none o before last rows none is =
    subst (λ (xs : List Stamped). IsRead o o.file.first before xs last) (sym none)
    (subst (λ (key : Option Values). IsRead o o.file.first before [] key) (sym is) (record { last_is = refl; follow = λ later end f. f }))

module _ (o : Opened) (offset : ℕ) (before : Option Values) (rows : List Stamped) (last : Option Values) (so_far : IsRead o offset before rows last) where
  -- a block more, of which nothing is refused
  pub read-block : (found : RowsRead × ℕ) (new : Option Values) → ReadsBlock o offset last (Ok (Some found)) → found.0.refusal ≡ None → new ≡ last_key last found.0.rows.items
      → IsRead o found.1 before (rows ++ found.0.rows.items) new
  read-block found new (ds, block, is) none new_is =
      let own : List Stamped = found.0.rows.items in
      let whole : judged o last (placed offset ds) ≡ all_judged own = is ∙ judged-as own found.0.refusal None none in record {
        last_is = new_is ∙ ap (λ (key : Option Values). last_key key own) so_far.last_is ∙ sym (last-joined before rows own);
        follow = λ later end f. subst (λ (xs : List Stamped). Follow o o.file.first before xs end) (sym (append_assoc rows own later))
            (so_far.follow (own ++ later) end (follow_block o offset last ds found.1 block own later end whole (subst (λ (key : Option Values). Follow o found.1 key later end) new_is f)));
      }

  -- a block of which a row is refused
  pub read-refused : (found : RowsRead × ℕ) (e : Refusal) → ReadsBlock o offset last (Ok (Some found)) → found.0.refusal ≡ Some e → StopsAfter o before e
  read-refused found e (ds, block, is) refused =
      let own : List Stamped = found.0.rows.items in
      let part : judged o last (placed offset ds) ≡ then_refused own e = is ∙ judged-as own found.0.refusal (Some e) refused in
      (rows ++ own, unless_memory e _ (so_far.follow own (Some e) (follow_refused o offset last ds found.1 block own e part)))

  -- no block
  pub read-stopped : (e : Refusal) → ReadsBlock o offset last (Err e) → StopsAfter o before e
  read-stopped e read = (
    rows ++ [],
    unless_then e _ _ (λ stops. so_far.follow [] (Some e) (subst (λ (e : Refusal). Follow o offset last [] (Some e)) (sym stops.0) (follow_none o offset last stops.1))) read,
  )

  -- the end of the file
  pub read-end : offset ≡ length o.file.bytes → Follow o o.file.first before rows None
  read-end end = subst (λ (xs : List Stamped). Follow o o.file.first before xs None) (append-nil rows) (so_far.follow [] None (follow_end o offset last end))
