-- Rows of a file that follow each other: of one block after another, and after the first of them.
use Rattle.std.proofs.Common.{◌≡◌, ℕ, List, [], ◌∷◌, ◌++◌, length, Option, None, Some, Result, Ok, Err, refl, sym, ap, subst, ◌∙◌, append-nil}
use Rattle.pm_values.specs.Order.{Values}
use Rattle.pm_values.specs.declared.record.Stamped.{Stamped}
use Rattle.pm_values.specs.declared.refusal.Refusal.{Refusal}
use Rattle.pm_values.specs.declared.refusal.Refusal.TheVariants.{Damaged, Memory}
use Rattle.pm_avro_data.specs.Datum.{Data}
use Rattle.pm_avro_file.specs.Reader.{HasBlock, HasNoBlock}
use Rattle.pm_record.specs.File.{misfit_refusal}
use Rattle.pm_record.specs.declared.misfit.Misfit.{Misfit}
use Rattle.pm_run.specs.Order.{last_key}
use Rattle.pm_run.specs.Reader.{RunView, GivesBy, StillGives, UnlessMemory}
use Rattle.pm_run.specs.Rows.{Opened, Judged, Follow, Ends, all_judged, judged, next_row, placed, then_judged, then_refused, with_rows}

-- ---- rows of data

-- a row of which none after it was refused, and those after it
pub record IsFirst (path : List ℕ) (offset : ℕ) (r : Result Stamped Misfit) (later : Stamped → Judged) (rows : List Stamped) : Type 0 where
  pub first : Stamped
  pub more : List Stamped
  pub read : r ≡ Ok first
  pub rest : later first ≡ all_judged more
  pub same : rows ≡ first ∷ more

module _ (path : List ℕ) (offset : ℕ) (later : Stamped → Judged) (rows : List Stamped) where
  pub first_judged : (r : Result Stamped Misfit) → then_judged path offset r later ≡ all_judged rows → IsFirst path offset r later rows
  first_judged (Ok x) e =
      let none : (later x).refusal ≡ None = ap (λ (j : Judged). j.refusal) e in
      let make : Option Refusal → Judged = λ q. record { rows = (later x).rows; refusal = q } in
      record { first = x; more = (later x).rows; read = refl; rest = ap make none; same = sym (ap (λ (j : Judged). j.rows) e) }
  first_judged (Err misfit) e =
      let no : Some (misfit_refusal path offset misfit) ≡ None = ap (λ (j : Judged). j.refusal) e in
      cc

-- a row that was read, before others
first_joined : (path : List ℕ) (offset : ℕ) (r : Result Stamped Misfit) (after : Stamped → Judged) (first : Stamped) (more : List Stamped) (tail : Judged) → r ≡ Ok first
    → after first ≡ with_rows more tail → then_judged path offset r after ≡ with_rows (first ∷ more) tail
first_joined path offset r after first more tail read next =
    ap (λ (q : Result Stamped Misfit). then_judged path offset q after) read ∙ ap (λ (j : Judged). with_rows (first ∷ []) j) next

module _ (o : Opened) where
  -- data of which none is refused, and others after them
  pub judged-append : (ps qs : List (ℕ × Data)) (before : Option Values) (rows : List Stamped) → judged o before ps ≡ all_judged rows
      → judged o before (ps ++ qs) ≡ with_rows rows (judged o (last_key before rows) qs)
  judged-append [] qs before rows e =
      let none : rows ≡ [] = sym (ap (λ (j : Judged). j.rows) e) in
      rw none refl
  judged-append (p ∷ ps) qs before rows e =
      let f = first_judged o.path p.0 (λ (x : Stamped). judged o (Some x.key) ps) rows (next_row o before p.1) e in
      let later = judged-append ps qs (Some f.first.key) f.more f.rest in
      first_joined o.path p.0 (next_row o before p.1) (λ (x : Stamped). judged o (Some x.key) (ps ++ qs)) f.first f.more (judged o (last_key (Some f.first.key) f.more) qs) f.read later
      ∙ ap (λ (xs : List Stamped). with_rows xs (judged o (last_key before xs) qs)) (sym f.same)

  -- one refused datum after data of which none is refused
  pub judged-refused : (ps qs : List (ℕ × Data)) (before : Option Values) (rows : List Stamped) (offset : ℕ) (d : Data) (misfit : Misfit) → judged o before ps ≡ all_judged rows
      → next_row o (last_key before rows) d ≡ Err misfit → judged o before (ps ++ (offset, d) ∷ qs) ≡ then_refused rows (misfit_refusal o.path offset misfit)
  judged-refused ps qs before rows offset d misfit e fails =
      let make : List Stamped → Judged = λ xs. then_refused xs (misfit_refusal o.path offset misfit) in
      judged-append ps ((offset, d) ∷ qs) before rows e ∙ rw fails (ap make (append-nil rows))

  -- one more row
  pub judged-push : (ps : List (ℕ × Data)) (before : Option Values) (rows : List Stamped) (offset : ℕ) (d : Data) (x : Stamped) → judged o before ps ≡ all_judged rows
      → next_row o (last_key before rows) d ≡ Ok x → judged o before (ps ++ (offset, d) ∷ []) ≡ all_judged (rows ++ x ∷ [])
  judged-push ps before rows offset d x e read = judged-append ps ((offset, d) ∷ []) before rows e ∙ rw read refl

  -- ---- blocks

  module _ (offset : ℕ) (before : Option Values) where
    -- at the end of the file no row follows
    pub follow_end : offset ≡ length o.file.bytes → Follow o offset before [] None
    follow_end end = record { blocks = []; last = offset; lead = refl; same = refl; ends = end }

    -- where no block begins, that is refused
    pub follow_none : HasNoBlock o.file.kind o.file.marker o.file.bytes offset → Follow o offset before [] (Some (Damaged o.path offset))
    follow_none none = record { blocks = []; last = offset; lead = refl; same = refl; ends = (refl, none) }

    module _ (ds : List Data) (next : ℕ) (block : HasBlock o.file.kind o.file.marker o.file.bytes offset ds next) where
      -- the rows of a block, and those that follow it
      pub follow_block : (rows more : List Stamped) (end : Option Refusal) → judged o before (placed offset ds) ≡ all_judged rows → Follow o next (last_key before rows) more end
          → Follow o offset before (rows ++ more) end
      follow_block rows more end e f =
          let j = judged-append (placed offset ds) _ before rows e in
          record {
            blocks = (offset, ds) ∷ f.blocks;
            last = f.last;
            lead = (refl, next, block, f.lead);
            same = ap (λ (q : Judged). q.rows) j ∙ ap (λ (xs : List Stamped). rows ++ xs) f.same;
            ends = subst (λ (q : Judged). Ends o f.last q.refusal end) (sym j) f.ends;
          }

      -- the rows of a block, and the refusal of one of its rows
      pub follow_refused : (rows : List Stamped) (e : Refusal) → judged o before (placed offset ds) ≡ then_refused rows e → Follow o offset before rows (Some e)
      follow_refused rows e is =
          let j = ap (judged o before) (append-nil (placed offset ds)) ∙ is in
          record {
            blocks = (offset, ds) ∷ [];
            last = next;
            lead = (refl, next, block, refl);
            same = ap (λ (q : Judged). q.rows) j;
            ends = subst (λ (q : Judged). Ends o next q.refusal (Some e)) (sym j) refl;
          }

      -- a block without a row, of which nothing is refused
      pub follow_empty : (rows : List Stamped) (end : Option Refusal) → judged o before (placed offset ds) ≡ all_judged [] → Follow o next before rows end → Follow o offset before rows end
      follow_empty rows end e f = follow_block [] rows end e f

      -- the first row of a block, and what a reader gives after it
      pub follow_first : (x : Stamped) (v : RunView) (refusal : Option Refusal) → v.opened ≡ o → v.next ≡ next → v.last ≡ last_key (Some x.key) v.left
          → judged o before (placed offset ds) ≡ record { rows = x ∷ v.left; refusal = refusal }
          → (rows : List Stamped) (end : Option Refusal) → GivesBy refusal v rows end → Follow o offset before (x ∷ rows) end
      follow_first x v (Some e) opened at last is rows end g = rw (g.0, g.1) (follow_refused (x ∷ v.left) e is)
      follow_first x v None opened at last is rows end g =
          let f : Follow o next (last_key (Some x.key) v.left) g.0 end = rw (opened, at, last) at g.2 in
          rw g.1 (follow_block (x ∷ v.left) g.0 end is f)

-- ---- readers

-- what a reader gives after a row of the block in hand
pub still_first : (v w : RunView) (x : Stamped) → v.left ≡ x ∷ w.left → w.opened ≡ v.opened → w.refusal ≡ v.refusal → w.last ≡ v.last → w.next ≡ v.next
    → (rows : List Stamped) (end : Option Refusal) → StillGives w rows end → StillGives v (x ∷ rows) end
still_first v w x left opened refusal last next rows end g = by_refusal v.refusal (subst (λ (q : Option Refusal). GivesBy q w rows end) refusal g)
  where
    by_refusal : (q : Option Refusal) → GivesBy q w rows end → GivesBy q v (x ∷ rows) end
    by_refusal (Some e) g = (ap (λ (xs : List Stamped). x ∷ xs) g.0 ∙ sym left, g.1)
    by_refusal None g = (g.0, ap (λ (xs : List Stamped). x ∷ xs) g.1 ∙ ap (λ (xs : List Stamped). xs ++ g.0) (sym left), rw (opened, next, last) at g.2)

-- ---- what a reader finds after the block in hand

-- a fact of a refusal that isn't out of memory
pub unless_memory : (e : Refusal) (P : Type 0) → P → UnlessMemory e P
unless_memory Memory P p = tt
unless_memory e P p = p

-- so another that it implies
pub unless_then : (e : Refusal) (P Q : Type 0) → (P → Q) → UnlessMemory e P → UnlessMemory e Q
unless_then Memory P Q f p = tt
unless_then e P Q f p = f p

-- what follows a block without rows left and without a refusal
pub still_later : (v : RunView) → v.left ≡ [] → v.refusal ≡ None → (rows : List Stamped) (end : Option Refusal) → Follow v.opened v.next v.last rows end → StillGives v rows end
still_later v left refusal rows end f =
    let gives : GivesBy None v rows end = (rows, ap (λ (xs : List Stamped). xs ++ rows) (sym left), f) in
    subst (λ (q : Option Refusal). GivesBy q v rows end) (sym refusal) gives

-- the refusal of the block in hand, of which no rows are left
pub still_refused : (v : RunView) (e : Refusal) → v.left ≡ [] → v.refusal ≡ Some e → StillGives v [] (Some e)
still_refused v e left refusal =
    let gives : GivesBy (Some e) v [] (Some e) = (sym left, refl) in
    subst (λ (q : Option Refusal). GivesBy q v [] (Some e)) (sym refusal) gives
