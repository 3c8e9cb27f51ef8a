-- Bytes have the rows of one list, and these are in order.
use Rattle.std.proofs.Common.{◌≡◌, ◌≢◌, ◌⊎◌, inl, inr, ℕ, Bool, true, false, List, [], ◌∷◌, ◌++◌, length, Option, None, Some, Result, Ok, Err, refl, sym, ap, subst, ◌∙◌, arith}
use Rattle.std.specs.Prelude.{drop, if◌then◌else◌}
use Rattle.std.proofs.lemmas.List.{length-drop}
use Rattle.pm_base.specs.Outcome.{◌>>=◌}
use Rattle.pm_base.proofs.Laws.{step_ok}
use Rattle.pm_avro_schema.specs.Avro.{Avro}
use Rattle.pm_avro_data.specs.Datum.{Data}
use Rattle.pm_avro_schema.specs.declared.fault.AvroFault.{AvroFault}
use Rattle.pm_avro_schema.specs.declared.fault.AvroFault.TheVariants.{Memory}
use Rattle.pm_avro_file.specs.Container.{IsBlock}
use Rattle.pm_avro_file.specs.Reader.{HasBlock, Opens, Reader}
use Rattle.pm_record.specs.File.{OpensFile, refusal_of}
use Rattle.pm_record.specs.declared.misfit.Misfit.{Misfit}
use Rattle.pm_record.specs.declared.misfit.Misfit.TheVariants.{Bad}
use Rattle.pm_record.proofs.Facts.{block_moves}
use Rattle.pm_schema.specs.declared.schema.TableSchema.{TableSchema}
use Rattle.pm_values.specs.Order.{Values}
use Rattle.pm_values.specs.declared.record.Stamped.{Stamped}
use Rattle.pm_values.specs.declared.refusal.Refusal.{Refusal}
use Rattle.pm_values.specs.declared.refusal.Refusal.TheVariants as refusals
use Rattle.pm_run.specs.Form.{form_of}
use Rattle.pm_run.specs.Kinds.{has_row_fields}
use Rattle.pm_run.specs.Order.{are_in_order, following, last_key, may_follow}
use Rattle.pm_run.specs.Reader.{GivesBy, IsOfOther, LacksField, RefusesRun, RunView, StillGives}
use Rattle.pm_run.specs.Row.{row_in}
use Rattle.pm_run.specs.Rows.{Blocks, Ends, Follow, Gives, HasRows, Judged, LeadTo, Opened, StopsAt, all_judged, all_placed, judged, next_row, opened_with, placed, then_judged, then_refused, with_rows}
use Rattle.pm_run.specs.Writing.{HaveRows}
use Rattle.pm_run.proofs.FollowLemmas.{first_judged, judged-append}
use Rattle.pm_run.proofs.OrderLemmas.{both, in_order-first}

-- ---- rows that were read are in order

pub following_same : (changes : Bool) (before : Option Values) (y x : Stamped) → following changes before y ≡ Ok x → y ≡ x
following_same changes before y x e = by_test (may_follow changes before y.key) e
  where
    by_test : (b : Bool) → (if b then Ok y else Err Bad) ≡ Ok x → y ≡ x
    by_test true e = cc
    by_test false e = cc

following_may : (changes : Bool) (before : Option Values) (y x : Stamped) → following changes before y ≡ Ok x → may_follow changes before x.key ≡ true
following_may changes before y x e = by_test (may_follow changes before y.key) refl e
  where
    by_test : (b : Bool) → may_follow changes before y.key ≡ b → (if b then Ok y else Err Bad) ≡ Ok x → may_follow changes before x.key ≡ true
    by_test true is e = let same : y ≡ x = cc in subst (λ (z : Stamped). may_follow changes before z.key ≡ true) same is
    by_test false is e = cc

module _ (o : Opened) where
  next_may : (before : Option Values) (d : Data) (x : Stamped) → next_row o before d ≡ Ok x → may_follow o.changes before x.key ≡ true
  next_may before d x e =
      let p = step_ok (row_in o.form o.changes o.file.kind d) (following o.changes before) x e in
      following_may o.changes before p.0 x p.2

  pub judged_in_order : (ps : List (ℕ × Data)) (before : Option Values) → are_in_order o.changes before (judged o before ps).rows ≡ true
  judged_in_order [] before = refl
  judged_in_order (p ∷ ps) before =
      by_row (next_row o before p.1) (λ (x : Stamped). judged o (Some x.key) ps) (λ x e. next_may before p.1 x e) (λ x. judged_in_order ps (Some x.key))
    where
      by_row : (q : Result Stamped Misfit) (later : Stamped → Judged) → ((x : Stamped) → q ≡ Ok x → may_follow o.changes before x.key ≡ true)
          → ((x : Stamped) → are_in_order o.changes (Some x.key) (later x).rows ≡ true) → are_in_order o.changes before (then_judged o.path p.0 q later).rows ≡ true
      by_row (Ok x) later here more = both (may_follow o.changes before x.key) (are_in_order o.changes (Some x.key) (later x).rows) (here x refl) (more x)
      by_row (Err misfit) later here more = refl

  pub follow_in_order : (offset : ℕ) (before : Option Values) (rows : List Stamped) (end : Option Refusal) → Follow o offset before rows end → are_in_order o.changes before rows ≡ true
  follow_in_order offset before rows end f =
      subst (λ (xs : List Stamped). are_in_order o.changes before xs ≡ true) f.same (judged_in_order (all_placed f.blocks) before)

-- ---- after another key

following_other : (changes : Bool) (before other : Option Values) (y x : Stamped) → following changes before y ≡ Ok x → may_follow changes other x.key ≡ true → (y ≡ x) × (following changes other y ≡ Ok x)
following_other changes before other y x e may = by_test (may_follow changes before y.key) e
  where
    by_test : (b : Bool) → (if b then Ok y else Err Bad) ≡ Ok x → (y ≡ x) × (following changes other y ≡ Ok x)
    by_test true e =
        let same : y ≡ x = cc in
        let here : following changes other x ≡ Ok x = rw may refl in
        (same, ap (following changes other) same ∙ here)
    by_test false e = cc

module _ (o : Opened) where
  next_other : (before other : Option Values) (d : Data) (x : Stamped) → next_row o before d ≡ Ok x → may_follow o.changes other x.key ≡ true → next_row o other d ≡ Ok x
  next_other before other d x e may =
      let p = step_ok (row_in o.form o.changes o.file.kind d) (following o.changes before) x e in
      ap (λ (r : Result Stamped Misfit). r >>= following o.changes other) p.1 ∙ (following_other o.changes before other p.0 x p.2 may).1

  -- data of which none is refused after one key are the same rows after another, which the first may follow
  judged_other : (ps : List (ℕ × Data)) (before other : Option Values) (rows : List Stamped) → judged o before ps ≡ all_judged rows → are_in_order o.changes other rows ≡ true
      → judged o other ps ≡ all_judged rows
  judged_other [] before other rows e order = e
  judged_other (p ∷ ps) before other rows e order =
      let later = λ (x : Stamped). judged o (Some x.key) ps in
      let f = first_judged o.path p.0 later rows (next_row o before p.1) e in
      let parts = in_order-first o.changes other f.first f.more (subst (λ (xs : List Stamped). are_in_order o.changes other xs ≡ true) f.same order) in
      let read = next_other before other p.1 f.first f.read parts.0 in
      ap (λ (q : Result Stamped Misfit). then_judged o.path p.0 q later) read ∙ ap (λ (j : Judged). with_rows (f.first ∷ []) j) f.rest ∙ ap all_judged (sym f.same)

  -- rows to the end of the file
  pub follow_other : (offset : ℕ) (before other : Option Values) (rows : List Stamped) → Follow o offset before rows None → are_in_order o.changes other rows ≡ true → Follow o offset other rows None
  follow_other offset before other rows f order =
      by_judged (judged o before (all_placed f.blocks)).refusal refl f.ends
    where
      by_judged : (q : Option Refusal) → (judged o before (all_placed f.blocks)).refusal ≡ q → Ends o f.last q None → Follow o offset other rows None
      by_judged (Some e) is ends = let no : None ≡ Some e = ends in cc
      by_judged None is ends =
          let make : List Stamped → Option Refusal → Judged = λ xs q. record { rows = xs; refusal = q } in
          let whole : judged o before (all_placed f.blocks) ≡ all_judged rows =
          ap (make (judged o before (all_placed f.blocks)).rows) is ∙ ap (λ (xs : List Stamped). make xs None) f.same in
          let same = judged_other (all_placed f.blocks) before other rows whole order in
          record {
            blocks = f.blocks;
            last = f.last;
            lead = f.lead;
            same = ap (λ (j : Judged). j.rows) same;
            ends = subst (λ (j : Judged). Ends o f.last j.refusal None) (sym same) ends;
          }

-- ---- one list

module _ (o : Opened) where
  -- what comes after a refused row isn't judged
  judged-stops : (ps qs : List (ℕ × Data)) (before : Option Values) (rows : List Stamped) (e : Refusal) → judged o before ps ≡ then_refused rows e → judged o before (ps ++ qs) ≡ then_refused rows e
  judged-stops [] qs before rows e is = let no : None ≡ Some e = ap (λ (j : Judged). j.refusal) is in cc
  judged-stops (p ∷ ps) qs before rows e is =
      by_row (next_row o before p.1) (λ (x : Stamped). judged o (Some x.key) ps) (λ (x : Stamped). judged o (Some x.key) (ps ++ qs))
      (λ x xs stops. judged-stops ps qs (Some x.key) xs e stops) is
    where
      by_row : (q : Result Stamped Misfit) (later after : Stamped → Judged) → ((x : Stamped) (xs : List Stamped) → later x ≡ then_refused xs e → after x ≡ then_refused xs e)
          → then_judged o.path p.0 q later ≡ then_refused rows e → then_judged o.path p.0 q after ≡ then_refused rows e
      by_row (Ok x) later after stops is =
          let refused : (later x).refusal ≡ Some e = ap (λ (j : Judged). j.refusal) is in
          let make : Option Refusal → Judged = λ q. record { rows = (later x).rows; refusal = q } in
          let same = stops x (later x).rows (ap make refused) in
          ap (λ (j : Judged). with_rows (x ∷ []) j) (same ∙ sym (ap make refused)) ∙ is
      by_row (Err misfit) later after stops is = is

  -- two readings of the same bytes
  record AreOne (j k : Judged) (end other : Option Refusal) : Type 0 where
    rows : j.rows ≡ k.rows
    end_same : end ≡ other

  module _ (one : (t : Avro) (ds es : List Data) (marker source rest other : List ℕ) → IsBlock t marker ds source rest → IsBlock t marker es source other → (ds ≡ es) × (rest ≡ other)) where
    -- the offsets after a block are one
    pub next_same : (offset m n : ℕ) (ds es : List Data) → HasBlock o.file.kind o.file.marker o.file.bytes offset ds m → HasBlock o.file.kind o.file.marker o.file.bytes offset es n → (ds ≡ es) × (m ≡ n)
    next_same offset m n ds es a b =
        let p = one o.file.kind ds es o.file.marker (drop offset o.file.bytes) (drop m o.file.bytes) (drop n o.file.bytes) a.block b.block in
        (p.0, omega (arith, a.within, b.within, ap length p.1, length-drop m o.file.bytes, length-drop n o.file.bytes))

    pub no_more : (offset next : ℕ) (ds : List Data) (end : Option Refusal) → HasBlock o.file.kind o.file.marker o.file.bytes offset ds next → StopsAt o offset end → ⊥
    no_more offset next ds None block stops =
        omega (arith, stops, block.within, block_moves o.file.kind o.file.marker o.file.bytes offset ds next block)
    no_more offset next ds (Some e) block stops = stops.1.none ds (drop next o.file.bytes) block.block

    stops_same : (offset : ℕ) (end other : Option Refusal) → StopsAt o offset end → StopsAt o offset other → end ≡ other
    stops_same offset None None a b = refl
    stops_same offset None (Some e) a b = absurd (b.1.before a)
    stops_same offset (Some e) None a b = absurd (a.1.before b)
    stops_same offset (Some e) (Some f) a b = ap Some (a.0 ∙ sym b.0)

    -- what follows a first block, by what its data are
    module _ (before : Option Values) (ps qs rs : List (ℕ × Data)) (last mark : ℕ) (end other : Option Refusal) where
      with_first : (j : Judged) → judged o before ps ≡ j
          → ((b : Option Values) → Ends o last (judged o b qs).refusal end → Ends o mark (judged o b rs).refusal other → AreOne (judged o b qs) (judged o b rs) end other)
          → Ends o last (judged o before (ps ++ qs)).refusal end → Ends o mark (judged o before (ps ++ rs)).refusal other → AreOne (judged o before (ps ++ qs)) (judged o before (ps ++ rs)) end other
      with_first j is later ends others = by_refusal j.rows j.refusal is
        where
          by_refusal : (rows : List Stamped) (refusal : Option Refusal) → judged o before ps ≡ record { rows = rows; refusal = refusal } → AreOne (judged o before (ps ++ qs)) (judged o before (ps ++ rs)) end other
          by_refusal rows None is =
              let a = judged-append o ps qs before rows is in
              let b = judged-append o ps rs before rows is in
              let same = later (last_key before rows) (subst (λ (k : Judged). Ends o last k.refusal end) a ends) (subst (λ (k : Judged). Ends o mark k.refusal other) b others) in
              record {
                rows = ap (λ (k : Judged). k.rows) a ∙ ap (λ (xs : List Stamped). rows ++ xs) same.rows ∙ sym (ap (λ (k : Judged). k.rows) b);
                end_same = same.end_same;
              }
          by_refusal rows (Some e) is =
              let a = judged-stops ps qs before rows e is in
              let b = judged-stops ps rs before rows e is in
              let first : end ≡ Some e = subst (λ (k : Judged). Ends o last k.refusal end) a ends in
              let second : other ≡ Some e = subst (λ (k : Judged). Ends o mark k.refusal other) b others in
              record { rows = ap (λ (k : Judged). k.rows) (a ∙ sym b); end_same = first ∙ sym second }

    blocks_same : (blocks others : Blocks) (offset last mark : ℕ) (before : Option Values) (end other : Option Refusal) → LeadTo o.file offset blocks last → LeadTo o.file offset others mark
        → Ends o last (judged o before (all_placed blocks)).refusal end → Ends o mark (judged o before (all_placed others)).refusal other
        → AreOne (judged o before (all_placed blocks)) (judged o before (all_placed others)) end other
    blocks_same [] [] offset last mark before end other lead leads ends others =
        record { rows = refl; end_same = stops_same offset end other (subst (λ (n : ℕ). StopsAt o n end) (sym lead) ends) (subst (λ (n : ℕ). StopsAt o n other) (sym leads) others) }
    blocks_same [] (c ∷ others) offset last mark before end other lead leads ends rest =
        absurd (no_more offset leads.1 c.1 end leads.2 (subst (λ (n : ℕ). StopsAt o n end) (sym lead) ends))
    blocks_same (b ∷ blocks) [] offset last mark before end other lead leads ends rest =
        absurd (no_more offset lead.1 b.1 other lead.2 (subst (λ (n : ℕ). StopsAt o n other) (sym leads) rest))
    blocks_same (b ∷ blocks) (c ∷ others) offset last mark before end other lead leads ends rest =
        let same = next_same offset lead.1 leads.1 b.1 c.1 lead.2 leads.2 in
        let first : placed c.0 c.1 ≡ placed b.0 b.1 = rw (leads.0, lead.0, same.0) refl in
        let later : LeadTo o.file lead.1 others mark = subst (λ (n : ℕ). LeadTo o.file n others mark) (sym same.1) leads.3 in
        let moved = subst (λ (ps : List (ℕ × Data)). Ends o mark (judged o before (ps ++ all_placed others)).refusal other) first rest in
        let found = with_first before (placed b.0 b.1) (all_placed blocks) (all_placed others) last mark end other (judged o before (placed b.0 b.1)) refl
        (λ k p q. blocks_same blocks others lead.1 last mark k end other lead.3 later p q) ends moved in
        subst (λ (ps : List (ℕ × Data)). AreOne (judged o before (placed b.0 b.1 ++ all_placed blocks)) (judged o before (ps ++ all_placed others)) end other) (sym first) found

    -- what follows from an offset on is one list, and one end
    pub follow_same : (offset : ℕ) (before : Option Values) (rows others : List Stamped) (end other : Option Refusal) → Follow o offset before rows end → Follow o offset before others other
        → (rows ≡ others) × (end ≡ other)
    follow_same offset before rows others end other f g =
        let same = blocks_same f.blocks g.blocks offset f.last g.last before end other f.lead g.lead f.ends g.ends in
        (sym f.same ∙ same.rows ∙ g.same, same.end_same)

-- ---- one file

abbrev pub OneOpening : Type 0
OneOpening = (bytes : List ℕ) (r s : Result Reader AvroFault) → Opens bytes r → Opens bytes s → r ≢ Err Memory → s ≢ Err Memory → r ≡ s

abbrev pub OneBlock : Type 0
OneBlock = (t : Avro) (ds es : List Data) (marker source rest other : List ℕ) → IsBlock t marker ds source rest → IsBlock t marker es source other → (ds ≡ es) × (rest ≡ other)

pub opened_same : OneOpening → (bytes : List ℕ) (r s : Reader) → Opens bytes (Ok r) → Opens bytes (Ok s) → r ≡ s
opened_same one bytes r s a b =
    let same = one bytes (Ok r) (Ok s) a b (λ e. cc) (λ e. cc) in
    cc

-- whoever opens a file with rows is given them
pub reads_rows : OneOpening → (s : TableSchema) (changes : Bool) (path bytes : List ℕ) (r : Reader) (rows : List Stamped) → Opens bytes (Ok r) → HasRows s changes bytes rows
    → (has_row_fields (form_of s) r.kind ≡ true) × Gives (opened_with s changes path r) rows None
reads_rows one s changes path bytes r rows opens h =
    let same = opened_same one bytes h.0 r h.1 opens in
    (subst (λ (q : Reader). has_row_fields (form_of s) q.kind ≡ true) same h.2, subst (λ (q : Reader). Gives (opened_with s changes path q) rows None) same (h.3 path))

-- a file has the rows of one list
pub rows_same : OneOpening → OneBlock → (s : TableSchema) (changes : Bool) (bytes : List ℕ) (rows others : List Stamped) → HasRows s changes bytes rows → HasRows s changes bytes others → rows ≡ others
rows_same one block s changes bytes rows others h k =
    let again = reads_rows one s changes [] bytes h.0 others h.1 k in
    (follow_same (opened_with s changes [] h.0) block h.0.first None rows others None None (h.3 []) again.1).0

-- so do the files of a run
pub run_same : OneOpening → OneBlock → (s : TableSchema) (files : List (List ℕ)) (rows others : List Stamped) → HaveRows s files rows → HaveRows s files others → rows ≡ others
run_same one block s [] rows others h k = h ∙ sym k
run_same one block s (bytes ∷ files) rows others h k =
    let first = rows_same one block s false bytes h.0 k.0 h.3 k.3 in
    let later = run_same one block s files h.1 k.1 h.4 k.4 in
    h.2 ∙ ap (λ (xs : List Stamped). xs ++ h.1) first ∙ ap (λ (xs : List Stamped). k.0 ++ xs) later ∙ sym k.2

-- what a reader still gives is one list, and one end
pub still_same : OneBlock → (v : RunView) (rows others : List Stamped) (end other : Option Refusal) → StillGives v rows end → StillGives v others other → (rows ≡ others) × (end ≡ other)
still_same block v rows others end other g h = by_refusal v.refusal g h
  where
    by_refusal : (q : Option Refusal) → GivesBy q v rows end → GivesBy q v others other → (rows ≡ others) × (end ≡ other)
    by_refusal (Some e) g h = (g.0 ∙ sym h.0, g.1 ∙ sym h.1)
    by_refusal None g h =
        let same = follow_same v.opened block v.next v.last g.0 h.0 end other g.2 h.2 in
        (g.1 ∙ ap (λ (xs : List Stamped). v.left ++ xs) same.0 ∙ sym h.1, same.1)

-- ---- a file with rows is opened

module _ (one : OneOpening) (s : TableSchema) (changes : Bool) (path content : List ℕ) (rows : List Stamped) (h : HasRows s changes content rows) where
  unopened : (e : Refusal) (fault : AvroFault) → Opens content (Err fault) → e ≡ refusal_of path fault → e ≡ refusals.Memory
  unopened e Memory opens is = is
  unopened e fault opens is =
      let same : ◌≡◌ {A = Result Reader AvroFault} (Ok h.0) (Err fault) = one content (Ok h.0) (Err fault) h.1 opens (λ e. cc) (λ e. cc) in
      absurd cc

  refused : (e : Refusal) → IsOfOther s s.id e ⊎ ((s.id ≡ s.id) × (OpensFile path content (Err e) ⊎ LacksField s path content e)) → e ≡ refusals.Memory
  refused e (inl other) = absurd (other.0 refl)
  refused e (inr (same, inl opens)) = unopened e opens.0 opens.1 opens.2
  refused e (inr (same, inr lacks)) =
      let as_opened = opened_same one content h.0 lacks.0 h.1 lacks.1 in
      let has : has_row_fields (form_of s) lacks.0.kind ≡ true = subst (λ (q : Reader). has_row_fields (form_of s) q.kind ≡ true) as_opened h.2 in
      let no : true ≡ false = sym has ∙ lacks.2 in
      absurd cc

  pub opened_unless_memory : (e : Refusal) → RefusesRun s s.id path content e → e ≡ refusals.Memory
  opened_unless_memory refusals.Memory r = refl
  opened_unless_memory e r = refused e r
