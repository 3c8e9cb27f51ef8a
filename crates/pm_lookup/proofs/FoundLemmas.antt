-- What is found of a key in a file that has rows: the row of it, where it has one.
use Rattle.std.proofs.Common.{◌≡◌, ◌≢◌, ◌⊎◌, inl, inr, ℕ, List, [], ◌∷◌, ◌++◌, true, false, Option, None, Some, Result, Ok, Err, refl, sym, ap, subst, ◌∙◌}
use Rattle.std.specs.Prelude.{option_to_list}
use Rattle.pm_values.specs.Order.{Values}
use Rattle.pm_values.specs.declared.record.Stamped.{Stamped}
use Rattle.pm_values.specs.declared.refusal.Refusal.{Refusal}
use Rattle.pm_values.specs.declared.refusal.Refusal.TheVariants.{Damaged, Memory}
use Rattle.pm_schema.specs.declared.schema.TableSchema.{TableSchema}
use Rattle.pm_avro_schema.specs.declared.fault.AvroFault.{AvroFault}
use Rattle.pm_avro_schema.specs.declared.fault.AvroFault.TheVariants as faults
use Rattle.pm_avro_data.specs.Datum.{Data}
use Rattle.pm_avro_file.specs.Reader as files
use Rattle.pm_avro_file.specs.Reader.{HasBlock, HasNoBlock, Reader}
use Rattle.pm_engine.specs.Covers.{Run, of_key}
use Rattle.pm_run.specs.Order.{are_in_order, last_key}
use Rattle.pm_run.specs.Reader.{FailsAt, RefusesRun, RunView, UnlessMemory}
use Rattle.pm_run.specs.Rows.{Blocks, Ends, Follow, Judged, LeadTo, Opened, StopsAt, all_judged, all_placed, judged, opened_with, placed}
use Rattle.pm_run.proofs.FollowLemmas.{follow_end, follow_none, follow_refused, judged-append}
use Rattle.pm_run.proofs.OneLemmas.{OneBlock, follow_in_order, follow_other, follow_same, next_same, no_more, opened_unless_memory, reads_rows}
use Rattle.pm_run.proofs.OrderLemmas.{from_none, in_order-parts}
use Rattle.pm_lookup.specs.File.{LooksIn, Opens, RefusesFile, SeenFile, may_hold}
use Rattle.pm_lookup.specs.Looking.{Finds, Passes, StopsFor, reaches, row_of_key}
use Rattle.pm_lookup.specs.Lookup.{HoldsRows}
use Rattle.pm_lookup.proofs.KeyLemmas.{found_first, found_later, none_after, none_outside, none_passed, only_row}

abbrev pub OneOpening : Type 0
OneOpening = (bytes : List ℕ) (r s : Result Reader AvroFault) → files.Opens bytes r → files.Opens bytes s → r ≢ Err faults.Memory → s ≢ Err faults.Memory → r ≡ s

-- ---- the first of the blocks that follow

-- the rows of a block at an offset, and those after it
record HasFirst (o : Opened) (offset next : ℕ) (ds : List Data) (rows : Run) : Type 0 where
  own : Run
  more : Run
  whole : judged o None (placed offset ds) ≡ all_judged own
  split : rows ≡ own ++ more
  follow : Follow o next (last_key None own) more None

module _ (one : OneBlock) (o : Opened) where
  first_block : (offset next : ℕ) (ds : List Data) (rows : Run) → Follow o offset None rows None → HasBlock o.file.kind o.file.marker o.file.bytes offset ds next → HasFirst o offset next ds rows
  first_block offset next ds rows f block = by_blocks f.blocks f.lead f.same f.ends
    where
      ps : List (ℕ × Data)
      ps = placed offset ds

      by_judged : (qs : List (ℕ × Data)) (blocks : Blocks) → qs ≡ all_placed blocks → LeadTo o.file next blocks f.last → (judged o None (ps ++ qs)).rows ≡ rows
          → Ends o f.last (judged o None (ps ++ qs)).refusal None → (refusal : Option Refusal) → (judged o None ps).refusal ≡ refusal → HasFirst o offset next ds rows
      by_judged qs blocks all lead same ends (Some e) is =
          let make : Option Refusal → Judged = λ q. record { rows = (judged o None ps).rows; refusal = q } in
          let g : Follow o offset None (judged o None ps).rows (Some e) = follow_refused o offset None ds next block (judged o None ps).rows e (ap make is) in
          let no : None ≡ Some e = (follow_same o one offset None rows (judged o None ps).rows None (Some e) f g).1 in
          cc
      by_judged qs blocks all lead same ends None is =
          let make : Option Refusal → Judged = λ q. record { rows = (judged o None ps).rows; refusal = q } in
          let own : Run = (judged o None ps).rows in
          let whole : judged o None ps ≡ all_judged own = ap make is in
          let j = judged-append o ps qs None own whole in
          let later : Judged = judged o (last_key None own) qs in
          record {
            own = own;
            more = later.rows;
            whole = whole;
            split = sym same ∙ ap (λ (q : Judged). q.rows) j;
            follow = record {
              blocks = blocks;
              last = f.last;
              lead = lead;
              same = ap (λ (rs : List (ℕ × Data)). (judged o (last_key None own) rs).rows) (sym all);
              ends = subst (λ (rs : List (ℕ × Data)). Ends o f.last (judged o (last_key None own) rs).refusal None) all (subst (λ (q : Judged). Ends o f.last q.refusal None) j ends);
            };
          }

      by_blocks : (blocks : Blocks) → LeadTo o.file offset blocks f.last → (judged o None (all_placed blocks)).rows ≡ rows → Ends o f.last (judged o None (all_placed blocks)).refusal None
          → HasFirst o offset next ds rows
      by_blocks [] lead same ends = absurd (no_more o one offset next ds None block (subst (λ (n : ℕ). StopsAt o n None) (sym lead) ends))
      by_blocks (b ∷ blocks) lead same ends =
          let again = next_same o one offset next lead.1 ds b.1 block lead.2 in
          let first : placed b.0 b.1 ≡ ps = rw (lead.0, sym again.0) refl in
          by_judged (all_placed blocks) blocks refl (subst (λ (n : ℕ). LeadTo o.file n blocks f.last) (sym again.1) lead.3)
          (subst (λ (rs : List (ℕ × Data)). (judged o None (rs ++ all_placed blocks)).rows ≡ rows) first same)
          (subst (λ (rs : List (ℕ × Data)). Ends o f.last (judged o None (rs ++ all_placed blocks)).refusal None) first ends)
          (judged o None ps).refusal refl

  -- rows that follow others, as the first of all
  afresh : (offset : ℕ) (before : Option Values) (rows : Run) → Follow o offset before rows None → Follow o offset None rows None
  afresh offset before rows f = follow_other o offset before None rows f (from_none o.changes before rows (follow_in_order o offset before rows None f))

-- ---- looking in a file that has rows

module _ (one : OneBlock) (s : TableSchema) (path : List ℕ) (r : Reader) (key : Values) where
  abbrev o : Opened
  o = opened_with s false path r

  -- the blocks that are passed have no row of it
  passed : (offset : ℕ) (blocks : List Run) (last : ℕ) (rows : Run) → Follow o offset None rows None → Passes o key offset blocks last
      → (later : Run) × Follow o last None later None × (row_of_key key rows ≡ row_of_key key later)
  passed offset [] last rows f same = (rows, subst (λ (n : ℕ). Follow o n None rows None) same f, refl)
  passed offset (b ∷ blocks) last rows f p =
      let block = p.1 in
      let h = first_block one o offset p.0 block.0 rows f block.1 in
      let own : h.own ≡ b = ap (λ (j : Judged). j.rows) (sym h.whole ∙ block.2) in
      let order : are_in_order false None (h.own ++ h.more) ≡ true = subst (λ (xs : Run). are_in_order false None xs ≡ true) h.split (follow_in_order o offset None rows None f) in
      let none : row_of_key key h.own ≡ None = none_passed key h.own (in_order-parts false None h.own h.more order).0 (ap (reaches key) own ∙ p.2) in
      let later = passed p.0 blocks last h.more (afresh one o p.0 (last_key None h.own) h.more h.follow) p.3 in
      (later.0, later.1, ap (row_of_key key) h.split ∙ found_later key h.own h.more none ∙ later.2)

  -- where looking stops, the row of it is found
  stopped : (offset : ℕ) (rows : Run) (found : Option Stamped) → Follow o offset None rows None → StopsFor o key offset (Ok found) → found ≡ row_of_key key rows
  stopped offset rows found f (inl (end, none)) =
      let empty : rows ≡ [] = (follow_same o one offset None rows [] None None f (follow_end o offset None end)).0 in
      none ∙ ap (row_of_key key) (sym empty)
  stopped offset rows found f (inr (b, next, block, reach, is)) =
      let h = first_block one o offset next block.0 rows f block.1 in
      let own : h.own ≡ b = ap (λ (j : Judged). j.rows) (sym h.whole ∙ block.2) in
      let none : row_of_key key h.more ≡ None = none_after key h.own h.more (ap (reaches key) own ∙ reach) (follow_in_order o next (last_key None h.own) h.more None h.follow) in
      is ∙ ap (row_of_key key) (sym own) ∙ sym (found_first key h.own h.more none) ∙ ap (row_of_key key) (sym h.split)

  -- nothing is refused there
  refused : (offset : ℕ) (rows : Run) (e : Refusal) → Follow o offset None rows None → FailsAt o offset e → ⊥
  refused offset rows e f (inl (is, none)) =
      let no : None ≡ Some (Damaged path offset) = (follow_same o one offset None rows [] None (Some (Damaged path offset)) f (follow_none o offset None none)).1 in
      cc
  refused offset rows e f (inr (ds, next, block, is)) =
      let h = first_block one o offset next ds rows f block in
      let no : None ≡ Some e = ap (λ (j : Judged). j.refusal) (sym h.whole) ∙ is in
      cc

  pub finds_row : (rows : Run) (found : Option Stamped) → Follow o r.first None rows None → Finds o key (Ok found) → found ≡ row_of_key key rows
  finds_row rows found f l =
      let later = passed r.first l.passed l.last rows f l.passes in
      stopped l.last later.0 found later.1 l.stops ∙ sym later.2

  pub finds_no_fault : (rows : Run) (e : Refusal) → Follow o r.first None rows None → Finds o key (Err e) → e ≡ Memory
  finds_no_fault rows e f l =
      let later = passed r.first l.passed l.last rows f l.passes in
      by e (refused l.last later.0 e later.1) l.stops
    where
      by : (e : Refusal) → (FailsAt o l.last e → ⊥) → UnlessMemory e (FailsAt o l.last e) → e ≡ Memory
      by Memory never fails = refl
      by e never fails = absurd (never fails)

-- ---- a file as it has to be

module _ (opening : OneOpening) (one : OneBlock) (s : TableSchema) (f : SeenFile) (rows : Run) (h : HoldsRows s (f.meta, f.bytes) rows) (key : Values) where
  in_order : are_in_order false None rows ≡ true
  in_order = follow_in_order (opened_with s false [] h.has.0) h.has.0.first None rows None (h.has.3 [])

  -- of a file whose range doesn't hold it nothing is lost
  pub unasked : may_hold key f.meta ≡ false → of_key key rows ≡ []
  unasked outside = sym (only_row key rows in_order) ∙ ap option_to_list (none_outside key f.meta rows h.bears in_order outside)

  gives : (r : Reader) → files.Opens f.bytes (Ok r) → Follow (opened_with s false f.path r) r.first None rows None
  gives r opens = (reads_rows opening s false f.path f.bytes r rows opens h.has).1

  -- where it is looked in, its row is found
  pub looked : (found : Option Stamped) → LooksIn s f key (Ok found) → option_to_list found ≡ of_key key rows
  looked found (v, opens, finds) =
      let r : Reader = opens.1 in
      let same : v.opened ≡ opened_with s false f.path r = ap (λ (w : RunView). w.opened) opens.4 in
      ap option_to_list (finds_row one s f.path r key rows found (gives r opens.2) (subst (λ (q : Opened). Finds q key (Ok found)) same finds)) ∙ only_row key rows in_order

  -- nothing in it is refused
  pub unrefused : (e : Refusal) → LooksIn s f key (Err e) → e ≡ Memory
  unrefused Memory looks = refl
  unrefused e looks = either e looks
    where
      either : (e : Refusal) → RefusesFile s f e ⊎ ((v : RunView) × Opens s f v × Finds v.opened key (Err e)) → e ≡ Memory
      either e (inl refuses) = opened_unless_memory opening s false f.path f.bytes rows h.has e (subst (λ (id : ℕ). RefusesRun s id f.path f.bytes e) h.schema refuses)
      either e (inr (v, opens, finds)) =
          let r : Reader = opens.1 in
          let same : v.opened ≡ opened_with s false f.path r = ap (λ (w : RunView). w.opened) opens.4 in
          finds_no_fault one s f.path r key rows e (gives r opens.2) (subst (λ (q : Opened). Finds q key (Err e)) same finds)
