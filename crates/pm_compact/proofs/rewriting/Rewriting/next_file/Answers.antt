use Rattle.std.proofs.Common.{◌≡◌, ◌∷◌, [], ◌++◌, Option, None, false, true, is_none, length, option_to_list, refl, sym, ap, subst, ◌∙◌, arith}
use Rattle.pm_values.specs.declared.record.Stamped.{Stamped}
use Rattle.pm_merge.specs.Merging.{GivesOne}
use Rattle.pm_run.specs.Form.{form_of}
use Rattle.pm_run_bytes.specs.declared.place.WrittenPlace.{WrittenPlace}
use Rattle.pm_run_bytes.proofs.PlaceLemmas.{none_has_content}
use Rattle.pm_compact.specs.Rewriting.{row_at}
use Rattle.pm_compact.specs.Rewritten.{kept_rows, most_in_file}
use Rattle.pm_compact.proofs.GivenLemmas.{fewer_in, finished_some, given_end, given_full, given_row, past_is}
use Rattle.pm_compact.proofs.RewriteLemmas.{none_stands, some_stands}
use Rattle.pm_compact.proofs.rewriting.Rewriting.next_file.Goals as goal

pub loop-cause-init : goal.loop-cause-init
loop-cause-init g c = record {
  so_far = λ asked given first. ([], first, omega arith);
  none = ap row_at c.in_ok-place.ensures.ok ∙ c.empty.ensures.none;
  ready = c.requires.ready;
  names = refl;
  memory = refl;
}

-- a source refuses
pub returns-in-Err-clause-refuses : goal.returns-in-Err-clause-refuses
returns-in-Err-clause-refuses g c = λ other asked given first.
    let (rows, h, less) = c.loop-cause.invariant.so_far asked given first in
    (h.run, h.left, h.gave, (rw c.in-Err.is at c.put_next.ensures.refuses) other h.left h.has)

-- the end
pub returns-then-is_none-clause-gives : goal.returns-then-is_none-clause-gives
returns-then-is_none-clause-gives g c = λ asked given first.
    let m = g.E.MergeEngine.meaning c.args.engine.now in
    let rest = g.S.RowSource.rest in
    let fits = g.S.RowSource.fits in
    let (rows, h, less) = c.loop-cause.invariant.so_far asked given first in
    let over : is_none c.put_next.new.slot.value.slot ≡ true = ap (λ (p : WrittenPlace). is_none p.slot) (sym c.deref.ensures) ∙ sym c.is_none.ensures ∙ c.if-is_none.true in
    let none : c.put_next.new.slot.value.slot ≡ None = none_stands c.put_next.new.slot.value.slot over in
    let fit = (rw c.in-Ok.is at c.put_next.ensures.fits) asked.schema (none_has_content (form_of asked.schema) c.loop-cause.place.value.slot c.loop-cause.place.value.content c.loop-cause.invariant.none) h.written in
    let (left, gives, new) = (rw c.in-Ok.is at c.put_next.ensures.gives) h.left h.has in
    let ended = subst (λ (slot : Option Stamped). GivesOne m h.left slot left) none gives in
    given_end m rest fits asked given rows c.loop-cause.names c.loop-cause.self h c.files_law.ensures c.own_kind_law.ensures c.merged_law.ensures.again c.oldest_law.ensures.rising
    (λ empty. c.given_law.ensures.all m asked.rests h.left h.run h.rising h.gave empty) left ended _ new refl fit.1 c.in_ok-finish.field-0 c.finish.new.names
    (past_is c.loop-cause.names c.finish.new.names (length (option_to_list c.in_ok-finish.field-0)) c.in_ok-finish.ensures.names c.in_ok-finish.ensures.taken)
    (c.in_ok-finish.ensures.finished asked.schema most_in_file asked.level rows h.hand)

pub returns-then-is_none-clause-fewer : goal.returns-then-is_none-clause-fewer
returns-then-is_none-clause-fewer g c = λ asked given first.
    let (rows, h, less) = c.loop-cause.invariant.so_far asked given first in
    let some = finished_some asked c.loop-cause.names rows c.in_ok-finish.field-0 (record c.loop-cause.self { writer = c.finish.new.self })
    (c.in_ok-finish.ensures.finished asked.schema most_in_file asked.level rows h.hand) in
    omega (arith, less, some, (rw c.in-Ok.is at c.put_next.ensures.fewer))

-- a file is full
pub returns-then-full-clause-gives : goal.returns-then-full-clause-gives
returns-then-full-clause-gives g c = λ asked given first.
    let m = g.E.MergeEngine.meaning c.args.engine.now in
    let rest = g.S.RowSource.rest in
    let fits = g.S.RowSource.fits in
    let names = c.loop-cause.names in
    let (rows, h, less) = c.loop-cause.invariant.so_far asked given first in
    let some : is_none c.put_next.new.slot.value.slot ≡ false = ap (λ (p : WrittenPlace). is_none p.slot) (sym c.deref.ensures) ∙ sym c.is_none.ensures ∙ c.if-is_none.false in
    let (x, stands) = some_stands c.put_next.new.slot.value.slot some in
    let fit = (rw c.in-Ok.is at c.put_next.ensures.fits) asked.schema (none_has_content (form_of asked.schema) c.loop-cause.place.value.slot c.loop-cause.place.value.content c.loop-cause.invariant.none) h.written in
    let hand = rw h.drops at (c.in_ok-full.ensures.more asked.schema most_in_file asked.level names.session rows x stands (rw stands at fit.0) h.hand) in
    let (later, gives, new) = (rw c.in-Ok.is at c.put_next.ensures.gives) h.left h.has in
    let many = c.in_ok-full.ensures.full c.if-full.true asked.schema most_in_file asked.level names.session (rows ++ kept_rows m asked.drop (x ∷ [])) hand in
    let ended = c.in_ok-end.ensures.ended asked.schema most_in_file asked.level (rows ++ kept_rows m asked.drop (x ∷ [])) hand in
    rw c.in_ok-end.ensures.taken
    (given_full m rest fits asked given rows names c.loop-cause.self h (λ s. λ next. λ least. c.given_law.ensures.more m asked.rests h.left next h.run s h.gave least)
    (λ s. λ next. λ least. c.given_law.ensures.some m h.left next s least) x later _ (subst (λ (slot : Option Stamped). GivesOne m h.left slot later) stands gives, new, refl, fit.1) c.in_ok-end.field-0 many ended)

pub returns-then-full-clause-fewer : goal.returns-then-full-clause-fewer
returns-then-full-clause-fewer g c = λ asked given first.
    let m = g.E.MergeEngine.meaning c.args.engine.now in
    let rest = g.S.RowSource.rest in
    let fits = g.S.RowSource.fits in
    let names = c.loop-cause.names in
    let (rows, h, less) = c.loop-cause.invariant.so_far asked given first in
    let some : is_none c.put_next.new.slot.value.slot ≡ false = ap (λ (p : WrittenPlace). is_none p.slot) (sym c.deref.ensures) ∙ sym c.is_none.ensures ∙ c.if-is_none.false in
    let (x, stands) = some_stands c.put_next.new.slot.value.slot some in
    let fit = (rw c.in-Ok.is at c.put_next.ensures.fits) asked.schema (none_has_content (form_of asked.schema) c.loop-cause.place.value.slot c.loop-cause.place.value.content c.loop-cause.invariant.none) h.written in
    let hand = rw h.drops at (c.in_ok-full.ensures.more asked.schema most_in_file asked.level names.session rows x stands (rw stands at fit.0) h.hand) in
    let many = c.in_ok-full.ensures.full c.if-full.true asked.schema most_in_file asked.level names.session (rows ++ kept_rows m asked.drop (x ∷ [])) hand in
    let less = fewer_in m asked.drop rows x _ _ _ less (rw stands at (rw c.in-Ok.is at c.put_next.ensures.fewer)) in
    omega (arith, less, many)

-- one row more
pub loop-cause-preserved : goal.loop-cause-preserved
loop-cause-preserved g c = record {
  so_far = λ asked given first.
      let m = g.E.MergeEngine.meaning c.args.engine.now in
      let rest = g.S.RowSource.rest in
      let fits = g.S.RowSource.fits in
      let names = c.loop-cause.names in
      let (rows, h, less) = c.loop-cause.invariant.so_far asked given first in
      let some : is_none c.put_next.new.slot.value.slot ≡ false = ap (λ (p : WrittenPlace). is_none p.slot) (sym c.deref.ensures) ∙ sym c.is_none.ensures ∙ c.if-is_none.false in
      let (x, stands) = some_stands c.put_next.new.slot.value.slot some in
      let fit = (rw c.in-Ok.is at c.put_next.ensures.fits) asked.schema (none_has_content (form_of asked.schema) c.loop-cause.place.value.slot c.loop-cause.place.value.content c.loop-cause.invariant.none) h.written in
      let hand = rw h.drops at (c.in_ok-full.ensures.more asked.schema most_in_file asked.level names.session rows x stands (rw stands at fit.0) h.hand) in
      let (later, gives, new) = (rw c.in-Ok.is at c.put_next.ensures.gives) h.left h.has in (
        rows ++ kept_rows m asked.drop (x ∷ []),
        given_row m rest fits asked given rows names c.loop-cause.self h (λ s. λ next. λ least. c.given_law.ensures.more m asked.rests h.left next h.run s h.gave least)
            (λ s. λ next. λ least. c.given_law.ensures.some m h.left next s least) x later _ (subst (λ (slot : Option Stamped). GivesOne m h.left slot later) stands gives, new, refl, fit.1) hand,
        fewer_in m asked.drop rows x _ _ _ less (rw stands at (rw c.in-Ok.is at c.put_next.ensures.fewer)),
      );
  none = c.in_ok-full.ensures.none;
  ready = c.in_ok-full.ensures.room c.if-full.false;
  names = c.loop-cause.invariant.names;
  memory = rw c.in-Ok.is at c.put_next.ensures.memory;
}
