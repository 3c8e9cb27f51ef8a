use Rattle.std.proofs.Common.{◌≡◌, [], ◌∷◌, refl, sym, ◌∙◌, arith}
use Rattle.std.specs.Vec.Iter.{into_iter_items}
use Rattle.std.proofs.lemmas.List.{nil_from_length}
use Rattle.pm_run_reader.specs.declared.reader.Found.{Found}
use Rattle.pm_run.specs.Rows.{opened_as}
use Rattle.pm_run_reader.proofs.FindLemmas.{read_empty, read_first, read_further, read_refused_first}
use Rattle.pm_run.proofs.FollowLemmas.{unless_memory}
use Rattle.pm_run_reader.proofs.reader.find_rows.Goals as goal

pub returns-in-Some-next : goal.returns-in-Some-next
returns-in-Some-next c =
    let o = opened_as c.args.path.now c.args.reader.now.form c.args.reader.now.changes c.args.file.now in
    let got = rw c.in-Some.is at c.in_ok-read.ensures in
    let f : Found = record { first = c.in-Some-next.first; later = c.next.new.self; refusal = c.in-Some.read.refusal; last = c.in_ok-last.last; next = c.in-Some.next } in
    let items : c.in-Some.read.rows.items ≡ c.in-Some-next.first ∷ into_iter_items c.next.new.self = sym c.into_iter-later.ensures.rest ∙ c.in-Some-next.ensures.cases.0 in (
      (read_further o c.loop-read.offset c.args.before.now (c.in-Some.read, c.in-Some.next) got).1,
      λ rows end g. c.loop-read.invariant.follow (c.in-Some-next.first ∷ rows) end
          (read_first o c.loop-read.offset c.args.before.now (c.in-Some.read, c.in-Some.next) got f items refl (rw c.deref.ensures.value at c.in_ok-last.ensures) refl rows end g),
    )

pub returns-in-Some-refusal : goal.returns-in-Some-refusal
returns-in-Some-refusal c =
    let o = opened_as c.args.path.now c.args.reader.now.form c.args.reader.now.changes c.args.file.now in
    let got = rw c.in-Some.is at c.in_ok-read.ensures in
    let length = (rw c.in_default-next.is at c.next.ensures.cases).0 in
    let none : c.in-Some.read.rows.items ≡ [] = nil_from_length c.in-Some.read.rows.items (omega (arith, c.in-Some.read.rows.ok.0, c.into_iter-later.ensures.len, length)) in
    unless_memory c.in-Some-refusal.refusal _
    (c.loop-read.invariant.follow [] _ (read_refused_first o c.loop-read.offset c.args.before.now (c.in-Some.read, c.in-Some.next) got c.in-Some-refusal.refusal none c.in-Some-refusal.is))

pub loop-read-smaller : goal.loop-read-smaller
loop-read-smaller c =
    let o = opened_as c.args.path.now c.args.reader.now.form c.args.reader.now.changes c.args.file.now in
    let got = rw c.in-Some.is at c.in_ok-read.ensures in
    omega (arith, read_further o c.loop-read.offset c.args.before.now (c.in-Some.read, c.in-Some.next) got)

pub loop-read-preserved : goal.loop-read-preserved
loop-read-preserved c =
    let o = opened_as c.args.path.now c.args.reader.now.form c.args.reader.now.changes c.args.file.now in
    let got = rw c.in-Some.is at c.in_ok-read.ensures in
    let length = (rw c.in_default-next.is at c.next.ensures.cases).0 in
    let none : c.in-Some.read.rows.items ≡ [] = nil_from_length c.in-Some.read.rows.items (omega (arith, c.in-Some.read.rows.ok.0, c.into_iter-later.ensures.len, length)) in
    record {
      within = (read_further o c.loop-read.offset c.args.before.now (c.in-Some.read, c.in-Some.next) got).1;
      follow = λ rows end f. c.loop-read.invariant.follow rows end
          (read_empty o c.loop-read.offset c.args.before.now (c.in-Some.read, c.in-Some.next) got none c.in_default-refusal.is rows end f);
    }
