use Rattle.std.proofs.Common.{◌+◌, List, drop, length, get_or, ap, subst, ◌∙◌, sym, arith, if◌then◌else◌}
use Rattle.std.proofs.lemmas.List.{length-set, drop-set-lt}
use Rattle.pm_values.specs.declared.record.Stamped.{Stamped}
use Rattle.pm_engine.specs.Meaning.{Meaning}
use Rattle.pm_engine.specs.Needed.{IsNeeded, raised}
use Rattle.pm_engine.specs.declared.needed.Needed.TheVariants.{Newer, Older}
use Rattle.pm_engine.proofs.PickLemmas.{begins_after, blank, joins_last}
use Rattle.pm_engine.proofs.Rising.{tied}
use Rattle.pm_engine.proofs.reducing.pick.Goals as goal

-- the row comes after another key
pub returns-then-not-have_one_key-clause-puts : goal.returns-then-not-have_one_key-clause-puts
returns-then-not-have_one_key-clause-puts g c none =
    let m : Meaning = g.E.MergeEngine.meaning c.args._engine.now in
    let rows : List Stamped = c.args.rows.now in
    let one : Stamped = get_or rows c.args.index none in
    begins_after m rows c.copy_back.new.self c.args.last one none (omega (arith, c.requires.before, c.requires.within)) (c.requires.own one (c.requires.taken none))
    (sym (c.have_one_key.ensures none) ∙ c.if-not-have_one_key.true) (c.copy_back.ensures none)

pub returns-then-not-have_one_key-clause-later : goal.returns-then-not-have_one_key-clause-later
returns-then-not-have_one_key-clause-later g c =
    let rows : List Stamped = c.args.rows.now in
    ap (λ (ss : List Stamped). drop (c.args.index + 1) ss) (c.copy_back.ensures blank)
    ∙ drop-set-lt (c.args.index + 1) rows (c.args.last + 1) (get_or rows c.args.index blank) (omega (arith, c.requires.before))

pub returns-then-not-have_one_key-clause-as_many : goal.returns-then-not-have_one_key-clause-as_many
returns-then-not-have_one_key-clause-as_many g c =
    let rows : List Stamped = c.args.rows.now in
    ap (λ (ss : List Stamped). length ss) (c.copy_back.ensures blank) ∙ length-set rows (c.args.last + 1) (get_or rows c.args.index blank)

-- the row is the newer one of its key, which is needed
pub returns-then-newer-clause-puts : goal.returns-then-newer-clause-puts
returns-then-newer-clause-puts g c none =
    let m : Meaning = g.E.MergeEngine.meaning c.args._engine.now in
    let rows : List Stamped = c.args.rows.now in
    let before : Stamped = get_or rows c.args.last none in
    let one : Stamped = get_or rows c.args.index none in
    let same = sym (c.have_one_key.ensures none) ∙ c.if-not-have_one_key.false in
    let needed : IsNeeded m Newer = subst (λ b. IsNeeded m (if b then Newer else Older)) c.if-newer.true c.requires.needed in
    joins_last m rows c.take_newer.new.rows c.args.last one (raised before.seq one) none (omega (arith, c.requires.before, c.requires.within)) (c.requires.own one (c.requires.taken none))
    same (needed before one (tied before.key one.key same)) (c.take_newer.ensures.front none)

-- the one before it is needed
pub returns-clause-puts : goal.returns-clause-puts
returns-clause-puts g c none =
    let m : Meaning = g.E.MergeEngine.meaning c.args._engine.now in
    let rows : List Stamped = c.args.rows.now in
    let before : Stamped = get_or rows c.args.last none in
    let one : Stamped = get_or rows c.args.index none in
    let same = sym (c.have_one_key.ensures none) ∙ c.if-not-have_one_key.false in
    let needed : IsNeeded m Older = subst (λ b. IsNeeded m (if b then Newer else Older)) c.if-newer.false c.requires.needed in
    joins_last m rows c.take_older.new.rows c.args.last one (raised one.seq before) none (omega (arith, c.requires.before, c.requires.within)) (c.requires.own one (c.requires.taken none))
    same (needed before one (tied before.key one.key same)) (c.take_older.ensures.front none)
