use Rattle.std.proofs.Common.{◌≡◌, List, None, Option, ap, subst, sym, ◌∙◌}
use Rattle.std.specs.Coded.{Coded-set, codes}
use Rattle.pm_values.specs.declared.record.Stamped.{Stamped}
use Rattle.pm_run_bytes.specs.declared.direct.Direct.{Direct}
use Rattle.pm_run_bytes.specs.Direct.{IsDirect, IsDirectOr}
use Rattle.pm_run_reader.specs.Finding.{Judges}
use Rattle.pm_run.specs.Rows.{Follow, Gives, Opened, opened_as}
use Rattle.pm_run_reader.proofs.JudgeLemmas.{judged_follow, judged_last, judged_only}
use Rattle.pm_run_reader.proofs.reader.RunReader.judged.Goals as goal
use Rattle.pm_run_reader.proofs.reader.RunReader.judged.Goals.{In-Some-take}

-- the file, seen by its fields
abbrev file_of : In-Some-take → Opened
file_of c = opened_as c.reader.inside.path c.reader.inside.rows.form c.reader.inside.rows.changes c.reader.inside.file

-- the rows were judged
found : (c : In-Some-take) → Judges (file_of c) c.args.before.now c.in-Some.last
found c = c.in-Some.ensures c.reader.inside.path

one : (c : In-Some-take) (rows others : List Stamped) → Gives (file_of c) rows None → Gives (file_of c) others None → rows ≡ others
one c rows others g h = (c.one_list_law.ensures.follow (file_of c) (file_of c).file.first None rows others None None g h).0

pub new-requires : goal.new-requires
new-requires c =
    let at = (goal.at.new-requires c).In-Some-take in
    let direct : IsDirect c.in-Some-take.direct (file_of at).form (file_of at).file =
    subst (λ (p : Option Direct). IsDirectOr p (file_of at).form (file_of at).file) (sym c.take.ensures.value ∙ c.in-Some-take.is) c.reader.invariant.2 in
    ((found at).0, judged_only (file_of at) (one at) c.args.before.now c.in-Some.last (found at) c.in-Some-take.direct direct)

pub returns-in-Some-take-clause-follow : goal.returns-in-Some-take-clause-follow
returns-in-Some-take-clause-follow c =
    let at = (goal.at.returns-in-Some-take-clause-follow c).In-Some-take in
    subst (λ (o : Opened). Follow o o.file.first c.args.before.now c.new.result None) (ap (λ v. v.opened) c.reader.view_is)
    (judged_follow (file_of at) (one at) c.args.before.now c.in-Some.last (found at) c.in-Some-take.direct c.new.result c.new.ensures (Coded-set (hlevel codes)))

pub returns-in-Some-take-clause-last : goal.returns-in-Some-take-clause-last
returns-in-Some-take-clause-last c =
    let at = (goal.at.returns-in-Some-take-clause-last c).In-Some-take in
    judged_last (file_of at) (one at) c.args.before.now c.in-Some.last (found at) c.in-Some-take.direct c.new.result c.new.ensures (Coded-set (hlevel codes))
