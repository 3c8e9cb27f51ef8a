use Rattle.std.proofs.Common.{◌≡◌, [], ◌∷◌, ◌++◌, List, rules, ap, append_assoc, subst, sym, ◌∙◌}
use Rattle.std.proofs.lemmas.Fn.{FoldsTo-push}
use Rattle.std.proofs.lemmas.Result.{err_from_is_err_and}
use Rattle.std.proofs.lemmas.List.{map-append}
use Rattle.std.specs.Vec.Iter.{into_iter_items}
use Rattle.pm_scan_rows.specs.Group.{GroupRead, read_of, reads_of}
use Rattle.pm_scan_rows.specs.declared.read_group.ReadGroup.{ReadGroup}
use Rattle.pm_plan.specs.Planned.{AllRewritten, RewritesFirst}
use Rattle.pm_plan.proofs.LeftLemmas.{few-left, some-left}
use Rattle.pm_plan.proofs.MakeLemmas.{group-rises}
use Rattle.pm_plan.proofs.RewrittenLemmas.{refused-some}
use Rattle.pm_plan.proofs.planned.Planned.rewrite_groups.Goals as goal

-- a group's runs rise, as those of all do
pub rewrite_first-requires-clause-rising : goal.rewrite_first-requires-clause-rising
rewrite_first-requires-clause-rising c =
    let steps : into_iter_items c.loop-read.read-iterator ≡ c.in-Some.read ∷ into_iter_items c.next.new.self = search rules in
    let parts : c.loop-read.yielded ++ c.in-Some.read ∷ into_iter_items c.next.new.self ≡ c.args.groups.items =
    ap (λ (rs : List ReadGroup). c.loop-read.yielded ++ rs) (sym steps) ∙ c.loop-read.invariant.parts in
    group-rises c.loop-read.yielded (into_iter_items c.next.new.self) c.in-Some.read c.args.groups.items parts c.requires.rising

-- a group is left for these runs
pub rewrite_first-requires-clause-some : goal.rewrite_first-requires-clause-some
rewrite_first-requires-clause-some c =
    let steps : into_iter_items c.loop-read.read-iterator ≡ c.in-Some.read ∷ into_iter_items c.next.new.self = search rules in
    some-left (into_iter_items c.loop-read.read-iterator) (into_iter_items c.next.new.self) c.in-Some.read c.loop-read.planned.left.items steps c.loop-read.invariant.few

-- one more
pub loop-read-preserved : goal.loop-read-preserved
loop-read-preserved c =
    let steps : into_iter_items c.loop-read.read-iterator ≡ c.in-Some.read ∷ into_iter_items c.next.new.self = search rules in
    let first : RewritesFirst c.loop-read.planned (read_of c.in-Some.read) c.rewrite_first.new.self = search rules in
    record {
      parts = append_assoc c.loop-read.yielded (c.in-Some.read ∷ []) (into_iter_items c.next.new.self)
          ∙ ap (λ (rs : List ReadGroup). c.loop-read.yielded ++ rs) (sym steps) ∙ c.loop-read.invariant.parts;
      made = subst (λ (gs : List GroupRead). AllRewritten c.args.self gs c.rewrite_first.new.self)
          (sym (map-append read_of c.loop-read.yielded (c.in-Some.read ∷ [])))
          (FoldsTo-push RewritesFirst c.args.self (reads_of c.loop-read.yielded) c.loop-read.planned (read_of c.in-Some.read) c.rewrite_first.new.self
          c.loop-read.invariant.made first);
      ready = search rules;
      few = few-left (into_iter_items c.loop-read.read-iterator) (into_iter_items c.next.new.self) c.in-Some.read c.loop-read.planned c.rewrite_first.new.self
          (read_of c.in-Some.read) steps first c.loop-read.invariant.few;
    }

-- nothing can be told of the next one
pub returns-in_err-rewrite_first-clause-refuses : goal.returns-in_err-rewrite_first-clause-refuses
returns-in_err-rewrite_first-clause-refuses c =
    let steps : into_iter_items c.loop-read.read-iterator ≡ c.in-Some.read ∷ into_iter_items c.next.new.self = search rules in
    let parts : c.loop-read.yielded ++ c.in-Some.read ∷ into_iter_items c.next.new.self ≡ c.args.groups.items =
    ap (λ (rs : List ReadGroup). c.loop-read.yielded ++ rs) (sym steps) ∙ c.loop-read.invariant.parts in
    let p = err_from_is_err_and c.from_residual.result c.from_residual.ensures.1 in
    rw (p.1, p.2) (λ other.
    refused-some c.args.self c.loop-read.planned c.args.groups.items c.loop-read.yielded (into_iter_items c.next.new.self) c.in-Some.read c.in_err-rewrite_first.field-0.0 parts
    c.loop-read.invariant.made c.loop-read.invariant.ready.room (c.in_err-rewrite_first.ensures.refuses other))
