use Rattle.std.proofs.Common.{◌≡◌, [], ◌∷◌, ◌++◌, List, None, Vec, Global, map, rules, ap, append_assoc, sym, ◌∙◌}
use Rattle.std.proofs.lemmas.List.{map-append}
use Rattle.std.specs.Vec.Iter.{into_iter_items}
use Rattle.pm_values.specs.declared.record.Stamped.{Stamped}
use Rattle.pm_merge.specs.Merge.{runs_of}
use Rattle.pm_merge.specs.Merging.{rests_of, whole_rest}
use Rattle.pm_merge.specs.Source.{Rest, rest_in_memory}
use Rattle.pm_merge.specs.declared.source.MemRows.{MemRows}
use Rattle.pm_merge.proofs.merge.sources_of.Goals as goal

-- one more
pub loop-run-preserved : goal.loop-run-preserved
loop-run-preserved c =
    let one : MemRows = record { rows = c.into_iter.result } in
    let same : into_iter_items c.into_iter.result ≡ c.in-Some.run'.items = search rules in
    let steps : into_iter_items c.loop-run.run-iterator ≡ c.in-Some.run' ∷ into_iter_items c.next.new.self = search rules in
    let is : rest_in_memory one ≡ whole_rest c.in-Some.run'.items = λ i. record { rows = same i; refusal = None } in
    let more : map rest_in_memory (c.loop-run.sources.items ++ one ∷ []) ≡ rests_of (runs_of (c.loop-run.yielded ++ c.in-Some.run' ∷ [])) =
    map-append rest_in_memory c.loop-run.sources.items (one ∷ []) ∙ ap (λ (rs : List Rest). rs ++ rest_in_memory one ∷ []) c.loop-run.invariant.have
    ∙ ap (λ (r : Rest). rests_of (runs_of c.loop-run.yielded) ++ r ∷ []) is ∙ sym (map-append whole_rest (runs_of c.loop-run.yielded) (c.in-Some.run'.items ∷ []))
    ∙ ap rests_of (sym (map-append (λ (run : Vec Stamped Global). run.items) c.loop-run.yielded (c.in-Some.run' ∷ []))) in
    record {
      parts = append_assoc c.loop-run.yielded (c.in-Some.run' ∷ []) (into_iter_items c.next.new.self) ∙ ap (λ (rs : List (Vec Stamped Global)). c.loop-run.yielded ++ rs) (sym steps) ∙ c.loop-run.invariant.parts;
      have = rw c.in_ok-push.ensures.items more;
    }
