use Rattle.std.proofs.Common.{◌≡◌, ◌≤◌, ◌∷◌, [], ◌++◌, length, map, sym, ap, ◌∙◌, subst, arith}
use Rattle.std.proofs.lemmas.Bool.Decides.{nat_tests}
use Rattle.std.proofs.lemmas.List.{length-map, map_push}
use Rattle.pm_avro_data.specs.Datum.{view}
use Rattle.pm_avro_file.specs.Views.{blocks_view}
use Rattle.pm_record.specs.File.{AreBlocks}
use Rattle.pm_record.proofs.WriteLemmas.{last_closed, none_closed}
use Rattle.pm_record.proofs.writing.split_blocks.Goals as goal

pub returns-clause-full : goal.returns-clause-full
returns-clause-full c =
    let last = c.loop-datum.block.items in
    let many = length-map last view in
    let some : 1 ≤ length (map view last) = grind (arith, nat_tests) in
    let more : blocks_view c.push.new.self.items ≡ blocks_view c.loop-datum.blocks.items ++ map view last ∷ [] =
    ap blocks_view c.in_ok-push.ensures.items ∙ map_push (λ v. map view v.items) c.loop-datum.blocks.items c.loop-datum.block in
    subst (AreBlocks c.args.most) (sym more)
    (last_closed c.args.most (blocks_view c.loop-datum.blocks.items) (map view last) (map view c.loop-datum.yielded) c.loop-datum.invariant.split some)

pub returns-then-is_empty-clause-full : goal.returns-then-is_empty-clause-full
returns-then-is_empty-clause-full c =
    let last = c.loop-datum.block.items in
    let many = length-map last view in
    let none : length (map view last) ≡ 0 = grind (arith, nat_tests) in
    none_closed c.args.most (blocks_view c.loop-datum.blocks.items) (map view last) (map view c.loop-datum.yielded) c.loop-datum.invariant.split none
