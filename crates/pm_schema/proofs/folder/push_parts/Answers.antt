use Rattle.std.proofs.Common.{◌<◌, length, append_assoc, arith}
use Rattle.pm_schema.specs.Folder.{HasText}
use Rattle.pm_schema.proofs.FolderLemmas.{parts_text-next, zip_at, zip_len}
use Rattle.pm_schema.proofs.folder.push_parts.Goals as goal

pub bounds-values-index : goal.bounds-values-index
bounds-values-index c = omega (arith, zip_len (λ name value. HasText value) c.args.columns.now c.args.values.now c.requires)

pub push_part-requires : goal.push_part-requires
push_part-requires c =
    rw c.index-values-index.is
    (zip_at (λ name value. HasText value) c.args.columns.now c.args.values.now c.loop-index.index c.index-columns-index.result c.index-values-index.result c.requires c.loop-index-test.true)

pub loop-index-preserved : goal.loop-index-preserved
loop-index-preserved c =
    let columns = c.args.columns.now in
    let values = c.args.values.now in
    let within : c.loop-index.index < length values = omega (arith, zip_len (λ name value. HasText value) columns values c.requires) in
    let next = parts_text-next columns values c.loop-index.index c.index-columns-index.result c.index-values-index.result c.loop-index-test.true within c.index-columns-index.is c.index-values-index.is in
    rw (c.in_ok-push_part.ensures, append_assoc, ← next) c.loop-index.invariant
