use Rattle.std.proofs.Common.{◌≡◌, subst}
use Rattle.pm_lookup.specs.File.{AreFor, IsOpenedFor, LooksIn, SeenFile, seen}
use Rattle.pm_lookup.specs.declared.file.FileBytes.TheVariants.{Open}
use Rattle.pm_lookup.proofs.FileLemmas.{looks_found}
use Rattle.pm_lookup.proofs.file.LookedFile.find.Goals as goal

pub returns-in-Open-clause-looks : goal.returns-in-Open-clause-looks
returns-in-Open-clause-looks c =
    let s = c.args.schema.now in
    let f : SeenFile = seen c.open.new.self in
    let is : c.open.new.self.bytes ≡ Open c.in-Open.file = cc in
    let opened : IsOpenedFor s f c.in-Open.file = subst (AreFor s f) is c.open.ensures.opened in
    subst (λ (x : SeenFile). LooksIn s x c.args.key.now c.find.result) c.in_ok-open.ensures.same (looks_found s f c.args.key.now c.in-Open.file opened c.find.result c.find.ensures.finds)
