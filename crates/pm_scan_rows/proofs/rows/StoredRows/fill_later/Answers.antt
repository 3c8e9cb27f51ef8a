use Rattle.std.proofs.Common.{◌≡◌, ◌∷◌, ◌++◌, None, sym, ap, subst, ◌∙◌, rules}
use Rattle.pm_run_bytes.specs.Lying.{GivesFirst}
use Rattle.pm_scan_rows.specs.Stored.{all_of, left_in}
use Rattle.pm_scan_rows.proofs.StoredLemmas.{first_in, none_of}
use Rattle.pm_scan_rows.proofs.rows.StoredRows.fill_later.Goals as goal

pub returns-then-not-is_none : goal.returns-then-not-is_none
returns-then-not-is_none c =
    let parts : c.loop-file.self.files.now ≡ c.in-Some.file.now ∷ c.in-Some.files.now = search rules in
    subst (λ old. GivesFirst old c.fill.new.slot (left_in c.fill.new.self ++ all_of c.in-Some.files.now)) c.loop-file.invariant.files
    (first_in c.loop-file.self.files.now c.in-Some.files.now c.in-Some.file.now (left_in c.rows-self.result) (left_in c.fill.new.self) c.fill.new.slot parts c.rows-self.ensures (search rules) c.in_ok-fill.ensures)

pub loop-file-preserved : goal.loop-file-preserved
loop-file-preserved c =
    let parts : c.loop-file.self.files.now ≡ c.in-Some.file.now ∷ c.in-Some.files.now = search rules in
    let none : c.fill.new.slot ≡ None = search rules in
    let over = none_of (left_in c.rows-self.result) (left_in c.fill.new.self) c.fill.new.slot none c.in_ok-fill.ensures in
    record {
      none = none;
      over = over.1;
      files = sym (ap (λ xs. xs ++ all_of c.in-Some.files.now) (sym c.rows-self.ensures ∙ over.0)) ∙ sym (ap all_of parts) ∙ c.loop-file.invariant.files;
    }
