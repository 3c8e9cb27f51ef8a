use Rattle.std.proofs.Common.{◌≡◌, ◌∷◌, ◌++◌, None, refl, sym, ap, subst, ◌∙◌, rules}
use Rattle.pm_run_bytes.specs.Lying.{GivesFirst}
use Rattle.pm_run_bytes.proofs.PlaceLemmas.{none_has_content}
use Rattle.pm_scan_rows.specs.Stored.{all_of, left_in}
use Rattle.pm_scan_rows.proofs.StoredLemmas.{first_in, none_of, opened_for}
use Rattle.pm_scan_rows.proofs.written_rows.WrittenRows.fill_later.Goals as goal

pub returns-then-not-is_none-clause-first : goal.returns-then-not-is_none-clause-first
returns-then-not-is_none-clause-first c =
    let parts : c.loop-file.self.rows.files.now ≡ c.in-Some.file.now ∷ c.in-Some.files.now = search rules in
    subst (λ fs. GivesFirst (all_of c.args.self.now.rows.files.now) c.fill_own.new.place.slot (left_in c.fill_own.new.self.rows.own ++ all_of fs)) (sym c.in_ok-fill_own.ensures.files)
    (subst (λ old. GivesFirst old c.fill_own.new.place.slot (left_in c.fill_own.new.self.rows.own ++ all_of c.in-Some.files.now)) c.loop-file.invariant.files
    (first_in c.loop-file.self.rows.files.now c.in-Some.files.now c.in-Some.file.now (left_in c.rows-self.result) (left_in c.fill_own.new.self.rows.own) c.fill_own.new.place.slot parts c.rows-self.ensures (search rules) c.in_ok-fill_own.ensures.first))

pub returns-then-not-is_none-clause-form : goal.returns-then-not-is_none-clause-form
returns-then-not-is_none-clause-form c = λ f given.
    c.in_ok-fill_own.ensures.form f (opened_for f c.loop-file.self _ refl c.has_form-self.ensures (c.loop-file.invariant.form f given))

pub loop-file-preserved : goal.loop-file-preserved
loop-file-preserved c =
    let parts : c.loop-file.self.rows.files.now ≡ c.in-Some.file.now ∷ c.in-Some.files.now = search rules in
    let none : c.fill_own.new.place.slot ≡ None = search rules in
    let over = none_of (left_in c.rows-self.result) (left_in c.fill_own.new.self.rows.own) c.fill_own.new.place.slot none c.in_ok-fill_own.ensures.first in
    record {
      none = none;
      over = over.1;
      files = ap all_of c.in_ok-fill_own.ensures.files ∙ sym (ap (λ xs. xs ++ all_of c.in-Some.files.now) (sym c.rows-self.ensures ∙ over.0)) ∙ sym (ap all_of parts) ∙ c.loop-file.invariant.files;
      form = λ f given. (c.in_ok-fill_own.ensures.form f (opened_for f c.loop-file.self _ refl c.has_form-self.ensures (c.loop-file.invariant.form f given))).0;
    }

pub returns-clause-form : goal.returns-clause-form
returns-clause-form c = λ f given. (c.loop-file.invariant.form f given, none_has_content f c.loop-file.place.slot c.loop-file.place.content c.loop-file.invariant.none)
