use Rattle.std.proofs.Common.{◌≡◌, ℕ, List, Some, inl, refl, sym, ap, ◌∙◌}
use Rattle.uuid.specs.Text.{hyphenated_text, lower, parsed}
use Rattle.uuid.proofs.RoundTrips.{parses_hyphenated}
use Rattle.pm_snapshot.specs.Parts.{IsIdentifier}
use Rattle.pm_snapshot.proofs.parts.is_identifier.Goals as goal

parsed_identifier : (text : List ℕ) (h : IsIdentifier text) → parsed text ≡ Some h.session
parsed_identifier text h = ap parsed h.is ∙ sym (parses_hyphenated lower h.session (inl refl) h.sixteen h.bytes)

pub returns-in-Ok : goal.returns-in-Ok
returns-in-Ok c =
    let id = c.in-Ok.id in
    let text = c.args.text.now in (
      λ t. record {
        session = id;
        sixteen = c.is_text_of.ensures.session.0;
        bytes = c.is_text_of.ensures.session.1;
        is = c.is_text_of.ensures.text.0 t;
      },
      λ h.
          let read : Some id ≡ Some h.session = c.in-Ok.ensures.bytes ∙ parsed_identifier text h in
          let same : id ≡ h.session = cc in
          c.is_text_of.ensures.text.1 (h.is ∙ ap (hyphenated_text lower) (sym same)),
    )

pub returns-in-Err : goal.returns-in-Err
returns-in-Err c = (λ t. cc, λ h. let ok = c.in-Err.ensures.ok.1 (h.session, parsed_identifier c.args.text.now h) in cc)
