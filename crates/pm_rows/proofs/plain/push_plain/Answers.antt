use Rattle.std.proofs.Common.{ℕ, List, [], ◌∷◌, ◌++◌, map, sym, ap, append_assoc, ◌∙◌}
use Rattle.pm_row_slots.specs.Seen.{seen_value}
use Rattle.pm_rows.specs.Plain.{items_text, kind_head}
use Rattle.pm_rows.proofs.PlainLemmas.{adds_further, text_is}
use Rattle.pm_rows.proofs.plain.push_plain.Goals as goal

pub returns-clause-ok : goal.returns-clause-ok
returns-clause-ok c =
    let old : List ℕ = c.args.text.now.items in
    let first : List ℕ = kind_head c.args.kind in
    let middle : List ℕ = items_text (map seen_value c.args.values.now) in
    let last : List ℕ = 93 ∷ [] in
    let ends : List ℕ → List ℕ = λ bs. bs ++ last in
    let goes : List ℕ → List ℕ = λ bs. bs ++ middle in
    let begins : List ℕ → List ℕ = λ bs. old ++ bs in
    c.in_ok-add_byte.ensures.ok ∙ ap ends (c.in_ok-push_items.ensures.ok ∙ ap goes (c.in_ok-add.ensures.ok ∙ ap begins c.head_of.ensures))
    ∙ append_assoc (old ++ first) middle last ∙ append_assoc old first (middle ++ last) ∙ ap begins (sym (text_is c.args.kind (map seen_value c.args.values.now)))

pub returns-clause-adds : goal.returns-clause-adds
returns-clause-adds c = adds_further c.add.ensures.adds (adds_further c.push_items.ensures.adds c.add_byte.ensures.adds)

pub returns-in_err-add_byte-clause-adds : goal.returns-in_err-add_byte-clause-adds
returns-in_err-add_byte-clause-adds c = adds_further c.add.ensures.adds (adds_further c.push_items.ensures.adds c.add_byte.ensures.adds)

pub returns-in_err-push_items-clause-adds : goal.returns-in_err-push_items-clause-adds
returns-in_err-push_items-clause-adds c = adds_further c.add.ensures.adds c.push_items.ensures.adds
