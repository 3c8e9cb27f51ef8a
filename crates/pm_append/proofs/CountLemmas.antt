-- The rows of entries that add files.
use Rattle.std.proofs.Common.{◌≡◌, ℕ, ℤ, pos, ◌-ℤ◌, int_le, true, Bool, cond, not, List, [], ◌∷◌, filter, Contains, refl, ap, ◌∙◌, arith}
use Rattle.pm_manifest.specs.declared.entry.Entry.{Entry}
use Rattle.pm_model_folder.specs.Entries.{least_delta, rows_added, rows_in_files}
use Rattle.pm_made.proofs.ListLemmas.{in-head, in-tail}

-- all of them add
all-add : (es : List Entry) → ((e : Entry) → Contains es e → e.add ≡ true) → filter (λ (e : Entry). e.add) es ≡ es
all-add [] add = refl
all-add (e ∷ es) add =
    let rest = all-add es (λ x h. add x (in-tail e es x h)) in
    ap (λ (t : Bool). cond t (e ∷ filter (λ (e : Entry). e.add) es) (filter (λ (e : Entry). e.add) es)) (add e (in-head e es)) ∙ ap (λ (more : List Entry). e ∷ more) rest

none-delete : (es : List Entry) → ((e : Entry) → Contains es e → e.add ≡ true) → filter (λ (e : Entry). not e.add) es ≡ []
none-delete [] add = refl
none-delete (e ∷ es) add =
    ap (λ (t : Bool). cond (not t) (e ∷ filter (λ (e : Entry). not e.add) es) (filter (λ (e : Entry). not e.add) es)) (add e (in-head e es))
    ∙ none-delete es (λ x h. add x (in-tail e es x h))

less-nothing : (n : ℕ) → pos n -ℤ pos 0 ≡ pos n
less-nothing n = grind arith

-- so their rows are those of a delta
pub adds-rows : (es : List Entry) → ((e : Entry) → Contains es e → e.add ≡ true) → rows_added es ≡ pos (rows_in_files es)
adds-rows es add =
    let change : ℤ = pos (rows_in_files (filter (λ (e : Entry). e.add) es)) -ℤ pos (rows_in_files (filter (λ (e : Entry). not e.add) es)) in
    let is : change ≡ pos (rows_in_files es) =
    ap (λ (some : List Entry). pos (rows_in_files some) -ℤ pos (rows_in_files (filter (λ (e : Entry). not e.add) es))) (all-add es add)
    ∙ ap (λ (some : List Entry). pos (rows_in_files es) -ℤ pos (rows_in_files some)) (none-delete es add)
    ∙ less-nothing (rows_in_files es) in
    ap (λ (z : ℤ). cond (int_le least_delta z) z least_delta) is
