-- A sorted map as a finite map.
use Rattle.std.proofs.Common.{◌≡◌, ℕ, List, [], ◌∷◌, None, Some, cond, refl, sym, ap, ◌∙◌}
use Rattle.std.specs.BTreeMap.{is_at}
use Rattle.std.specs.Cmp.{eq_by_cmp_equiv}
use Rattle.std.specs.Cmp.Lexicographic.{slice_cmp, nat_list_cmp_total}
use Rattle.std.specs.FinMap as map
use Rattle.std.specs.FinMap.{slice_cmp-IsAntisymmetric, nat_cmp-IsAntisymmetric, IsAntisymmetric}
use Rattle.std.specs.Map.{lookup}
use Rattle.std.specs.Ordering.{nat_cmp, eq_by_cmp}

abbrev pub Entries : Type 0
Entries = List (List ℕ × List ℕ)

-- only equal paths tie
pub exact_paths : IsAntisymmetric (slice_cmp nat_cmp)
exact_paths = slice_cmp-IsAntisymmetric nat_cmp-IsAntisymmetric

found : (entries : Entries) (q : List ℕ) → map.find (slice_cmp nat_cmp) q entries ≡ lookup (is_at (slice_cmp nat_cmp q)) entries
found [] q = refl
found (e ∷ entries) q = ap (cond (is_at (slice_cmp nat_cmp q) e.0) (Some e.1)) (found entries q)

pub get-entries : (entries : Entries) (q : List ℕ) → lookup (is_at (slice_cmp nat_cmp q)) entries ≡ map.get (map.from_entries {R = slice_cmp nat_cmp} entries) q
get-entries entries q = sym (map.get-from_entries nat_list_cmp_total entries q ∙ found entries q)

turned : (path q : List ℕ) → is_at (slice_cmp nat_cmp path) q ≡ eq_by_cmp (slice_cmp nat_cmp) q path
turned path q = (eq_by_cmp_equiv nat_list_cmp_total).symm path q

-- a path written
pub entries_written : (entries later : Entries) (path bytes : List ℕ)
    → ((q : List ℕ) → lookup (is_at (slice_cmp nat_cmp q)) later ≡ cond (is_at (slice_cmp nat_cmp path) q) (Some bytes) (lookup (is_at (slice_cmp nat_cmp q)) entries))
    → map.from_entries {R = slice_cmp nat_cmp} later ≡ map.insert (map.from_entries entries) path bytes
entries_written entries later path bytes is =
    map.same_map nat_list_cmp_total exact_paths _ _ (λ q.
    sym (get-entries later q) ∙ is q
    ∙ ap (λ b. cond b (Some bytes) (lookup (is_at (slice_cmp nat_cmp q)) entries)) (turned path q)
    ∙ ap (cond (eq_by_cmp (slice_cmp nat_cmp) q path) (Some bytes)) (get-entries entries q)
    ∙ sym (map.get-insert nat_list_cmp_total (map.from_entries entries) path bytes q))

-- a path taken away
pub entries_erased : (entries later : Entries) (path : List ℕ)
    → ((q : List ℕ) → lookup (is_at (slice_cmp nat_cmp q)) later ≡ cond (is_at (slice_cmp nat_cmp path) q) None (lookup (is_at (slice_cmp nat_cmp q)) entries))
    → map.from_entries {R = slice_cmp nat_cmp} later ≡ map.remove (map.from_entries entries) path
entries_erased entries later path is =
    map.same_map nat_list_cmp_total exact_paths _ _ (λ q.
    sym (get-entries later q) ∙ is q
    ∙ ap (λ b. cond b None (lookup (is_at (slice_cmp nat_cmp q)) entries)) (turned path q)
    ∙ ap (cond (eq_by_cmp (slice_cmp nat_cmp) q path) None) (get-entries entries q)
    ∙ sym (map.get-remove nat_list_cmp_total (map.from_entries entries) path q))
