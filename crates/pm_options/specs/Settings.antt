-- Settings in the order of their keys.
use Rattle.std.specs.Prelude.{ℕ, List, ◌∷◌, ◌++◌, map, take, drop, Bool, is_some, if◌then◌else◌}
use Rattle.std.specs.Borrow.{Bor}
use Rattle.std.specs.Ordering.{nat_cmp, is_lt}
use Rattle.std.specs.Cmp.Lexicographic.{slice_cmp}
use Rattle.std.specs.List.{prefix_len}
use Rattle.pm_options.specs.Entries.{entry_at}
use Rattle.pm_options.specs.Table.{Setting}

-- the settings that borrowed texts are
abbrev pub views : List (Bor (List ℕ) × Bor (List ℕ)) → List Setting
views settings = map (λ s. (s.0.now, s.1.now)) settings

-- the setting's key is below the key
abbrev pub is_below : List ℕ → Setting → Bool
is_below key s = is_lt (slice_cmp nat_cmp s.0 key)

-- the settings with one more, after those whose keys are below its own
abbrev pub placed : Setting → List Setting → List Setting
placed s ss = take (prefix_len (is_below s.0) ss) ss ++ s ∷ drop (prefix_len (is_below s.0) ss) ss

-- the settings with one more, unless its key stands
abbrev pub filled : Setting → List Setting → List Setting
filled s ss = if is_some (entry_at s.0 ss) then ss else placed s ss
