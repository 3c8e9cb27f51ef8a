-- Settings that are put into an object one after another.
use Rattle.std.proofs.Common.{◌≡◌, List, [], ◌∷◌, ◌++◌, String, Global, string_bytes, refl, ap}
use Rattle.serde_json.specs.Data.{string, Members, no_members, put}
use Rattle.pm_options.specs.Table.{Setting}
use Rattle.pm_schema.specs.Written.{settings_members}

-- the settings over these members
abbrev pub settings_onto : List Setting → Members → Members
settings_onto [] ms = ms
settings_onto (s ∷ ss) ms = put s.0 (string s.1) (settings_onto ss ms)

-- the last of them goes in first
pub settings_onto-push : (ss : List Setting) (s : Setting) (ms : Members) → settings_onto (ss ++ s ∷ []) ms ≡ settings_onto ss (put s.0 (string s.1) ms)
settings_onto-push [] s ms = refl
settings_onto-push (t ∷ ss) s ms = ap (put t.0 (string t.1)) (settings_onto-push ss s ms)

pub settings_onto-none : (ss : List Setting) → settings_onto ss no_members ≡ settings_members ss
settings_onto-none [] = refl
settings_onto-none (s ∷ ss) = ap (put s.0 (string s.1)) (settings_onto-none ss)

abbrev pub text_view : String Global × String Global → Setting
text_view s = (string_bytes s.0, string_bytes s.1)
