-- What `clap` is told of options.
use Rattle.std.proofs.Common.{◌≡◌, ◌∙◌, ℕ, true, false, List, [], ◌∷◌, ◌++◌, codes, refl, sym, subst, ap, ap₂}
use Rattle.std.proofs.lemmas.List.{map-append}
use Rattle.clap.specs.Words.{AddsArg, app_of, rule_of}
use Rattle.clap.specs.Simple.{App, new_shape, with_rule}
use Rattle.clap.specs.Walk.{Rule}
use Rattle.clap.specs.declared.builder.arg.Arg.{Arg}
use Rattle.clap.specs.declared.builder.command.Command.{Command}
use Rattle.pm_words.specs.Clap.{Declared, HasDeclared, app_for, compact_options, consumers_options, expire_options, follow_options, generate_options, scan_options, told_of, write_options}

-- a command with these rules alone
abbrev app_with : List ℕ → List Rule → App
app_with name rules = record { top = record (new_shape name) { rules = rules; no_binary_name = true; disable_help_flag = true }; subs = [] }

pub adds_declared : (old new : Command) (a : Arg) (word : List ℕ) (declared : List Declared) (d : Declared) → AddsArg old a new → rule_of a ≡ told_of d → a.global ≡ false
    → app_of old ≡ app_for word declared → app_of new ≡ app_for word (declared ++ d ∷ [])
adds_declared old new a word declared d adds rule local is =
    adds.shape local ∙ ap₂ with_rule is rule ∙ ap (app_with word) (sym (map-append told_of declared (d ∷ [])))

-- ---- each command

pub create_has : (a : App) → a ≡ app_for (codes "create") [] → HasDeclared a []
create_has a is = subst (λ a. HasDeclared a []) (sym is) (record { named = refl; simple = refl; name = codes "create"; built = refl; words = refl })

pub snapshots_has : (a : App) → a ≡ app_for (codes "snapshots") [] → HasDeclared a []
snapshots_has a is = subst (λ a. HasDeclared a []) (sym is) (record { named = refl; simple = refl; name = codes "snapshots"; built = refl; words = refl })

pub consumers_has : (a : App) → a ≡ app_for (codes "consumers") consumers_options → HasDeclared a consumers_options
consumers_has a is = subst (λ a. HasDeclared a consumers_options) (sym is) (record { named = refl; simple = refl; name = codes "consumers"; built = refl; words = refl })

pub compact_has : (a : App) → a ≡ app_for (codes "compact") compact_options → HasDeclared a compact_options
compact_has a is = subst (λ a. HasDeclared a compact_options) (sym is) (record { named = refl; simple = refl; name = codes "compact"; built = refl; words = refl })

pub expire_has : (a : App) → a ≡ app_for (codes "expire") expire_options → HasDeclared a expire_options
expire_has a is = subst (λ a. HasDeclared a expire_options) (sym is) (record { named = refl; simple = refl; name = codes "expire"; built = refl; words = refl })

pub follow_has : (a : App) → a ≡ app_for (codes "follow") follow_options → HasDeclared a follow_options
follow_has a is = subst (λ a. HasDeclared a follow_options) (sym is) (record { named = refl; simple = refl; name = codes "follow"; built = refl; words = refl })

pub generate_has : (a : App) → a ≡ app_for (codes "generate") generate_options → HasDeclared a generate_options
generate_has a is = subst (λ a. HasDeclared a generate_options) (sym is) (record { named = refl; simple = refl; name = codes "generate"; built = refl; words = refl })

pub scan_has : (a : App) → a ≡ app_for (codes "scan") scan_options → HasDeclared a scan_options
scan_has a is = subst (λ a. HasDeclared a scan_options) (sym is) (record { named = refl; simple = refl; name = codes "scan"; built = refl; words = refl })

pub write_has : (a : App) → a ≡ app_for (codes "write") write_options → HasDeclared a write_options
write_has a is = subst (λ a. HasDeclared a write_options) (sym is) (record { named = refl; simple = refl; name = codes "write"; built = refl; words = refl })
