-- The settings of the options of the table, each of which may be left out.
use Rattle.std.proofs.Common.{◌≡◌, ℕ, ◌+◌, ◌==◌, Bool, true, false, cond, not, List, [], ◌∷◌, ◌++◌, codes, decimal, Option, Some, None, option_map, IfSome, refl, ap, ◌∙◌, append_assoc}
use Rattle.std.specs.List.{AllByRecursion}
use Rattle.std.specs.Option.{option_or}
use Rattle.std.specs.Str.{bytes_eq}
use Rattle.pm_options.specs.Entries.{Entries, entry_at}
use Rattle.pm_options.specs.Kinds.{engine_text, producer_text, truth_text}
use Rattle.pm_options.specs.Pairs.{is_engine, is_producer}
use Rattle.pm_options.specs.Table.{Setting, table}
use Rattle.pm_options.specs.Written.{count_settings, field_settings, kind_settings, number_if, number_unless, retained_settings, settings_of, truth_if, unless_default}
use Rattle.pm_options.specs.declared.kinds.EngineKind.TheVariants.{Deduplicate}
use Rattle.pm_options.specs.declared.kinds.Producer.TheVariants as producers
use Rattle.pm_options.specs.declared.options.Options.{Options}

-- an option's key, and its text where it stands
abbrev pub Slot : Type 0
Slot = List ℕ × Option (List ℕ)

-- a setting, where its text stands
abbrev added : List ℕ → Option (List ℕ) → List Setting → List Setting
added key None rest = rest
added key (Some text) rest = (key, text) ∷ rest

-- the settings of the slots that stand, and the rest
abbrev pub standing : List Slot → List Setting → List Setting
standing [] rest = rest
standing (s ∷ ss) rest = added s.0 s.1 (standing ss rest)

-- the text at a key: that of its slot, or what is found later
abbrev pub found : List ℕ → List Slot → Option (List ℕ) → Option (List ℕ)
found key [] later = later
found key (s ∷ ss) later = cond (bytes_eq s.0 key) (option_or s.1 (found key ss later)) (found key ss later)

-- either choice is the same
same_at : {A : Type 0} (b : Bool) (o : Option A) → o ≡ cond b o o
same_at true o = refl
same_at false o = refl

-- a slot, and the settings after it
entry_at-added : (key k : List ℕ) (o : Option (List ℕ)) (rest : List Setting) (later : Option (List ℕ))
    → entry_at key rest ≡ later
    → entry_at key (added k o rest) ≡ cond (bytes_eq k key) (option_or o later) later
entry_at-added key k None rest later is = is ∙ same_at (bytes_eq k key) later
entry_at-added key k (Some text) rest later is = ap (λ r. cond (bytes_eq k key) (Some text) r) is

-- what is found at a key
pub entry_at-standing : (key : List ℕ) (slots : List Slot) (rest : List Setting)
    → entry_at key (standing slots rest) ≡ found key slots (entry_at key rest)
entry_at-standing key [] rest = refl
entry_at-standing key (s ∷ ss) rest =
    entry_at-added key s.0 s.1 (standing ss rest) (found key ss (entry_at key rest)) (entry_at-standing key ss rest)

-- a slot that stands has it
all_added : (P : Setting → Type 0) (k : List ℕ) (o : Option (List ℕ)) (rest : List Setting)
    → IfSome o (λ text. P (k, text)) → AllByRecursion P rest → AllByRecursion P (added k o rest)
all_added P k None rest here all = all
all_added P k (Some text) rest here all = (here, all)

-- what each slot that stands has
pub all_standing : (P : Setting → Type 0) (slots : List Slot) (rest : List Setting)
    → AllByRecursion (λ s. IfSome s.1 (λ text. P (s.0, text))) slots → AllByRecursion P rest
    → AllByRecursion P (standing slots rest)
all_standing P [] rest here all = all
all_standing P (s ∷ ss) rest here all =
    all_added P s.0 s.1 (standing ss rest) here.0 (all_standing P ss rest here.1 all)

-- a text, unless its value is the default
abbrev pub unless : Bool → List ℕ → Option (List ℕ)
unless default text = cond default None (Some text)

-- how the rows of a key become one, and where the changelog comes from
abbrev pub kind_slots : Options → List Slot
kind_slots o =
    (codes "merge-engine", unless (is_engine Deduplicate o.engine) (engine_text o.engine))
    ∷ (codes "ignore-delete", unless (not o.ignore_delete) (truth_text true))
    ∷ (codes "changelog-producer", unless (is_producer producers.None o.producer) (producer_text o.producer))
    ∷ (codes "changelog-producer.row-deduplicate", unless (not o.row_deduplicate) (truth_text true))
    ∷ []

-- when runs are compacted and manifests merged
abbrev pub count_slots : Options → List Slot
count_slots o =
    (codes "full-compaction.delta-commits", option_map decimal o.delta_commits)
    ∷ (codes "num-sorted-run.compaction-trigger", unless (o.trigger == 5) (decimal o.trigger))
    ∷ (codes "num-levels", unless (o.levels == o.trigger + 1) (decimal o.levels))
    ∷ (codes "compaction.max-size-amplification-percent", unless (o.amplification == 200) (decimal o.amplification))
    ∷ (codes "compaction.size-ratio", unless (o.ratio == 1) (decimal o.ratio))
    ∷ (codes "manifest.merge-min-count", unless (o.merge_min == 30) (decimal o.merge_min))
    ∷ []

-- how long snapshots are retained
abbrev pub retained_slots : Options → List Slot
retained_slots o =
    (codes "snapshot.time-retained", unless (o.retained_millis == 3600000) (decimal o.retained_millis ++ codes " ms"))
    ∷ (codes "snapshot.num-retained.min", unless (o.retained_min == 10) (decimal o.retained_min))
    ∷ (codes "snapshot.num-retained.max", unless (o.retained_max == 2147483647) (decimal o.retained_max))
    ∷ []

-- the slots of the options, in the order of the table
abbrev pub slots : Options → List Slot
slots o =
    (codes "bucket", Some (decimal o.bucket)) ∷ (codes "file.format", Some (codes "avro"))
    ∷ (kind_slots o ++ (count_slots o ++ retained_slots o))

-- what isn't of the table
abbrev pub rest_of : Options → List Setting
rest_of o = field_settings o ++ o.kept

-- what stands unless it is the default
unless_then : (b : Bool) (key text : List ℕ) (rest : List Setting)
    → unless_default b key text ++ rest ≡ added key (unless b text) rest
unless_then true key text rest = refl
unless_then false key text rest = refl

-- a number, where there is one
number_then : (key : List ℕ) (n : Option ℕ) (rest : List Setting)
    → number_if key n ++ rest ≡ added key (option_map decimal n) rest
number_then key None rest = refl
number_then key (Some n) rest = refl

-- three lists joined from the left or from the right
three : (a b c rest : List Setting) → (a ++ (b ++ c)) ++ rest ≡ a ++ (b ++ (c ++ rest))
three a b c rest = simp append_assoc

-- the same of four
four : (a b c d rest : List Setting) → (a ++ (b ++ (c ++ d))) ++ rest ≡ a ++ (b ++ (c ++ (d ++ rest)))
four a b c d rest = simp append_assoc

-- the same of six
six : (a b c d e f rest : List Setting)
    → (a ++ (b ++ (c ++ (d ++ (e ++ f))))) ++ rest ≡ a ++ (b ++ (c ++ (d ++ (e ++ (f ++ rest)))))
six a b c d e f rest = simp append_assoc

-- the settings of engines and producers are those of their slots
kinds_then : (o : Options) (rest : List Setting) → kind_settings o ++ rest ≡ standing (kind_slots o) rest
kinds_then o rest =
    let engine = unless_default (is_engine Deduplicate o.engine) (codes "merge-engine") (engine_text o.engine) in
    let deletes = truth_if (codes "ignore-delete") o.ignore_delete in
    let none = is_producer producers.None o.producer in
    let producer = unless_default none (codes "changelog-producer") (producer_text o.producer) in
    let rows = truth_if (codes "changelog-producer.row-deduplicate") o.row_deduplicate in
    four engine deletes producer rows rest ∙ simp unless_then

-- of compactions and manifests
counts_then : (o : Options) (rest : List Setting) → count_settings o ++ rest ≡ standing (count_slots o) rest
counts_then o rest =
    let commits = number_if (codes "full-compaction.delta-commits") o.delta_commits in
    let trigger = number_unless 5 (codes "num-sorted-run.compaction-trigger") o.trigger in
    let levels = number_unless (o.trigger + 1) (codes "num-levels") o.levels in
    let amplification = number_unless 200 (codes "compaction.max-size-amplification-percent") o.amplification in
    let ratio = number_unless 1 (codes "compaction.size-ratio") o.ratio in
    let merge_min = number_unless 30 (codes "manifest.merge-min-count") o.merge_min in
    six commits trigger levels amplification ratio merge_min rest ∙ simp (unless_then, number_then)

-- of what is retained
retained_then : (o : Options) (rest : List Setting) → retained_settings o ++ rest ≡ standing (retained_slots o) rest
retained_then o rest =
    let text = decimal o.retained_millis ++ codes " ms" in
    let millis = unless_default (o.retained_millis == 3600000) (codes "snapshot.time-retained") text in
    let least = number_unless 10 (codes "snapshot.num-retained.min") o.retained_min in
    let most = number_unless 2147483647 (codes "snapshot.num-retained.max") o.retained_max in
    three millis least most rest ∙ simp unless_then

-- the settings are those of the slots that stand, and the rest
pub settings_of-slots : (o : Options) → settings_of o ≡ standing (slots o) (rest_of o)
settings_of-slots o =
    ap (λ more. (codes "bucket", decimal o.bucket) ∷ (codes "file.format", codes "avro") ∷ more)
    (kinds_then o (count_settings o ++ (retained_settings o ++ rest_of o))
    ∙ ap (standing (kind_slots o)) (counts_then o (retained_settings o ++ rest_of o))
    ∙ ap (λ more. standing (kind_slots o) (standing (count_slots o) more)) (retained_then o (rest_of o)))

-- a key that isn't found is that of no entry
keys_apart : {A : Type 0} (key : List ℕ) (es : Entries A) → entry_at key es ≡ None
    → AllByRecursion (λ e. bytes_eq e.0 key ≡ false) es
keys_apart key [] is = tt
keys_apart key (e ∷ es) is =
    let parts = absent (bytes_eq e.0 key) e.1 (entry_at key es) is in (parts.0, keys_apart key es parts.1)
  where
    absent : {B : Type 0} (b : Bool) (v : B) (o : Option B) → cond b (Some v) o ≡ None → (b ≡ false) × (o ≡ None)
    absent true v o is = cc
    absent false v o is = (refl, is)

-- a key of no slot is found later
found_later : (key : List ℕ) (ss : List Slot) (later : Option (List ℕ))
    → AllByRecursion (λ s. bytes_eq s.0 key ≡ false) ss → found key ss later ≡ later
found_later key [] later all = refl
found_later key (s ∷ ss) later all =
    ap (λ b. cond b (option_or s.1 (found key ss later)) (found key ss later)) all.0 ∙ found_later key ss later all.1

-- a key that isn't in the table has no slot
pub found-outside : (o : Options) (key : List ℕ) (later : Option (List ℕ)) → entry_at key table ≡ None
    → found key (slots o) later ≡ later
found-outside o key later none = found_later key (slots o) later (keys_apart key table none)
