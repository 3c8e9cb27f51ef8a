-- What isn't so of a try that is allowed, and which refusals keep one from it.
use Rattle.std.proofs.Common.{◌≡◌, ◌<◌, Bool, true, false, cond, length, Option, None, Some, refl, subst, arith}
use Rattle.std.proofs.lemmas.Bool.Decides.{nat_tests}
use Rattle.pm_values.specs.declared.refusal.Refusal.{Refusal}
use Rattle.pm_values.specs.declared.refusal.Refusal.TheVariants as refusals
use Rattle.pm_snapshot.specs.Names.{greatest}
use Rattle.pm_manifest.specs.declared.entry.Entry.{Entry}
use Rattle.pm_write.specs.Files.{no_sequence}
use Rattle.pm_made.specs.Intent.{batch_of, removed_of}
use Rattle.pm_made.specs.Refusals.{above_files, above_id, above_numbers, first_not_live, is_fenced, limit_of, live_count, no_files, no_id, not_live, not_live_or, passed, refusal_of}
use Rattle.pm_made.specs.declared.intent.Intent.{Intent}
use Rattle.pm_made.specs.declared.newest.Author.{Author}
use Rattle.pm_made.specs.declared.newest.Newest.{Newest}

-- a try that is allowed isn't fenced, all files that it takes away are live, and no limit would be exceeded
pub record IsAllowed (newest : Newest) (author : Author) (intent : Intent) : Type 0 where
  pub fence : is_fenced newest author ≡ false
  pub live : first_not_live newest.live.items (removed_of intent) ≡ None
  pub files : above_files (live_count (length newest.live.items) intent) ≡ false
  pub numbers : above_numbers newest.live.items (batch_of intent) ≡ false
  pub id : above_id newest.id ≡ false

some-no : (x : Refusal) → Some x ≡ None → ⊥
some-no x is = cc

unless : (t : Bool) (x : Refusal) (later : Option Refusal) → cond t (Some x) later ≡ None → (t ≡ false) × (later ≡ None)
unless true x later is = absurd (some-no x is)
unless false x later is = (refl, is)

unless-found : (o : Option Entry) (later : Option Refusal) → not_live_or o later ≡ None → (o ≡ None) × (later ≡ None)
unless-found None later is = (refl, is)
unless-found (Some e) later is = absurd (some-no (not_live e) is)

pub allowed-of : (newest : Newest) (author : Author) (intent : Intent) → refusal_of newest author intent ≡ None → IsAllowed newest author intent
allowed-of newest author intent is =
    let fence = unless (is_fenced newest author) (passed newest author) _ is in
    let live = unless-found (first_not_live newest.live.items (removed_of intent)) (limit_of newest intent) fence.1 in
    let files = unless (above_files (live_count (length newest.live.items) intent)) no_files _ live.1 in
    let numbers = unless (above_numbers newest.live.items (batch_of intent)) no_sequence _ files.1 in
    record {
      fence = fence.0;
      live = live.0;
      files = files.0;
      numbers = numbers.0;
      id = (unless (above_id newest.id) no_id None numbers.1).0;
    }

-- the id after the newest may stand in a name
pub allowed-id : (newest : Newest) (author : Author) (intent : Intent) → refusal_of newest author intent ≡ None → newest.id < greatest
allowed-id newest author intent allowed = let below = (allowed-of newest author intent allowed).id in grind (arith, nat_tests)

-- ---- reasons against a commit

abbrev pub IsReason : Refusal → Type 0
IsReason (refusals.Fenced base fence) = Unit {0}
IsReason (refusals.CompactTaken file) = Unit {0}
IsReason (refusals.Limit which number) = Unit {0}
IsReason other = ⊥

some-reason : (one other : Refusal) → IsReason one → Some one ≡ Some other → IsReason other
some-reason one other is e = let same : one ≡ other = cc in subst IsReason same is

none-reason : (refusal : Refusal) → None ≡ Some refusal → IsReason refusal
none-reason refusal e = absurd (let clash = e in cc)

live-reason : (o : Option Entry) (later : Option Refusal) (refusal : Refusal) → (later ≡ Some refusal → IsReason refusal) → not_live_or o later ≡ Some refusal
    → IsReason refusal
live-reason None later refusal rest e = rest e
live-reason (Some entry) later refusal rest e = some-reason (not_live entry) refusal tt e

or-reason : (t : Bool) (one refusal : Refusal) (later : Option Refusal) → IsReason one → (later ≡ Some refusal → IsReason refusal)
    → cond t (Some one) later ≡ Some refusal → IsReason refusal
or-reason true one refusal later is rest e = some-reason one refusal is e
or-reason false one refusal later is rest e = rest e

pub is-reason : (newest : Newest) (author : Author) (intent : Intent) (refusal : Refusal) → refusal_of newest author intent ≡ Some refusal → IsReason refusal
is-reason newest author intent refusal is =
    or-reason (is_fenced newest author) (passed newest author) refusal _ tt
    (live-reason (first_not_live newest.live.items (removed_of intent)) (limit_of newest intent) refusal
    (or-reason (above_files (live_count (length newest.live.items) intent)) no_files refusal _ tt
    (or-reason (above_numbers newest.live.items (batch_of intent)) no_sequence refusal _ tt
    (or-reason (above_id newest.id) no_id refusal None tt (none-reason refusal))))) is
