-- An expiry beside who registers a consumer.
use Rattle.std.proofs.Common.{◌≡◌, ◌⊎◌, inl, inr, ℕ, ◌≤◌, List, [], Contains, true, Some, refl, sym, ap, subst, ◌∙◌, arith}
use Rattle.std.proofs.lemmas.Option.{same_Some}
use Rattle.pm_store.specs.Files.{Files}
use Rattle.pm_snapshot.specs.declared.consumer.Consumer.{Consumer}
use Rattle.pm_model_consumers.specs.Changes.{HasLost}
use Rattle.pm_model_consumers.specs.Claims.{Counts, Said, new_at}
use Rattle.pm_model_folder.specs.Changes.{Actor}
use Rattle.pm_model_folder.specs.Consumers.{follower_of, said_at, said_in, said_of}
use Rattle.pm_model_folder.specs.Ledger.{Past, Stands}
use Rattle.pm_model_folder.specs.Meaning.{ConsumerAt, IsLeast}
use Rattle.pm_model_folder.proofs.LedgerFacts.{at-table}
use Rattle.pm_model_expiry.specs.Expiry.{HasLeft}
use Rattle.pm_remove.specs.declared.phase.Phase.TheVariants as removers
use Rattle.pm_expire.specs.Meaning as expirer
use Rattle.pm_expire.specs.Meaning.{KnowsDone}
use Rattle.pm_expire.proofs.DoneLemmas.{Counted, kept_for}
use Rattle.pm_expire.specs.declared.phase.Phase as expiring
use Rattle.pm_expire.specs.declared.phase.Phase.TheVariants as expirers
use Rattle.pm_register.specs.Meaning.{WaitsIn}
use Rattle.pm_register.specs.Registrar.{Registering}
use Rattle.pm_register.specs.declared.phase.Phase.TheVariants as registrars
use Rattle.pm_register.specs.declared.phase.Registration.{Registration}
use Rattle.pm_actors.specs.World.{HasEnd, Knows, expires, registers}

-- what is said of a consumer by its bytes
said_next : (f : Files) (name : List ℕ) (c : Consumer) (n : ℕ) → ConsumerAt f name c → said_at f name ≡ Some (new_at n) → c.next ≡ n
said_next f name c n (bytes, is, reads) says =
    ap (λ (s : Said). s.next) (same_Some (record { next = c.next; fresh = c.fresh }) (new_at n) (sym (ap said_in is ∙ ap said_of reads) ∙ says))

none_within : {X : Type 0} (x : X) → Contains [] x → ⊥
none_within x (k, below, is) = absurd (omega (arith, below))

module _ (counted : Counted) (me : Actor) (r : Registering) (f : Files) (p : Past) (stands : Stands f p) where
  -- who waits, and has listed the floors, counts
  counts : WaitsIn me r true f p → Counts (p.claims r.name)
  counts waits = subst Counts (sym waits.claim) refl

  -- once the consumers were read again
  read_again : (end : ℕ) → HasLeft f p end [] → WaitsIn me r true f p → end ≤ r.next
  read_again end left waits = elim (left.counted r.name (new_at r.next) (counts waits) waits.file) as (λ _. end ≤ r.next) [
    | inl low ↦ low
    | inr there ↦ absurd (none_within r.name there)
  ]

  -- once it is done
  is_done : (first last : ℕ) → KnowsDone first last f p → 1 ≤ r.next → WaitsIn me r true f p → first ≤ r.next
  is_done first last done some waits =
      let own = at-table f p done.schema stands done.table in
      at (counted f p done.schema own.0 r.name stands own.1 (counts waits))
    where
      at : (least : ℕ) × IsLeast f done.schema least × ((c : Consumer) × ConsumerAt f r.name c × (least ≤ c.next)) → first ≤ r.next
      at (least, is, (c, there, low)) =
          let same = said_next f r.name c r.next there waits.file in
          kept_for first last least r.next f p stands done is (omega (arith, low, same)) some

  ends : (m : expiring.Phase) (end : ℕ) → expirer.Knows m f p → HasEnd m end → 1 ≤ r.next → WaitsIn me r true f p → end ≤ r.next
  ends (expirers.Read m) end known has some waits = absurd has
  ends (expirers.Announce m) end known has some waits = absurd has
  ends (expirers.View v m) end known has some waits =
      let above = known.some in
      subst (λ (n : ℕ). n ≤ r.next) (sym has) (read_again v.announced.end (known.end.left (λ same. absurd (omega (arith, above, same)))) waits)
  ends (expirers.Remove first last (removers.Remove q)) end (x, is, order, oldest, newest, known) has some waits =
      subst (λ (n : ℕ). n ≤ r.next) (is ∙ sym has) (read_again x.end known.read waits)
  ends (expirers.Remove first last removers.Removed) end known has some waits = absurd has
  ends (expirers.Remove first last removers.Over) end known has some waits = absurd has
  ends (expirers.Done first last) end known has some waits = subst (λ (n : ℕ). n ≤ r.next) (sym has) (is_done first last known some waits)
  ends expirers.Over end known has some waits = absurd has

pub beside_expiry : Counted → (other me : Actor) (m : expiring.Phase) (end : ℕ) (r : Registering) (g : Registration) (f : Files) (p : Past) → Stands f p
    → Knows (expires other m) f p → HasEnd m end → Knows (registers me r (registrars.Settle g)) f p → (end ≤ r.next) ⊎ HasLost (follower_of me) (p.claims r.name)
beside_expiry counted other me m end r g f p stands known has (is, holds, within, put) = elim put as (λ _. (end ≤ r.next) ⊎ HasLost (follower_of me) (p.claims r.name)) [
  | inl waits ↦ inl (ends counted me r f p stands m end known has is.next waits)
  | inr lost ↦ inr lost
]
