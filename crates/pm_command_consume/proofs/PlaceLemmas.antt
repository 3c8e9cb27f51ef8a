-- How a consumer stands of which something was found.
use Rattle.std.proofs.Common.{◌≡◌, ℕ, Bool, true, false, List, Option, None, Some, Ok, refl, ap, ◌∙◌}
use Rattle.pm_snapshot.specs.declared.consumer.Consumer.{Consumer}
use Rattle.pm_read_consumer.specs.Reader.{Says}
use Rattle.pm_register.specs.Registrar.{IsUnregistered, consumer_at}
use Rattle.pm_command_consume.specs.Place.{settled_next}

-- a consumer, by what it reads next and whether it is new
as_read : (x : Consumer) (is_new : Bool) → x.fresh ≡ is_new → x ≡ consumer_at x.next is_new
as_read x is_new is = ap (λ (is_new : Bool). consumer_at x.next is_new) is

pub settled_is : (said : Option Consumer) (next : ℕ) → settled_next said ≡ Some next → said ≡ Some (consumer_at next false)
settled_is None next is = absurd cc
settled_is (Some x) next is = by x.fresh refl is
  where
    by : (is_new : Bool) → x.fresh ≡ is_new → settled_next (Some (consumer_at x.next is_new)) ≡ Some next → Some x ≡ Some (consumer_at next false)
    by true new none = absurd cc
    by false known one =
        let same : x.next ≡ next = cc in
        ap Some (as_read x false known) ∙ ap (λ (next : ℕ). Some (consumer_at next false)) same

pub unsettled_is : (bytes : List ℕ) (said : Option Consumer) → Says (Some bytes) said → settled_next said ≡ None → IsUnregistered (Some bytes)
unsettled_is bytes None says none = absurd says
unsettled_is bytes (Some x) says none = by x.fresh refl none
  where
    by : (is_new : Bool) → x.fresh ≡ is_new → settled_next (Some (consumer_at x.next is_new)) ≡ None → IsUnregistered (Some bytes)
    by true new none = (x.next, says ∙ ap Ok (as_read x true new))
    by false known one = absurd cc
