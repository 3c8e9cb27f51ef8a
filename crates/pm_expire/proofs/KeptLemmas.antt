-- Where no snapshot is to go no path changes; and the consumers, read again, lower no end.
use Rattle.std.proofs.Common.{◌≡◌, ℕ, ◌≤◌, ℤ, List, ◌∷◌, ◌++◌, Option, None, Some, max, min, refl, sym, ap, ◌∙◌, subst, arith}
use Rattle.pm_store.specs.Files.{Files}
use Rattle.pm_store.specs.Store.{StoreView, IsAlone}
use Rattle.pm_machine.specs.Trace.{Event, Traces}
use Rattle.pm_model_history.specs.History.{History}
use Rattle.pm_model_folder.specs.Folder.{Folder}
use Rattle.pm_model_folder.specs.Ledger.{count_of}
use Rattle.pm_consumer_files.specs.declared.lines.NamedConsumer.{NamedConsumer}
use Rattle.pm_expire_end.specs.declared.keep.Keep.{Keep}
use Rattle.pm_expire_end.specs.Expiry.{AreConsecutive, KeepsNeeded, expire_end_of, first_id}
use Rattle.pm_read_schema.specs.AllCalls.{HasFiles}
use Rattle.pm_read_schema.proofs.StillLemmas.{AreTold, IsTold, stayed}
use Rattle.pm_consumers.specs.AllCalls.{AreConsumersOf}
use Rattle.pm_consumers.proofs.AllCallsLemmas as consumers_calls
use Rattle.pm_read_expiry.specs.Times.{IsLeastNext}
use Rattle.pm_read_expiry.specs.Trace.{listed_floors, HasFound, all_read, none_listed}
use Rattle.pm_read_expiry.specs.declared.asking.Asking.{Asking}
use Rattle.pm_read_expiry.specs.declared.asking.Found.{Found}
use Rattle.pm_announce.specs.Announcer.{end_after}
use Rattle.pm_expire.specs.AllCalls.{Becomes, FindsIn, IsEndIn, IsFirst, KeepsAll, all_found, all_stay, none_found, none_there}
use Rattle.pm_expire.proofs.FoundLemmas.{found, found_still, split}
use Rattle.pm_expire.proofs.OneEndLemmas.{has_next, one_next}

-- ---- no path changes

becomes_same : (a : Asking) (f : Files) (h : History) (x : Found) (first last : ℕ) → x.end ≡ x.first → first ≡ x.end → last ≡ x.last → FindsIn a f h x
    → Becomes a (count_of h) f f first last
becomes_same a f h x first last none is_first is_last (none_found empty is) =
    none_there empty (is_first ∙ is.end) (is_last ∙ is.last) (λ path. refl)
becomes_same a f h x first last none is_first is_last (all_found end least newest schema floors) =
    all_stay (subst (IsEndIn a f) (sym is_first) end) (subst (IsFirst f a.schema) (sym (is_first ∙ none)) least) (is_last ∙ newest) (λ path. refl)

pub kept : (a : Asking) (x : Found) (first last : ℕ) (own : List Event) (before after : StoreView) (f : Files) (h : History) → x.end ≡ x.first
    → first ≡ x.end → last ≡ x.last → HasFound a x own → Traces own before after → IsAlone before after → HasFiles f before → Folder f h
    → KeepsAll a f h first last before after
kept a x first last own before after f h none is_first is_last has trace alone files folder =
    let so = found a x own before after f h has trace alone files folder in
    record { files = so.files; table = so.table; becomes = becomes_same a f h x first last none is_first is_last so.finds }

-- ---- read again

abbrev pub EndLaw : Type 0
EndLaw = (times : List (ℕ × ℤ)) (keep : Keep) (now : ℤ) (next : Option ℕ) → AreConsecutive times → 1 ≤ keep.min
    → KeepsNeeded times keep now next (expire_end_of times keep now next)

squeeze : (first end next low high : ℕ) → first ≡ low → end ≡ high → low ≤ high → high ≤ max low next → max first (min end next) ≡ end
squeeze first end next low high is_low is_high order most = omega (arith, is_low, is_high, order, most)

again_of : (a : Asking) (x : Found) (chain : List (ℕ × ℤ)) (next : Option ℕ) → KeepsNeeded chain a.keep a.now next (expire_end_of chain a.keep a.now next)
    → x.first ≡ first_id chain → x.end ≡ expire_end_of chain a.keep a.now next → end_after x next ≡ x.end
again_of a x chain None keeps first end = refl
again_of a x chain (Some n) keeps first end =
    squeeze x.first x.end n (first_id chain) (expire_end_of chain a.keep a.now (Some n)) first end keeps.first (keeps.consumer n refl)

none_again : (x : Found) (next : Option ℕ) → x.first ≡ 0 → x.end ≡ 0 → end_after x next ≡ x.end
none_again x None first end = refl
none_again x (Some n) first end = omega (arith, first, end)

again_at : EndLaw → (a : Asking) (x : Found) (own : List Event) (f : Files) (h : History) (cs : List NamedConsumer) (next : Option ℕ) → 1 ≤ a.keep.min
    → Folder f h → HasFound a x own → AreTold f own → AreConsumersOf f cs → IsLeastNext cs next → end_after x next ≡ x.end
again_at law a x own f h cs next some folder (none_listed none ids) told are least = none_again x next none.first none.end
again_at law a x own f h cs next some folder (all_read floors first r lines done is) told are least =
    let t = lines.read in
    let l = t.listed in
    let whole = split (IsTold f) t.before t.reads (subst (AreTold f) t.is told) in
    let before = split (IsTold f) l.first (listed_floors l.names ∷ l.rest) (subst (AreTold f) l.is whole.0) in
    let ds : List NamedConsumer = l.then_consumers.0 in
    let were = consumers_calls.listed_at f h folder ds l.rest l.then_consumers.1 before.1.1 in
    let same : first ≡ next = one_next ds cs first next (has_next f ds cs were are) (has_next f cs ds are were) l.then_consumers.2 least in
    subst (λ (next : Option ℕ). end_after x next ≡ x.end) same
    (again_of a x is.chain first (law is.chain a.keep a.now first is.is_chain.each some) is.first is.end)

pub again : EndLaw → (a : Asking) (x : Found) (own : List Event) (before after : StoreView) (f : Files) (h : History) (cs : List NamedConsumer)
    (next : Option ℕ) → 1 ≤ a.keep.min → HasFound a x own → Traces own before after → IsAlone before after → HasFiles f before → Folder f h
    → AreConsumersOf f cs → IsLeastNext cs next → end_after x next ≡ x.end
again law a x own before after f h cs next some has trace alone files folder are least =
    let stay = stayed f own before after (found_still a x own has) trace alone files in
    again_at law a x own f h cs next some folder has stay.1 are least
