-- What joined lists of entries leave, and what one entry leaves.
use Rattle.std.proofs.Common.{◌≡◌, ◌≢◌, ◌↔◌, ℕ, Bool, true, false, cond, not, filter, List, [], ◌∷◌, ◌++◌, Option, None, Some, is_some, if◌then◌else◌, length, take, refl, ap, sym, subst, ◌∙◌, arith, length-append, ◌⊎◌, inl, inr, true≢false}
use Rattle.std.specs.List.{AllByRecursion, last_or}
use Rattle.std.specs.Option.{option_map_or}
use Rattle.std.proofs.lemmas.List.Elements.{filter-append}
use Rattle.pm_values.specs.declared.refusal.Refusal.{Refusal}
use Rattle.pm_values.specs.declared.refusal.Refusal.TheVariants as refusals
use Rattle.pm_manifest.specs.declared.entry.Entry.{Entry}
use Rattle.pm_manifest.specs.declared.file_id.FileId.{FileId}
use Rattle.pm_manifest.specs.FileId.{id_eq}
use Rattle.pm_manifest.specs.Live.{Live, id_of, left_by, live_at, live_after, CanFollow, AreInOrder, Leaves, LeavesFirst, IsOutOfOrder, Refuses, RefusesEntry}
use Rattle.pm_manifest.proofs.IdLemmas.{same_id, equal_id}
use Rattle.pm_manifest.proofs.OrderLemmas.{Each-append, Each-first, Each-later, Each-one, slice_get-append, take-append}

last_or-append : {X : Type 0} (o : Option X) (xs ys : List X) → last_or o (xs ++ ys) ≡ last_or (last_or o xs) ys
last_or-append o [] ys = refl
last_or-append o (x ∷ xs) ys = last_or-append (Some x) xs ys

-- a last item takes the place of what there was before
with_last : (x : Entry) (xs : List Entry) (b c : Option Entry) → option_map_or left_by (last_or (Some x) xs) b ≡ option_map_or left_by (last_or (Some x) xs) c
with_last x [] b c = refl
with_last x (y ∷ ys) b c = with_last y ys b c

after_last : (o : Option Entry) (xs : List Entry) (b : Option Entry) → option_map_or left_by (last_or o xs) b ≡ option_map_or left_by (last_or None xs) (option_map_or left_by o b)
after_last o [] b = refl
after_last o (x ∷ xs) b = with_last x xs b (option_map_or left_by o b)

-- joined lists leave of a file what the second leaves after the first
pub live_at-append : (b : Option Entry) (id : FileId) (xs ys : List Entry) → live_at b id (xs ++ ys) ≡ live_at (live_at b id xs) id ys
live_at-append b id xs ys =
    let own : Entry → Bool = λ e. id_eq (id_of e) id in
    ap (λ es. option_map_or left_by (last_or None es) b) (filter-append own xs ys)
    ∙ ap (λ o. option_map_or left_by o b) (last_or-append None (filter own xs) (filter own ys))
    ∙ after_last (last_or None (filter own xs)) (filter own ys) b

-- an entry can follow joined lists where it can follow the second after the first
follows-append : (before : Live) (xs ys : List Entry) (e : Entry) → CanFollow (live_after before (xs ++ ys)) e ≡ CanFollow (live_after (live_after before xs) ys) e
follows-append before xs ys e = ap (λ o. is_some o ≡ not e.add) (live_at-append (before (id_of e)) (id_of e) xs ys)

module _ (before : Live) where
  -- joined lists are in order where the first is, and the second after it
  pub AreInOrder-append : (xs ys : List Entry) → AreInOrder before xs → AreInOrder (live_after before xs) ys → AreInOrder before (xs ++ ys)
  AreInOrder-append xs ys first later =
      Each-append (λ es. CanFollow (live_after before es)) xs ys first
      (λ i e is. subst (λ T. T) (sym (follows-append before xs (take i ys) e)) (later i e is))

  pub AreInOrder-parts : (xs ys : List Entry) → AreInOrder before (xs ++ ys) → AreInOrder before xs × AreInOrder (live_after before xs) ys
  AreInOrder-parts xs ys all = (
    Each-first (λ es. CanFollow (live_after before es)) xs ys all,
    λ i e is. subst (λ T. T) (follows-append before xs (take i ys) e) (Each-later (λ es. CanFollow (live_after before es)) xs ys all i e is),
  )

  -- an entry that can follow keeps the order
  pub AreInOrder-push : (done : List Entry) (e : Entry) → AreInOrder before done → CanFollow (live_after before done) e → AreInOrder before (done ++ e ∷ [])
  AreInOrder-push done e order follows =
      AreInOrder-append done (e ∷ []) order (Each-one (λ es. CanFollow (live_after (live_after before done) es)) e follows)

  -- what is left after one more entry
  pub Leaves-append : (xs ys : List Entry) (mid after : Live) → Leaves before xs mid → Leaves mid ys after → Leaves before (xs ++ ys) after
  Leaves-append xs ys mid after first later id =
      later id ∙ ap (λ o. live_at o id ys) (first id) ∙ sym (live_at-append (before id) id xs ys)

  -- what can follow what is live can follow what was left, and the other way round
  pub follows-left : (done : List Entry) (mid : Live) (e : Entry) → Leaves before done mid → CanFollow mid e ↔ CanFollow (live_after before done) e
  follows-left done mid e left =
      let same : is_some (mid (id_of e)) ≡ is_some (live_after before done (id_of e)) = ap is_some (left (id_of e)) in
      (λ f. sym same ∙ f, λ f. same ∙ f)

  -- the first entries of a list were taken, and no more
  pub LeavesFirst-here : (done rest all : List Entry) (after : Live) → done ++ rest ≡ all → AreInOrder before done → Leaves before done after → LeavesFirst before all after (length done)
  LeavesFirst-here done rest all after joined order left =
      subst (λ es. LeavesFirst before es after (length done)) joined
      (let prefix = sym (take-append done rest) in
      record {
        within = grind (arith, length-append);
        order = subst (AreInOrder before) prefix order;
        left = subst (λ es. Leaves before es after) prefix left;
      })

  -- the entry after them can't follow them
  pub IsOutOfOrder-here : (done : List Entry) (e : Entry) (rest all : List Entry) → done ++ e ∷ rest ≡ all → (CanFollow (live_after before done) e → ⊥) → IsOutOfOrder before all (length done)
  IsOutOfOrder-here done e rest all joined out =
      subst (λ es. IsOutOfOrder before es (length done)) joined
      (e, slice_get-append done e rest, subst (λ es. CanFollow (live_after before es) e → ⊥) (sym (take-append done (e ∷ rest))) out)

  -- an entry that is refused after some refuses them all
  pub Refuses-here : (path : List ℕ) (done : List Entry) (e : Entry) (rest all : List Entry) (mid after : Live) (r : Refusal)
      → done ++ e ∷ rest ≡ all → AreInOrder before done → Leaves before done mid → Leaves mid [] after
      → RefusesEntry path mid e r → Refuses path all before after r
  Refuses-here path done e rest all mid after refusals.Memory joined order left kept h =
      (length done, LeavesFirst-here done (e ∷ rest) all after joined order (λ id. kept id ∙ left id))
  Refuses-here path done e rest all mid after (refusals.Damaged at place) joined order left kept h = (
    h.0,
    h.1,
    length done,
    IsOutOfOrder-here done e rest all joined (λ f. h.2 ((follows-left done mid e left).1 f)),
    LeavesFirst-here done (e ∷ rest) all after joined order (λ id. kept id ∙ left id),
  )
  Refuses-here path done e rest all mid after other joined order left kept h = h

-- what one entry leaves of a file
pub live_at-one : (b : Option Entry) (id : FileId) (e : Entry) → live_at b id (e ∷ []) ≡ cond (id_eq (id_of e) id) (left_by e) b
live_at-one b id e = by (id_eq (id_of e) id)
  where
    by : (own : Bool) → option_map_or left_by (last_or None (cond own (e ∷ []) [])) b ≡ cond own (left_by e) b
    by true = refl
    by false = refl

-- where only the file of an entry changes, to what the entry leaves, that is what the entry leaves
pub Leaves-one : (before after : Live) (id : FileId) (e : Entry) (w : Option Entry) → left_by e ≡ w → id_of e ≡ id
    → ((q : FileId) → after q ≡ cond (id_eq id q) w (before q)) → Leaves before (e ∷ []) after
Leaves-one before after id e w left own changed q =
    changed q
    ∙ ap (λ o. cond (id_eq id q) o (before q)) (sym left)
    ∙ ap (λ i. cond (id_eq i q) (left_by e) (before q)) (sym own)
    ∙ sym (live_at-one (before q) q e)

pub left_by-add : (e : Entry) → e.add ≡ true → left_by e ≡ Some e
left_by-add e add = ap (λ b. if b then Some e else None) add

pub left_by-delete : (e : Entry) → e.add ≡ false → left_by e ≡ None
left_by-delete e delete = ap (λ b. if b then Some e else None) delete

-- a test that is never true is false
untrue : (b : Bool) → (b ≡ true → ⊥) → b ≡ false
untrue true never = absurd (never refl)
untrue false never = refl

-- where no entry is of a file, what is live of it stays
pub others : (b : Option Entry) (id : FileId) (entries : List Entry) → AllByRecursion (λ (other : Entry). id_of other ≢ id) entries → live_at b id entries ≡ b
others b id [] all = refl
others b id (e ∷ entries) all =
    let other = untrue (id_eq (id_of e) id) (λ q. all.0 (same_id (id_of e) id q)) in
    live_at-append b id (e ∷ []) entries
    ∙ ap (λ o. live_at o id entries) (live_at-one b id e ∙ ap (λ t. cond t (left_by e) b) other)
    ∙ others b id entries all.1

-- an entry after which no other of its file comes
pub last : (b : Option Entry) (first later : List Entry) (e : Entry) → AllByRecursion (λ (other : Entry). id_of other ≢ id_of e) later → live_at b (id_of e) (first ++ e ∷ later) ≡ left_by e
last b first later e all =
    let id = id_of e in
    let mid = live_at b id first in
    live_at-append b id first (e ∷ later)
    ∙ live_at-append mid id (e ∷ []) later
    ∙ ap (λ o. live_at o id later) (live_at-one mid id e ∙ ap (λ t. cond t (left_by e) mid) (equal_id id id refl))
    ∙ others (left_by e) id later all

same_entry : (a b : Entry) → Some a ≡ Some b → a ≡ b
same_entry a b e = cc

-- what an entry leaves of its file is an ADD of it
added : (x e : Entry) (id : FileId) → id_of x ≡ id → left_by x ≡ Some e → (e.add ≡ true) × (id_of e ≡ id)
added x e id own = by x.add refl
  where
    by : (add : Bool) → x.add ≡ add → (if add then Some x else None) ≡ Some e → (e.add ≡ true) × (id_of e ≡ id)
    by true is left = subst (λ y. (y.add ≡ true) × (id_of y ≡ id)) (same_entry x e left) (is, own)
    by false is left = absurd (true≢false (sym (ap is_some left)))

one_added : (b : Option Entry) (id : FileId) (x e : Entry) → live_at b id (x ∷ []) ≡ Some e → (b ≡ Some e) ⊎ ((e.add ≡ true) × (id_of e ≡ id))
one_added b id x e is = by (id_eq (id_of x) id) refl (sym (live_at-one b id x) ∙ is)
  where
    by : (own : Bool) → id_eq (id_of x) id ≡ own → cond own (left_by x) b ≡ Some e → (b ≡ Some e) ⊎ ((e.add ≡ true) × (id_of e ≡ id))
    by true own left = inr (added x e id (same_id (id_of x) id own) left)
    by false other kept = inl kept

-- what is live of a file was live before, or it is an ADD of that file
pub whence : (b : Option Entry) (id : FileId) (entries : List Entry) (e : Entry) → live_at b id entries ≡ Some e → (b ≡ Some e) ⊎ ((e.add ≡ true) × (id_of e ≡ id))
whence b id [] e is = inl is
whence b id (x ∷ xs) e is = by (whence (live_at b id (x ∷ [])) id xs e (sym (live_at-append b id (x ∷ []) xs) ∙ is))
  where
    by : (live_at b id (x ∷ []) ≡ Some e) ⊎ ((e.add ≡ true) × (id_of e ≡ id)) → (b ≡ Some e) ⊎ ((e.add ≡ true) × (id_of e ≡ id))
    by (inl first) = one_added b id x e first
    by (inr later) = inr later

-- a DELETE of a file at one level and an ADD of it at another move it
pub moved : (before : Live) (from to : Entry) → from.add ≡ false → to.add ≡ true
    → to.group ≡ from.group → to.file.name ≡ from.file.name → to.file.level ≢ from.file.level
    → (live_after before (from ∷ to ∷ []) (id_of from) ≡ None) × (live_after before (from ∷ to ∷ []) (id_of to) ≡ Some to)
moved before from to went came group name apart =
    let other : id_of to ≢ id_of from = λ e. apart (ap (λ (i : FileId). i.level) e) in (
      last (before (id_of from)) [] (to ∷ []) from (other, tt) ∙ left_by-delete from went,
      last (before (id_of to)) (from ∷ []) [] to tt ∙ left_by-add to came,
    )
