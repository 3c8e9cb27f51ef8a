-- What views named.
use Rattle.std.proofs.Common.{◌↔◌, ◌⊎◌, inl, inr, ℕ, List, [], ◌∷◌, ◌++◌, Contains, subst, sym, arith}
use Rattle.std.proofs.lemmas.List.Elements.{Contains-append_left, Contains-push, Contains-push_cases}
use Rattle.pm_expire_paths.specs.Dropping.{Adds, AreDropped, DroppingView, HasSeen, IsNamedIn, IsSeen}

none-within : {X : Type 0} (x : X) → Contains [] x → ⊥
none-within x (k, below, is) = absurd (omega (arith, below))

pub first-seen : (none d : DroppingView) (view : List (List ℕ)) → HasSeen [] [] none → Adds none view d → HasSeen [] view d
first-seen none d view before adds = record {
  kept = adds.kept;
  seen = λ path. (
    λ seen. elim ((adds.seen path).0 seen) as (λ _. IsNamedIn [] path ⊎ Contains view path) [
      | inl old ↦ elim ((before.seen path).0 old) as (λ _. IsNamedIn [] path ⊎ Contains view path) [
        | inl named ↦ inl named
        | inr last ↦ absurd (none-within path last)
      ]
      | inr new ↦ inr new
    ],
    λ named. elim named as (λ _. IsSeen d path) [
      | inl in_none ↦ absurd (none-within in_none.0 in_none.1)
      | inr new ↦ (adds.seen path).1 (inr new)
    ],
  );
}

pub next-seen : (views : List (List (List ℕ))) (last view : List (List ℕ)) (d e : DroppingView) → HasSeen views last d → Adds d view e
    → HasSeen (views ++ last ∷ []) view e
next-seen views last view d e before adds = record {
  kept = adds.kept;
  seen = λ path. (
    λ seen. elim ((adds.seen path).0 seen) as (λ _. IsNamedIn (views ++ last ∷ []) path ⊎ Contains view path) [
      | inl old ↦ elim ((before.seen path).0 old) as (λ _. IsNamedIn (views ++ last ∷ []) path ⊎ Contains view path) [
        | inl named ↦ inl (named.0, Contains-append_left views (last ∷ []) named.0 named.1, named.2)
        | inr in_last ↦ inl (last, Contains-push views last, in_last)
      ]
      | inr new ↦ inr new
    ],
    λ named. elim named as (λ _. IsSeen e path) [
      | inl one ↦ elim (Contains-push_cases views last one.0 one.1) as (λ _. IsSeen e path) [
        | inl old ↦ (adds.seen path).1 (inl ((before.seen path).1 (inl (one.0, old, one.2))))
        | inr same ↦ (adds.seen path).1 (inl ((before.seen path).1 (inr (subst (λ (v : List (List ℕ)). Contains v path) (sym same) one.2))))
      ]
      | inr new ↦ (adds.seen path).1 (inr new)
    ],
  );
}

pub dropped-seen : (views : List (List (List ℕ))) (last paths : List (List ℕ)) (d : DroppingView) (path : List ℕ) → HasSeen views last d → AreDropped d paths
    → Contains paths path ↔ (IsNamedIn views path × (Contains last path → ⊥))
dropped-seen views last paths d path before dropped = (
  λ among.
      let gone = (dropped.exact path).0 among in
      let apart : Contains last path → ⊥ = λ in_last. gone.1 ((before.kept path).1 in_last) in
      elim ((before.seen path).0 (inl gone.0)) as (λ _. IsNamedIn views path × (Contains last path → ⊥)) [
        | inl named ↦ (named, apart)
        | inr in_last ↦ absurd (apart in_last)
      ],
  λ named.
      let apart : Contains d.kept path → ⊥ = λ kept. named.1 ((before.kept path).0 kept) in
      elim ((before.seen path).1 (inl named.0)) as (λ _. Contains paths path) [
        | inl gone ↦ (dropped.exact path).1 (gone, apart)
        | inr kept ↦ absurd (apart kept)
      ],
)
