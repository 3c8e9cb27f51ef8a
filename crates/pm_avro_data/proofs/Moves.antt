-- What is a value's bytes before one rest is so before any rest that is as long.
use Rattle.std.proofs.Common.{◌≡◌, ℕ, zero, suc, ◌+◌, ◌-◌, ◌<◌, ◌≤◌, ℤ, pos, negsuc, List, [], ◌∷◌}
use Rattle.std.proofs.Common.{◌++◌, length, refl, sym, ap, subst, ◌∙◌, append_assoc, inl, inr, arith}
use Rattle.std.specs.Prelude.{slice_index}
use Rattle.std.proofs.lemmas.List.{length-append, get_or_append_left}
use Rattle.pm_avro_schema.specs.Avro as types
use Rattle.pm_avro_schema.specs.Avro.{Avro, Fields, no_fields, field, Branches, no_branches, branch}
use Rattle.pm_avro_data.specs.Datum.{Data, null, boolean, int, long, bytes, text, record_of, array_of}
use Rattle.pm_avro_data.specs.Datum.{map_of, union_of, Items, no_items, item, items, entries}
use Rattle.pm_avro_data.specs.Number.{AreGroups, IsNumber, IsInt, IsLong}
use Rattle.pm_avro_data.specs.IsDatum.{IsBytes, IsText, IsEntry, AreItems, IsSized, IsBody, IsBlock}
use Rattle.pm_avro_data.specs.IsDatum.{AreBlocks, IsBlocked, IsDatum, AreFields, IsBranch}
use Rattle.pm_avro_data.proofs.Follows.{Follows, groups_shorter}

-- the rest stands at the end of the source, and the relation holds of the same prefix before any other rest that isn't shorter
pub record Moves (R : List ℕ → List ℕ → Type 0) (source rest : List ℕ) : Type 0 where
  pub prefix : List ℕ
  pub parts : source ≡ prefix ++ rest
  pub moved : (other : List ℕ) → length rest ≤ length other → R (prefix ++ other) other

pub moves_same : (source rest : List ℕ) → source ≡ rest → Moves (λ s r. s ≡ r) source rest
moves_same source rest e = record { prefix = []; parts = e; moved = λ other le. refl }

moves_as : (R S : List ℕ → List ℕ → Type 0) → ((s r : List ℕ) → R s r → S s r) → (source rest : List ℕ) → Moves R source rest → Moves S source rest
moves_as R S f source rest m = record { prefix = m.prefix; parts = m.parts; moved = λ other le. f (m.prefix ++ other) other (m.moved other le) }

-- one after another
moves_then : (A B : List ℕ → List ℕ → Type 0) (source middle rest : List ℕ) → Moves A source middle → Moves B middle rest → Moves (λ s r. (m : List ℕ) × A s m × B m r) source rest
moves_then A B source middle rest p q =
    let len : length middle ≡ length q.prefix + length rest = ap length q.parts ∙ length-append q.prefix rest in
    record {
      prefix = p.prefix ++ q.prefix;
      parts = p.parts ∙ ap (λ (t : List ℕ). p.prefix ++ t) q.parts ∙ sym (append_assoc p.prefix q.prefix rest);
      moved = λ other le.
          let longer : length middle ≤ length (q.prefix ++ other) = omega (arith, length-append q.prefix other) in
          (q.prefix ++ other, subst (λ (t : List ℕ). A t (q.prefix ++ other)) (sym (append_assoc p.prefix q.prefix other)) (p.moved (q.prefix ++ other) longer), q.moved other le);
    }

-- ---- numbers and bytes

groups_move : (source : List ℕ) (n : ℕ) (rest : List ℕ) → AreGroups n source rest → Moves (AreGroups n) source rest
groups_move [] n rest h = absurd h
groups_move (b ∷ source) n rest (inl h) = record { prefix = b ∷ []; parts = ap (λ (t : List ℕ). b ∷ t) h.2; moved = λ other le. inl (h.0, h.1, refl) }
groups_move (b ∷ source) n rest (inr h) =
    let m = groups_move source h.2.0 rest h.2.2 in
    record { prefix = b ∷ m.prefix; parts = ap (λ (t : List ℕ). b ∷ t) m.parts; moved = λ other le. inr (h.0, h.1, (h.2.0, h.2.1, m.moved other le)) }

number_moves : (most top n : ℕ) (source rest : List ℕ) → IsNumber most top n source rest → Moves (IsNumber most top n) source rest
number_moves most top n source rest h =
    let m = groups_move source n rest h.groups in
    let len : length source ≡ length m.prefix + length rest = ap length m.parts ∙ length-append m.prefix rest in
    let some = groups_shorter source n rest h.groups in
    record {
      prefix = m.prefix;
      parts = m.parts;
      moved = λ other le. record {
        groups = m.moved other le;
        short = omega (arith, length-append m.prefix other, h.short);
        last = λ whole.
            let full : length m.prefix ≡ most = omega (arith, length-append m.prefix other) in
            let within : most - 1 < length m.prefix = omega arith in
            let here : slice_index (m.prefix ++ rest) (most - 1) ≤ top = subst (λ (t : List ℕ). slice_index t (most - 1) ≤ top) m.parts (h.last (omega arith)) in
            rw (get_or_append_left m.prefix other 0 (most - 1) within) (rw (get_or_append_left m.prefix rest 0 (most - 1) within) at here);
      };
    }

bytes_move : (bs source rest : List ℕ) → IsBytes bs source rest → Moves (IsBytes bs) source rest
bytes_move bs source rest h =
    let m = number_moves 10 1 _ source (bs ++ rest) h in
    record {
      prefix = m.prefix ++ bs;
      parts = m.parts ∙ sym (append_assoc m.prefix bs rest);
      moved = λ other le.
          let longer : length (bs ++ rest) ≤ length (bs ++ other) = omega (arith, length-append bs rest, length-append bs other) in
          subst (λ (t : List ℕ). IsBytes bs t other) (sym (append_assoc m.prefix bs other)) (m.moved (bs ++ other) longer);
    }

text_moves : (bs source rest : List ℕ) → IsText bs source rest → Moves (IsText bs) source rest
text_moves bs source rest h = moves_as (IsBytes bs) (IsText bs) (λ s r p. (h.0, p)) source rest (bytes_move bs source rest h.1)

-- ---- items and blocks

module _ {X : Type 0} (P : X → List ℕ → List ℕ → Type 0) (each : (x : X) (source rest : List ℕ) → P x source rest → Moves (P x) source rest) where
  items_move : (xs : List X) (source rest : List ℕ) → AreItems P xs source rest → Moves (AreItems P xs) source rest
  items_move [] source rest h = moves_same source rest h
  items_move (x ∷ xs) source rest h = moves_then (P x) (AreItems P xs) source h.0 rest (each x source h.0 h.1) (items_move xs h.0 rest h.2)

  sized_moves : (xs : List X) (source rest : List ℕ) → IsSized P xs source rest → Moves (IsSized P xs) source rest
  sized_moves xs source rest h =
      let p = number_moves 10 1 _ source h.start h.number in
      let q = items_move xs h.start rest h.each in
      let len : length h.start ≡ length q.prefix + length rest = ap length q.parts ∙ length-append q.prefix rest in
      record {
        prefix = p.prefix ++ q.prefix;
        parts = p.parts ∙ ap (λ (t : List ℕ). p.prefix ++ t) q.parts ∙ sym (append_assoc p.prefix q.prefix rest);
        moved = λ other le.
            let longer : length h.start ≤ length (q.prefix ++ other) = omega (arith, length-append q.prefix other) in
            record {
              size = h.size;
              start = q.prefix ++ other;
              number = subst (λ (t : List ℕ). IsLong (pos h.size) t (q.prefix ++ other)) (sym (append_assoc p.prefix q.prefix other)) (p.moved (q.prefix ++ other) longer);
              whole = omega (arith, length-append q.prefix other, h.whole);
              each = q.moved other le;
            };
      }

  body_moves : (count : ℤ) (xs : List X) (source rest : List ℕ) → IsBody P count xs source rest → Moves (IsBody P count xs) source rest
  body_moves (pos n) xs source rest h = moves_as (AreItems P xs) (IsBody P (pos n) xs) (λ s r p. (h.0, p)) source rest (items_move xs source rest h.1)
  body_moves (negsuc n) xs source rest h = moves_as (IsSized P xs) (IsBody P (negsuc n) xs) (λ s r p. (h.0, p)) source rest (sized_moves xs source rest h.1)

  block_moves : (xs : List X) (source rest : List ℕ) → IsBlock P xs source rest → Moves (IsBlock P xs) source rest
  block_moves xs source rest h =
      let p = number_moves 10 1 _ source h.left h.number in
      let q = body_moves h.count xs h.left rest h.body in
      let len : length h.left ≡ length q.prefix + length rest = ap length q.parts ∙ length-append q.prefix rest in
      record {
        prefix = p.prefix ++ q.prefix;
        parts = p.parts ∙ ap (λ (t : List ℕ). p.prefix ++ t) q.parts ∙ sym (append_assoc p.prefix q.prefix rest);
        moved = λ other le.
            let longer : length h.left ≤ length (q.prefix ++ other) = omega (arith, length-append q.prefix other) in
            record {
              count = h.count;
              left = q.prefix ++ other;
              some = h.some;
              number = subst (λ (t : List ℕ). IsLong h.count t (q.prefix ++ other)) (sym (append_assoc p.prefix q.prefix other)) (p.moved (q.prefix ++ other) longer);
              within = omega (arith, h.within);
              body = q.moved other le;
            };
      }

  blocks_move : (blocks : List (List X)) (source rest : List ℕ) → AreBlocks P blocks source rest → Moves (AreBlocks P blocks) source rest
  blocks_move [] source rest h = number_moves 10 1 _ source rest h
  blocks_move (xs ∷ blocks) source rest h = moves_then (IsBlock P xs) (AreBlocks P blocks) source h.0 rest (block_moves xs source h.0 h.1) (blocks_move blocks h.0 rest h.2)

  blocked_moves : (xs : List X) (source rest : List ℕ) → IsBlocked P xs source rest → Moves (IsBlocked P xs) source rest
  blocked_moves xs source rest h = moves_as (AreBlocks P h.0) (IsBlocked P xs) (λ s r p. (h.0, h.1, p)) source rest (blocks_move h.0 source rest h.2)

entry_moves : (P : Data → List ℕ → List ℕ → Type 0) → ((d : Data) (source rest : List ℕ) → P d source rest → Moves (P d) source rest) → (e : List ℕ × Data) (source rest : List ℕ) → IsEntry P e source rest → Moves (IsEntry P e) source rest
entry_moves P each e source rest h = moves_then (IsText e.0) (P e.1) source h.0 rest (text_moves e.0 source h.0 h.1) (each e.1 h.0 rest h.2)

-- ---- data

mutual
  pub datum_moves : (t : Avro) (d : Data) (source rest : List ℕ) → IsDatum t d source rest → Moves (IsDatum t d) source rest
  datum_moves types.null null source rest h = moves_same source rest h
  datum_moves types.boolean (boolean b) source rest h = record { prefix = _ ∷ []; parts = h; moved = λ other le. refl }
  datum_moves types.int (int z) source rest h = number_moves 5 15 _ source rest h
  datum_moves types.long (long z) source rest h = number_moves 10 1 _ source rest h
  datum_moves types.bytes (bytes bs) source rest h = bytes_move bs source rest h
  datum_moves types.text (text bs) source rest h = text_moves bs source rest h
  datum_moves (types.record_of fs) (record_of ds) source rest h = fields_move fs ds source rest h
  datum_moves (types.array_of t) (array_of ds) source rest h = blocked_moves (IsDatum t) (datum_moves t) (items ds) source rest h
  datum_moves (types.map_of t) (map_of es) source rest h = blocked_moves (IsEntry (IsDatum t)) (entry_moves (IsDatum t) (datum_moves t)) (entries es) source rest h
  datum_moves (types.union_of ts) (union_of k d) source rest h =
      moves_then (IsInt (pos k)) (IsBranch ts k d) source h.0 rest (number_moves 5 15 _ source h.0 h.1) (branch_moves ts k d h.0 rest h.2)
  datum_moves t d source rest h = absurd h

  fields_move : (fs : Fields) (ds : Items) (source rest : List ℕ) → AreFields fs ds source rest → Moves (AreFields fs ds) source rest
  fields_move no_fields no_items source rest h = moves_same source rest h
  fields_move (field name t fs) (item d ds) source rest h =
      moves_then (IsDatum t d) (AreFields fs ds) source h.0 rest (datum_moves t d source h.0 h.1) (fields_move fs ds h.0 rest h.2)
  fields_move fs ds source rest h = absurd h

  branch_moves : (ts : Branches) (k : ℕ) (d : Data) (source rest : List ℕ) → IsBranch ts k d source rest → Moves (IsBranch ts k d) source rest
  branch_moves no_branches k d source rest h = absurd h
  branch_moves (branch t ts) zero d source rest h = datum_moves t d source rest h
  branch_moves (branch t ts) (suc k) d source rest h = branch_moves ts k d source rest h

-- ---- the rest stands at the end

pub datum_follows : (t : Avro) (d : Data) (source rest : List ℕ) → IsDatum t d source rest → Follows source rest
datum_follows t d source rest h = let m = datum_moves t d source rest h in record { prefix = m.prefix; parts = m.parts }

pub entry_follows : (t : Avro) (e : List ℕ × Data) (source rest : List ℕ) → IsEntry (IsDatum t) e source rest → Follows source rest
entry_follows t e source rest h = let m = entry_moves (IsDatum t) (datum_moves t) e source rest h in record { prefix = m.prefix; parts = m.parts }
