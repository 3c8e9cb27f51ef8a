use Rattle.std.proofs.Common.{◌≡◌, ◌++◌, ◌∷◌, [], ◌+◌, ◌<◌, ◌^◌, pos, length, vec_len}
use Rattle.std.proofs.Common.{drop, map, ℕ, ℤ, List, to_z, w64, sym, ap, ◌∙◌, arith}
use Rattle.std.proofs.lemmas.List.{append-nil}
use Rattle.std.proofs.lemmas.Int.{to_z_pos}
use Rattle.std.proofs.lemmas.Bool.{eqb-true, eqb-false}
use Rattle.pm_avro_data.specs.Datum.{view, items, items_of, entry_view, entries, entries_of}
use Rattle.pm_avro_data.specs.Writing.{integer, sized, encoding, items_encoding, entries_encoding, ItemsFit, EntriesFit}
use Rattle.pm_avro_data.proofs.Loops.{drop_next, drop_none}
use Rattle.pm_avro_data.proofs.Pushing.{blocked_none, blocked_some, length_items, length_entries, onward, block_joined}
use Rattle.pm_avro_data.proofs.writing.+encode.Goals as goal

pub push_items-loop-item-preserved : goal.push_items-loop-item-preserved
push_items-loop-item-preserved t c =
    let x = c.item-item.result in
    let later = drop (c.loop-item.item-index + 1) c.deref-item-items.result.now in
    let next = drop_next c.deref-item-items.result.now c.loop-item.item-index x c.loop-item-test.true c.item-item.is in
    let so_far : c.loop-item.out.items ++ items_encoding (items_of (map view (x ∷ later))) ≡ c.args.out.now.items ++ items_encoding (items_of (map view c.args.items.now.items)) = rw next at c.loop-item.invariant.written in
    let fit : ItemsFit (items_of (map view (x ∷ later))) → ItemsFit (items_of (map view c.args.items.now.items)) = rw next at c.loop-item.invariant.fits in
    record {
      written = rw c.in_ok-push_datum.ensures.written (onward c.loop-item.out.items c.args.out.now.items (encoding (view x)) (items_encoding (items_of (map view later))) _ so_far);
      fits = λ h. fit (c.in_ok-push_datum.ensures.fits, h);
    }

pub push_items-returns-clause-written : goal.push_items-returns-clause-written
push_items-returns-clause-written t c =
    let none = drop_none c.deref-item-items.result.now c.loop-item.item-index c.loop-item-test.false in
    let so_far : c.loop-item.out.items ++ [] ≡ c.args.out.now.items ++ items_encoding (items_of (map view c.args.items.now.items)) = rw none at c.loop-item.invariant.written in
    sym (append-nil c.loop-item.out.items) ∙ so_far

pub push_items-returns-clause-fits : goal.push_items-returns-clause-fits
push_items-returns-clause-fits t c =
    let none = drop_none c.deref-item-items.result.now c.loop-item.item-index c.loop-item-test.false in
    let fit : ItemsFit (items_of (map view [])) → ItemsFit (items_of (map view c.args.items.now.items)) = rw none at c.loop-item.invariant.fits in
    fit tt

pub push_entries-loop-entry-preserved : goal.push_entries-loop-entry-preserved
push_entries-loop-entry-preserved t c =
    let x = c.entry-item.result in
    let later = drop (c.loop-entry.entry-index + 1) c.deref-entry-items.result.now in
    let next = drop_next c.deref-entry-items.result.now c.loop-entry.entry-index x c.loop-entry-test.true c.entry-item.is in
    let rest = entries_encoding (entries_of (map entry_view later)) in
    let so_far : c.loop-entry.out.items ++ entries_encoding (entries_of (map entry_view (x ∷ later))) ≡ c.args.out.now.items ++ entries_encoding (entries_of (map entry_view c.args.entries.now.items)) = rw next at c.loop-entry.invariant.written in
    let fit : EntriesFit (entries_of (map entry_view (x ∷ later))) → EntriesFit (entries_of (map entry_view c.args.entries.now.items)) = rw next at c.loop-entry.invariant.fits in
    let key : c.push_text.new.out.items ≡ c.loop-entry.out.items ++ sized x.0 = c.in_ok-push_text.ensures.written in
    record {
      written = rw (c.in_ok-push_datum.ensures.written, key) (onward (c.loop-entry.out.items ++ sized x.0) c.args.out.now.items (encoding (view x.1)) rest _ (onward c.loop-entry.out.items c.args.out.now.items (sized x.0) (encoding (view x.1) ++ rest) _ so_far));
      fits = λ h. fit (c.in_ok-push_text.ensures.utf8, c.in_ok-push_text.ensures.fits, c.in_ok-push_datum.ensures.fits, h);
    }

pub push_entries-returns-clause-written : goal.push_entries-returns-clause-written
push_entries-returns-clause-written t c =
    let none = drop_none c.deref-entry-items.result.now c.loop-entry.entry-index c.loop-entry-test.false in
    let so_far : c.loop-entry.out.items ++ [] ≡ c.args.out.now.items ++ entries_encoding (entries_of (map entry_view c.args.entries.now.items)) = rw none at c.loop-entry.invariant.written in
    sym (append-nil c.loop-entry.out.items) ∙ so_far

pub push_entries-returns-clause-fits : goal.push_entries-returns-clause-fits
push_entries-returns-clause-fits t c =
    let none = drop_none c.deref-entry-items.result.now c.loop-entry.entry-index c.loop-entry-test.false in
    let fit : EntriesFit (entries_of (map entry_view [])) → EntriesFit (entries_of (map entry_view c.args.entries.now.items)) = rw none at c.loop-entry.invariant.fits in
    fit tt

pub push_array-returns-then-is_empty-clause-written : goal.push_array-returns-then-is_empty-clause-written
push_array-returns-then-is_empty-clause-written t c =
    let empty : vec_len c.args.items.now ≡ 0 = eqb-true _ _ (sym c.if-is_empty.ensures) in
    let none : length c.args.items.now.items ≡ 0 = omega (arith, c.args.items.now.ok.0) in
    c.in_ok-push.ensures.items ∙ ap (λ (x : List ℕ). c.args.out.now.items ++ x) (sym (blocked_none _ (items_encoding (items_of (map view c.args.items.now.items))) (length_items view c.args.items.now.items ∙ none)))

pub push_array-returns-clause-written : goal.push_array-returns-clause-written
push_array-returns-clause-written t c =
    let filled : vec_len c.args.items.now ≡ 0 → ⊥ = eqb-false _ _ (sym c.if-is_empty.ensures) in
    let n = length (items (items_of (map view c.args.items.now.items))) in
    let content = items_encoding (items_of (map view c.args.items.now.items)) in
    let len : n ≡ vec_len c.args.items.now = length_items view c.args.items.now.items ∙ omega (arith, c.args.items.now.ok.0) in
    let count : c.push_integer.new.out.items ≡ c.args.out.now.items ++ integer (pos n) = (let small : c.len.result < 2 ^ 63 = omega arith in let z : to_z w64 c.len.result ≡ pos n = to_z_pos w64 c.len.result small ∙ ap pos (c.len.ensures ∙ sym len) in c.in_ok-push_integer.ensures ∙ ap (λ (k : ℤ). c.args.out.now.items ++ integer k) z) in
    rw (c.in_ok-push-2.ensures.items, c.in_ok-push_items.ensures.written, count)
    (block_joined c.args.out.now.items (integer (pos n)) content ∙ ap (λ (x : List ℕ). c.args.out.now.items ++ x) (sym (blocked_some n content (λ none. filled (sym len ∙ none)))))

pub push_array-returns-clause-fits : goal.push_array-returns-clause-fits
push_array-returns-clause-fits t c = (omega (arith, length_items view c.args.items.now.items, c.args.items.now.ok.0), c.in_ok-push_items.ensures.fits)

pub push_map-returns-then-is_empty-clause-written : goal.push_map-returns-then-is_empty-clause-written
push_map-returns-then-is_empty-clause-written t c =
    let empty : vec_len c.args.entries.now ≡ 0 = eqb-true _ _ (sym c.if-is_empty.ensures) in
    let none : length c.args.entries.now.items ≡ 0 = omega (arith, c.args.entries.now.ok.0) in
    c.in_ok-push.ensures.items ∙ ap (λ (x : List ℕ). c.args.out.now.items ++ x) (sym (blocked_none _ (entries_encoding (entries_of (map entry_view c.args.entries.now.items))) (length_entries entry_view c.args.entries.now.items ∙ none)))

pub push_map-returns-clause-written : goal.push_map-returns-clause-written
push_map-returns-clause-written t c =
    let filled : vec_len c.args.entries.now ≡ 0 → ⊥ = eqb-false _ _ (sym c.if-is_empty.ensures) in
    let n = length (entries (entries_of (map entry_view c.args.entries.now.items))) in
    let content = entries_encoding (entries_of (map entry_view c.args.entries.now.items)) in
    let len : n ≡ vec_len c.args.entries.now = length_entries entry_view c.args.entries.now.items ∙ omega (arith, c.args.entries.now.ok.0) in
    let count : c.push_integer.new.out.items ≡ c.args.out.now.items ++ integer (pos n) = (let small : c.len.result < 2 ^ 63 = omega arith in let z : to_z w64 c.len.result ≡ pos n = to_z_pos w64 c.len.result small ∙ ap pos (c.len.ensures ∙ sym len) in c.in_ok-push_integer.ensures ∙ ap (λ (k : ℤ). c.args.out.now.items ++ integer k) z) in
    rw (c.in_ok-push-2.ensures.items, c.in_ok-push_entries.ensures.written, count)
    (block_joined c.args.out.now.items (integer (pos n)) content ∙ ap (λ (x : List ℕ). c.args.out.now.items ++ x) (sym (blocked_some n content (λ none. filled (sym len ∙ none)))))

pub push_map-returns-clause-fits : goal.push_map-returns-clause-fits
push_map-returns-clause-fits t c = (omega (arith, length_entries entry_view c.args.entries.now.items, c.args.entries.now.ok.0), c.in_ok-push_entries.ensures.fits)
