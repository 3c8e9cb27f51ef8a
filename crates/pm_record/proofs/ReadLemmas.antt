-- Data and blocks that are read one after another.
use Rattle.std.proofs.Common.{◌≡◌, ℕ, ◌<◌, ◌≤◌, List, [], ◌∷◌, ◌++◌, length, drop, map, Option, Some, None, Result, Ok, Err}
use Rattle.std.proofs.Common.{refl, sym, ap, subst, ◌∙◌, append_assoc, append-nil, arith}
use Rattle.std.specs.List.{AllByRecursion}
use Rattle.std.proofs.lemmas.List.{length-append, length-drop, map-append}
use Rattle.std.proofs.lemmas.Grind.{flat_map-append}
use Rattle.pm_base.proofs.Laws.{AllByRecursion-parts, step_ok}
use Rattle.pm_base.specs.Outcome.{◌>>=◌, Fails}
use Rattle.pm_values.specs.declared.refusal.Refusal.{Refusal}
use Rattle.pm_avro_schema.specs.Avro.{Avro}
use Rattle.pm_avro_data.specs.Datum.{Data, view}
use Rattle.pm_avro_data.specs.HasType.{HasType}
use Rattle.pm_avro_data.specs.declared.datum.Datum.{Datum}
use Rattle.pm_avro_data.proofs.Facts.{groups_shorter}
use Rattle.pm_avro_file.specs.Container.{IsBlock}
use Rattle.pm_avro_file.specs.Reader.{Reader, HasBlock, Leads}
use Rattle.pm_record.specs.declared.misfit.Misfit.{Misfit}
use Rattle.pm_record.specs.File.{Reading, all_read, joined, HasRead, ReadsBlock, ReadsAll}

-- ---- data

module _ {X : Type 0} (read : Data → Result X Misfit) where
  -- what a datum and those after it are read as
  all_read-cons : (d : Data) (ds : List Data) (xs : List X) → all_read read (d ∷ ds) ≡ Ok xs
      → (y : X) × (ys : List X) × (read d ≡ Ok y) × (all_read read ds ≡ Ok ys) × (xs ≡ y ∷ ys)
  all_read-cons d ds xs p =
      let first = step_ok (read d) (λ x. all_read read ds >>= λ later. Ok (x ∷ later)) xs p in
      let more = step_ok (all_read read ds) (λ later. Ok (first.0 ∷ later)) xs first.2 in
      let whole : ◌≡◌ {A = Result (List X) Misfit} (Ok (first.0 ∷ more.0)) (Ok xs) = more.2 in
      let same : xs ≡ first.0 ∷ more.0 = cc in
      (first.0, more.0, first.1, more.1, same)

  kept : (r : Result (List X) Misfit) → r ≡ (r >>= λ ys. Ok ys)
  kept (Ok ys) = refl
  kept (Err e) = refl

  joint : (y : X) (ys : List X) (r : Result (List X) Misfit) → ((r >>= λ zs. Ok (ys ++ zs)) >>= λ later. Ok (y ∷ later)) ≡ (r >>= λ zs. Ok (y ∷ (ys ++ zs)))
  joint y ys (Ok zs) = refl
  joint y ys (Err e) = refl

  begun : (d : Data) (ds es : List Data) (y : X) (ys zs : List X) → read d ≡ Ok y → all_read read (ds ++ es) ≡ (all_read read es >>= λ later. Ok (ys ++ later)) → zs ≡ y ∷ ys
      → all_read read (d ∷ (ds ++ es)) ≡ (all_read read es >>= λ later. Ok (zs ++ later))
  begun d ds es y ys zs first later is = rw (first, later, is) (joint y ys (all_read read es))

  -- data that are read, and others after them
  pub all_read-append : (ds es : List Data) (xs : List X) → all_read read ds ≡ Ok xs → all_read read (ds ++ es) ≡ (all_read read es >>= λ ys. Ok (xs ++ ys))
  all_read-append [] es xs p =
      let same : ◌≡◌ {A = Result (List X) Misfit} (Ok []) (Ok xs) = p in
      let none : xs ≡ [] = cc in
      rw none (kept (all_read read es))
  all_read-append (d ∷ ds) es xs p =
      let parts = all_read-cons d ds xs p in
      begun d ds es parts.0 parts.1 xs parts.2 (all_read-append ds es parts.1 parts.3) parts.4

  -- of data that are read, those before and those after are
  pub all_read-parts : (ds es : List Data) (zs : List X) → all_read read (ds ++ es) ≡ Ok zs → (xs : List X) × (ys : List X) × (all_read read ds ≡ Ok xs) × (all_read read es ≡ Ok ys)
  all_read-parts [] es zs p = ([], zs, refl, p)
  all_read-parts (d ∷ ds) es zs p =
      let first = all_read-cons d (ds ++ es) zs p in
      let later = all_read-parts ds es first.1 first.3 in
      (first.0 ∷ later.0, later.1, rw (first.2, later.2) refl, later.3)

  -- the same, where the others are read too
  all_read-both : (ds es : List Data) (xs ys : List X) → all_read read ds ≡ Ok xs → all_read read es ≡ Ok ys → all_read read (ds ++ es) ≡ Ok (xs ++ ys)
  all_read-both ds es xs ys p q = all_read-append ds es xs p ∙ rw q refl

  -- one more datum is read
  pub one_more : (done : List Datum) (datum : Datum) (xs : List X) (x : X) → all_read read (map view done) ≡ Ok xs → read (view datum) ≡ Ok x
      → all_read read (map view (done ++ datum ∷ [])) ≡ Ok (xs ++ x ∷ [])
  one_more done datum xs x p q =
      let one : all_read read (view datum ∷ []) ≡ Ok (x ∷ []) = rw q refl in
      ap (all_read read) (map-append view done (datum ∷ [])) ∙ all_read-both (map view done) (view datum ∷ []) xs (x ∷ []) p one

  fails_after : (fault : Option Misfit) (ds es : List Data) (d : Data) (xs : List X) → all_read read ds ≡ Ok xs → Fails fault (read d) → Fails fault (all_read read (ds ++ d ∷ es))
  fails_after None ds es d xs p q = tt
  fails_after (Some misfit) ds es d xs p q = all_read-append ds (d ∷ es) xs p ∙ rw q refl

  -- what is written of each record and read as the same is read as the records
  pub all_read-map : (write : X → Data) (P : X → Type 0) → ((x : X) → P x → read (write x) ≡ Ok x) → (xs : List X) → AllByRecursion P xs → all_read read (map write xs) ≡ Ok xs
  all_read-map write P again [] each = refl
  all_read-map write P again (x ∷ xs) each = rw (again x each.0, all_read-map write P again xs each.1) refl

-- data in memory: those that are done, and those that are left, which begin with one
module _ (all done left rest : List Datum) (datum : Datum) (parts : done ++ left ≡ all) (first : left ≡ datum ∷ rest) where
  parted : map view all ≡ map view done ++ view datum ∷ map view rest
  parted = ap (map view) (sym parts ∙ ap (λ (ds : List Datum). done ++ ds) first) ∙ map-append view done (datum ∷ rest)

  -- one more of them is done
  pub one_done : (done ++ datum ∷ []) ++ rest ≡ all
  one_done = append_assoc done (datum ∷ []) rest ∙ ap (λ (ds : List Datum). done ++ ds) (sym first) ∙ parts

  -- it has the type that all have
  pub one_typed : (t : Avro) → AllByRecursion (HasType t) (map view all) → HasType t (view datum)
  one_typed t each = (AllByRecursion-parts (HasType t) (map view done) (view datum ∷ map view rest) (subst (AllByRecursion (HasType t)) parted each)).1.0

  -- its misfit is the first of all
  pub one_fails : {X : Type 0} (read : Data → Result X Misfit) (fault : Option Misfit) (xs : List X) → all_read read (map view done) ≡ Ok xs → Fails fault (read (view datum))
      → Fails fault (all_read read (map view all))
  one_fails read fault xs p q = subst (λ (ds : List Data). Fails fault (all_read read ds)) (sym parted) (fails_after read fault (map view done) (map view rest) (view datum) xs p q)

-- ---- blocks

-- a block takes some bytes
block_shorter : (t : Avro) (marker : List ℕ) (ds : List Data) (source rest : List ℕ) → IsBlock t marker ds source rest → length rest < length source
block_shorter t marker ds source rest b =
    omega (arith, groups_shorter source _ b.middle b.count.groups, groups_shorter b.middle _ b.left b.size.groups, ap length b.marked, length-append b.content (marker ++ rest), length-append marker rest)

-- so the offset after it is greater
pub block_moves : (t : Avro) (marker bytes : List ℕ) (offset : ℕ) (ds : List Data) (next : ℕ) → HasBlock t marker bytes offset ds next → offset < next
block_moves t marker bytes offset ds next b =
    omega (arith, b.within, block_shorter t marker ds (drop offset bytes) (drop next bytes) b.block, length-drop offset bytes, length-drop next bytes)

-- one more block after those that lead to it
pub leads_push : (r : Reader) (blocks : List (List Data)) (from offset : ℕ) (ds : List Data) (next : ℕ) → Leads r from blocks offset → HasBlock r.kind r.marker r.bytes offset ds next → Leads r from (blocks ++ ds ∷ []) next
leads_push r [] from offset ds next l b = (next, subst (λ (n : ℕ). HasBlock r.kind r.marker r.bytes n ds next) (sym l) b, refl)
leads_push r (es ∷ blocks) from offset ds next l b = (l.0, l.1, leads_push r blocks l.0 offset ds next l.2 b)

-- the data of one more block come last
joined-push : (blocks : List (List Data)) (ds : List Data) → joined (blocks ++ ds ∷ []) ≡ joined blocks ++ ds
joined-push blocks ds = flat_map-append (λ x. x) blocks (ds ∷ []) ∙ ap (λ (es : List Data). joined blocks ++ es) (append-nil ds)

-- ---- files that are read block by block

module _ {X : Type 0} (reads : Reading X) (r : Reader) where
  -- nothing is read before the first block
  pub read_nothing : HasRead reads r r.first []
  read_nothing = record { blocks = []; leads = refl; each = refl }

  -- one more block is read
  pub read_more : (offset : ℕ) (xs : List X) (ds : List Data) (next : ℕ) (ys : List X) → HasRead reads r offset xs → HasBlock r.kind r.marker r.bytes offset ds next
      → all_read (reads r.kind) ds ≡ Ok ys → HasRead reads r next (xs ++ ys)
  read_more offset xs ds next ys h b p = record {
    blocks = h.blocks ++ ds ∷ [];
    leads = leads_push r h.blocks r.first offset ds next h.leads b;
    each = ap (all_read (reads r.kind)) (joined-push h.blocks ds) ∙ all_read-both (reads r.kind) (joined h.blocks) ds xs ys h.each p;
  }

  module _ {Y : Type 0} (view : Y → List X) (path : List ℕ) (offset : ℕ) (xs : List X) (read : HasRead reads r offset xs) where
    -- a block is found: its records come next, and the offset after it is greater, and within the file
    pub block_read : (found : Y × ℕ) → ReadsBlock view reads r path offset (Ok (Some found)) → HasRead reads r found.1 (xs ++ view found.0)
    block_read found b = read_more offset xs b.0 found.1 (view found.0) read b.1 b.2

    -- none is found: all is read
    pub all_blocks_read : ReadsBlock view reads r path offset (Ok None) → ReadsAll reads r path (Ok xs)
    all_blocks_read end = subst (λ (n : ℕ). HasRead reads r n xs) end read

    -- reading one fails: so does reading all
    pub block_refused : (e : Refusal) → ReadsBlock view reads r path offset (Err e) → ReadsAll reads r path (Err e)
    block_refused e fails = (offset, xs, read, fails)

  -- the offset after a block that is found is greater, and within the file
  pub block_further : {Y : Type 0} (view : Y → List X) (path : List ℕ) (offset : ℕ) (found : Y × ℕ) → ReadsBlock view reads r path offset (Ok (Some found))
      → (offset < found.1) × (found.1 ≤ length r.bytes)
  block_further view path offset found b = (block_moves r.kind r.marker r.bytes offset b.0 found.1 b.1, b.1.within)
