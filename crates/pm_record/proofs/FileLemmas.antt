-- What a file is read as: it is one thing, and the records of a container file. The laws of pm_avro_file are premises.
use Rattle.std.proofs.Common.{◌≡◌, ◌≢◌, ◌⊎◌, inl, inr, ℕ, Bool, true, false, List, [], ◌∷◌, ◌++◌, length, drop, Result, Ok, Err}
use Rattle.std.proofs.Common.{refl, sym, ap, subst, ◌∙◌, append-nil, arith}
use Rattle.std.specs.Prelude.{◌↔◌}
use Rattle.std.proofs.lemmas.List.{length-drop}
use Rattle.std.proofs.lemmas.Grind.{flat_map-append}
use Rattle.pm_values.specs.declared.refusal.Refusal.{Refusal}
use Rattle.pm_values.specs.declared.refusal.Refusal.TheVariants as refusals
use Rattle.pm_avro_schema.specs.Avro.{Avro}
use Rattle.pm_avro_schema.specs.declared.fault.AvroFault.{AvroFault}
use Rattle.pm_avro_schema.specs.declared.fault.AvroFault.TheVariants as faults
use Rattle.pm_avro_data.specs.Datum.{Data}
use Rattle.pm_avro_file.specs.Container.{IsBlock, IsContainer}
use Rattle.pm_avro_file.specs.Reader.{Reader, Opens, HasBlock, HasNoBlock, Leads}
use Rattle.pm_record.specs.declared.misfit.Misfit.{Misfit}
use Rattle.pm_record.specs.declared.misfit.Misfit.TheVariants as misfits
use Rattle.pm_record.specs.File.{IsMemoryOr, refusal_of, Reading, all_read, joined, HasRead, HasMisfit, FailsAt, ReadsAll, OpensFile, ReadsOpened, ReadsFile, IsFileOf}
use Rattle.pm_record.proofs.ReadLemmas.{all_read-parts, block_moves}

-- ---- the laws of container files

-- `one_block_law`
abbrev pub OneBlock : Type 0
OneBlock = (t : Avro) (ds es : List Data) (marker source rest other : List ℕ) → IsBlock t marker ds source rest → IsBlock t marker es source other → (ds ≡ es) × (rest ≡ other)

-- `one_opening_law`
abbrev pub OneOpening : Type 0
OneOpening = (bytes : List ℕ) (r s : Result Reader AvroFault) → Opens bytes r → Opens bytes s → r ≢ Err faults.Memory → s ≢ Err faults.Memory → r ≡ s

-- `whole_file_law`
abbrev pub WholeFile : Type 0
WholeFile = (t : Avro) (blocks : List (List Data)) (marker bytes : List ℕ) → IsContainer t blocks marker bytes
    ↔ ((r : Reader) × Opens bytes (Ok r) × (r.kind ≡ t) × (r.marker ≡ marker) × Leads r r.first blocks (length bytes))

-- ---- one reading of an opened file

-- blocks that lead on from where others end
pub record Goes (r : Reader) (blocks others : List (List Data)) (m n : ℕ) : Type 0 where
  pub more : List (List Data)
  pub parts : others ≡ blocks ++ more
  pub leads : Leads r m more n

module _ (one_block : OneBlock) (r : Reader) where
  -- the block at an offset is one, and so is the offset after it
  one_at : (offset : ℕ) (ds es : List Data) (m n : ℕ) → HasBlock r.kind r.marker r.bytes offset ds m → HasBlock r.kind r.marker r.bytes offset es n → (ds ≡ es) × (m ≡ n)
  one_at offset ds es m n b k =
      let one = one_block r.kind ds es r.marker (drop offset r.bytes) (drop m r.bytes) (drop n r.bytes) b.block k.block in
      (one.0, omega (arith, length-drop m r.bytes, length-drop n r.bytes, ap length one.1, b.within, k.within))

  -- of two lists of blocks from one offset on, one goes on where the other ends
  goes : (blocks others : List (List Data)) (from m n : ℕ) → Leads r from blocks m → Leads r from others n → Goes r blocks others m n ⊎ Goes r others blocks n m
  goes [] others from m n l k = inl (record { more = others; parts = refl; leads = subst (λ (o : ℕ). Leads r o others n) l k })
  goes (ds ∷ blocks) [] from m n l k = inr (record { more = ds ∷ blocks; parts = refl; leads = subst (λ (o : ℕ). Leads r o (ds ∷ blocks) m) k l })
  goes (ds ∷ blocks) (es ∷ others) from m n l k =
      let one = one_at from ds es l.0 k.0 l.1 k.1 in
      further ds es blocks others m n one.0 (goes blocks others l.0 m n l.2 (subst (λ (o : ℕ). Leads r o others n) (sym one.1) k.2))
    where
      further : (ds es : List Data) (blocks others : List (List Data)) (m n : ℕ) → ds ≡ es → Goes r blocks others m n ⊎ Goes r others blocks n m
          → Goes r (ds ∷ blocks) (es ∷ others) m n ⊎ Goes r (es ∷ others) (ds ∷ blocks) n m
      further ds es blocks others m n same (inl g) = let parts = g.parts in inl (record { more = g.more; parts = cc; leads = g.leads })
      further ds es blocks others m n same (inr g) = let parts = g.parts in inr (record { more = g.more; parts = cc; leads = g.leads })

  -- at the end no block begins
  none_at_end : (offset : ℕ) (ds : List Data) (next : ℕ) → offset ≡ length r.bytes → HasBlock r.kind r.marker r.bytes offset ds next → ⊥
  none_at_end offset ds next end b = omega (arith, block_moves r.kind r.marker r.bytes offset ds next b, b.within)

  module _ {X : Type 0} (reads : Reading X) where
    -- a misfit of a block is its first
    misfit_one : (offset : ℕ) (e f : Misfit) → HasMisfit reads r offset e → HasMisfit reads r offset f → e ≡ f
    misfit_one offset e f h k =
        let one = one_at offset h.ds k.ds h.next k.next h.block k.block in
        let same : ◌≡◌ {A = Result (List X) Misfit} (Err e) (Err f) = sym h.first ∙ ap (all_read (reads r.kind)) one.0 ∙ k.first in
        cc

    -- reading stops at an offset: at the end, or at a block that isn't one or has a misfit
    abbrev Stops : ℕ → Type 0
    Stops offset = (offset ≡ length r.bytes) ⊎ (HasNoBlock r.kind r.marker r.bytes offset ⊎ ((misfit : Misfit) × HasMisfit reads r offset misfit))

    -- no block that is read begins where reading stops
    unread : (offset : ℕ) (ds : List Data) (next : ℕ) (xs : List X) → Stops offset → HasBlock r.kind r.marker r.bytes offset ds next → all_read (reads r.kind) ds ≡ Ok xs → ⊥
    unread offset ds next xs (inl end) b p = none_at_end offset ds next end b
    unread offset ds next xs (inr (inl none)) b p = none.none ds (drop next r.bytes) b.block
    unread offset ds next xs (inr (inr misfit)) b p =
        let one = one_at offset ds misfit.1.ds next misfit.1.next b misfit.1.block in
        let no : ◌≡◌ {A = Result (List X) Misfit} (Ok xs) (Err misfit.0) = sym p ∙ ap (all_read (reads r.kind)) one.0 ∙ misfit.1.first in
        absurd cc

    -- of two readings one goes no further than where the other stops
    same_when : (blocks others : List (List Data)) (m n : ℕ) (xs ys : List X) → Goes r blocks others m n → Stops m → all_read (reads r.kind) (joined blocks) ≡ Ok xs
        → all_read (reads r.kind) (joined others) ≡ Ok ys → (m ≡ n) × (xs ≡ ys)
    same_when blocks others m n xs ys g stops p q =
        same_more g.more g.leads (sym (ap (all_read (reads r.kind)) (ap joined g.parts ∙ flat_map-append (λ ds. ds) blocks g.more)) ∙ q)
      where
        same_more : (more : List (List Data)) → Leads r m more n → all_read (reads r.kind) (joined blocks ++ joined more) ≡ Ok ys → (m ≡ n) × (xs ≡ ys)
        same_more [] l whole =
            let same : ◌≡◌ {A = Result (List X) Misfit} (Ok xs) (Ok ys) = sym p ∙ sym (ap (all_read (reads r.kind)) (append-nil (joined blocks))) ∙ whole in
            (l, cc)
        same_more (ds ∷ more) l whole =
            let later = all_read-parts (reads r.kind) (joined blocks) (ds ++ joined more) ys whole in
            let here = all_read-parts (reads r.kind) ds (joined more) later.1 later.3 in
            absurd (unread m ds l.0 here.0 stops l.1 here.2)

    -- two readings that stop are one
    same_end : (m n : ℕ) (xs ys : List X) → HasRead reads r m xs → HasRead reads r n ys → Stops m → Stops n → (m ≡ n) × (xs ≡ ys)
    same_end m n xs ys h k p q =
        elim (goes h.blocks k.blocks r.first m n h.leads k.leads) [
          | inl g ↦ same_when h.blocks k.blocks m n xs ys g p h.each k.each
          | inr g ↦ (let same = same_when k.blocks h.blocks n m ys xs g q k.each h.each in (sym same.0, sym same.1))
        ]

    -- ---- its refusals

    stops_damaged : (offset : ℕ) → HasNoBlock r.kind r.marker r.bytes offset ⊎ HasMisfit reads r offset misfits.Bad → Stops offset
    stops_damaged offset (inl none) = inr (inl none)
    stops_damaged offset (inr bad) = inr (inr (misfits.Bad, bad))

    stops_at : (path : List ℕ) (offset : ℕ) (e : Refusal) → FailsAt reads r path offset e → e ≢ refusals.Memory → Stops offset
    stops_at path offset refusals.Memory f some = absurd (some refl)
    stops_at path offset (refusals.Damaged at place) f some = stops_damaged offset f.2
    stops_at path offset (refusals.Unsupported what text) f some = inr (inr (misfits.Unsupported what text, f))
    stops_at path offset other f some = absurd f

    -- not at the end
    stops_before : (offset : ℕ) (e : Refusal) (path : List ℕ) → FailsAt reads r path offset e → e ≢ refusals.Memory → offset ≡ length r.bytes → ⊥
    stops_before offset refusals.Memory path f some end = some refl
    stops_before offset (refusals.Damaged at place) path f some end = elim f.2 [ inl none ↦ none.before end | inr bad ↦ none_at_end offset bad.ds bad.next end bad.block ]
    stops_before offset (refusals.Unsupported what text) path f some end = none_at_end offset f.ds f.next end f.block
    stops_before offset other path f some end = f

    not_both : (offset : ℕ) (what text : List ℕ) → HasNoBlock r.kind r.marker r.bytes offset ⊎ HasMisfit reads r offset misfits.Bad → HasMisfit reads r offset (misfits.Unsupported what text) → ⊥
    not_both offset what text (inl none) h = none.none h.ds (drop h.next r.bytes) h.block.block
    not_both offset what text (inr bad) h =
        let no : misfits.Bad ≡ misfits.Unsupported what text = misfit_one offset misfits.Bad (misfits.Unsupported what text) bad h in
        absurd cc

    same_damaged : (path at : List ℕ) (offset place : ℕ) (f : Refusal) → (at ≡ path) × (place ≡ offset) × (HasNoBlock r.kind r.marker r.bytes offset ⊎ HasMisfit reads r offset misfits.Bad)
        → FailsAt reads r path offset f → f ≢ refusals.Memory → refusals.Damaged at place ≡ f
    same_damaged path at offset place refusals.Memory p q some = absurd (some refl)
    same_damaged path at offset place (refusals.Damaged other elsewhere) p q some = let a = p.0 in let b = p.1 in let c = q.0 in let d = q.1 in cc
    same_damaged path at offset place (refusals.Unsupported what text) p q some = absurd (not_both offset what text p.2 q)
    same_damaged path at offset place other p q some = absurd q

    same_unsupported : (path : List ℕ) (offset : ℕ) (what text : List ℕ) (f : Refusal) → HasMisfit reads r offset (misfits.Unsupported what text)
        → FailsAt reads r path offset f → f ≢ refusals.Memory → refusals.Unsupported what text ≡ f
    same_unsupported path offset what text refusals.Memory p q some = absurd (some refl)
    same_unsupported path offset what text (refusals.Damaged at place) p q some = absurd (not_both offset what text q.2 p)
    same_unsupported path offset what text (refusals.Unsupported part other) p q some =
        let same : misfits.Unsupported what text ≡ misfits.Unsupported part other = misfit_one offset (misfits.Unsupported what text) (misfits.Unsupported part other) p q in
        cc
    same_unsupported path offset what text other p q some = absurd q

    -- at one offset there is one refusal
    same_refusal : (path : List ℕ) (offset : ℕ) (e f : Refusal) → FailsAt reads r path offset e → FailsAt reads r path offset f → e ≢ refusals.Memory → f ≢ refusals.Memory → e ≡ f
    same_refusal path offset refusals.Memory f p q some more = absurd (some refl)
    same_refusal path offset (refusals.Damaged at place) f p q some more = same_damaged path at offset place f p q more
    same_refusal path offset (refusals.Unsupported what text) f p q some more = same_unsupported path offset what text f p q more
    same_refusal path offset other f p q some more = absurd p

    -- what is answered
    some_refusal : (e : Refusal) → ◌≢◌ {A = Result (List X) Refusal} (Err e) (Err refusals.Memory) → e ≢ refusals.Memory
    some_refusal e some is = some (ap Err is)

    reads_one : (path : List ℕ) (a b : Result (List X) Refusal) → ReadsAll reads r path a → ReadsAll reads r path b → a ≢ Err refusals.Memory → b ≢ Err refusals.Memory → a ≡ b
    reads_one path (Ok xs) (Ok ys) p q m n = ap Ok (same_end (length r.bytes) (length r.bytes) xs ys p q (inl refl) (inl refl)).1
    reads_one path (Ok xs) (Err f) p q m n =
        let same = same_end (length r.bytes) q.0 xs q.1 p q.2 (inl refl) (stops_at path q.0 f q.3 (some_refusal f n)) in
        absurd (stops_before q.0 f path q.3 (some_refusal f n) (sym same.0))
    reads_one path (Err e) (Ok ys) p q m n =
        let same = same_end p.0 (length r.bytes) p.1 ys p.2 q (stops_at path p.0 e p.3 (some_refusal e m)) (inl refl) in
        absurd (stops_before p.0 e path p.3 (some_refusal e m) same.0)
    reads_one path (Err e) (Err f) p q m n =
        let same = same_end p.0 q.0 p.1 q.1 p.2 q.2 (stops_at path p.0 e p.3 (some_refusal e m)) (stops_at path q.0 f q.3 (some_refusal f n)) in
        ap Err (same_refusal path p.0 e f p.3 (subst (λ (o : ℕ). FailsAt reads r path o f) (sym same.0) q.3) (some_refusal e m) (some_refusal f n))

    opened_one : (taken : Bool) (path : List ℕ) (a b : Result (List X) Refusal) → ReadsOpened taken reads r path a → ReadsOpened taken reads r path b
        → a ≢ Err refusals.Memory → b ≢ Err refusals.Memory → a ≡ b
    opened_one true path a b p q m n = reads_one path a b p q m n
    opened_one false path a b p q m n = p ∙ sym q

-- ---- one reading of a file

module _ {X : Type 0} (takes : Avro → Bool) (reads : Reading X) (path bytes : List ℕ) where
  -- a fault that isn't out of memory
  some_fault : (e : Refusal) (fault : AvroFault) (a : Result (List X) Refusal) → e ≡ refusal_of path fault → a ≡ Err e → a ≢ Err refusals.Memory
      → ◌≢◌ {A = Result Reader AvroFault} (Err fault) (Err faults.Memory)
  some_fault e fault a is refused some none =
      let same : fault ≡ faults.Memory = cc in
      some (refused ∙ ap Err (is ∙ ap (refusal_of path) same))

  not_opened : (one_opening : OneOpening) (e : Refusal) (a : Result (List X) Refusal) (r : Reader) → OpensFile path bytes (Err e) → a ≡ Err e → a ≢ Err refusals.Memory → Opens bytes (Ok r) → ⊥
  not_opened one_opening e a r p refused some o =
      let other : ◌≢◌ {A = Result Reader AvroFault} (Ok r) (Err faults.Memory) = λ is. absurd cc in
      let no : ◌≡◌ {A = Result Reader AvroFault} (Err p.0) (Ok r) = one_opening bytes (Err p.0) (Ok r) p.1 o (some_fault e p.0 a p.2 refused some) other in
      absurd cc

  pub file_one : OneOpening → OneBlock → (a b : Result (List X) Refusal) → ReadsFile takes reads path bytes a → ReadsFile takes reads path bytes b
      → a ≢ Err refusals.Memory → b ≢ Err refusals.Memory → a ≡ b
  file_one one_opening one_block a b (inl p) (inl q) m n =
      let same : ◌≡◌ {A = Result Reader AvroFault} (Err p.1.0) (Err q.1.0) =
      one_opening bytes (Err p.1.0) (Err q.1.0) p.1.1 q.1.1 (some_fault p.0 p.1.0 a p.1.2 p.2 m) (some_fault q.0 q.1.0 b q.1.2 q.2 n) in
      let fault : p.1.0 ≡ q.1.0 = cc in
      p.2 ∙ ap Err (p.1.2 ∙ ap (refusal_of path) fault ∙ sym q.1.2) ∙ sym q.2
  file_one one_opening one_block a b (inl p) (inr q) m n = absurd (not_opened one_opening p.0 a q.0 p.1 p.2 m q.1)
  file_one one_opening one_block a b (inr p) (inl q) m n = absurd (not_opened one_opening q.0 b p.0 q.1 q.2 n p.1)
  file_one one_opening one_block a b (inr p) (inr q) m n =
      let other : (r : Reader) → ◌≢◌ {A = Result Reader AvroFault} (Ok r) (Err faults.Memory) = λ r is. absurd cc in
      let same : ◌≡◌ {A = Result Reader AvroFault} (Ok p.0) (Ok q.0) = one_opening bytes (Ok p.0) (Ok q.0) p.1 q.1 (other p.0) (other q.0) in
      let reader : q.0 ≡ p.0 = cc in
      opened_one one_block p.0 reads (takes p.0.kind) path a b p.2 (subst (λ (r : Reader). ReadsOpened (takes r.kind) reads r path b) reader q.2) m n

-- ---- the records of a file

module _ (whole : WholeFile) {X : Type 0} (takes : Avro → Bool) (reads : Reading X) (path bytes : List ℕ) (xs : List X) where
  -- a container file of a type that is taken, whose data are read as the records
  abbrev Holds : Type 0
  Holds = (t : Avro) × (blocks : List (List Data)) × (marker : List ℕ) × IsContainer t blocks marker bytes × (takes t ≡ true) × (all_read (reads t) (joined blocks) ≡ Ok xs)

  holds_by : (r : Reader) → Opens bytes (Ok r) → (taken : Bool) → takes r.kind ≡ taken → ReadsOpened taken reads r path (Ok xs) → Holds
  holds_by r o true is h =
      let leads : Leads r r.first h.blocks (length bytes) = subst (λ (n : ℕ). Leads r r.first h.blocks n) (ap length o.same) h.leads in
      (r.kind, h.blocks, r.marker, (whole r.kind h.blocks r.marker bytes).1 (r, o, refl, refl, leads), is, h.each)
  holds_by r o false is h = absurd cc

  pub file_holds : ReadsFile takes reads path bytes (Ok xs) → Holds
  file_holds (inl p) = let no : ◌≡◌ {A = Result (List X) Refusal} (Ok xs) (Err p.0) = p.2 in absurd cc
  file_holds (inr p) = holds_by p.0 p.1 (takes p.0.kind) refl p.2

  pub file_read : (t : Avro) (blocks : List (List Data)) (marker : List ℕ) → IsContainer t blocks marker bytes → takes t ≡ true → all_read (reads t) (joined blocks) ≡ Ok xs
      → ReadsFile takes reads path bytes (Ok xs)
  file_read t blocks marker f is each =
      let w = (whole t blocks marker bytes).0 f in
      let r = w.0 in
      let opened : Opens bytes (Ok r) = w.1 in
      let leads : Leads r r.first blocks (length r.bytes) = subst (λ (n : ℕ). Leads r r.first blocks n) (ap length (sym opened.same)) w.4 in
      let read : HasRead reads r (length r.bytes) xs = record { blocks = blocks; leads = leads; each = ap (λ (u : Avro). all_read (reads u) (joined blocks)) w.2 ∙ each } in
      let taken : true ≡ takes r.kind = sym (ap takes w.2 ∙ is) in
      inr (r, opened, subst (λ (b : Bool). ReadsOpened b reads r path (Ok xs)) taken read)

  pub written_read : (t : Avro) (most : ℕ) (ds : List Data) (marker : List ℕ) → IsFileOf t most ds marker bytes → takes t ≡ true → all_read (reads t) ds ≡ Ok xs
      → ReadsFile takes reads path bytes (Ok xs)
  written_read t most ds marker f is each = file_read t f.blocks marker f.container is (ap (all_read (reads t)) f.same ∙ each)

-- ---- what calls answer

module _ {X : Type 0} (takes : Avro → Bool) (reads : Reading X) (path bytes : List ℕ) where
  -- out of memory
  pub answers_memory : ReadsFile takes reads path bytes (Err refusals.Memory)
  answers_memory = inl (refusals.Memory, (faults.Memory, tt, refl), refl)

  -- the file isn't opened
  pub answers_unopened : (e : Refusal) → OpensFile path bytes (Err e) → ReadsFile takes reads path bytes (Err e)
  answers_unopened e o = inl (e, o, refl)

  module _ (r : Reader) (opened : Opens bytes (Ok r)) where
    -- its type isn't taken
    pub answers_untaken : takes r.kind ≡ false → (e : Refusal) → IsMemoryOr (refusals.Damaged path 0) e → ReadsFile takes reads path bytes (Err e)
    answers_untaken not e (inl memory) = rw memory answers_memory
    answers_untaken not e (inr damaged) = inr (r, opened, subst (λ (b : Bool). ReadsOpened b reads r path (Err e)) (sym not) (ap Err damaged))

    -- its type is taken
    pub answers_taken : takes r.kind ≡ true → (a : Result (List X) Refusal) → ReadsAll reads r path a → ReadsFile takes reads path bytes a
    answers_taken is a all = inr (r, opened, subst (λ (b : Bool). ReadsOpened b reads r path a) (sym is) all)
