-- The laws, and what the calls' answers are made of.
use Rattle.std.proofs.Common.{◌≡◌, ◌≢◌, ◌⊎◌, inl, inr, ℕ, ◌-◌, ◌≤◌, List, [], ◌∷◌, ◌++◌, length, take}
use Rattle.std.proofs.Common.{drop, Option, Some, None, refl, sym, ap, subst, ◌∙◌, append_assoc, arith}
use Rattle.std.specs.Prelude.{Result, Ok, Err}
use Rattle.std.proofs.lemmas.List.{length-drop, take-append-drop}
use Rattle.pm_avro_schema.specs.Avro.{Avro}
use Rattle.pm_avro_schema.specs.declared.fault.AvroFault.{AvroFault}
use Rattle.pm_avro_schema.specs.declared.fault.AvroFault.TheVariants.{Memory, Unsupported, Bad}
use Rattle.pm_avro_data.specs.Datum.{Data}
use Rattle.pm_avro_data.specs.IsDatum.{AreItems}
use Rattle.pm_avro_data.proofs.Facts.{Follows, datum_follows}
use Rattle.pm_avro_file.specs.Container.{magic, metadata, IsHeader, IsBlock, IsContainer}
use Rattle.pm_avro_file.specs.Header.{kind_in}
use Rattle.pm_avro_file.specs.Reader.{Reader, IsRefused, HasNoPreamble, IsOpened, Opens, HasNoBlock, AnswersAt, Leads}
use Rattle.pm_avro_file.proofs.Blocks.{block_one, block_shorter, block_follows}
use Rattle.pm_avro_file.proofs.Preambles.{preamble_one, texts_to_bytes}
use Rattle.pm_avro_file.proofs.Meanings.{header_kind}
use Rattle.pm_avro_file.proofs.Parts.{at_end}

-- ---- lengths

ends_same : (bytes : List ℕ) (m n : ℕ) → m ≤ length bytes → n ≤ length bytes → drop m bytes ≡ drop n bytes → m ≡ n
ends_same bytes m n p q e = omega (arith, length-drop m bytes, length-drop n bytes, ap length e)

drop_end : (bytes : List ℕ) → drop (length bytes) bytes ≡ []
drop_end bytes = none (drop (length bytes) bytes) (omega (arith, length-drop (length bytes) bytes))
  where
    none : (xs : List ℕ) → length xs ≡ 0 → xs ≡ []
    none [] e = refl
    none (x ∷ xs) e = absurd (omega arith)

-- ---- headers

pub record SameHeader (t u : Avro) (marker mark rest other : List ℕ) : Type 0 where
  pub kind_same : t ≡ u
  pub marker_same : marker ≡ mark
  pub rest_same : rest ≡ other

pub header_one : (t u : Avro) (marker mark source rest other : List ℕ) → IsHeader t marker source rest → IsHeader u mark source other → SameHeader t u marker mark rest other
header_one t u marker mark source rest other h k =
    let f = preamble_one h.pairs k.pairs marker mark source rest other h.preamble k.preamble in
    let e : ◌≡◌ {A = Result Avro AvroFault} (Ok t) (Ok u) = sym (header_kind t marker source rest h) ∙ ap kind_in f.pairs_same ∙ header_kind u mark source other k in
    record { kind_same = cc; marker_same = f.marker_same; rest_same = f.rest_same }

header_not_refused : (t : Avro) (marker bytes rest : List ℕ) (fault : AvroFault) → IsHeader t marker bytes rest → IsRefused bytes fault → ⊥
header_not_refused t marker bytes rest fault h r =
    let f = preamble_one h.pairs r.pairs marker r.marker bytes rest r.rest h.preamble r.preamble in
    let e : ◌≡◌ {A = Result Avro AvroFault} (Ok t) (Err fault) = sym (header_kind t marker bytes rest h) ∙ ap kind_in f.pairs_same ∙ r.because in
    absurd cc

header_has_preamble : (t : Avro) (marker bytes rest : List ℕ) → IsHeader t marker bytes rest → HasNoPreamble bytes → ⊥
header_has_preamble t marker bytes rest h none = none h.pairs marker rest h.preamble

refused_has_preamble : (bytes : List ℕ) (fault : AvroFault) → IsRefused bytes fault → HasNoPreamble bytes → ⊥
refused_has_preamble bytes fault r none = none r.pairs r.marker r.rest r.preamble

refused_one : (bytes : List ℕ) (e f : AvroFault) → IsRefused bytes e → IsRefused bytes f → e ≡ f
refused_one bytes e f r s =
    let p = preamble_one r.pairs s.pairs r.marker s.marker bytes r.rest s.rest r.preamble s.preamble in
    let q : ◌≡◌ {A = Result Avro AvroFault} (Err e) (Err f) = sym r.because ∙ ap kind_in p.pairs_same ∙ s.because in
    cc

header_follows : (t : Avro) (marker bytes rest : List ℕ) → IsHeader t marker bytes rest → Follows bytes rest
header_follows t marker bytes rest h =
    let f = h.preamble in
    let d = datum_follows texts_to_bytes (metadata h.pairs) f.start f.left f.pairs_read in
    let parts : bytes ≡ magic ++ (d.prefix ++ (marker ++ rest)) = f.begins ∙ ap (λ (x : List ℕ). magic ++ x) (d.parts ∙ ap (λ (x : List ℕ). d.prefix ++ x) f.marked) in
    record { prefix = magic ++ (d.prefix ++ marker); parts = parts ∙ sym (simp append_assoc) }

-- ---- opening

reader_same : (r s : Reader) → r.bytes ≡ s.bytes → r.kind ≡ s.kind → r.marker ≡ s.marker → r.first ≡ s.first → r.offset ≡ s.offset → r.fault ≡ s.fault → r ≡ s
reader_same r s a b c d e f = λ i. record { bytes = a i; kind = b i; marker = c i; first = d i; offset = e i; fault = f i }

opened_one : (bytes : List ℕ) (r s : Reader) → IsOpened bytes r → IsOpened bytes s → r ≡ s
opened_one bytes r s o p =
    let h = header_one r.kind s.kind r.marker s.marker bytes (drop r.first bytes) (drop s.first bytes) o.header p.header in
    let first : r.first ≡ s.first = ends_same bytes r.first s.first o.within p.within h.rest_same in
    reader_same r s (o.same ∙ sym p.same) h.kind_same h.marker_same first (o.before ∙ first ∙ sym p.before) (o.reads ∙ sym p.reads)

opened_not_bad : (bytes : List ℕ) (r : Reader) → IsOpened bytes r → HasNoPreamble bytes ⊎ IsRefused bytes (Bad 0) → ⊥
opened_not_bad bytes r o (inl none) = header_has_preamble r.kind r.marker bytes (drop r.first bytes) o.header none
opened_not_bad bytes r o (inr refused) = header_not_refused r.kind r.marker bytes (drop r.first bytes) (Bad 0) o.header refused

refused_not_bad : (bytes what said : List ℕ) → IsRefused bytes (Unsupported what said) → HasNoPreamble bytes ⊎ IsRefused bytes (Bad 0) → ⊥
refused_not_bad bytes what said r (inl none) = refused_has_preamble bytes (Unsupported what said) r none
refused_not_bad bytes what said r (inr refused) =
    let e : Unsupported what said ≡ Bad 0 = refused_one bytes (Unsupported what said) (Bad 0) r refused in
    absurd cc

pub opens_one : (bytes : List ℕ) (r s : Result Reader AvroFault) → Opens bytes r → Opens bytes s → r ≢ Err Memory → s ≢ Err Memory → r ≡ s
opens_one bytes (Ok r) (Ok s) o p m n = ap Ok (opened_one bytes r s o p)
opens_one bytes (Ok r) (Err Memory) o p m n = absurd (n refl)
opens_one bytes (Ok r) (Err (Unsupported what said)) o p m n = absurd (header_not_refused r.kind r.marker bytes (drop r.first bytes) (Unsupported what said) o.header p)
opens_one bytes (Ok r) (Err (Bad offset)) o p m n = absurd (opened_not_bad bytes r o p.1)
opens_one bytes (Err Memory) s o p m n = absurd (m refl)
opens_one bytes (Err (Unsupported what said)) (Ok s) o p m n = absurd (header_not_refused s.kind s.marker bytes (drop s.first bytes) (Unsupported what said) p.header o)
opens_one bytes (Err (Unsupported what said)) (Err Memory) o p m n = absurd (n refl)
opens_one bytes (Err (Unsupported what said)) (Err (Unsupported part text)) o p m n = ap Err (refused_one bytes (Unsupported what said) (Unsupported part text) o p)
opens_one bytes (Err (Unsupported what said)) (Err (Bad offset)) o p m n = absurd (refused_not_bad bytes what said o p.1)
opens_one bytes (Err (Bad offset)) (Ok s) o p m n = absurd (opened_not_bad bytes s p o.1)
opens_one bytes (Err (Bad offset)) (Err Memory) o p m n = absurd (n refl)
opens_one bytes (Err (Bad offset)) (Err (Unsupported what said)) o p m n = absurd (refused_not_bad bytes what said p o.1)
opens_one bytes (Err (Bad offset)) (Err (Bad at)) o p m n = ap (λ (k : ℕ). Err (Bad k)) (o.0 ∙ sym p.0)

-- ---- answers

-- at the end no block begins
no_block_at_end : (t : Avro) (marker bytes : List ℕ) (ds : List Data) (offset : ℕ) (rest : List ℕ) → offset ≡ length bytes → IsBlock t marker ds (drop offset bytes) rest → ⊥
no_block_at_end t marker bytes ds offset rest e b = omega (arith, block_shorter t marker ds (drop offset bytes) rest b, length-drop offset bytes)

pub answers_one : (t : Avro) (marker bytes : List ℕ) (offset : ℕ) (r s : Result (Option (List Data × ℕ)) AvroFault) → AnswersAt (λ d. d) t marker bytes offset r → AnswersAt (λ d. d) t marker bytes offset s
    → r ≢ Err Memory → s ≢ Err Memory → r ≡ s
answers_one t marker bytes offset (Ok None) (Ok None) o p m n = refl
answers_one t marker bytes offset (Ok None) (Ok (Some y)) o p m n = absurd (no_block_at_end t marker bytes y.0 offset (drop y.1 bytes) o p.block)
answers_one t marker bytes offset (Ok None) (Err Memory) o p m n = absurd (n refl)
answers_one t marker bytes offset (Ok None) (Err (Unsupported what said)) o p m n = absurd p
answers_one t marker bytes offset (Ok None) (Err (Bad at)) o p m n = absurd (p.1.before o)
answers_one t marker bytes offset (Ok (Some x)) (Ok None) o p m n = absurd (no_block_at_end t marker bytes x.0 offset (drop x.1 bytes) p o.block)
answers_one t marker bytes offset (Ok (Some x)) (Ok (Some y)) o p m n =
    let b = block_one t marker x.0 y.0 (drop offset bytes) (drop x.1 bytes) (drop y.1 bytes) o.block p.block in
    let next : x.1 ≡ y.1 = ends_same bytes x.1 y.1 o.within p.within b.1 in
    λ i. Ok (Some (b.0 i, next i))
answers_one t marker bytes offset (Ok (Some x)) (Err Memory) o p m n = absurd (n refl)
answers_one t marker bytes offset (Ok (Some x)) (Err (Unsupported what said)) o p m n = absurd p
answers_one t marker bytes offset (Ok (Some x)) (Err (Bad at)) o p m n = absurd (p.1.none x.0 (drop x.1 bytes) o.block)
answers_one t marker bytes offset (Err Memory) s o p m n = absurd (m refl)
answers_one t marker bytes offset (Err (Unsupported what said)) s o p m n = absurd o
answers_one t marker bytes offset (Err (Bad at)) (Ok None) o p m n = absurd (o.1.before p)
answers_one t marker bytes offset (Err (Bad at)) (Ok (Some y)) o p m n = absurd (o.1.none y.0 (drop y.1 bytes) p.block)
answers_one t marker bytes offset (Err (Bad at)) (Err Memory) o p m n = absurd (n refl)
answers_one t marker bytes offset (Err (Bad at)) (Err (Unsupported what said)) o p m n = absurd p
answers_one t marker bytes offset (Err (Bad at)) (Err (Bad other)) o p m n = ap (λ (k : ℕ). Err (Bad k)) (o.0 ∙ sym p.0)

-- ---- whole files

module _ (t : Avro) (marker : List ℕ) where
  blocks_one : (blocks others : List (List Data)) (source : List ℕ) → AreItems (IsBlock t marker) blocks source [] → AreItems (IsBlock t marker) others source [] → blocks ≡ others
  blocks_one [] [] source h k = refl
  blocks_one [] (es ∷ others) source h k = absurd (omega (arith, ap length h, block_shorter t marker es source k.0 k.1))
  blocks_one (ds ∷ blocks) [] source h k = absurd (omega (arith, ap length k, block_shorter t marker ds source h.0 h.1))
  blocks_one (ds ∷ blocks) (es ∷ others) source h k =
      let b = block_one t marker ds es source h.0 k.0 h.1 k.1 in
      let first = b.0 in
      let later = blocks_one blocks others h.0 h.2 (subst (λ (s : List ℕ). AreItems (IsBlock t marker) others s []) (sym b.1) k.2) in
      cc

pub file_one : (t u : Avro) (blocks others : List (List Data)) (marker mark bytes : List ℕ) → IsContainer t blocks marker bytes → IsContainer u others mark bytes → (t ≡ u) × (blocks ≡ others) × (marker ≡ mark)
file_one t u blocks others marker mark bytes f g =
    let h = header_one t u marker mark bytes f.start g.start f.header g.header in
    let moved : AreItems (IsBlock t marker) others f.start [] =
    subst (λ (s : List ℕ). AreItems (IsBlock t marker) others s []) (sym h.rest_same)
    (subst (λ (m : List ℕ). AreItems (IsBlock t m) others g.start []) (sym h.marker_same)
    (subst (λ (v : Avro). AreItems (IsBlock v mark) others g.start []) (sym h.kind_same) g.each)) in
    (h.kind_same, blocks_one t marker blocks others f.start f.each moved, h.marker_same)

-- ---- answers that lead on

module _ (r : Reader) where
  leads_of : (blocks : List (List Data)) (offset : ℕ) → offset ≤ length r.bytes → AreItems (IsBlock r.kind r.marker) blocks (drop offset r.bytes) [] → Leads r offset blocks (length r.bytes)
  leads_of [] offset le h = omega (arith, length-drop offset r.bytes, ap length h)
  leads_of (ds ∷ blocks) offset le h =
      let f = block_follows r.kind r.marker ds (drop offset r.bytes) h.0 h.1 in
      let whole : Follows r.bytes h.0 = record { prefix = take offset r.bytes ++ f.prefix; parts = sym (take-append-drop offset r.bytes) ∙ ap (λ (x : List ℕ). take offset r.bytes ++ x) f.parts ∙ sym (append_assoc (take offset r.bytes) f.prefix h.0) } in
      let next = length r.bytes - length h.0 in
      let end : drop next r.bytes ≡ h.0 = at_end r.bytes h.0 whole in
      let within : next ≤ length r.bytes = omega arith in
      (next, record { within = within; block = subst (λ (x : List ℕ). IsBlock r.kind r.marker ds (drop offset r.bytes) x) (sym end) h.1 }, leads_of blocks next within (subst (λ (x : List ℕ). AreItems (IsBlock r.kind r.marker) blocks x []) (sym end) h.2))

  items_of_leads : (blocks : List (List Data)) (offset : ℕ) → Leads r offset blocks (length r.bytes) → AreItems (IsBlock r.kind r.marker) blocks (drop offset r.bytes) []
  items_of_leads [] offset e = ap (λ (n : ℕ). drop n r.bytes) e ∙ drop_end r.bytes
  items_of_leads (ds ∷ blocks) offset l = (drop l.0 r.bytes, l.1.block, items_of_leads blocks l.0 l.2)

  -- where the answers lead to an offset at which no block begins, no blocks are the rest of the bytes
  no_items : (before blocks : List (List Data)) (offset last : ℕ) → offset ≤ length r.bytes → Leads r offset before last → HasNoBlock r.kind r.marker r.bytes last → AreItems (IsBlock r.kind r.marker) blocks (drop offset r.bytes) [] → ⊥
  no_items [] [] offset last le l none h = none.before (omega (arith, length-drop offset r.bytes, ap length h, l))
  no_items [] (es ∷ blocks) offset last le l none h = none.none es h.0 (subst (λ (n : ℕ). IsBlock r.kind r.marker es (drop n r.bytes) h.0) l h.1)
  no_items (ds ∷ before) [] offset last le l none h = omega (arith, ap length h, block_shorter r.kind r.marker ds (drop offset r.bytes) (drop l.0 r.bytes) l.1.block)
  no_items (ds ∷ before) (es ∷ blocks) offset last le l none h =
      let b = block_one r.kind r.marker ds es (drop offset r.bytes) (drop l.0 r.bytes) h.0 l.1.block h.1 in
      no_items before blocks l.0 last l.1.within l.2 none (subst (λ (x : List ℕ). AreItems (IsBlock r.kind r.marker) blocks x []) (sym b.1) h.2)

-- the reader of a file
abbrev reader_of : Avro → List ℕ → List ℕ → ℕ → Reader
reader_of t marker bytes first = record { bytes = bytes; kind = t; marker = marker; first = first; offset = first; fault = None }

pub file_leads : (t : Avro) (blocks : List (List Data)) (marker bytes : List ℕ) → IsContainer t blocks marker bytes
    → (r : Reader) × Opens bytes (Ok r) × (r.kind ≡ t) × (r.marker ≡ marker) × Leads r r.first blocks (length bytes)
file_leads t blocks marker bytes f =
    let follows = header_follows t marker bytes f.start f.header in
    let first = length bytes - length f.start in
    let end : drop first bytes ≡ f.start = at_end bytes f.start follows in
    let within : first ≤ length bytes = omega arith in
    let r = reader_of t marker bytes first in (
      r,
      record { same = refl; within = within; header = subst (λ (x : List ℕ). IsHeader t marker bytes x) (sym end) f.header; before = refl; reads = refl },
      refl,
      refl,
      leads_of r blocks first within (subst (λ (x : List ℕ). AreItems (IsBlock t marker) blocks x []) (sym end) f.each),
    )

pub leads_file : (t : Avro) (blocks : List (List Data)) (marker bytes : List ℕ) → (r : Reader) → Opens bytes (Ok r) → r.kind ≡ t → r.marker ≡ marker → Leads r r.first blocks (length bytes) → IsContainer t blocks marker bytes
leads_file t blocks marker bytes r o k m l =
    let each = items_of_leads r blocks r.first (subst (λ (n : ℕ). Leads r r.first blocks n) (ap length (sym o.same)) l) in
    let header = o.header in
    record {
      start = drop r.first bytes;
      header = subst (λ (u : Avro). IsHeader u marker bytes (drop r.first bytes)) k (subst (λ (x : List ℕ). IsHeader r.kind x bytes (drop r.first bytes)) m header);
      each = subst (λ (x : List ℕ). AreItems (IsBlock t marker) blocks (drop r.first x) []) o.same
          (subst (λ (u : Avro). AreItems (IsBlock u marker) blocks (drop r.first r.bytes) []) k (subst (λ (x : List ℕ). AreItems (IsBlock r.kind x) blocks (drop r.first r.bytes) []) m each));
    }

pub unread : (bytes : List ℕ) (e : AvroFault) → Opens bytes (Err e) → e ≢ Memory → (t : Avro) (blocks : List (List Data)) (marker : List ℕ) → IsContainer t blocks marker bytes → ⊥
unread bytes Memory o some t blocks marker f = some refl
unread bytes (Unsupported what said) o some t blocks marker f = header_not_refused t marker bytes f.start (Unsupported what said) f.header o
unread bytes (Bad offset) o some t blocks marker f =
    elim o.1 [
      | inl none ↦ header_has_preamble t marker bytes f.start f.header none
      | inr refused ↦ header_not_refused t marker bytes f.start (Bad 0) f.header refused
    ]

pub damaged : (r : Reader) (before : List (List Data)) (bytes : List ℕ) (offset at : ℕ) → Opens bytes (Ok r) → Leads r r.first before offset → AnswersAt {X = List Data} (λ d. d) r.kind r.marker r.bytes offset (Err (Bad at))
    → (t : Avro) (blocks : List (List Data)) (marker : List ℕ) → IsContainer t blocks marker bytes → ⊥
damaged r before bytes offset at o l none t blocks marker f =
    let h = header_one t r.kind marker r.marker bytes f.start (drop r.first bytes) f.header o.header in
    let moved : AreItems (IsBlock r.kind r.marker) blocks (drop r.first bytes) [] =
    subst (λ (s : List ℕ). AreItems (IsBlock r.kind r.marker) blocks s []) h.rest_same
    (subst (λ (m : List ℕ). AreItems (IsBlock r.kind m) blocks f.start []) h.marker_same
    (subst (λ (v : Avro). AreItems (IsBlock v marker) blocks f.start []) h.kind_same f.each)) in
    no_items r before blocks r.first offset (omega (arith, ap length o.same, o.within)) l none.1 (subst (λ (x : List ℕ). AreItems (IsBlock r.kind r.marker) blocks (drop r.first x) []) (sym o.same) moved)
