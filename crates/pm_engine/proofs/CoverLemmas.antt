-- Where runs cover rows, the rows are worth what the runs have.
use Rattle.std.proofs.Common.{◌≡◌, ◌≢◌, ℕ, List, [], ◌∷◌, ◌++◌, map, false, refl, sym, ap, subst, ◌∙◌, append_assoc, append-nil, inl, inr}
use Rattle.std.specs.List.{AllZip, flat_map}
use Rattle.std.specs.Ordering.{eq_by_cmp}
use Rattle.std.proofs.lemmas.List.Elements.{filter-append}
use Rattle.pm_values.specs.Order.{Values, key_cmp}
use Rattle.pm_model_history.specs.Merge.{HistoryRow, key_of, rows_of}
use Rattle.pm_engine.specs.Covers.{Covers, CoversAll, CoversKey, Holds, MayBeMissing, Run, of_key, row_of, stored_rows}
use Rattle.pm_engine.specs.Meaning.{AreTaken, Meaning, SameWorth}
use Rattle.pm_engine.proofs.Facts.{AreTaken-append, SameWorth-same, SameWorth-trans}

-- what a run has of a key is taken, and worth what its part is
holds-worth : (m : Meaning) (key : Values) (own : Run) (part before after : List HistoryRow) → Holds m key own part → AreTaken m key before → AreTaken m key after
    → SameWorth m (before ++ (part ++ after)) (before ++ (map row_of own ++ after))
holds-worth m key [] part before after h first then = SameWorth-same m _ _ (ap (λ p. before ++ (p ++ after)) h)
holds-worth m key (s ∷ []) part before after h first then = h.worth before after first then
holds-worth m key (s ∷ t ∷ more) part before after h first then = absurd h

holds-taken : (m : Meaning) (key : Values) (own : Run) (part : List HistoryRow) → Holds m key own part → AreTaken m key part
holds-taken m key [] part h = subst (AreTaken m key) (sym h) tt
holds-taken m key (s ∷ []) part h = h.all_taken
holds-taken m key (s ∷ t ∷ more) part h = absurd h

own-taken : (m : Meaning) (key : Values) (own : Run) (part : List HistoryRow) → Holds m key own part → AreTaken m key (map row_of own)
own-taken m key [] part h = tt
own-taken m key (s ∷ []) part h = (h.taken, tt)
own-taken m key (s ∷ t ∷ more) part h = absurd h

parts-taken : (m : Meaning) (key : Values) (runs : List Run) (parts : List (List HistoryRow)) → AllZip (λ (run : Run) (part : List HistoryRow). Holds m key (of_key key run) part) runs parts
    → AreTaken m key (flat_map (λ part. part) parts)
parts-taken m key [] [] holds = tt
parts-taken m key [] (p ∷ ps) holds = absurd holds
parts-taken m key (r ∷ rs) [] holds = absurd holds
parts-taken m key (r ∷ rs) (p ∷ ps) holds = AreTaken-append m key p _ (holds-taken m key (of_key key r) p holds.0) (parts-taken m key rs ps holds.1)

runs-taken : (m : Meaning) (key : Values) (runs : List Run) (parts : List (List HistoryRow)) → AllZip (λ (run : Run) (part : List HistoryRow). Holds m key (of_key key run) part) runs parts
    → AreTaken m key (stored_rows key runs)
runs-taken m key [] [] holds = tt
runs-taken m key [] (p ∷ ps) holds = absurd holds
runs-taken m key (r ∷ rs) [] holds = absurd holds
runs-taken m key (r ∷ rs) (p ∷ ps) holds = AreTaken-append m key (map row_of (of_key key r)) _ (own-taken m key (of_key key r) p holds.0) (runs-taken m key rs ps holds.1)

-- part by part, among other rows
parts-worth : (m : Meaning) (key : Values) (runs : List Run) (parts : List (List HistoryRow)) (before : List HistoryRow) → AllZip (λ (run : Run) (part : List HistoryRow). Holds m key (of_key key run) part) runs parts
    → AreTaken m key before → SameWorth m (before ++ flat_map (λ part. part) parts) (before ++ stored_rows key runs)
parts-worth m key [] [] before holds first = SameWorth-same m _ _ refl
parts-worth m key [] (p ∷ ps) before holds first = absurd holds
parts-worth m key (r ∷ rs) [] before holds first = absurd holds
parts-worth m key (r ∷ rs) (p ∷ ps) before holds first =
    let own : List HistoryRow = map row_of (of_key key r) in
    let taken : AreTaken m key (before ++ own) = AreTaken-append m key before own first (own-taken m key (of_key key r) p holds.0) in
    SameWorth-trans m _ _ _ (holds-worth m key (of_key key r) p before _ holds.0 first (parts-taken m key rs ps holds.1))
    (SameWorth-trans m _ _ _ (SameWorth-same m _ _ (sym (append_assoc before own (flat_map (λ part. part) ps))))
    (SameWorth-trans m _ _ _ (parts-worth m key rs ps (before ++ own) holds.1 taken)
    (SameWorth-same m _ _ (append_assoc before own (stored_rows key rs)))))

-- where the runs have nothing, all parts are empty
holds-none : (m : Meaning) (key : Values) (own : Run) (part : List HistoryRow) → Holds m key own part → map row_of own ≡ [] → part ≡ []
holds-none m key [] part h none = h
holds-none m key (s ∷ []) part h none = cc
holds-none m key (s ∷ t ∷ more) part h none = absurd h

no_first : {A : Type 0} (xs ys : List A) → xs ++ ys ≡ [] → (xs ≡ []) × (ys ≡ [])
no_first [] ys e = (refl, e)
no_first (x ∷ xs) ys e = (cc, cc)

parts-none : (m : Meaning) (key : Values) (runs : List Run) (parts : List (List HistoryRow)) → AllZip (λ (run : Run) (part : List HistoryRow). Holds m key (of_key key run) part) runs parts
    → stored_rows key runs ≡ [] → flat_map (λ part. part) parts ≡ []
parts-none m key [] [] holds none = refl
parts-none m key [] (p ∷ ps) holds none = absurd holds
parts-none m key (r ∷ rs) [] holds none = absurd holds
parts-none m key (r ∷ rs) (p ∷ ps) holds none =
    let both = no_first (map row_of (of_key key r)) (stored_rows key rs) none in
    ap (λ xs. xs ++ flat_map (λ part. part) ps) (holds-none m key (of_key key r) p holds.0 both.0) ∙ parts-none m key rs ps holds.1 both.1

holds-some : (m : Meaning) (key : Values) (own : Run) (part : List HistoryRow) → Holds m key own part → part ≡ [] → map row_of own ≡ []
holds-some m key [] part h none = refl
holds-some m key (s ∷ []) part h none = absurd (h.some none)
holds-some m key (s ∷ t ∷ more) part h none = absurd h

parts-some : (m : Meaning) (key : Values) (runs : List Run) (parts : List (List HistoryRow)) → AllZip (λ (run : Run) (part : List HistoryRow). Holds m key (of_key key run) part) runs parts
    → flat_map (λ part. part) parts ≡ [] → stored_rows key runs ≡ []
parts-some m key [] [] holds none = refl
parts-some m key [] (p ∷ ps) holds none = absurd holds
parts-some m key (r ∷ rs) [] holds none = absurd holds
parts-some m key (r ∷ rs) (p ∷ ps) holds none =
    let both = no_first p (flat_map (λ part. part) ps) none in
    ap (λ xs. xs ++ stored_rows key rs) (holds-some m key (of_key key r) p holds.0 both.0) ∙ parts-some m key rs ps holds.1 both.1

-- rows that may be missing don't count before others
missing-worth : (m : Meaning) (key : Values) (missing rest : List HistoryRow) → MayBeMissing m key missing → rest ≢ [] → AreTaken m key rest → SameWorth m (missing ++ rest) rest
missing-worth m key missing rest (inl none) some taken = SameWorth-same m _ _ (ap (λ xs. xs ++ rest) none)
missing-worth m key missing rest (inr hidden) some taken = hidden.worth rest some taken

pub covers-worth : (m : Meaning) (runs : List Run) (rows : List HistoryRow) (key : Values) → Covers m runs rows → stored_rows key runs ≢ [] → SameWorth m (rows_of m.primary key rows) (stored_rows key runs)
covers-worth m runs rows key covers some =
    let missing = (covers key).0 in
    let at = (covers key).2 in
    let parts = at.parts in
    SameWorth-trans m _ _ _ (SameWorth-same m _ _ at.split)
    (SameWorth-trans m _ _ _ (missing-worth m key missing (flat_map (λ part. part) parts) (covers key).1 (λ e. some (parts-some m key runs parts at.holds e)) (parts-taken m key runs parts at.holds))
    (parts-worth m key runs parts [] at.holds tt))

pub covers-hidden : (m : Meaning) (runs : List Run) (rows : List HistoryRow) (key : Values) → Covers m runs rows → stored_rows key runs ≡ [] → rows_of m.primary key rows ≢ [] → m.shows (rows_of m.primary key rows) ≡ false
covers-hidden m runs rows key covers none some =
    let missing = (covers key).0 in
    let at = (covers key).2 in
    let is : rows_of m.primary key rows ≡ missing = at.split ∙ ap (λ xs. missing ++ xs) (parts-none m key runs at.parts at.holds none) ∙ append-nil missing in
    hidden missing is (covers key).1
  where
    hidden : (missing : List HistoryRow) → rows_of m.primary key rows ≡ missing → MayBeMissing m key missing → m.shows (rows_of m.primary key rows) ≡ false
    hidden missing is (inl e) = absurd (some (is ∙ e))
    hidden missing is (inr effect) = ap m.shows is ∙ effect.hidden

-- ---- one run more

flat_map-append : (xs ys : List (List HistoryRow)) → flat_map (λ part. part) (xs ++ ys) ≡ flat_map (λ part. part) xs ++ flat_map (λ part. part) ys
flat_map-append [] ys = refl
flat_map-append (x ∷ xs) ys = ap (λ rest. x ++ rest) (flat_map-append xs ys) ∙ sym (append_assoc x (flat_map (λ part. part) xs) (flat_map (λ part. part) ys))

AllZip-append : {A B : Type 0} (R : A → B → Type 0) (xs : List A) (ys : List B) (us : List A) (vs : List B) → AllZip R xs ys → AllZip R us vs → AllZip R (xs ++ us) (ys ++ vs)
AllZip-append R [] [] us vs one two = two
AllZip-append R [] (y ∷ ys) us vs one two = absurd one
AllZip-append R (x ∷ xs) [] us vs one two = absurd one
AllZip-append R (x ∷ xs) (y ∷ ys) us vs one two = (one.0, AllZip-append R xs ys us vs one.1 two)

key-added : (m : Meaning) (key : Values) (runs : List Run) (run : Run) (missing rows more : List HistoryRow) → CoversKey m key runs missing rows → CoversKey m key (run ∷ []) [] more → CoversKey m key (runs ++ run ∷ []) missing (rows ++ more)
key-added m key runs run missing rows more one two = record {
  parts = one.parts ++ two.parts;
  split = ap (λ xs. xs ++ more) one.split ∙ ap (λ ys. (missing ++ flat_map (λ part. part) one.parts) ++ ys) two.split
      ∙ append_assoc missing (flat_map (λ part. part) one.parts) (flat_map (λ part. part) two.parts)
      ∙ ap (λ ys. missing ++ ys) (sym (flat_map-append one.parts two.parts));
  holds = AllZip-append (λ (run : Run) (part : List HistoryRow). Holds m key (of_key key run) part) runs one.parts (run ∷ []) two.parts one.holds two.holds;
}

rows_of-append : (primary : List ℕ) (key : Values) (rows more : List HistoryRow) → rows_of primary key (rows ++ more) ≡ rows_of primary key rows ++ rows_of primary key more
rows_of-append primary key rows more = filter-append (λ (r : HistoryRow). eq_by_cmp key_cmp key (key_of primary r.1)) rows more

pub covers-added : (m : Meaning) (runs : List Run) (run : Run) (rows more : List HistoryRow) → Covers m runs rows → CoversAll m (run ∷ []) more → Covers m (runs ++ run ∷ []) (rows ++ more)
covers-added m runs run rows more one two = λ key.
    let first = one key in
    (first.0, first.1, subst (CoversKey m key (runs ++ run ∷ []) first.0) (sym (rows_of-append m.primary key rows more)) (key-added m key runs run first.0 (rows_of m.primary key rows) (rows_of m.primary key more) first.2 (two key)))

pub covers_all-added : (m : Meaning) (runs : List Run) (run : Run) (rows more : List HistoryRow) → CoversAll m runs rows → CoversAll m (run ∷ []) more → CoversAll m (runs ++ run ∷ []) (rows ++ more)
covers_all-added m runs run rows more one two = λ key.
    subst (CoversKey m key (runs ++ run ∷ []) []) (sym (rows_of-append m.primary key rows more)) (key-added m key runs run [] (rows_of m.primary key rows) (rows_of m.primary key more) (one key) (two key))
