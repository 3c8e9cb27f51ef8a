-- The old value of a key, of runs that have rows.
use Rattle.std.proofs.Common.{◌≡◌, ◌≢◌, List, [], ◌∷◌, ◌++◌, map, reverse, Bool, true, false, cond, Option, None, Some, Ok, Err, refl, sym, ap, subst, ◌∙◌, append-nil}
use Rattle.std.specs.Prelude.{option_to_list}
use Rattle.std.specs.List.{AllByRecursion, AllZip, flat_map}
use Rattle.std.specs.Ordering.{eq_by_cmp}
use Rattle.std.proofs.lemmas.List.{map-append, reverse-append}
use Rattle.std.proofs.lemmas.List.Elements.{filter-append}
use Rattle.std.proofs.lemmas.Grind.{flat_map-append}
use Rattle.pm_base.proofs.Laws.{AllByRecursion-parts}
use Rattle.pm_values.specs.Order.{Values, key_cmp}
use Rattle.pm_values.specs.declared.record.Stamped.{Stamped}
use Rattle.pm_values.specs.declared.refusal.Refusal.{Refusal}
use Rattle.pm_values.specs.declared.refusal.Refusal.TheVariants.{Memory}
use Rattle.pm_schema.specs.declared.schema.TableSchema.{TableSchema}
use Rattle.pm_model_history.specs.Merge.{HistoryRow}
use Rattle.pm_engine.specs.Covers.{IsRising, Run, of_key, row_of, stored_rows}
use Rattle.pm_engine.specs.Meaning.{Meaning, SpeaksFor, stored_of}
use Rattle.pm_engine.specs.Reducing.{AreStoredRows}
use Rattle.pm_engine.specs.declared.stored.Stored.{Stored}
use Rattle.pm_engine.proofs.Rising.{tied}
use Rattle.pm_merge.specs.Merge.{AreStored, HaveOwnKinds, IsMerge, all_rows}
use Rattle.pm_merge.specs.Merging.{AreCombined, alone, joined}
use Rattle.pm_run.proofs.OneLemmas.{OneBlock}
use Rattle.pm_run.proofs.OrderLemmas.{rising_in_order}
use Rattle.pm_lookup.specs.File.{LooksIn, SeenFile, may_hold}
use Rattle.pm_lookup.specs.Looking.{row_of_key}
use Rattle.pm_lookup.specs.Lookup.{AreOne, AreRunsWith, HaveOf, HoldsRows, IsOldValue, IsStoredRow, RefusesAt, all_files, asked_for, old_part, rows_found}
use Rattle.pm_lookup.proofs.FoundLemmas.{OneOpening, looked, unasked, unrefused}
use Rattle.pm_lookup.proofs.KeyLemmas.{only_row}
use Rattle.pm_lookup.proofs.StepLemmas.{AllZip-append}

-- ---- rows of one key that became one

some_before : (xs ys : Run) → xs ≢ [] → xs ++ ys ≢ []
some_before [] ys some = absurd (some refl)
some_before (x ∷ xs) ys some = λ e. cc

mapped_some : (rows : Run) → rows ≢ [] → map row_of rows ≢ []
mapped_some [] some = absurd (some refl)
mapped_some (x ∷ xs) some = λ e. cc

module _ (m : Meaning) where
  some_rows : (rows : Run) (s : Stamped) → AreCombined m rows s → rows ≢ []
  some_rows _ _ (alone s) = λ e. cc
  some_rows _ _ (joined rows olders newers older newer s is one two both) = λ e. some_before olders newers (some_rows olders older one) (sym is ∙ e)

  -- it has their kind
  kind_of : (rows : Run) (s : Stamped) → AreCombined m rows s → HaveOwnKinds m rows → s.kind ≡ m.kind (map row_of rows)
  kind_of _ _ (alone s) own = own.0
  kind_of _ _ (joined rows olders newers older newer s is one two both) own =
      let parts = AllByRecursion-parts (λ (t : Stamped). t.kind ≡ m.kind (row_of t ∷ [])) olders newers (subst (HaveOwnKinds m) is own) in
      both.kind (map row_of olders) (map row_of newers) (mapped_some olders (some_rows olders older one)) (mapped_some newers (some_rows newers newer two))
      (kind_of olders older one parts.0) (kind_of newers newer two parts.1)
      ∙ ap m.kind (sym (map-append row_of olders newers) ∙ ap (map row_of) (sym is))

  abbrev SpeakAlone : Values → Run → Type 0
  SpeakAlone key rows = AllByRecursion (λ (x : Stamped). SpeaksFor m key (row_of x) (row_of x ∷ [])) rows

  -- it speaks for them
  speaks_for : (key : Values) (rows : Run) (s : Stamped) → AreCombined m rows s → SpeakAlone key rows → SpeaksFor m key (row_of s) (map row_of rows)
  speaks_for key _ _ (alone s) speak = speak.0
  speaks_for key _ _ (joined rows olders newers older newer s is one two both) speak =
      let parts = AllByRecursion-parts (λ (x : Stamped). SpeaksFor m key (row_of x) (row_of x ∷ [])) olders newers (subst (SpeakAlone key) is speak) in
      subst (SpeaksFor m key (row_of s)) (sym (map-append row_of olders newers) ∙ ap (map row_of) (sym is))
      (both.speaks key (map row_of olders) (map row_of newers) (speaks_for key olders older one parts.0) (speaks_for key newers newer two parts.1))

  -- ---- the rows of a key

  speak_of : (key : Values) (rows : Run) → AllByRecursion (λ (x : Stamped). SpeaksFor m x.key (row_of x) (row_of x ∷ [])) rows → SpeakAlone key (of_key key rows)
  speak_of key [] all = tt
  speak_of key (x ∷ rows) all = at (eq_by_cmp key_cmp key x.key) refl (speak_of key rows all.1)
    where
      at : (b : Bool) → eq_by_cmp key_cmp key x.key ≡ b → SpeakAlone key (of_key key rows) → SpeakAlone key (cond b (x ∷ of_key key rows) (of_key key rows))
      at true test later = (subst (λ (k : Values). SpeaksFor m k (row_of x) (row_of x ∷ [])) (sym (tied key x.key test)) all.0, later)
      at false test later = later

  kinds_of : (key : Values) (rows : Run) → HaveOwnKinds m rows → HaveOwnKinds m (of_key key rows)
  kinds_of key [] all = tt
  kinds_of key (x ∷ rows) all = at (eq_by_cmp key_cmp key x.key) (kinds_of key rows all.1)
    where
      at : (b : Bool) → HaveOwnKinds m (of_key key rows) → HaveOwnKinds m (cond b (x ∷ of_key key rows) (of_key key rows))
      at true later = (all.0, later)
      at false later = later

stored-rows : (key : Values) (runs : List Run) → stored_rows key runs ≡ map row_of (of_key key (all_rows runs))
stored-rows key [] = refl
stored-rows key (run ∷ runs) =
    ap (λ (rs : List HistoryRow). map row_of (of_key key run) ++ rs) (stored-rows key runs)
    ∙ sym (map-append row_of (of_key key run) (of_key key (all_rows runs)))
    ∙ ap (map row_of) (sym (filter-append (λ (x : Stamped). eq_by_cmp key_cmp key x.key) run (all_rows runs)))

-- ---- from the newest run on, and from the oldest

of_key-all : (key : Values) (each : List Run) → of_key key (flat_map (λ (own : Run). own) each) ≡ flat_map (of_key key) each
of_key-all key [] = refl
of_key-all key (own ∷ each) =
    filter-append (λ (x : Stamped). eq_by_cmp key_cmp key x.key) own (flat_map (λ (r : Run). r) each) ∙ ap (λ (rs : Run). of_key key own ++ rs) (of_key-all key each)

turned_one : (found : Option Stamped) → reverse (option_to_list found) ≡ option_to_list found
turned_one None = refl
turned_one (Some s) = refl

turned : (key : Values) (run : Run) → IsRising run → reverse (of_key key run) ≡ of_key key run
turned key run rising =
    let only = only_row key run (rising_in_order run rising) in
    subst (λ (rs : Run). reverse rs ≡ rs) only (turned_one (row_of_key key run))

turned_all : (key : Values) (runs : List Run) → AllByRecursion IsRising runs → reverse (flat_map (of_key key) runs) ≡ of_key key (all_rows (reverse runs))
turned_all key [] rising = refl
turned_all key (run ∷ runs) rising =
    let later : Run = of_key key (all_rows (reverse runs)) in
    let last : reverse (run ∷ runs) ≡ reverse runs ++ run ∷ [] = reverse-append (run ∷ []) runs in
    reverse-append (of_key key run) (flat_map (of_key key) runs)
    ∙ ap (λ (rs : Run). rs ++ reverse (of_key key run)) (turned_all key runs rising.1)
    ∙ ap (λ (rs : Run). later ++ rs) (turned key run rising.0)
    ∙ sym (filter-append (λ (x : Stamped). eq_by_cmp key_cmp key x.key) (all_rows (reverse runs)) run)
    ∙ ap (λ (rs : Run). of_key key (all_rows (reverse runs) ++ rs)) (sym (append-nil run))
    ∙ ap (of_key key) (sym (flat_map-append (λ (r : Run). r) (reverse runs) (run ∷ [])))
    ∙ ap (λ (rs : List Run). of_key key (all_rows rs)) (sym last)

-- ---- the files of the runs

abbrev Seen : TableSchema → SeenFile → Run → Type 0
Seen s f rows = HoldsRows s (f.meta, f.bytes) rows

record HaveEach (s : TableSchema) (key : Values) (files : List SeenFile) (rows : List Run) : Type 0 where
  each : List Run
  seen : AllZip (Seen s) files each
  same : flat_map (of_key key) rows ≡ flat_map (of_key key) each

each_file : (s : TableSchema) (key : Values) (runs : List (List SeenFile)) (rows : List Run) → AreRunsWith s runs rows → HaveEach s key (all_files runs) rows
each_file s key [] [] zip = record { each = []; seen = tt; same = refl }
each_file s key [] (own ∷ rows) zip = absurd zip
each_file s key (run ∷ runs) [] zip = absurd zip
each_file s key (run ∷ runs) (own ∷ rows) zip =
    let r = zip.0 in
    let later = each_file s key runs rows zip.1 in
    record {
      each = r.each ++ later.each;
      seen = AllZip-append (Seen s) run (all_files runs) r.each later.each r.files later.seen;
      same = ap (λ (rs : Run). rs ++ flat_map (of_key key) rows) (ap (of_key key) r.joined ∙ of_key-all key r.each)
          ∙ ap (λ (rs : Run). flat_map (of_key key) r.each ++ rs) later.same
          ∙ sym (flat_map-append (of_key key) r.each later.each);
    }

all_rising : (s : TableSchema) (runs : List (List SeenFile)) (rows : List Run) → AreRunsWith s runs rows → AllByRecursion IsRising rows
all_rising s [] [] zip = tt
all_rising s [] (own ∷ rows) zip = absurd zip
all_rising s (run ∷ runs) [] zip = absurd zip
all_rising s (run ∷ runs) (own ∷ rows) zip = (zip.0.rising, all_rising s runs rows zip.1)

module _ (opening : OneOpening) (one : OneBlock) (s : TableSchema) (key : Values) where
  -- what is found in the files that are asked is all that the files have
  found_all : (files : List SeenFile) (each : List Run) (found : List (Option Stamped)) → AllZip (Seen s) files each → HaveOf s key (asked_for key files) found
      → flat_map option_to_list found ≡ flat_map (of_key key) each
  found_all [] [] [] zip have = refl
  found_all [] [] (x ∷ found) zip have = absurd have
  found_all [] (own ∷ each) found zip have = absurd zip
  found_all (f ∷ files) [] found zip have = absurd zip
  found_all (f ∷ files) (own ∷ each) found zip have =
      at (may_hold key f.meta) refl found (λ (rest : List (Option Stamped)) (h : HaveOf s key (asked_for key files) rest). found_all files each rest zip.1 h) have
    where
      at : (b : Bool) → may_hold key f.meta ≡ b → (found : List (Option Stamped))
          → ((rest : List (Option Stamped)) → HaveOf s key (asked_for key files) rest → flat_map option_to_list rest ≡ flat_map (of_key key) each)
          → HaveOf s key (cond b (f ∷ asked_for key files) (asked_for key files)) found → flat_map option_to_list found ≡ of_key key own ++ flat_map (of_key key) each
      at true is [] later have = absurd have
      at true is (x ∷ found) later have =
          ap (λ (rs : Run). rs ++ flat_map option_to_list found) (looked opening one s f own zip.0 key x have.0) ∙ ap (λ (rs : Run). of_key key own ++ rs) (later found have.1)
      at false is found later have = later found have ∙ ap (λ (rs : Run). rs ++ flat_map (of_key key) each) (sym (unasked opening one s f own zip.0 key is))

  -- nothing in them is refused
  unrefused_all : (files : List SeenFile) (each : List Run) → AllZip (Seen s) files each → (before : List SeenFile) (file : SeenFile) (after : List SeenFile) (e : Refusal)
      → asked_for key files ≡ before ++ file ∷ after → LooksIn s file key (Err e) → e ≡ Memory
  unrefused_all [] [] zip [] file after e split refuses = let no : [] ≡ file ∷ after = split in cc
  unrefused_all [] [] zip (x ∷ before) file after e split refuses = let no : [] ≡ x ∷ (before ++ file ∷ after) = split in cc
  unrefused_all [] (own ∷ each) zip before file after e split refuses = absurd zip
  unrefused_all (f ∷ files) [] zip before file after e split refuses = absurd zip
  unrefused_all (f ∷ files) (own ∷ each) zip before file after e split refuses =
      at (may_hold key f.meta) before (λ (rest : List SeenFile) (is : asked_for key files ≡ rest ++ file ∷ after). unrefused_all files each zip.1 rest file after e is refuses) split
    where
      at : (b : Bool) (before : List SeenFile) → ((rest : List SeenFile) → asked_for key files ≡ rest ++ file ∷ after → e ≡ Memory)
          → cond b (f ∷ asked_for key files) (asked_for key files) ≡ before ++ file ∷ after → e ≡ Memory
      at true [] later is =
          let same : f ≡ file = cc in
          unrefused opening one s f own zip.0 key e (subst (λ (x : SeenFile). LooksIn s x key (Err e)) (sym same) refuses)
      at true (x ∷ before) later is = later before (let same : f ∷ asked_for key files ≡ x ∷ (before ++ file ∷ after) = is in cc)
      at false before later is = later before is

  -- ---- the old value

  module _ (m : Meaning) (runs : List (List SeenFile)) (rows : List Run) (with : AreRunsWith s runs rows) where
    rows_of_key : (found : List (Option Stamped)) → HaveOf s key (asked_for key (all_files runs)) found → rows_found found ≡ of_key key (all_rows (reverse rows))
    rows_of_key found have =
        let h = each_file s key runs rows with in
        ap reverse (found_all (all_files runs) h.each found h.seen have ∙ sym h.same) ∙ turned_all key rows (all_rising s runs rows with)

    one_stored : ((m : Meaning) (key : Values) (stored : HistoryRow) (rows : List HistoryRow) → SpeaksFor m key stored rows → stored.0 ≡ m.kind rows → stored ≡ stored_of m rows)
        → AreStored m (reverse rows) → (own : Run) → own ≡ of_key key (all_rows (reverse rows)) → (one : Option Stamped) → AreOne m own one → IsStoredRow m key (map row_of own) (old_part one)
    one_stored law stored own is None none = ap (map row_of) none
    one_stored law stored own is (Some x) combined =
        let speak : SpeakAlone m key own = subst (SpeakAlone m key) (sym is) (speak_of m key (all_rows (reverse rows)) stored.speak) in
        let kinds : HaveOwnKinds m own = subst (HaveOwnKinds m) (sym is) (kinds_of m key (all_rows (reverse rows)) stored.kinds) in
        let speaks = speaks_for m key own x combined speak in
        (speaks, law m key (row_of x) (map row_of own) speaks (kind_of m own x combined kinds))

    pub old_stored : ((m : Meaning) (key : Values) (stored : HistoryRow) (rows : List HistoryRow) → SpeaksFor m key stored rows → stored.0 ≡ m.kind rows → stored ≡ stored_of m rows)
        → (old : Option Stored) → AreStored m (reverse rows) → IsOldValue m s key (all_files runs) (Ok old) → IsStoredRow m key (stored_rows key (reverse rows)) old
    old_stored law old stored (one, h, is) =
        let own = rows_of_key h.found h.looked in
        let there : IsStoredRow m key (map row_of (rows_found h.found)) (old_part one) = one_stored law stored (rows_found h.found) own one h.combined in
        subst (IsStoredRow m key (stored_rows key (reverse rows))) (sym is)
        (subst (λ (rs : List HistoryRow). IsStoredRow m key rs (old_part one)) (ap (map row_of) own ∙ sym (stored-rows key (reverse rows))) there)

    pub old_refused : (e : Refusal) → IsOldValue m s key (all_files runs) (Err e) → e ≡ Memory
    old_refused Memory refuses = refl
    old_refused e refuses = by e refuses
      where
        by : (e : Refusal) → RefusesAt s key (asked_for key (all_files runs)) e → e ≡ Memory
        by e r =
            let h = each_file s key runs rows with in
            unrefused_all (all_files runs) h.each h.seen r.before r.file r.after e r.split r.refuses

-- ---- in the run that the runs are merged into

module _ (m : Meaning) (key : Values) (runs : List Run) (run : Run) where
  -- the row of it is found among rows of which each is such
  found_such : (P : Stamped → Type 0) (rows : Run) (x : Stamped) → AllByRecursion P rows → row_of_key key rows ≡ Some x → P x × (eq_by_cmp key_cmp key x.key ≡ true)
  found_such P [] x all is = let no : None ≡ Some x = is in cc
  found_such P (y ∷ rows) x all is = at (eq_by_cmp key_cmp key y.key) refl (found_such P rows x all.1) is
    where
      at : (b : Bool) → eq_by_cmp key_cmp key y.key ≡ b → (row_of_key key rows ≡ Some x → P x × (eq_by_cmp key_cmp key x.key ≡ true))
          → cond b (Some y) (row_of_key key rows) ≡ Some x → P x × (eq_by_cmp key_cmp key x.key ≡ true)
      at true test later is =
          let same : y ≡ x = cc in
          (subst P same all.0, subst (λ (z : Stamped). eq_by_cmp key_cmp key z.key ≡ true) same test)
      at false test later is = later is

  mapped_none : (rows : Run) → map row_of rows ≡ [] → rows ≡ []
  mapped_none [] e = refl
  mapped_none (x ∷ rows) e = cc

  pub old_merged : AreStoredRows m run (all_rows runs) → IsMerge m runs run → (old : Option Stored) → IsStoredRow m key (stored_rows key runs) old → old ≡ old_part (row_of_key key run)
  old_merged stored merge old is = at old (row_of_key key run) refl (subst (λ (rs : List HistoryRow). IsStoredRow m key rs old) (stored-rows key runs) is)
    where
      own : Run
      own = of_key key (all_rows runs)

      only : option_to_list (row_of_key key run) ≡ of_key key run
      only = only_row key run (rising_in_order run merge.rising)

      at : (old : Option Stored) (found : Option Stamped) → row_of_key key run ≡ found → IsStoredRow m key (map row_of own) old → old ≡ old_part found
      at None None there is = refl
      at None (Some x) there is =
          let none : of_key key run ≡ [] = (merge.keys key).1 (mapped_none own is) in
          let no : x ∷ [] ≡ [] = ap option_to_list (sym there) ∙ only ∙ none in
          cc
      at (Some v) None there is =
          let none : of_key key run ≡ [] = sym only ∙ ap option_to_list there in
          absurd (is.0.some (ap (map row_of) ((merge.keys key).0 none)))
      at (Some v) (Some x) there is =
          let such = found_such (λ (t : Stamped). row_of t ≡ stored_of m (map row_of (of_key t.key (all_rows runs)))) run x stored there in
          let same : row_of x ≡ stored_of m (map row_of own) = subst (λ (k : Values). row_of x ≡ stored_of m (map row_of (of_key k (all_rows runs)))) (sym (tied key x.key such.1)) such.0 in
          let pair : (v.kind, v.row) ≡ row_of x = is.1 ∙ sym same in
          ap (λ (r : HistoryRow). Some (stored_row r)) pair
        where
          stored_row : HistoryRow → Stored
          stored_row r = record { kind = r.0; row = r.1 }
