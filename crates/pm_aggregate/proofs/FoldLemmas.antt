-- Values that speak for cells, where what is known of two lists joined comes from what is known of each.
use Rattle.std.proofs.Common.{◌≡◌, ◌≢◌, List, [], ◌∷◌, ◌++◌, Bool, true, false, cond, not, refl, sym, ap, subst, ◌∙◌, append_assoc}
use Rattle.std.proofs.lemmas.List.{map-append}
use Rattle.std.proofs.lemmas.List.Elements.{filter-append}
use Rattle.pm_base.proofs.Laws.{AllByRecursion-append}
use Rattle.pm_values.specs.Kind.{retracts}
use Rattle.pm_values.specs.declared.column.ColType.{ColType}
use Rattle.pm_values.specs.declared.kind.Kind.{Kind}
use Rattle.pm_values.specs.declared.kind.Kind.TheVariants.{Insert}
use Rattle.pm_values.specs.declared.value.Value.{Value}
use Rattle.pm_values.specs.declared.value.Value.TheVariants.{Null}
use Rattle.pm_model_history.specs.ColumnValue.{adding, is_null}
use Rattle.pm_model_history.specs.Merge.{HistoryRow}
use Rattle.pm_aggregate.specs.Column.{Cell, ColumnMeaning, IsOfType, IsTakenCell, SpeaksForCells, rows_of}
use Rattle.pm_aggregate.specs.Functions.{counting}
use Rattle.pm_aggregate.specs.Steps.{beside}

-- what is known of cells tells their value, and joins where they do
pub record Joins {M : Type 0} (value : List Cell → Value) (known : List Cell → M) (join : M → M → M) (read : M → Value) : Type 0 where
  pub reads : (cells : List Cell) → value cells ≡ read (known cells)
  pub joins : (xs ys : List Cell) → known (xs ++ ys) ≡ join (known xs) (known ys)

some_more : {A : Type 0} (xs ys : List A) → xs ≢ [] → xs ++ ys ≢ []
some_more [] ys some = absurd (some refl)
some_more (x ∷ xs) ys some = λ e. cc

module _ {M : Type 0} (m : ColumnMeaning) (known : List Cell → M) (join : M → M → M) (read : M → Value) (j : Joins m.value known join read) where
  -- cells of which the same is known are worth the same among others
  pub among : (xs ys before after : List Cell) → known xs ≡ known ys → m.value (before ++ (xs ++ after)) ≡ m.value (before ++ (ys ++ after))
  among xs ys before after same =
      j.reads (before ++ (xs ++ after))
      ∙ ap read (j.joins before (xs ++ after) ∙ ap (join (known before)) (j.joins xs after ∙ ap (λ k. join k (known after)) same ∙ sym (j.joins ys after)) ∙ sym (j.joins before (ys ++ after)))
      ∙ sym (j.reads (before ++ (ys ++ after)))

  -- a value speaks for one cell
  pub lifts : (kind : Kind) (v w : Value) → IsTakenCell m (kind, v) → IsTakenCell m (Insert, w) → known ((kind, v) ∷ []) ≡ known ((Insert, w) ∷ []) → m.value ((Insert, w) ∷ []) ≡ w → SpeaksForCells m w ((kind, v) ∷ [])
  lifts kind v w one stored same alone = record {
    some = λ e. cc;
    all_taken = (one, tt);
    taken = stored;
    alone = alone;
    worth = λ before after _ _. among ((kind, v) ∷ []) ((Insert, w) ∷ []) before after same;
  }

  -- a value speaks for what two speak for
  pub combines : (a b c : Value) (x y : List Cell) → SpeaksForCells m a x → SpeaksForCells m b y → IsTakenCell m (Insert, c) → known ((Insert, a) ∷ (Insert, b) ∷ []) ≡ known ((Insert, c) ∷ []) → m.value ((Insert, c) ∷ []) ≡ c → SpeaksForCells m c (x ++ y)
  combines a b c x y one two stored same alone = record {
    some = some_more x y one.some;
    all_taken = AllByRecursion-append (IsTakenCell m) x y one.all_taken two.all_taken;
    taken = stored;
    alone = alone;
    worth = λ before after before_taken after_taken.
        ap (λ zs. m.value (before ++ zs)) (append_assoc x y after)
        ∙ one.worth before (y ++ after) before_taken (AllByRecursion-append (IsTakenCell m) y after two.all_taken after_taken)
        ∙ ap m.value (sym (append_assoc before ((Insert, a) ∷ []) (y ++ after)))
        ∙ two.worth (before ++ (Insert, a) ∷ []) after (AllByRecursion-append (IsTakenCell m) before ((Insert, a) ∷ []) before_taken (one.taken, tt)) after_taken
        ∙ ap m.value (append_assoc before ((Insert, a) ∷ []) ((Insert, b) ∷ after))
        ∙ among ((Insert, a) ∷ (Insert, b) ∷ []) ((Insert, c) ∷ []) before after same;
  }

-- ---- functions for which null counts for nothing

-- the value is what it is worth by itself
abbrev pub IsOwn : (List HistoryRow → Value) → Value → Type 0
IsOwn worth v = worth ((Insert, v ∷ []) ∷ []) ≡ v

-- what a function makes of rows, and of one row
pub record Counts (kind : ColType) (worth : List HistoryRow → Value) (join : Value → Value → Value) : Type 0 where
  pub joins : (xs ys : List HistoryRow) → worth (xs ++ ys) ≡ beside join (worth xs) (worth ys)
  pub none : worth [] ≡ Null
  pub null : IsOwn worth Null
  pub one : (k : Kind) (v : Value) → IsOfType kind v → IsOfType kind (worth ((k, v ∷ []) ∷ []))
  pub own : (k : Kind) (v : Value) → IsOwn worth (worth ((k, v ∷ []) ∷ []))

-- what it makes of two values that aren't null is of the type, and what it is worth by itself
abbrev pub Pairs : ColType → (List HistoryRow → Value) → (Value → Value → Value) → Type 0
Pairs kind worth join = (a b : Value) → IsOwn worth a → IsOwn worth b → is_null a ≡ false → is_null b ≡ false
    → IsOfType kind a → IsOfType kind b → IsOfType kind (join a b) × IsOwn worth (join a b)

-- a cell that adds counts
counting_one : (skips : Bool) (v : Value) → counting skips ((Insert, v) ∷ []) ≡ (Insert, v ∷ []) ∷ []
counting_one true v = refl
counting_one false v = refl

counting-append : (skips : Bool) (xs ys : List Cell) → counting skips (xs ++ ys) ≡ counting skips xs ++ counting skips ys
counting-append false xs ys = map-append (λ (cell : Cell). (cell.0, cell.1 ∷ [])) xs ys
counting-append true xs ys =
    ap adding (map-append (λ (cell : Cell). (cell.0, cell.1 ∷ [])) xs ys)
    ∙ filter-append (λ (r : HistoryRow). not (retracts r.0)) (rows_of xs) (rows_of ys)

module _ (kind : ColType) (skips : Bool) (takes : Bool → Bool) (worth : List HistoryRow → Value) (join : Value → Value → Value) (counts : Counts kind worth join) (adds : takes false ≡ true) where
  meaning : ColumnMeaning
  meaning = record { kind = kind; takes = takes; value = λ cells. worth (counting skips cells) }

  counted-joins : Joins (λ cells. worth (counting skips cells)) (λ cells. worth (counting skips cells)) (beside join) (λ v. v)
  counted-joins = record {
    reads = λ cells. refl;
    joins = λ xs ys. ap worth (counting-append skips xs ys) ∙ counts.joins (counting skips xs) (counting skips ys);
  }

  stored_value : (v : Value) → worth (counting skips ((Insert, v) ∷ [])) ≡ worth ((Insert, v ∷ []) ∷ [])
  stored_value v = ap worth (counting_one skips v)

  -- of one cell: nothing of one that is skipped
  one_of_type : (b : Bool) (k : Kind) (v : Value) → IsOfType kind v → IsOfType kind (worth (counting b ((k, v) ∷ [])))
  one_of_type false k v of_type = counts.one k v of_type
  one_of_type true k v of_type =
      elim (retracts k) as (λ t. IsOfType kind (worth (cond (not t) ((k, v ∷ []) ∷ []) []))) [
        | true ↦ subst (IsOfType kind) (sym counts.none) tt
        | false ↦ counts.one k v of_type
      ]

  one_own : (b : Bool) (k : Kind) (v : Value) → IsOwn worth (worth (counting b ((k, v) ∷ [])))
  one_own false k v = counts.own k v
  one_own true k v =
      elim (retracts k) as (λ t. IsOwn worth (worth (cond (not t) ((k, v ∷ []) ∷ []) []))) [
        | true ↦ subst (IsOwn worth) (sym counts.none) counts.null
        | false ↦ counts.own k v
      ]

  -- a cell is spoken for by what it is worth
  pub counted-lifts : (k : Kind) (v : Value) → IsTakenCell (record { kind = kind; takes = takes; value = λ cells. worth (counting skips cells) }) (k, v)
      → SpeaksForCells (record { kind = kind; takes = takes; value = λ cells. worth (counting skips cells) }) (worth (counting skips ((k, v) ∷ []))) ((k, v) ∷ [])
  counted-lifts k v taken =
      let m : ColumnMeaning = record { kind = kind; takes = takes; value = λ cells. worth (counting skips cells) } in
      let w = worth (counting skips ((k, v) ∷ [])) in
      let own : worth (counting skips ((Insert, w) ∷ [])) ≡ w = stored_value w ∙ one_own skips k v in
      lifts m m.value (beside join) (λ x. x) counted-joins k v w taken (record { of_type = one_of_type skips k v taken.of_type; taken = adds }) (sym own) own

  beside-both : Pairs kind worth join → (a b : Value) → IsOwn worth a → IsOwn worth b → IsOfType kind a → IsOfType kind b → IsOfType kind (beside join a b) × IsOwn worth (beside join a b)
  beside-both pairs a b one two at bt =
      elim (is_null a) as (λ t. is_null a ≡ t → IsOfType kind (cond t b (cond (is_null b) a (join a b))) × IsOwn worth (cond t b (cond (is_null b) a (join a b)))) [
        | true ↦ λ _. (bt, two)
        | false ↦ λ some. elim (is_null b) as (λ t. is_null b ≡ t → IsOfType kind (cond t a (join a b)) × IsOwn worth (cond t a (join a b))) [
          | true ↦ λ _. (at, one)
          | false ↦ λ more. pairs a b one two some more at bt
        ] refl
      ] refl

  -- two values give the one that speaks for both
  pub counted-combines : Pairs kind worth join → (a b : Value) (x y : List Cell) → SpeaksForCells (record { kind = kind; takes = takes; value = λ cells. worth (counting skips cells) }) a x
      → SpeaksForCells (record { kind = kind; takes = takes; value = λ cells. worth (counting skips cells) }) b y
      → SpeaksForCells (record { kind = kind; takes = takes; value = λ cells. worth (counting skips cells) }) (beside join a b) (x ++ y)
  counted-combines pairs a b x y one two =
      let m : ColumnMeaning = record { kind = kind; takes = takes; value = λ cells. worth (counting skips cells) } in
      let c = beside join a b in
      let both = beside-both pairs a b (sym (stored_value a) ∙ one.alone) (sym (stored_value b) ∙ two.alone) one.taken.of_type two.taken.of_type in
      let own : worth (counting skips ((Insert, c) ∷ [])) ≡ c = stored_value c ∙ both.1 in
      combines m m.value (beside join) (λ v. v) counted-joins a b c x y one two (record { of_type = both.0; taken = adds })
      (counted-joins.joins ((Insert, a) ∷ []) ((Insert, b) ∷ []) ∙ ap (λ v. beside join v (m.value ((Insert, b) ∷ []))) one.alone ∙ ap (beside join a) two.alone ∙ sym own) own
