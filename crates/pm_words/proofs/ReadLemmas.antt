-- `clap` takes exactly the words of a command's options, each at most once, and finds these options.
use Rattle.std.proofs.Common.{◌≡◌, ◌∙◌, inl, inr, ℕ, zero, suc, ◌==◌, Bool, cond, true, false, true≢false, not, ◌&&◌, ◌||◌, List, [], ◌∷◌, ◌++◌, map, Option, None, Some, refl, sym, ap, ap₂, subst, append-nil, append_assoc, arith}
use Rattle.std.specs.List.{fold, list_all, list_any}
use Rattle.std.specs.Str.{bytes_eq}
use Rattle.std.proofs.lemmas.Bool.Decides.{nat_tests}
use Rattle.clap.specs.Faults.{settle_fault, turn_fault, use_fault, walk_fault}
use Rattle.clap.specs.Lexer.{name_and_value}
use Rattle.clap.specs.Walk.{Held, Walk, idle, option, settled_rows, used, walked}
use Rattle.clap.proofs.CutLemmas.{Lacks}
use Rattle.clap.proofs.LexerLemmas.{name_and_value-at, name_and_value-without}
use Rattle.pm_words.specs.Clap.{Declared, are_new, declared_as, fits, fits_as, flag, has_option, is_long_rest, may_stand, row_for, rule_for, shape_for, value}
use Rattle.pm_words.specs.Words.{AreOptions, AreWordsOf, CommandOption, HasNoEquals, after_equals, begins_with_hyphen}
use Rattle.pm_words.proofs.WalkLemmas.{Found, IsPending, Pending, at, both_none, first_none, flag_free, flag_passes, flag_turn, flag_walked, flagged, found, full_flag_fails, held, holds, late_fails, late_plain, late_plain_turn, not_true, pending, second_none, settled_free, settled_is, settled_passes, stray_fails, unknown, unknown_fails, unsettled, used_flag, used_value, value_free, value_passes, value_turn, value_walked, valued, wait_turn, wait_walked}

pub both : (a b : Bool) → (a && b) ≡ true → (a ≡ true) × (b ≡ true)
both true b is = (refl, is)
both false b is = absurd (true≢false (sym is))

pub neither : (a b : Bool) → (a || b) ≡ false → (a ≡ false) × (b ≡ false)
neither false b is = (refl, is)
neither true b is = absurd (true≢false is)

-- ---- a name and a value in one word

lacks : (text : List ℕ) → HasNoEquals text → Lacks 61 text
lacks [] none i within = absurd (omega arith)
lacks (x ∷ text) none zero within = let here = (neither (x == 61) _ none).0 in λ is. absurd (grind (arith, nat_tests, here, is))
lacks (x ∷ text) none (suc i) within = lacks text (neither (x == 61) _ none).1 i (omega (arith, within))

first_equals : (text : List ℕ) → list_any (λ byte. byte == 61) text ≡ true → (name given : List ℕ) × (text ≡ name ++ 61 ∷ given) × HasNoEquals name
first_equals [] has = absurd (true≢false (sym has))
first_equals (x ∷ text) has = go (x == 61) refl has (first_equals text)
  where
    go : (b : Bool) → (x == 61) ≡ b → (b || list_any (λ byte. byte == 61) text) ≡ true
        → (list_any (λ byte. byte == 61) text ≡ true → (name given : List ℕ) × (text ≡ name ++ 61 ∷ given) × HasNoEquals name)
        → (name given : List ℕ) × (x ∷ text ≡ name ++ 61 ∷ given) × HasNoEquals name
    go true is has rest = ([], text, ap (λ n. n ∷ text) (grind (arith, nat_tests, is)), refl)
    go false is has rest = let found = rest has in (x ∷ found.0, found.1, ap (λ t. x ∷ t) found.2, rw is found.3)

pub joined : (name : List ℕ) (given : Option (List ℕ)) → HasNoEquals name → name_and_value (name ++ after_equals given) ≡ (name, given)
joined name None none = ap name_and_value (append-nil name) ∙ name_and_value-without name (lacks name none)
joined name (Some given) none = name_and_value-at name given (lacks name none)

pub split : (text : List ℕ) → (text ≡ (name_and_value text).0 ++ after_equals (name_and_value text).1) × HasNoEquals (name_and_value text).0
split text = go (list_any (λ byte. byte == 61) text) refl
  where
    go : (b : Bool) → list_any (λ byte. byte == 61) text ≡ b → (text ≡ (name_and_value text).0 ++ after_equals (name_and_value text).1) × HasNoEquals (name_and_value text).0
    go false none =
        let is = name_and_value-without text (lacks text none) in (
          subst (λ (p : List ℕ × Option (List ℕ)). text ≡ p.0 ++ after_equals p.1) (sym is) (sym (append-nil text)),
          subst (λ (p : List ℕ × Option (List ℕ)). HasNoEquals p.0) (sym is) none,
        )
    go true has =
        let parts = first_equals text has in
        let is = ap name_and_value parts.2 ∙ name_and_value-at parts.0 parts.1 (lacks parts.0 parts.3) in (
          subst (λ (p : List ℕ × Option (List ℕ)). text ≡ p.0 ++ after_equals p.1) (sym is) parts.2,
          subst (λ (p : List ℕ × Option (List ℕ)). HasNoEquals p.0) (sym is) parts.3,
        )

-- ---- words that may stand

pub data View (word : List ℕ) : Type 0 where
  plain : begins_with_hyphen word ≡ false → View word
  long : (x : ℕ) (xs : List ℕ) → word ≡ 45 ∷ 45 ∷ x ∷ xs → View word

long_view : (b : ℕ) (rest : List ℕ) → b ≡ 45 → is_long_rest rest ≡ true → View (b ∷ rest)
long_view b [] is may = absurd (true≢false (sym may))
long_view b (c ∷ []) is may = absurd (true≢false (sym may))
long_view b (c ∷ x ∷ xs) is may =
    let same : c ≡ 45 = grind (arith, nat_tests, may) in
    long x xs (ap₂ (λ m n. m ∷ n ∷ x ∷ xs) is same)

pub view : (word : List ℕ) → may_stand word ≡ true → View word
view [] may = plain refl
view (b ∷ rest) may = go (b == 45) refl may
  where
    go : (t : Bool) → (b == 45) ≡ t → cond t (is_long_rest rest) true ≡ true → View (b ∷ rest)
    go false is may = plain is
    go true is may = let same : b ≡ 45 = grind (arith, nat_tests, is) in long_view b rest same may

-- ---- options that are new

pub has_one : (name : List ℕ) (a b : List CommandOption) → has_option name (a ++ b) ≡ (has_option name a || has_option name b)
has_one name [] b = refl
has_one name (x ∷ a) b = go (bytes_eq x.name name) (has_one name a b)
  where
    go : (t : Bool) → has_option name (a ++ b) ≡ (has_option name a || has_option name b) → (t || has_option name (a ++ b)) ≡ ((t || has_option name a) || has_option name b)
    go true same = refl
    go false same = same

-- one more new one
snoc : (before options : List CommandOption) (one : CommandOption) → are_new before options ≡ true → has_option one.name (before ++ options) ≡ false → are_new before (options ++ one ∷ []) ≡ true
snoc before [] one new free = let here : has_option one.name before ≡ false = subst (λ os. has_option one.name os ≡ false) (append-nil before) free in rw here refl
snoc before (x ∷ options) one new free =
    let parts = both (not (has_option x.name before)) _ new in
    let rest = snoc (before ++ x ∷ []) options one parts.1 (subst (λ os. has_option one.name os ≡ false) (sym (append_assoc before (x ∷ []) options)) free) in
    ap₂ (λ a b. a && b) parts.0 rest

-- the first of those that follow is new
ahead : (before options more : List CommandOption) (one : CommandOption) → are_new before (options ++ one ∷ more) ≡ true → has_option one.name (before ++ options) ≡ false
ahead before [] more one new = subst (λ os. has_option one.name os ≡ false) (sym (append-nil before)) (not_true' (has_option one.name before) (both (not (has_option one.name before)) _ new).0)
  where
    not_true' : (b : Bool) → not b ≡ true → b ≡ false
    not_true' false is = refl
    not_true' true is = absurd (true≢false (sym is))
ahead before (x ∷ options) more one new =
    subst (λ os. has_option one.name os ≡ false) (append_assoc before (x ∷ []) options)
    (ahead (before ++ x ∷ []) options more one (both (not (has_option x.name before)) _ new).1)

pend_new : (options : List CommandOption) (p : Pending) → are_new [] options ≡ true → are_new options (pending p) ≡ true → are_new [] (options ++ pending p) ≡ true
pend_new options None new pended = subst (λ os. are_new [] os ≡ true) (sym (append-nil options)) new
pend_new options (Some p) new pended = snoc [] options (record { name = p.0; value = Some p.1 }) new (not_true (has_option p.0 options) pended)

pend_split : (options more : List CommandOption) (p : Pending) → are_new [] ((options ++ pending p) ++ more) ≡ true → are_new options (pending p) ≡ true
pend_split options more None new = refl
pend_split options more (Some p) new =
    let one : CommandOption = record { name = p.0; value = Some p.1 } in
    let free = ahead [] options more one (subst (λ os. are_new [] os ≡ true) (append_assoc options (one ∷ []) more) new) in
    ap (λ b. not b && true) free

-- ---- words that `clap` takes are options

-- words are these options, which the command has, and which are new after those before; and with all of them the rows at
-- the end are those that are found
pub record Parsed (ds : List Declared) (before : List CommandOption) (words : List (List ℕ)) (end : Held) : Type 0 where
  pub more : List CommandOption
  pub are : AreOptions more words
  pub fit : list_all (fits ds) more ≡ true
  pub new : are_new [] (before ++ more) ≡ true
  pub rows : settled_rows (map rule_for ds) end.pending end.rows ≡ map row_for (before ++ more)

abbrev walked_over : List Declared → Walk → List (List ℕ) → Walk
walked_over ds w words = fold (walked (map rule_for ds) []) w words

abbrev start : List CommandOption → Pending → Walk
start options p = at (map row_for options) (held p) idle

abbrev pub Takes : List ℕ → List Declared → List (List ℕ) → Type 0
Takes name ds words = (options : List CommandOption) (p : Pending) → IsPending ds p → are_new [] options ≡ true → list_all may_stand words ≡ true
    → walk_fault (shape_for name ds) [] (start options p) words ≡ []
    → settle_fault (map rule_for ds) false (walked_over ds (start options p) words).held ≡ []
    → Parsed ds (options ++ pending p) words (walked_over ds (start options p) words).held

takes_none : (name : List ℕ) (ds : List Declared) → Takes name ds []
takes_none name ds options p is new may none ends =
    let pended = settled_free ds options p is ends in
    record {
      more = [];
      are = refl;
      fit = refl;
      new = subst (λ os. are_new [] os ≡ true) (sym (append-nil (options ++ pending p))) (pend_new options p new pended);
      rows = settled_is ds options p is pended ∙ ap (map row_for) (sym (append-nil (options ++ pending p)));
    }

turn_none : (name : List ℕ) (ds : List Declared) (w : Walk) (word : List ℕ) (rest : List (List ℕ)) → walk_fault (shape_for name ds) [] w (word ∷ rest) ≡ []
    → (turn_fault (shape_for name ds) [] w word ≡ []) × (walk_fault (shape_for name ds) [] (walked (map rule_for ds) [] w word) rest ≡ [])
unfolding walk_fault
turn_none name ds w word rest none = (first_none _ _ none, second_none _ _ none)

-- one option is taken, and what follows it are others
taken : (ds : List Declared) (all options : List CommandOption) (p : Pending) (one : CommandOption) (own rest : List (List ℕ)) (w : Walk)
    → w ≡ start options p → options ++ pending p ≡ all ++ one ∷ [] → AreWordsOf one own → fits ds one ≡ true
    → Parsed ds (options ++ pending p) rest (walked_over ds (start options p) rest).held → Parsed ds all (own ++ rest) (walked_over ds w rest).held
taken ds all options p one own rest w is same are fit q =
    let lists : (options ++ pending p) ++ q.more ≡ all ++ one ∷ q.more = ap (λ os. os ++ q.more) same ∙ append_assoc all (one ∷ []) q.more in
    record {
      more = one ∷ q.more;
      are = (own, rest, refl, are, q.are);
      fit = ap₂ (λ a b. a && b) fit q.fit;
      new = subst (λ os. are_new [] os ≡ true) lists q.new;
      rows = ap (λ v. settled_rows (map rule_for ds) (walked_over ds v rest).held.pending (walked_over ds v rest).held.rows) is ∙ q.rows ∙ ap (map row_for) lists;
    }

abbrev pub tail_of : List (List ℕ) → List (List ℕ)
tail_of [] = []
tail_of (word ∷ words) = words

module _ (name : List ℕ) (ds : List Declared) (x : ℕ) (xs : List ℕ) where
  abbrev n : List ℕ
  n = (name_and_value (x ∷ xs)).0

  abbrev long_word : List ℕ
  long_word = 45 ∷ 45 ∷ x ∷ xs

  joined-as : (given : Option (List ℕ)) → (name_and_value (x ∷ xs)).1 ≡ given → AreWordsOf (record { name = n; value = given }) (long_word ∷ [])
  joined-as given is =
      let parts = split (x ∷ xs) in
      (parts.1, inl (ap (λ text. (45 ∷ 45 ∷ text) ∷ []) (parts.0 ∙ ap (λ g. n ++ after_equals g) is)))

  take_value : (rest : List (List ℕ)) → Takes name ds rest → (given : List ℕ) → (name_and_value (x ∷ xs)).1 ≡ Some given → declared_as n ds ≡ Some (value n) → Takes name ds (long_word ∷ rest)
  take_value rest later given is known options p pend new may none ends =
      let turns = turn_none name ds (start options p) long_word rest none in
      let steps = first_none _ _ (sym (value_turn name ds (map row_for options) (held p) x xs n refl given is known) ∙ turns.0) in
      let pended = settled_free ds options p pend (first_none _ _ steps) in
      let rows = settled_is ds options p pend pended in
      let free = value_free n given (options ++ pending p) (subst (λ rs. use_fault false (rule_for (value n)) (given ∷ []) rs ≡ []) rows (second_none _ _ steps)) in
      let one : CommandOption = record { name = n; value = Some given } in
      let next : walked (map rule_for ds) [] (start options p) long_word ≡ start ((options ++ pending p) ++ one ∷ []) None =
      value_walked name ds (map row_for options) (held p) x xs n refl given is known
      ∙ ap (λ rs. at (used (rule_for (value n)) (given ∷ []) rs) None idle) rows
      ∙ ap (λ rs. at rs None idle) (used_value n given (options ++ pending p) free) in
      let q = later ((options ++ pending p) ++ one ∷ []) None tt (snoc [] (options ++ pending p) one (pend_new options p new pended) free) (both (may_stand long_word) _ may).1
      (subst (λ w. walk_fault (shape_for name ds) [] w rest ≡ []) next turns.1)
      (subst (λ w. settle_fault (map rule_for ds) false (walked_over ds w rest).held ≡ []) next ends) in
      taken ds (options ++ pending p) ((options ++ pending p) ++ one ∷ []) None one (long_word ∷ []) rest (walked (map rule_for ds) [] (start options p) long_word) next
      (append-nil ((options ++ pending p) ++ one ∷ [])) (joined-as (Some given) is) (ap (λ d. fits_as d (Some given)) known) q

  take_flag : (rest : List (List ℕ)) → Takes name ds rest → (name_and_value (x ∷ xs)).1 ≡ None → declared_as n ds ≡ Some (flag n) → Takes name ds (long_word ∷ rest)
  take_flag rest later is known options p pend new may none ends =
      let turns = turn_none name ds (start options p) long_word rest none in
      let steps = first_none _ _ (sym (flag_turn name ds (map row_for options) (held p) x xs n refl is known) ∙ turns.0) in
      let pended = settled_free ds options p pend (first_none _ _ steps) in
      let rows = settled_is ds options p pend pended in
      let free = flag_free n (options ++ pending p) (subst (λ rs. use_fault false (rule_for (flag n)) [] rs ≡ []) rows (second_none _ _ steps)) in
      let one : CommandOption = record { name = n; value = None } in
      let next : walked (map rule_for ds) [] (start options p) long_word ≡ start ((options ++ pending p) ++ one ∷ []) None =
      flag_walked name ds (map row_for options) (held p) x xs n refl is known
      ∙ ap (λ rs. at (used (rule_for (flag n)) [] rs) None idle) rows
      ∙ ap (λ rs. at rs None idle) (used_flag n (options ++ pending p) free) in
      let q = later ((options ++ pending p) ++ one ∷ []) None tt (snoc [] (options ++ pending p) one (pend_new options p new pended) free) (both (may_stand long_word) _ may).1
      (subst (λ w. walk_fault (shape_for name ds) [] w rest ≡ []) next turns.1)
      (subst (λ w. settle_fault (map rule_for ds) false (walked_over ds w rest).held ≡ []) next ends) in
      taken ds (options ++ pending p) ((options ++ pending p) ++ one ∷ []) None one (long_word ∷ []) rest (walked (map rule_for ds) [] (start options p) long_word) next
      (append-nil ((options ++ pending p) ++ one ∷ [])) (joined-as None is) (ap (λ d. fits_as d None) known) q

  apart-as : (given : List ℕ) → (name_and_value (x ∷ xs)).1 ≡ None → begins_with_hyphen given ≡ false → AreWordsOf (record { name = n; value = Some given }) (long_word ∷ given ∷ [])
  apart-as given is plain_word =
      let parts = split (x ∷ xs) in
      (parts.1, inr (given, refl, plain_word, ap (λ text. (45 ∷ 45 ∷ text) ∷ given ∷ []) (parts.0 ∙ ap (λ g. n ++ after_equals g) is ∙ append-nil n)))

  take_apart : (rest : List (List ℕ)) → Takes name ds (tail_of rest) → (name_and_value (x ∷ xs)).1 ≡ None → declared_as n ds ≡ Some (value n) → Takes name ds (long_word ∷ rest)
  take_apart [] later is known options p pend new may none ends =
      let next = wait_walked name ds (map row_for options) (held p) x xs n refl is known in
      absurd (unsettled name ds _ n known (subst (λ (w : Walk). settle_fault (map rule_for ds) false w.held ≡ []) next ends))
  take_apart (given ∷ rest) later is known options p pend new may none ends =
      let turns = turn_none name ds (start options p) long_word (given ∷ rest) none in
      let steps = first_none _ _ (sym (wait_turn name ds (map row_for options) (held p) x xs n refl is known) ∙ turns.0) in
      let pended = settled_free ds options p pend steps in
      let rows = settled_is ds options p pend pended in
      let all = options ++ pending p in
      let next : walked (map rule_for ds) [] (start options p) long_word ≡ at (map row_for all) (Some (n, [])) (option n) =
      wait_walked name ds (map row_for options) (held p) x xs n refl is known ∙ ap (λ rs. at rs (Some (n, [])) (option n)) rows in
      let mays = both (may_stand long_word) _ may in
      let turns2 = turn_none name ds (at (map row_for all) (Some (n, [])) (option n)) given rest (subst (λ w. walk_fault (shape_for name ds) [] w (given ∷ rest) ≡ []) next turns.1) in
      go (view given (both (may_stand given) _ mays.1).0) next pended turns2 (both (may_stand given) _ mays.1).1
    where
      go : View given → walked (map rule_for ds) [] (start options p) long_word ≡ at (map row_for (options ++ pending p)) (Some (n, [])) (option n)
          → are_new options (pending p) ≡ true
          → (turn_fault (shape_for name ds) [] (at (map row_for (options ++ pending p)) (Some (n, [])) (option n)) given ≡ [])
          × (walk_fault (shape_for name ds) [] (walked (map rule_for ds) [] (at (map row_for (options ++ pending p)) (Some (n, [])) (option n)) given) rest ≡ [])
          → list_all may_stand rest ≡ true
          → Parsed ds (options ++ pending p) (long_word ∷ given ∷ rest) (walked_over ds (start options p) (long_word ∷ given ∷ rest)).held
      go (plain is_plain) next pended turns2 may2 =
          let one : CommandOption = record { name = n; value = Some given } in
          let later_is = late_plain name ds (map row_for (options ++ pending p)) n known given is_plain in
          let both_words : walked (map rule_for ds) [] (walked (map rule_for ds) [] (start options p) long_word) given ≡ start (options ++ pending p) (Some (n, given)) =
          ap (λ w. walked (map rule_for ds) [] w given) next ∙ later_is in
          let q = later (options ++ pending p) (Some (n, given)) known (pend_new options p new pended) may2
          (subst (λ w. walk_fault (shape_for name ds) [] w rest ≡ []) later_is turns2.1)
          (subst (λ w. settle_fault (map rule_for ds) false (walked_over ds w rest).held ≡ []) both_words ends) in
          taken ds (options ++ pending p) (options ++ pending p) (Some (n, given)) one (long_word ∷ given ∷ []) rest
          (walked (map rule_for ds) [] (walked (map rule_for ds) [] (start options p) long_word) given) both_words refl
          (apart-as given is is_plain) (ap (λ d. fits_as d (Some given)) known) q
      go (long y ys same) next pended turns2 may2 =
          absurd (late_fails name ds (map row_for (options ++ pending p)) n known y ys
          (subst (λ g. turn_fault (shape_for name ds) [] (at (map row_for (options ++ pending p)) (Some (n, [])) (option n)) g ≡ []) same turns2.0))

  take_long : (rest : List (List ℕ)) → Takes name ds rest → Takes name ds (tail_of rest) → Takes name ds (long_word ∷ rest)
  take_long rest later after = go (found n ds) (name_and_value (x ∷ xs)).1 refl
    where
      go : Found n ds → (given : Option (List ℕ)) → (name_and_value (x ∷ xs)).1 ≡ given → Takes name ds (long_word ∷ rest)
      go (unknown known) given is = λ options p pend new may none ends.
          absurd (unknown_fails name ds (map row_for options) (held p) x xs n refl known (turn_none name ds (start options p) long_word rest none).0)
      go (valued known) (Some given) is = take_value rest later given is known
      go (valued known) None is = take_apart rest after is known
      go (flagged known) (Some given) is = λ options p pend new may none ends.
          absurd (full_flag_fails name ds (map row_for options) (held p) x xs n refl given is known (turn_none name ds (start options p) long_word rest none).0)
      go (flagged known) None is = take_flag rest later is known

take_word : (name : List ℕ) (ds : List Declared) (word : List ℕ) (rest : List (List ℕ)) → Takes name ds rest → Takes name ds (tail_of rest) → Takes name ds (word ∷ rest)
take_word name ds word rest later after options p pend new may none ends = go (view word (both (may_stand word) _ may).0)
  where
    go : View word → Parsed ds (options ++ pending p) (word ∷ rest) (walked_over ds (start options p) (word ∷ rest)).held
    go (plain is) = absurd (stray_fails name ds (map row_for options) (held p) word is (turn_none name ds (start options p) word rest none).0)
    go (long x xs is) = subst (λ w. Takes name ds (w ∷ rest)) (sym is) (take_long name ds x xs rest later after) options p pend new may none ends

takes_all : (name : List ℕ) (ds : List Declared) (words : List (List ℕ)) → Takes name ds words × Takes name ds (tail_of words)
takes_all name ds [] = (takes_none name ds, takes_none name ds)
takes_all name ds (word ∷ words) =
    let later = takes_all name ds words in
    (take_word name ds word words later.0 later.1, later.0)

pub takes : (name : List ℕ) (ds : List Declared) (words : List (List ℕ)) → Takes name ds words
takes name ds words = (takes_all name ds words).0

-- ---- and it takes the words of options

abbrev pub Passes : List ℕ → List Declared → List (List ℕ) → Walk → Type 0
Passes name ds words w = (walk_fault (shape_for name ds) [] w words ≡ []) × (settle_fault (map rule_for ds) false (walked_over ds w words).held ≡ [])

passes_none : (name : List ℕ) (ds : List Declared) (w : Walk) → settle_fault (map rule_for ds) false w.held ≡ [] → Passes name ds [] w
unfolding walk_fault
passes_none name ds w ends = (refl, ends)

passes_word : (name : List ℕ) (ds : List Declared) (w later : Walk) (word : List ℕ) (rest : List (List ℕ)) → turn_fault (shape_for name ds) [] w word ≡ []
    → walked (map rule_for ds) [] w word ≡ later → Passes name ds rest later → Passes name ds (word ∷ rest) w
unfolding walk_fault
passes_word name ds w later word rest turn is passes =
    let after = subst (Passes name ds rest) (sym is) passes in
    (both_none _ _ turn after.0, after.1)

abbrev pub AreTaken : List ℕ → List Declared → List CommandOption → Type 0
AreTaken name ds more = (words : List (List ℕ)) (options : List CommandOption) (p : Pending) → IsPending ds p → are_new [] ((options ++ pending p) ++ more) ≡ true
    → list_all may_stand words ≡ true → AreOptions more words → list_all (fits ds) more ≡ true → Passes name ds words (start options p)

module _ (name : List ℕ) (ds : List Declared) (x : ℕ) (xs : List ℕ) (one : CommandOption) (more : List CommandOption) (later : AreTaken name ds more) (rest : List (List ℕ))
    (are : AreOptions more rest) (fit : list_all (fits ds) more ≡ true) (may : list_all may_stand rest ≡ true)
    (options : List CommandOption) (p : Pending) (pend : IsPending ds p) (new : are_new [] ((options ++ pending p) ++ one ∷ more) ≡ true)
    (named : (name_and_value (x ∷ xs)).0 ≡ one.name) where
  abbrev all : List CommandOption
  all = options ++ pending p

  abbrev first_word : List ℕ
  first_word = 45 ∷ 45 ∷ x ∷ xs

  free : has_option one.name all ≡ false
  free = ahead [] all more one new

  pended : are_new options (pending p) ≡ true
  pended = pend_split options (one ∷ more) p new

  rows : settled_rows (map rule_for ds) (held p) (map row_for options) ≡ map row_for all
  rows = settled_is ds options p pend pended

  settles : settle_fault (map rule_for ds) false (holds (map row_for options) (held p)) ≡ []
  settles = settled_passes ds options p pend pended

  -- the others after it
  after : Passes name ds rest (start (all ++ one ∷ []) None)
  after = later rest (all ++ one ∷ []) None tt
      (subst (λ os. are_new [] os ≡ true) (sym (ap (λ os. os ++ more) (append-nil (all ++ one ∷ [])) ∙ append_assoc all (one ∷ []) more)) new) may are fit

  give_value : (given : List ℕ) → (name_and_value (x ∷ xs)).1 ≡ Some given → one.value ≡ Some given → declared_as one.name ds ≡ Some (value one.name)
      → Passes name ds (first_word ∷ rest) (start options p)
  give_value given is has known =
      let same : record { name = one.name; value = Some given } ≡ one = ap (λ v. record { name = one.name; value = v }) (sym has) in
      passes_word name ds (start options p) (start (all ++ one ∷ []) None) first_word rest
      (value_turn name ds (map row_for options) (held p) x xs one.name named given is known
      ∙ both_none _ [] (both_none _ _ settles (subst (λ rs. use_fault false (rule_for (value one.name)) (given ∷ []) rs ≡ []) (sym rows) (value_passes one.name given all free))) refl)
      (value_walked name ds (map row_for options) (held p) x xs one.name named given is known
      ∙ ap (λ rs. at (used (rule_for (value one.name)) (given ∷ []) rs) None idle) rows
      ∙ ap (λ rs. at rs None idle) (used_value one.name given all free)
      ∙ ap (λ o. start (all ++ o ∷ []) None) same)
      after

  give_flag : (name_and_value (x ∷ xs)).1 ≡ None → one.value ≡ None → declared_as one.name ds ≡ Some (flag one.name) → Passes name ds (first_word ∷ rest) (start options p)
  give_flag is has known =
      let same : record { name = one.name; value = None } ≡ one = ap (λ v. record { name = one.name; value = v }) (sym has) in
      passes_word name ds (start options p) (start (all ++ one ∷ []) None) first_word rest
      (flag_turn name ds (map row_for options) (held p) x xs one.name named is known
      ∙ both_none _ [] (both_none _ _ settles (subst (λ rs. use_fault false (rule_for (flag one.name)) [] rs ≡ []) (sym rows) (flag_passes one.name all free))) refl)
      (flag_walked name ds (map row_for options) (held p) x xs one.name named is known
      ∙ ap (λ rs. at (used (rule_for (flag one.name)) [] rs) None idle) rows
      ∙ ap (λ rs. at rs None idle) (used_flag one.name all free)
      ∙ ap (λ o. start (all ++ o ∷ []) None) same)
      after

  give_apart : (given : List ℕ) → (name_and_value (x ∷ xs)).1 ≡ None → begins_with_hyphen given ≡ false → one.value ≡ Some given → declared_as one.name ds ≡ Some (value one.name)
      → Passes name ds (first_word ∷ given ∷ rest) (start options p)
  give_apart given is is_plain has known =
      let same : record { name = one.name; value = Some given } ≡ one = ap (λ v. record { name = one.name; value = v }) (sym has) in
      let later_one : Passes name ds rest (start all (Some (one.name, given))) =
      later rest all (Some (one.name, given)) known
      (subst (λ os. are_new [] os ≡ true) (sym (append_assoc all (record { name = one.name; value = Some given } ∷ []) more) ∙ refl)
      (subst (λ o. are_new [] (all ++ o ∷ more) ≡ true) (sym same) new)) may are fit in
      passes_word name ds (start options p) (at (map row_for all) (Some (one.name, [])) (option one.name)) first_word (given ∷ rest)
      (wait_turn name ds (map row_for options) (held p) x xs one.name named is known ∙ both_none _ [] settles refl)
      (wait_walked name ds (map row_for options) (held p) x xs one.name named is known ∙ ap (λ rs. at rs (Some (one.name, [])) (option one.name)) rows)
      (passes_word name ds (at (map row_for all) (Some (one.name, [])) (option one.name)) (start all (Some (one.name, given))) given rest
      (late_plain_turn name ds (map row_for all) one.name known given is_plain)
      (late_plain name ds (map row_for all) one.name known given is_plain)
      later_one)

  -- by the value that it has in its word
  give_joined : (name_and_value (x ∷ xs)).1 ≡ one.value → fits ds one ≡ true → Passes name ds (first_word ∷ rest) (start options p)
  give_joined is fit_one = go (found one.name ds) one.value refl
    where
      go : Found one.name ds → (given : Option (List ℕ)) → one.value ≡ given → Passes name ds (first_word ∷ rest) (start options p)
      go (unknown known) given has = absurd (true≢false (sym fit_one ∙ ap (λ d. fits_as d one.value) known))
      go (valued known) (Some given) has = give_value given (is ∙ has) has known
      go (valued known) None has = absurd (true≢false (sym fit_one ∙ ap₂ fits_as known has))
      go (flagged known) (Some given) has = absurd (true≢false (sym fit_one ∙ ap₂ fits_as known has))
      go (flagged known) None has = give_flag (is ∙ has) has known

  give_word : (given : List ℕ) → (name_and_value (x ∷ xs)).1 ≡ None → begins_with_hyphen given ≡ false → one.value ≡ Some given → fits ds one ≡ true
      → Passes name ds (first_word ∷ given ∷ rest) (start options p)
  give_word given is is_plain has fit_one = go (found one.name ds)
    where
      go : Found one.name ds → Passes name ds (first_word ∷ given ∷ rest) (start options p)
      go (unknown known) = absurd (true≢false (sym fit_one ∙ ap (λ d. fits_as d one.value) known))
      go (valued known) = give_apart given is is_plain has known
      go (flagged known) = absurd (true≢false (sym fit_one ∙ ap₂ fits_as known has))

taken_none : (name : List ℕ) (ds : List Declared) → AreTaken name ds []
taken_none name ds words options p pend new may are fit =
    subst (λ ws. Passes name ds ws (start options p)) (sym are) (passes_none name ds (start options p) (settled_passes ds options p pend (pend_split options [] p new)))

taken_one : (name : List ℕ) (ds : List Declared) (one : CommandOption) (more : List CommandOption) → AreTaken name ds more → AreTaken name ds (one ∷ more)
taken_one name ds one more later words options p pend new may are fit =
    let fits_both = both (fits ds one) _ fit in
    let rest = are.1 in
    let form = are.3 in
    elim form.1 as (λ _. Passes name ds words (start options p)) [
      | inl is ↦
          let whole : words ≡ (45 ∷ 45 ∷ (one.name ++ after_equals one.value)) ∷ rest = are.2 ∙ ap (λ own. own ++ rest) is in
          let mays = both (may_stand (45 ∷ 45 ∷ (one.name ++ after_equals one.value))) _ (subst (λ ws. list_all may_stand ws ≡ true) whole may) in
          subst (λ ws. Passes name ds ws (start options p)) (sym whole)
          (joined_word (one.name ++ after_equals one.value) refl form.0 mays.0 rest are.4 fits_both.1 mays.1 fits_both.0)
      | inr (given, has, is_plain, is) ↦
          let whole : words ≡ (45 ∷ 45 ∷ one.name) ∷ given ∷ rest = are.2 ∙ ap (λ own. own ++ rest) is in
          let mays = both (may_stand (45 ∷ 45 ∷ one.name)) _ (subst (λ ws. list_all may_stand ws ≡ true) whole may) in
          subst (λ ws. Passes name ds ws (start options p)) (sym whole)
          (word_apart one.name refl form.0 mays.0 given has is_plain rest are.4 fits_both.1 (both (may_stand given) _ mays.1).1 fits_both.0)
    ]
  where
    joined_word : (text : List ℕ) → text ≡ one.name ++ after_equals one.value → HasNoEquals one.name → may_stand (45 ∷ 45 ∷ text) ≡ true → (rest : List (List ℕ))
        → AreOptions more rest → list_all (fits ds) more ≡ true → list_all may_stand rest ≡ true → fits ds one ≡ true → Passes name ds ((45 ∷ 45 ∷ text) ∷ rest) (start options p)
    joined_word [] is none stands rest are fit may fit_one = absurd (true≢false (sym stands))
    joined_word (x ∷ xs) is none stands rest are fit may fit_one =
        let parts : name_and_value (x ∷ xs) ≡ (one.name, one.value) = ap name_and_value is ∙ joined one.name one.value none in
        give_joined name ds x xs one more later rest are fit may options p pend new (ap (λ q. q.0) parts) (ap (λ q. q.1) parts) fit_one

    word_apart : (text : List ℕ) → text ≡ one.name → HasNoEquals one.name → may_stand (45 ∷ 45 ∷ text) ≡ true → (given : List ℕ) → one.value ≡ Some given → begins_with_hyphen given ≡ false
        → (rest : List (List ℕ)) → AreOptions more rest → list_all (fits ds) more ≡ true → list_all may_stand rest ≡ true → fits ds one ≡ true
        → Passes name ds ((45 ∷ 45 ∷ text) ∷ given ∷ rest) (start options p)
    word_apart [] is none stands given has is_plain rest are fit may fit_one = absurd (true≢false (sym stands))
    word_apart (x ∷ xs) is none stands given has is_plain rest are fit may fit_one =
        let parts : name_and_value (x ∷ xs) ≡ (one.name, None) = ap name_and_value (is ∙ sym (append-nil one.name)) ∙ joined one.name None none in
        give_word name ds x xs one more later rest are fit may options p pend new (ap (λ q. q.0) parts) given (ap (λ q. q.1) parts) is_plain has fit_one

pub are_taken : (name : List ℕ) (ds : List Declared) (more : List CommandOption) → AreTaken name ds more
are_taken name ds [] = taken_none name ds
are_taken name ds (one ∷ more) = taken_one name ds one more (are_taken name ds more)
