-- What shows of rows that are given one after another.
use Rattle.std.proofs.Common.{◌≡◌, ◌≢◌, ℕ, zero, ◌+◌, ◌<◌, Option, Some, None, List, [], ◌∷◌, ◌++◌, All, Vec, length, map, get_or, take, Bool, true, false, cond, refl, sym, ap, subst, ◌∙◌, append-nil, arith}
use Rattle.std.specs.declared.alloc.Global.{Global}
use Rattle.std.proofs.lemmas.Grind.{flat_map-append}
use Rattle.std.proofs.lemmas.List.{map-append, take_more}
use Rattle.std.proofs.lemmas.List.Elements.{All-append, All-nil, All-tail}
use Rattle.pm_base.specs.Newline.{line}
use Rattle.pm_values.specs.declared.kind.Kind.TheVariants.{Insert}
use Rattle.pm_values.specs.declared.record.Stamped.{Stamped}
use Rattle.pm_values.specs.declared.refusal.Refusal.{Refusal}
use Rattle.pm_values.specs.declared.refusal.Refusal.TheVariants.{Memory}
use Rattle.pm_rows.specs.RowText.{row_text}
use Rattle.pm_engine.specs.Covers.{IsRising, Run, row_of}
use Rattle.pm_engine.specs.Meaning.{Meaning}
use Rattle.std.specs.Prelude.{is_some, option_to_list}
use Rattle.pm_merge.specs.Merge.{IsMerge}
use Rattle.pm_merge.specs.Merging.{GivesAll, GivesLeast, GivesOne, HasLeft, HaveNoRefusal, HaveNoRow, first_refusal, runs_in}
use Rattle.pm_merge.specs.Source.{Rest}
use Rattle.pm_scan_rows.specs.Stored.{rest_of, run_left}
use Rattle.pm_scan_rows.specs.declared.rows.StoredRows.{StoredRows}
use Rattle.pm_scan_rows.specs.Next.{held, Merged, PrintsNext}
use Rattle.pm_scan_rows.specs.Shown.{PrintsGroups, all_runs, groups_of, lines_of, only_shown}

pub lines_joined : (xs ys : Run) → lines_of (xs ++ ys) ≡ lines_of xs ++ lines_of ys
lines_joined xs ys = flat_map-append (λ (x : Stamped). line (row_text Insert x.row)) xs ys

-- ---- the runs of all groups

-- where the runs of each group rise, those of all do
pub all_rise : (groups : List (List Run)) → All (All IsRising) groups → All IsRising (all_runs groups)
all_rise [] rise = All-nil IsRising
all_rise (runs ∷ groups) rise = All-append IsRising runs (all_runs groups) (rise zero runs (omega arith)) (all_rise groups (All-tail (All IsRising) runs groups rise))

-- the runs of one group more
pub group_next : (groups : List (Vec Run Global)) (i : ℕ) (group : Vec Run Global) (before own : List Run) → i < length groups → group ≡ get_or groups i group → own ≡ group.items
    → before ≡ all_runs (groups_of (take i groups)) → before ++ own ≡ all_runs (groups_of (take (i + 1) groups))
group_next groups i group before own lt is same so_far =
    let parts : take (i + 1) groups ≡ take i groups ++ group ∷ [] = take_more groups i group lt ∙ ap (λ (y : Vec Run Global). take i groups ++ y ∷ []) (sym is) in
    let mapped : groups_of (take (i + 1) groups) ≡ groups_of (take i groups) ++ group.items ∷ [] = ap groups_of parts ∙ map-append (λ (runs : Vec Run Global). runs.items) (take i groups) (group ∷ []) in
    let whole : all_runs (groups_of (take (i + 1) groups)) ≡ all_runs (groups_of (take i groups)) ++ group.items =
    ap all_runs mapped ∙ flat_map-append (λ (runs : List Run). runs) (groups_of (take i groups)) (group.items ∷ []) ∙ ap (λ (rs : List Run). all_runs (groups_of (take i groups)) ++ rs) (append-nil group.items) in
    ap (λ (rs : List Run). rs ++ own) so_far ∙ ap (λ (rs : List Run). all_runs (groups_of (take i groups)) ++ rs) same ∙ sym whole

-- ---- rows that are given

shown_joined : (m : Meaning) (xs ys : Run) → only_shown m (xs ++ ys) ≡ only_shown m xs ++ only_shown m ys
shown_joined m [] ys = refl
shown_joined m (x ∷ xs) ys = by_first (m.shows (row_of x ∷ [])) (shown_joined m xs ys)
  where
    by_first : (b : Bool) → only_shown m (xs ++ ys) ≡ only_shown m xs ++ only_shown m ys
        → cond b (x ∷ only_shown m (xs ++ ys)) (only_shown m (xs ++ ys)) ≡ cond b (x ∷ only_shown m xs) (only_shown m xs) ++ only_shown m ys
    by_first true later = ap (λ (zs : Run). x ∷ zs) later
    by_first false later = later

runs_rests : (sources : List StoredRows) → runs_in (map rest_of sources) ≡ map run_left sources
runs_rests [] = refl
runs_rests (source ∷ sources) = ap (λ (runs : List Run). run_left source ∷ runs) (runs_rests sources)

rests_whole : (sources : List StoredRows) → HaveNoRefusal (map rest_of sources)
rests_whole [] = tt
rests_whole (source ∷ sources) = (refl, rests_whole sources)

module _ (m : Meaning) (groups : List (Vec Run Global)) where
  -- of the runs of groups rows were given, one after another, and the text is the lines of those that show
  pub record Printed (now : Merged) (text : List ℕ) : Type 0 where
    pub first : List Rest
    pub runs : runs_in first ≡ all_runs (groups_of groups)
    pub whole : HaveNoRefusal first
    pub rests : List Rest
    pub left : HasLeft m held rest_of now rests
    pub run : Run
    pub given : GivesAll m first run rests
    pub lines : text ≡ lines_of (only_shown m run)

  pub printed_none : (sources : List StoredRows) (now : Merged) → map run_left sources ≡ all_runs (groups_of groups) → HasLeft m held rest_of now (map rest_of sources) → (text : List ℕ) → text ≡ []
      → Printed now text
  printed_none sources now are left text none =
      record { first = map rest_of sources; runs = runs_rests sources ∙ are; whole = rests_whole sources; rests = map rest_of sources; left = left; run = []; given = refl; lines = none }

  pub printed_next : ((m : Meaning) (first old new : List Rest) (run : Run) (s : Stamped) → GivesAll m first run old → GivesLeast m old s new → GivesAll m first (run ++ s ∷ []) new)
      → (now after : Merged) (text new : List ℕ) → Printed now text → PrintsNext m now after text new true → Printed after new
  printed_next more now after text new so_far prints = by_next (prints so_far.rests so_far.left)
    where
      by_next : (next : Option Stamped) × (left : List Rest) × GivesOne m so_far.rests next left × HasLeft m held rest_of after left × (true ≡ is_some next)
          × (new ≡ text ++ lines_of (only_shown m (option_to_list next))) → Printed after new
      by_next (None, left, one, has, is, lines) = cc
      by_next (Some s, left, one, has, is, lines) = record {
        first = so_far.first;
        runs = so_far.runs;
        whole = so_far.whole;
        rests = left;
        left = has;
        run = so_far.run ++ s ∷ [];
        given = more m so_far.first so_far.rests left so_far.run s so_far.given one;
        lines = lines ∙ ap (λ (bs : List ℕ). bs ++ lines_of (only_shown m (s ∷ []))) so_far.lines ∙ sym (lines_joined (only_shown m so_far.run) (only_shown m (s ∷ [])))
            ∙ ap lines_of (sym (shown_joined m so_far.run (s ∷ [])));
      }

  pub printed_all : ((m : Meaning) (first last : List Rest) (run : Run) → All IsRising (runs_in first) → GivesAll m first run last → HaveNoRow last → IsMerge m (runs_in first) run)
      → (now after : Merged) (text new : List ℕ) → All (All IsRising) (groups_of groups) → Printed now text → PrintsNext m now after text new false → PrintsGroups m (groups_of groups) new
  printed_all all now after text new rise so_far prints = by_next (prints so_far.rests so_far.left)
    where
      by_next : (next : Option Stamped) × (left : List Rest) × GivesOne m so_far.rests next left × HasLeft m held rest_of after left × (false ≡ is_some next)
          × (new ≡ text ++ lines_of (only_shown m (option_to_list next))) → PrintsGroups m (groups_of groups) new
      by_next (Some s, left, one, has, is, lines) = cc
      by_next (None, left, one, has, is, lines) =
          let rising : All IsRising (runs_in so_far.first) = subst (All IsRising) (sym so_far.runs) (all_rise (groups_of groups) rise) in
          let merge : IsMerge m (all_runs (groups_of groups)) so_far.run = subst (λ (runs : List Run). IsMerge m runs so_far.run) so_far.runs (all m so_far.first so_far.rests so_far.run rising so_far.given one.0) in
          (only_shown m so_far.run, (so_far.run, merge, refl), lines ∙ append-nil text ∙ so_far.lines)

  -- no refusal comes but out of memory
  pub printed_memory : ((m : Meaning) (first last : List Rest) (run : Run) (e : Refusal) → GivesAll m first run last → HaveNoRefusal first → (e ≢ Memory → first_refusal last ≡ Some e) → e ≡ Memory)
      → (now : Merged) (text : List ℕ) → Printed now text → (e : Refusal) → (e ≢ Memory → (rests : List Rest) → HasLeft m held rest_of now rests → first_refusal rests ≡ Some e) → e ≡ Memory
  printed_memory memory now text so_far e refuses =
      memory m so_far.first so_far.rests so_far.run e so_far.given so_far.whole (λ other. refuses other so_far.rests so_far.left)
