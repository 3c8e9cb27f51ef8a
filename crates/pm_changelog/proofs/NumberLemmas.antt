-- Rows of a log, their numbers counted anew.
use Rattle.std.proofs.Common.{◌≡◌, ℕ, suc, ◌+◌, ◌<◌, List, [], ◌∷◌, ◌++◌, get_or, take, length, map, Bool, ◌&&◌, Option, Some, refl, sym, ap, ◌∙◌, arith}
use Rattle.std.specs.List.{AllByRecursion}
use Rattle.std.proofs.Math.Seq.{take-suc}
use Rattle.std.proofs.lemmas.List.{length-take-le}
use Rattle.pm_values.specs.Order.{Values}
use Rattle.pm_values.specs.declared.record.Change.{Change}
use Rattle.pm_values.specs.declared.kind.Kind.TheVariants as kinds
use Rattle.pm_values.specs.declared.record.Stamped.{Stamped}
use Rattle.pm_schema.specs.declared.schema.TableSchema.{TableSchema}
use Rattle.pm_engine.specs.Covers.{row_of}
use Rattle.pm_run.specs.Order.{are_in_order, may_follow}
use Rattle.pm_run.specs.Writing.{CountFrom, HasOwnKey}
use Rattle.pm_changelog.specs.GroupLog.{with_number, without_numbers, stamped_from}

pub counts-stamped : (n : ℕ) (log : List Change) → CountFrom n (stamped_from n log)
counts-stamped n [] = tt
counts-stamped n (c ∷ log) = (refl, counts-stamped (n + 1) log)

pub rows-stamped : (n : ℕ) (rows : List Stamped) → map row_of (stamped_from n (without_numbers rows)) ≡ map row_of rows
rows-stamped n [] = refl
rows-stamped n (x ∷ rows) = ap (λ rs. row_of x ∷ rs) (rows-stamped (n + 1) rows)

pub own-stamped : (s : TableSchema) (n : ℕ) (rows : List Stamped) → AllByRecursion (HasOwnKey s) rows → AllByRecursion (HasOwnKey s) (stamped_from n (without_numbers rows))
own-stamped s n [] all = tt
own-stamped s n (x ∷ rows) all = (record { fits = all.0.fits; own = all.0.own }, own-stamped s (n + 1) rows all.1)

pub order-stamped : (changes : Bool) (before : Option Values) (n : ℕ) (rows : List Stamped)
    → are_in_order changes before (stamped_from n (without_numbers rows)) ≡ are_in_order changes before rows
order-stamped changes before n [] = refl
order-stamped changes before n (x ∷ rows) =
    ap (λ b. may_follow changes before x.key && b) (order-stamped changes (Some x.key) (n + 1) rows)

-- one row more
stamped-push : (n : ℕ) (rows : List Stamped) (x : Stamped)
    → stamped_from n (without_numbers (rows ++ x ∷ [])) ≡ stamped_from n (without_numbers rows) ++ with_number (n + length rows) x ∷ []
stamped-push n [] x =
    let same : n ≡ n + 0 = omega arith in
    λ i. with_number (same i) x ∷ []
stamped-push n (y ∷ rows) x =
    let rest = stamped-push (n + 1) rows x in
    let same : (n + 1) + length rows ≡ n + suc (length rows) = omega arith in
    ap (λ xs. record y { seq = n } ∷ xs)
    (rest ∙ (λ i. stamped_from (n + 1) (without_numbers rows) ++ with_number (same i) x ∷ []))

-- some row, where a list has one at an index anyway
pub blank : Stamped
blank = record { key = []; seq = 0; kind = kinds.Insert; row = [] }

-- the row at the next index more
pub stamped-next : (rows : List Stamped) (i : ℕ) → i < length rows
    → stamped_from 0 (without_numbers (take i rows)) ++ with_number i (get_or rows i blank) ∷ [] ≡ stamped_from 0 (without_numbers (take (i + 1) rows))
stamped-next rows i inside =
    let x = get_or rows i blank in
    let next : suc i ≡ i + 1 = omega arith in
    let count = length-take-le i rows (omega arith) in
    let many : i ≡ 0 + length (take i rows) = omega arith in
    (λ j. stamped_from 0 (without_numbers (take i rows)) ++ with_number (many j) x ∷ [])
    ∙ sym (stamped-push 0 (take i rows) x)
    ∙ ap (λ (rs : List Stamped). stamped_from 0 (without_numbers rs)) (sym (take-suc rows i blank inside) ∙ ap (λ (k : ℕ). take k rows) next)
