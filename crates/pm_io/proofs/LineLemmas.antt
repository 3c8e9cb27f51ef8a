-- What was written to a line in parts.
use Rattle.std.proofs.Common.{◌≡◌, List, [], ◌++◌, ℕ, length, Option, Result, Ok, Err, OnOk, OnErr, refl, ap, sym, ◌∙◌, subst, arith, append_assoc, append-nil, length-append}
use Rattle.pm_base.specs.Known.{and_then}
use Rattle.pm_base.proofs.Laws.{and_then-append, and_then-nil}
use Rattle.pm_io.specs.Sink.{SinkView, SinkFailed, SinkLater, TookAllBut, TookPrefix}
use Rattle.pm_io.specs.LineBuffer.{LineAt, Fit, Wrote, Broke, Writes}
use Rattle.pm_io.proofs.Lemmas.{TookPrefix-first, TookPrefix-second}

-- what was held with one text, and what of that is held with another: what was held with both
pub TookAllBut-then : (held mid last : List ℕ) (before between after : Option (List ℕ)) (a b : List ℕ) → TookAllBut mid before between (held ++ a)
    → TookAllBut last between after (mid ++ b) → TookAllBut last before after (held ++ (a ++ b))
TookAllBut-then held mid last before between after a b (x, is, took) (y, then, more) =
    let parts : held ++ (a ++ b) ≡ (x ++ y) ++ last =
    sym (append_assoc held a b) ∙ ap (λ (l : List ℕ). l ++ b) is ∙ append_assoc x mid b ∙ ap (λ (l : List ℕ). x ++ l) then ∙ sym (append_assoc x y last) in
    (x ++ y, parts, more ∙ ap (λ t. and_then t y) took ∙ and_then-append before x y)

-- the first text fits where both do
fit_first : (held a b : List ℕ) → Fit held (a ++ b) → Fit held a
fit_first held a b fit = omega (arith, length-append a b)

-- and the second one after it
fit_second : (held mid a b : List ℕ) → mid ≡ held ++ a → Fit held (a ++ b) → Fit mid b
fit_second held mid a b is fit = omega (arith, ap length is, length-append held a, length-append a b)

pub Wrote-nothing : {W : Type 0} (seen : W → SinkView) (at : LineAt W) → Wrote seen [] at at
Wrote-nothing seen at = record {
  all = ([], append-nil at.held, sym (and_then-nil (seen at.sink).taken));
  kept = λ fit. (sym (append-nil at.held), refl);
  later = omega arith;
}

-- one text, and then another
pub Wrote-then : {W : Type 0} (seen : W → SinkView) (a b : List ℕ) (first mid last : LineAt W) → Wrote seen a first mid → Wrote seen b mid last → Wrote seen (a ++ b) first last
Wrote-then {W} seen a b first mid last one two = record {
  all = TookAllBut-then first.held mid.held last.held (seen first.sink).taken (seen mid.sink).taken (seen last.sink).taken a b one.all two.all;
  kept = λ fit.
      let early = one.kept (fit_first first.held a b fit) in
      let late = two.kept (fit_second first.held mid.held a b early.0 fit) in
      (late.0 ∙ ap (λ (l : List ℕ). l ++ b) early.0 ∙ append_assoc first.held a b, late.1 ∙ early.1);
  later = omega (arith, one.later, two.later);
}

-- the first of two failed
pub Broke-first : {W : Type 0} (seen : W → SinkView) (a b : List ℕ) (first last : LineAt W) → Broke seen a first last → Broke seen (a ++ b) first last
Broke-first {W} seen a b first last broke = record {
  prefix = subst (TookPrefix (seen first.sink).taken (seen last.sink).taken) (append_assoc first.held a b)
      (TookPrefix-first (seen first.sink).taken (seen last.sink).taken (first.held ++ a) b broke.prefix);
  full = λ fit. broke.full (fit_first first.held a b fit);
  failed = broke.failed;
  later = broke.later;
  none = broke.none;
}

-- the second of them failed
pub Broke-then : {W : Type 0} (seen : W → SinkView) (a b : List ℕ) (first mid last : LineAt W) → Wrote seen a first mid → Broke seen b mid last → Broke seen (a ++ b) first last
Broke-then {W} seen a b first mid last one broke =
    let rest = broke.prefix.1 in
    let own : TookAllBut rest (seen mid.sink).taken (seen last.sink).taken (mid.held ++ b) = (broke.prefix.0, broke.prefix.2, broke.prefix.3) in
    let all = TookAllBut-then first.held mid.held rest (seen first.sink).taken (seen mid.sink).taken (seen last.sink).taken a b one.all own in
    record {
      prefix = (all.0, rest, all.1, all.2);
      full = λ fit. broke.full (fit_second first.held mid.held a b (one.kept (fit_first first.held a b fit)).0 fit);
      failed = omega (arith, one.later, broke.failed);
      later = omega (arith, one.later, broke.later);
      none = broke.none;
    }

-- one text, and what came of another
pub Writes-then : {W E : Type 0} (seen : W → SinkView) (a b : List ℕ) (first mid last : LineAt W) (r : Result (Unit {0}) E) → Wrote seen a first mid → Writes seen b mid last r
    → Writes seen (a ++ b) first last r
Writes-then seen a b first mid last (Ok done) one two = Wrote-then seen a b first mid last one two
Writes-then seen a b first mid last (Err e) one two = Broke-then seen a b first mid last one two

-- what was held went out whole
pub Wrote-end : {W : Type 0} (seen : W → SinkView) (text : List ℕ) (first mid : LineAt W) (after : Option (List ℕ)) → first.held ≡ [] → Wrote seen text first mid
    → after ≡ and_then (seen mid.sink).taken mid.held → after ≡ and_then (seen first.sink).taken text
Wrote-end {W} seen text first mid after none wrote is =
    let start = (seen first.sink).taken in
    let x = wrote.all.0 in
    is ∙ ap (λ t. and_then t mid.held) wrote.all.2 ∙ and_then-append start x mid.held ∙ ap (and_then start) (sym wrote.all.1 ∙ ap (λ (l : List ℕ). l ++ text) none)

-- a prefix of what was held went out
pub Wrote-part : {W : Type 0} (seen : W → SinkView) (text : List ℕ) (first mid : LineAt W) (after : Option (List ℕ)) → first.held ≡ [] → Wrote seen text first mid
    → TookPrefix (seen mid.sink).taken after mid.held → TookPrefix (seen first.sink).taken after text
Wrote-part {W} seen text first mid after none wrote (y, rest, is, more) =
    let x = wrote.all.0 in
    let parts : text ≡ (x ++ y) ++ rest =
    sym (ap (λ (l : List ℕ). l ++ text) none) ∙ wrote.all.1 ∙ ap (λ (l : List ℕ). x ++ l) is ∙ sym (append_assoc x y rest) in
    (x ++ y, rest, parts, more ∙ ap (λ t. and_then t y) wrote.all.2 ∙ and_then-append (seen first.sink).taken x y)

-- what was held went out, and then the text did, or a prefix of it
pub Writes-after : {W E : Type 0} (seen : W → SinkView) (text : List ℕ) (first last : LineAt W) (mid : W) (r : Result (Unit {0}) E) → (Fit first.held text → ⊥) → last.held ≡ []
    → (seen mid).taken ≡ and_then (seen first.sink).taken first.held → SinkLater (seen first.sink) (seen mid)
    → OnOk r ((seen last.sink).taken ≡ and_then (seen mid).taken text) → OnErr r (TookPrefix (seen mid).taken (seen last.sink).taken text)
    → OnErr r (SinkFailed (seen mid) (seen last.sink)) → SinkLater (seen mid) (seen last.sink) → Writes seen text first last r
Writes-after {W} seen text first last mid (Ok done) full none out early ok prefix failed late = record {
  all = (
    first.held ++ text,
    sym (ap (λ (l : List ℕ). (first.held ++ text) ++ l) none ∙ append-nil (first.held ++ text)),
    ok ∙ ap (λ t. and_then t text) out ∙ and_then-append (seen first.sink).taken first.held text,
  );
  kept = λ fit. absurd (full fit);
  later = omega (arith, early, late);
}
Writes-after {W} seen text first last mid (Err e) full none out early ok prefix failed late = record {
  prefix = TookPrefix-second (seen first.sink).taken (seen mid).taken (seen last.sink).taken first.held text out prefix;
  full = full;
  failed = omega (arith, early, failed);
  later = omega (arith, early, late);
  none = none;
}
