-- Consumers' files that are read one after another.
use Rattle.std.proofs.Common.{◌≡◌, ℕ, ◌+◌, ◌≤◌, List, [], ◌∷◌, ◌++◌, Contains, take, length, Option, None, Some, inl, inr, refl, sym, ap, subst, ◌∙◌, append-nil}
use Rattle.std.proofs.lemmas.Grind.{flat_map-append}
use Rattle.std.proofs.lemmas.List.{map-append, take_more, take_all}
use Rattle.std.proofs.lemmas.List.Elements.{Contains-get_or}
use Rattle.std.proofs.lemmas.Option.{slice_get_within, get_or_from_slice_get, slice_get_cases}
use Rattle.pm_snapshot.specs.declared.consumer.Consumer.{Consumer}
use Rattle.pm_consumer_files.specs.declared.lines.NamedConsumer.{NamedConsumer}
use Rattle.pm_read_consumer.specs.Trace.{read_consumer}
use Rattle.pm_consumers.specs.Reading.{ReadingView, next_name, with_said}
use Rattle.pm_consumers.specs.Trace.{FileRead, consumers_of, named, names_of, reads_of}

-- ---- how many

pub within_none : (r : ReadingView) → next_name r ≡ None → length r.names ≤ r.read
within_none r none = elim ((slice_get_cases r.names r.read).1) as (λ _. length r.names ≤ r.read) [
  | inl within ↦ absurd (let clash : None ≡ Some within.0 = sym none ∙ within.2 in cc)
  | inr beyond ↦ beyond.0
]

-- where none is left, the files of all names were read
pub none_left : (r : ReadingView) → next_name r ≡ None → take r.read r.names ≡ r.names
none_left r none = take_all r.read r.names (within_none r none)

-- the next is one of the names
pub next_listed : (r : ReadingView) (name : List ℕ) → next_name r ≡ Some name → Contains r.names name
next_listed r name next =
    subst (λ (name : List ℕ). Contains r.names name) (get_or_from_slice_get r.names r.read name name next)
    (Contains-get_or r.names r.read name (slice_get_within r.names r.read name next))

-- ---- one more

pub one_name : (r : ReadingView) (reads : List FileRead) (one : FileRead) → next_name r ≡ Some one.name → names_of reads ≡ take r.read r.names
    → names_of (reads ++ one ∷ []) ≡ take (r.read + 1) r.names
one_name r reads one next names =
    map-append (λ (r : FileRead). r.name) reads (one ∷ [])
    ∙ ap (λ (names : List (List ℕ)). names ++ one.name ∷ []) names
    ∙ sym (take_more r.names r.read one.name (slice_get_within r.names r.read one.name next)
    ∙ ap (λ (name : List ℕ). take r.read r.names ++ name ∷ []) (get_or_from_slice_get r.names r.read one.name one.name next))

pub one_event : (reads : List FileRead) (one : FileRead) → reads_of (reads ++ one ∷ []) ≡ reads_of reads ++ read_consumer one.name one.found ∷ []
one_event reads one = map-append (λ (r : FileRead). read_consumer r.name r.found) reads (one ∷ [])

with_named : (consumers : List NamedConsumer) (name : List ℕ) (said : Option Consumer) → with_said consumers name said ≡ consumers ++ (named name said ++ [])
with_named consumers name None = sym (append-nil consumers)
with_named consumers name (Some c) = refl

pub one_consumer : (reads : List FileRead) (one : FileRead) (consumers : List NamedConsumer) → consumers ≡ consumers_of reads
    → with_said consumers one.name one.said ≡ consumers_of (reads ++ one ∷ [])
one_consumer reads one consumers is =
    with_named consumers one.name one.said
    ∙ ap (λ (consumers : List NamedConsumer). consumers ++ (named one.name one.said ++ [])) is
    ∙ sym (flat_map-append (λ (r : FileRead). named r.name r.said) reads (one ∷ []))
