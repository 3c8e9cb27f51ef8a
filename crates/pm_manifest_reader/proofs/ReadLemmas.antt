-- Of a record: how many data are selected, their types, and what reads an entry.
use Rattle.std.proofs.Common.{◌≡◌, ℕ, suc, true, false, List, [], ◌∷◌, length, codes, Option, Some, None, refl, sym, ap, subst}
use Rattle.std.specs.Prelude.{is_some, ◌&&◌}
use Rattle.std.specs.Option.{unwrap_or}
use Rattle.pm_base.specs.Steps.{◌>>=◌}
use Rattle.pm_avro_schema.specs.Avro.{Avro}
use Rattle.pm_avro_data.specs.Datum.{Data}
use Rattle.pm_avro_data.specs.HasType.{HasType}
use Rattle.pm_record.specs.Record.{indexes_in, selected, type_of_field, HaveFieldTypes}
use Rattle.pm_record.proofs.Facts.{selected_typed}
use Rattle.pm_manifest_reader.specs.declared.manifest_reader.EntryReader.{EntryReader}
use Rattle.pm_manifest.specs.Entries.{entry_fields, field_type, file_fields, has_entry_fields}
use Rattle.pm_manifest_reader.specs.Reader.{reader_in}
use Rattle.pm_manifest.specs.Shape.{Shape}
use Rattle.pm_manifest_reader.specs.FieldValues.{first, later}

as_many : (names : List (List ℕ)) (t : Avro) (ds : List Data) → HaveFieldTypes names t ds → length ds ≡ length names
as_many [] t [] h = refl
as_many [] t (d ∷ ds) h = absurd h
as_many (name ∷ names) t [] h = absurd h
as_many (name ∷ names) t (d ∷ ds) h = ap suc (as_many names t ds h.1)

-- as many data are selected as there are names
pub selected_many : (names : List (List ℕ)) (t : Avro) (d : Data) (ds : List Data) → HasType t d → Some ds ≡ selected names t d → length ds ≡ length names
selected_many names t d ds h found = as_many names t ds (selected_typed names t d ds h (sym found))

-- the datum of a field has the field's type
field_typed : (name : List ℕ) (t : Avro) (d : Data) → ((u : Avro) × (type_of_field name t ≡ Some u) × HasType u d) → HasType (field_type name t) d
field_typed name t d h = let P : Option Avro → Type 0 = λ found. HasType (unwrap_or found t) d in subst P (sym h.1) h.2

-- so has that of an entry's file
pub file_typed : (t : Avro) (ds : List Data) → HaveFieldTypes entry_fields t ds → HasType (field_type (codes "_FILE") t) (first (later (later (later (later ds)))))
unfolding first later
file_typed t [] h = absurd h
file_typed t (a ∷ []) h = absurd h.1
file_typed t (a ∷ b ∷ []) h = absurd h.1.1
file_typed t (a ∷ b ∷ c ∷ []) h = absurd h.1.1.1
file_typed t (a ∷ b ∷ c ∷ d ∷ []) h = absurd h.1.1.1.1
file_typed t (a ∷ b ∷ c ∷ d ∷ e ∷ ds) h = field_typed (codes "_FILE") t e h.1.1.1.1.0

-- ---- what reads an entry

-- two readings that give a value
some_both : {X Y : Type 0} (one two : Option X) (make : X → X → Y) (y : Y) → Some y ≡ (one >>= λ a. two >>= λ b. Some (make a b))
    → (a : X) × (b : X) × (one ≡ Some a) × (two ≡ Some b) × (y ≡ make a b)
some_both None two make y is = cc
some_both (Some a) None make y is = cc
some_both (Some a) (Some b) make y is = (a, b, refl, refl, cc)

-- one of two readings gives none
none_both : {X Y : Type 0} (one two : Option X) (make : X → X → Y) → None ≡ (one >>= λ a. two >>= λ b. Some (make a b)) → (is_some one && is_some two) ≡ false
none_both None two make none = refl
none_both (Some a) None make none = refl
none_both (Some a) (Some b) make none = cc

-- the reader has the fields of a type that has them
pub record IsReader (s : Shape) (t : Avro) (r : EntryReader) : Type 0 where
  pub fields : indexes_in entry_fields t ≡ Some r.fields
  pub file_fields : indexes_in file_fields (field_type (codes "_FILE") t) ≡ Some r.file_fields
  pub shape : r.shape ≡ s
  pub takes : has_entry_fields t ≡ true

module _ (s : Shape) (t : Avro) where
  pub reader_some : (r : EntryReader) → Some r ≡ reader_in s t → IsReader s t r
  reader_some r found =
      let own = indexes_in entry_fields t in
      let inner = indexes_in file_fields (field_type (codes "_FILE") t) in
      let make : List ℕ → List ℕ → EntryReader = λ is js. record { shape = s; fields = is; file_fields = js } in
      let both = some_both own inner make r found in
      rw both.4 (record { fields = both.2; file_fields = both.3; shape = refl; takes = rw (both.2, both.3) refl })

  -- where none is found the type lacks a field
  pub reader_none : None ≡ reader_in s t → has_entry_fields t ≡ false
  reader_none none =
      let own = indexes_in entry_fields t in
      let inner = indexes_in file_fields (field_type (codes "_FILE") t) in
      let make : List ℕ → List ℕ → EntryReader = λ is js. record { shape = s; fields = is; file_fields = js } in
      none_both own inner make none
