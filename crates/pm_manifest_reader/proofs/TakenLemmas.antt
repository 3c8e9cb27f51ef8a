-- Records are what their values are read as one after another.
use Rattle.std.proofs.Common.{◌≡◌, List, [], ◌∷◌, length, refl, arith}
use Rattle.pm_avro_schema.specs.Avro.{Avro}
use Rattle.pm_avro_data.specs.Datum.{Data}
use Rattle.pm_values.specs.Order.{Values}
use Rattle.pm_manifest.specs.Entries.{entry_of, file_of}
use Rattle.pm_manifest.specs.Listed.{meta_of}
use Rattle.pm_manifest.specs.Shape.{Shape}
use Rattle.pm_manifest_reader.specs.Taken.{add_found, bucket_found, count_found, file_found, key_found, name_found, natural_found, row_found, text_found, time_found, total_found}
use Rattle.pm_manifest_reader.specs.Taken.{entry_by, file_by, meta_by}
use Rattle.pm_manifest_reader.specs.FieldValues.{first, later}

pub meta_taken : (values : List Data) → length values ≡ 5 → meta_of values ≡ meta_by values
unfolding meta_by first later text_found count_found
meta_taken [] many = cc
meta_taken (a ∷ []) many = cc
meta_taken (a ∷ b ∷ []) many = cc
meta_taken (a ∷ b ∷ c ∷ []) many = cc
meta_taken (a ∷ b ∷ c ∷ d ∷ []) many = cc
meta_taken (a ∷ b ∷ c ∷ d ∷ e ∷ []) many = refl
meta_taken (a ∷ b ∷ c ∷ d ∷ e ∷ k ∷ values) many = absurd (omega arith)

pub file_taken : (s : Shape) (partition : Values) (t : Avro) (values : List Data) → length values ≡ 10
    → file_of s partition t values ≡ file_by s partition t values
unfolding file_by first later name_found count_found key_found natural_found time_found
file_taken s partition t [] many = cc
file_taken s partition t (a ∷ []) many = cc
file_taken s partition t (a ∷ b ∷ []) many = cc
file_taken s partition t (a ∷ b ∷ c ∷ []) many = cc
file_taken s partition t (a ∷ b ∷ c ∷ d ∷ []) many = cc
file_taken s partition t (a ∷ b ∷ c ∷ d ∷ e ∷ []) many = cc
file_taken s partition t (a ∷ b ∷ c ∷ d ∷ e ∷ f ∷ []) many = cc
file_taken s partition t (a ∷ b ∷ c ∷ d ∷ e ∷ f ∷ g ∷ []) many = cc
file_taken s partition t (a ∷ b ∷ c ∷ d ∷ e ∷ f ∷ g ∷ h ∷ []) many = cc
file_taken s partition t (a ∷ b ∷ c ∷ d ∷ e ∷ f ∷ g ∷ h ∷ i ∷ []) many = cc
file_taken s partition t (a ∷ b ∷ c ∷ d ∷ e ∷ f ∷ g ∷ h ∷ i ∷ j ∷ []) many = refl
file_taken s partition t (a ∷ b ∷ c ∷ d ∷ e ∷ f ∷ g ∷ h ∷ i ∷ j ∷ k ∷ values) many = absurd (omega arith)

pub entry_taken : (s : Shape) (t : Avro) (values : List Data) → length values ≡ 5 → entry_of s t values ≡ entry_by s t values
unfolding entry_by first later add_found row_found total_found bucket_found file_found
entry_taken s t [] many = cc
entry_taken s t (a ∷ []) many = cc
entry_taken s t (a ∷ b ∷ []) many = cc
entry_taken s t (a ∷ b ∷ c ∷ []) many = cc
entry_taken s t (a ∷ b ∷ c ∷ d ∷ []) many = cc
entry_taken s t (a ∷ b ∷ c ∷ d ∷ e ∷ []) many = refl
entry_taken s t (a ∷ b ∷ c ∷ d ∷ e ∷ k ∷ values) many = absurd (omega arith)
