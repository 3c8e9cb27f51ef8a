-- The hash and the bucket of a key that is one BIGINT.
use Rattle.std.specs.Prelude.{ℕ, ℤ, [], ◌∷◌, bit_xor}
use Rattle.pm_values.specs.declared.column.ColType.TheVariants.{BigInt}
use Rattle.pm_values.specs.declared.value.Value.TheVariants.{Int as Whole}
use Rattle.pm_binrow.specs.Hashing.{bucket_of, finished, hash_of, mixed}
use Rattle.pm_binrow.specs.Row.{body}

-- the hash of the body of the row of this number alone
unfoldable pub long_hash : ℤ → ℤ
long_hash n = hash_of (body (BigInt ∷ []) (Whole n ∷ []))

-- the bucket of the key that is this number, among so many
abbrev pub long_bucket : ℕ → ℤ → ℕ
long_bucket buckets n = bucket_of (long_hash n) buckets

-- the same hash by the number's lower and higher words, which stand after two words 0, and without a sign
unfoldable pub words_hash : ℕ → ℕ → ℕ
words_hash low high = finished (bit_xor (mixed (mixed (mixed (mixed 42 0) 0) low) high) 16)
