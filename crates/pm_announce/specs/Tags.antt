-- Tags: a tag's file holds a snapshot that is to stay. None is built, and an expiry goes no further where one is there.
use Rattle.std.specs.Prelude.{◌≡◌, ℕ, List, [], ◌∷◌, codes, drop, length, nat_eq, if◌then◌else◌, Option, None, Some}
use Rattle.std.specs.List.{starts_with}
use Rattle.std.specs.Option.{option_or}
use Rattle.pm_values.specs.declared.refusal.Refusal.{Refusal}
use Rattle.pm_values.specs.declared.refusal.Refusal.TheVariants as refusals
use Rattle.pm_store.specs.Files.{Files, IsListing}

-- the folder of tags
abbrev pub tag_folder : List ℕ
tag_folder = codes "tag"

-- Private: what stands before the name
abbrev pub file_prefix : List ℕ
file_prefix = codes "tag-"

-- Private: the name of the tag whose file this is, by the file's name
abbrev pub tag_in : List ℕ → Option (List ℕ)
tag_in file = if starts_with nat_eq file file_prefix then Some (drop (length file_prefix) file) else None

-- the first tag whose file is listed, if there is one: of a listing, which rises by bytes, the least
abbrev pub first_tag : List (List ℕ) → Option (List ℕ)
first_tag [] = None
first_tag (file ∷ files) = option_or (tag_in file) (first_tag files)

-- this is the least tag whose file is there, or there is none
pub record IsFirstTag (f : Files) (tag : Option (List ℕ)) : Type 0 where
  pub files : List (List ℕ)
  pub listing : IsListing tag_folder files f
  pub is : first_tag files ≡ tag

-- the refusal that names a tag
abbrev pub unbuilt_tag : List ℕ → Refusal
unbuilt_tag name = refusals.Unsupported (codes "tag") name
