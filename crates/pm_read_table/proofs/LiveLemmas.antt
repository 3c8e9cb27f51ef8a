-- The entries of the files that are live after a list of entries.
use Rattle.std.proofs.Common.{◌≡◌, List, [], ◌++◌, refl}
use Rattle.pm_manifest.specs.declared.entry.Entry.{Entry}
use Rattle.pm_read_table.specs.Asked.{KeepsEntries}
use Rattle.pm_read_table.specs.View.{kept_for}
use Rattle.pm_read_table.specs.declared.asked.Wanted.{Wanted}
use Rattle.pm_read_table.specs.declared.asked.Wanted.TheVariants as wants

-- what is kept of joined entries is what is kept of each part
pub kept_join : (w : Wanted) (entries own : List Entry) → kept_for w (entries ++ own) ≡ kept_for w entries ++ kept_for w own
kept_join wants.Newest entries own = refl
kept_join (wants.At id) entries own = refl
kept_join wants.Entries entries own = refl
kept_join (wants.Whole id) entries own = refl

pub kept_none : (w : Wanted) → [] ≡ kept_for w []
kept_none wants.Newest = refl
kept_none (wants.At id) = refl
kept_none wants.Entries = refl
kept_none (wants.Whole id) = refl

pub kept_all : (w : Wanted) → KeepsEntries w → (entries : List Entry) → kept_for w entries ≡ entries
kept_all wants.Newest keeps entries = absurd keeps
kept_all (wants.At id) keeps entries = absurd keeps
kept_all wants.Entries keeps entries = refl
kept_all (wants.Whole id) keeps entries = refl
