-- A new commit of a batch.
use Rattle.std.proofs.Common.{◌≡◌, ◌^◌, ◌≤◌, Bool, length, sym, arith}
use Rattle.std.specs.List.{AllByRecursion}
use Rattle.pm_values.specs.Names.{Naming}
use Rattle.pm_values.specs.declared.group.Group.{Group}
use Rattle.pm_schema.specs.Folder.{FitsPartition}
use Rattle.pm_schema.specs.Again.{IsDeclared}
use Rattle.pm_schema.specs.declared.schema.TableSchema.{TableSchema}
use Rattle.pm_write.specs.Batch.{GroupRows, Groups}
use Rattle.pm_made.proofs.IntentLemmas.{few-appended}
use Rattle.pm_made.specs.declared.newest.Author.{Author}
use Rattle.pm_commit.specs.Own.{IsOwn, group_limit, new_own}

pub new-is-own : (s : TableSchema) (batch : Groups) (author : Author) (check : Bool) (names : Naming) → IsDeclared s
    → AllByRecursion (λ (e : Group × GroupRows). FitsPartition s e.0) batch → length batch ≤ group_limit → author.base ≡ 0
    → names.count ≤ 2 ^ 61 → IsOwn s (new_own batch author check names)
new-is-own s batch author check names declared fits low first count = record {
  declared = declared;
  made_for = tt;
  fits = fits;
  few = (let few = few-appended batch in omega (arith, low, few));
  same_base = sym first;
  within = omega arith;
  named = omega (arith, count);
}
