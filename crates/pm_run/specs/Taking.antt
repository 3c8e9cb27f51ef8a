-- Values of a record's fields that are taken one after another.
use Rattle.std.specs.Prelude.{◌≡◌, List, [], ◌∷◌, Option, Result, Ok, Err, ok_or}
use Rattle.pm_base.specs.Outcome.{◌>>=◌, Fails}
use Rattle.pm_avro_data.specs.Datum.{Data}
use Rattle.pm_record.specs.File.{misfit_of}
use Rattle.pm_record.specs.declared.misfit.Misfit.{Misfit}
use Rattle.pm_record.specs.declared.misfit.Misfit.TheVariants.{Bad}

-- what was found, or else a misfit
abbrev pub found : {X : Type 0} → Option X → Result X Misfit
found one = ok_or one Bad

-- what the first datum is read as, and the later ones
abbrev pub first_read : {X : Type 0} → (Data → Result X Misfit) → List Data → Result (X × List Data) Misfit
first_read reads [] = Err Bad
first_read reads (d ∷ ds) = do
  x ← reads d
  Ok (x, ds)

-- What a call answers that takes some of the data and leaves the others: the defined value, seen by view, and the data
-- that are left, or the defined misfit. Out of memory may come anywhere.
abbrev pub Takes : {X Y : Type 0} → (X → Y) → List Data → Result X Misfit → Result (Y × List Data) Misfit → Type 0
Takes view left (Ok x) defined = defined ≡ Ok (view x, left)
Takes view left (Err e) defined = Fails (misfit_of e) defined
