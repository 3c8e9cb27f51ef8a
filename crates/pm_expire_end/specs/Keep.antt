-- What an expiry is to keep.
use Rattle.std.specs.Prelude.{unwrap_or}
use Rattle.pm_options.specs.declared.options.Options.{Options}
use Rattle.pm_expire_end.specs.declared.keep.Keep.{Keep}
use Rattle.pm_expire_end.specs.declared.keep.KeepAsked.{KeepAsked}

-- what was asked, or else what the table's options say
abbrev pub keep_of : KeepAsked → Options → Keep
keep_of asked options = record {
  min = unwrap_or asked.min options.retained_min;
  max = unwrap_or asked.max options.retained_max;
  millis = unwrap_or asked.millis options.retained_millis;
}
