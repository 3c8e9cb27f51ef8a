use Rattle.std.proofs.Common.{◌≡◌, ◌≤◌, length, drop}
use Rattle.pm_options.specs.Fields.{entries_views, texts_of}
use Rattle.pm_options.specs.Settings.{views}
use Rattle.pm_settings.proofs.fields.texts_of.Given as goal

abbrev pub invariant-loop-left : goal.invariant-loop-left
invariant-loop-left l = record {
  within : l.left ≤ length l.settings;
  texts : entries_views l.texts.entries ≡ texts_of l.suffix (views (drop l.left l.settings));
}

abbrev pub decreases-loop-left : goal.decreases-loop-left
decreases-loop-left l = l.left
