-- A map that is given, as contracts see it.
use Rattle.std.proofs.Common.{◌≡◌, ℕ, List, Some, map, sym, ap, ◌∙◌, rules}
use Rattle.std.specs.Prelude.{Vec}
use Rattle.std.specs.declared.alloc.Global.{Global}
use Rattle.pm_avro_data.specs.Datum.{map_of, entries, entries_of, entry_view}
use Rattle.pm_avro_data.specs.Datum as datums
use Rattle.pm_avro_data.specs.declared.datum.Datum.{Datum, fold-roll-Datum}
use Rattle.pm_avro_data.specs.declared.datum.Datum.TheVariants.{Map, rolls-Map}
use Rattle.pm_avro_data.proofs.Facts.{entries-entries_of}
use Rattle.pm_avro_file.specs.Views.{entries_in}

view-Map : (v : Vec (List ℕ × Datum) Global) → datums.view (Map v) ≡ map_of (entries_of (map entry_view v.items))
view-Map v = ap datums.view (sym (rolls-Map v)) ∙ search (rules, fold-roll-Datum)

pub entries_in-Map : (v : Vec (List ℕ × Datum) Global) → Some (map entry_view v.items) ≡ entries_in (datums.view (Map v))
entries_in-Map v = ap Some (sym (entries-entries_of (map entry_view v.items))) ∙ ap entries_in (sym (view-Map v))
