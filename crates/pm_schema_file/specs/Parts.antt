-- Private: what is read of a file or a draft, seen without where it lies in memory.
use Rattle.pm_options.specs.Settings.{views}
use Rattle.pm_schema.specs.ColumnType.{fields_views}
use Rattle.pm_schema.specs.Stated.{Draft, Stated}
use Rattle.pm_schema_file.specs.declared.stated.DraftParts.{DraftParts}
use Rattle.pm_schema_file.specs.declared.stated.Parts.{Parts}

abbrev pub stated_by : Parts → Stated
stated_by p = record {
  id = p.id;
  fields = fields_views p.fields.items;
  highest = p.highest;
  partition = p.partition;
  primary = p.primary;
  settings = views p.settings.items;
  comment = p.comment;
  time = p.time;
  origin = p.origin;
}

abbrev pub draft_by : DraftParts → Draft
draft_by p = record {
  fields = views p.fields.items;
  partition = p.partition;
  primary = p.primary;
  settings = views p.settings.items;
  comment = p.comment;
}
