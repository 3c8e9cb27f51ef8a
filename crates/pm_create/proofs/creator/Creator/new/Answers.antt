use Rattle.std.proofs.Common.{◌≡◌, ◌↔◌, ℕ, List, Some, Ok, ap, sym, ◌∙◌, subst}
use Rattle.pm_schema.specs.Meaning.{SchemaOf}
use Rattle.pm_schema.specs.Reading.{schema_of}
use Rattle.pm_schema.specs.declared.schema.TableSchema.{TableSchema}
use Rattle.pm_schema.specs.Written.{schema_text}
use Rattle.pm_model_folder.specs.Changes.{Actor, origin_name}
use Rattle.pm_model_folder.specs.Paths.{schema_path, snapshot_file}
use Rattle.pm_create.specs.Creator.{actor_of, new_table, IsCreator, IsNewTable, IsOf}
use Rattle.pm_create.specs.declared.phase.Phase.{Phase}
use Rattle.pm_create.specs.declared.phase.Phase.TheVariants as phases
use Rattle.pm_create.proofs.creator.Creator.new.Goals as goal

-- what is written is read as the schema, in the file of schema 0
reads_back : (id : ℕ) (s : TableSchema) → ((path text : List ℕ) (s : TableSchema) → (schema_of path text ≡ Ok s) ↔ SchemaOf path text s)
    → id ≡ 0 → SchemaOf (schema_path id) (schema_text s) s → schema_of (schema_path 0) (schema_text s) ≡ Ok s
reads_back id s law first declares =
    (law (schema_path 0) (schema_text s) s).1 (subst (λ id. SchemaOf (schema_path id) (schema_text s) s) first declares)

-- what is made of a schema is a table that is made by the actor
is_new_table : (me : Actor) (s : TableSchema) (text : List ℕ) → ((path text : List ℕ) (s : TableSchema) → (schema_of path text ≡ Ok s) ↔ SchemaOf path text s)
    → s.id ≡ 0 → s.origin ≡ Some (origin_name me) → text ≡ schema_text s → SchemaOf (schema_path s.id) text s → IsNewTable (new_table me s)
is_new_table me s text law first origin written declares = record {
  reads = reads_back s.id s law first (subst (λ (text : List ℕ). SchemaOf (schema_path s.id) text s) written declares);
  origin = origin;
}

-- and what is made is its creator, that has made no call
is_creator : (me : Actor) (s : TableSchema) (m : Phase) (name path bytes : List ℕ) → IsNewTable (new_table me s) → m ≡ phases.Origin path bytes
    → path ≡ snapshot_file name → name ≡ origin_name me → bytes ≡ schema_text s → IsCreator (new_table me s) m
is_creator me s m name path bytes is at of_name named written =
    (is, subst (IsOf (new_table me s)) (sym at) (of_name ∙ ap snapshot_file named, written))

pub invariant_of-result : goal.invariant_of-result
invariant_of-result c =
    let me = actor_of c.args.session c.args.actor in
    is_creator me c.args.schema c.new.result c.in_ok-name.name c.in_ok-path.path c.new-bytes.result
    (is_new_table me c.args.schema c.in-Ok.bytes.items c.schema_law.ensures.exact c.requires.first c.requires.origin c.in-Ok.ensures.text
    (c.in-Ok.ensures.reads c.requires.declared)) c.new.ensures c.in_ok-path.ensures c.in_ok-name.ensures
    (c.new-bytes.ensures ∙ c.in-Ok.ensures.text)

pub returns-clause-is_creator : goal.returns-clause-is_creator
returns-clause-is_creator c =
    let me = actor_of c.args.session c.args.actor in
    is_creator me c.args.schema c.new.result c.in_ok-name.name c.in_ok-path.path c.new-bytes.result
    (is_new_table me c.args.schema c.in-Ok.bytes.items c.schema_law.ensures.exact c.requires.first c.requires.origin c.in-Ok.ensures.text
    (c.in-Ok.ensures.reads c.requires.declared)) c.new.ensures c.in_ok-path.ensures c.in_ok-name.ensures
    (c.new-bytes.ensures ∙ c.in-Ok.ensures.text)
