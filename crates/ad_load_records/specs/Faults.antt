-- The faults of a text that is no directory, by their lines.
use Rattle.std.specs.Prelude.{ℕ, Bool, true, false}
use Rattle.ad_ldif.specs.declared.fault.LdifKind.{LdifKind}
use Rattle.ad_ldif.specs.declared.fault.LdifKind.TheVariants as grammar
use Rattle.ad_schema.specs.declared.fault.SchemaFault.{SchemaFault}
use Rattle.ad_schema.specs.declared.fault.SchemaFault.TheVariants as schema
use Rattle.ad_load_records.specs.declared.fault.LoadCause.{LoadCause}
use Rattle.ad_load_records.specs.declared.fault.LoadCause.TheVariants as cause
use Rattle.ad_load_records.specs.declared.fault.LoadFault.{LoadFault}
use Rattle.ad_load_records.specs.declared.fault.LoadFault.TheVariants as fault

abbrev pub at : ℕ → LoadCause → LoadFault
at line what = fault.Bad line what

-- a fault of the whole
abbrev pub of_all : LoadCause → LoadFault
of_all what = at 0 what

-- the one fault that no text has
abbrev pub is_memory : LoadFault → Bool
is_memory (fault.Bad line what) = false
is_memory fault.Memory = true

-- a fault of the grammar
abbrev pub of_grammar : LdifKind → LoadCause
of_grammar grammar.Line = cause.Line
of_grammar grammar.Base64 = cause.Base64
of_grammar grammar.NoDn = cause.NoDn
of_grammar grammar.Version = cause.Version
of_grammar grammar.Url = cause.Url
of_grammar grammar.ChangeType = cause.ChangeType
of_grammar grammar.TooLong = cause.TooLong

-- a fault of the schema; no records have the last
abbrev pub of_schema : ℕ → SchemaFault → LoadFault
of_schema line (schema.Missing name) = at line (cause.SchemaMissing name)
of_schema line (schema.Value name) = at line (cause.SchemaValue name)
of_schema line (schema.Repeated name) = at line (cause.SchemaRepeated name)
of_schema line (schema.Unknown name) = at line (cause.SchemaUnknown name)
of_schema line (schema.Loop name) = at line (cause.SchemaLoop name)
of_schema line schema.Memory = fault.Memory
