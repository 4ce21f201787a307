-- A line and a record as the code has them, and a fault as the reader of the grammar has it.
use Rattle.std.specs.Prelude.{map}
pub use Rattle.ad_ldif.specs.Records.{bytes_of, field_of as held_field}
use Rattle.ad_ldif.specs.declared.fault.LdifFault.{LdifFault}
use Rattle.ad_ldif.specs.declared.fault.LdifFault.TheVariants as reader
use Rattle.ad_load_records.specs.declared.fault.LoadFault.{LoadFault}
use Rattle.ad_load_records.specs.declared.fault.LoadFault.TheVariants as fault
use Rattle.ad_load_records.specs.declared.records.Record.{Record as HeldRecord}
use Rattle.ad_load_records.specs.Faults.{at, of_grammar}
use Rattle.ad_load_records.specs.Records.{Record}

abbrev pub seen : HeldRecord → Record
seen r = record { line = r.line; rdns = r.dn.rdns; kind = r.kind; fields = map held_field r.lines.items }

abbrev pub of_reader : LdifFault → LoadFault
of_reader (reader.Bad line kind) = at line (of_grammar kind)
of_reader reader.Memory = fault.Memory
