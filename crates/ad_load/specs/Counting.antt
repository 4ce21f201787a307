-- What drafts say of the whole.
use Rattle.std.specs.Prelude.{◌≡◌, ◌+◌, List, length, drop}
use Rattle.std.specs.List.{list_all}
use Rattle.ad_schema.specs.declared.line.SchemaRecord.{SchemaRecord}
use Rattle.ad_load_objects.specs.Drafts.{Draft}
use Rattle.ad_load.specs.declared.before_inheritance.Counted.{Counted}
use Rattle.ad_load.specs.Links.{domain_of, root_rdns, next_rid, is_shallow}

-- the counters, the name above the root, and whether no object is too deep
pub record IsCounted (schema : List SchemaRecord) (drafts : List Draft) (counted : Counted) : Type 0 where
  pub number : counted.next_number ≡ length drafts + 1
  pub rid : counted.next_rid ≡ next_rid schema (domain_of schema drafts) drafts
  pub suffix : counted.suffix.rdns ≡ drop 1 (root_rdns drafts)
  pub shallow : counted.shallow ≡ list_all (is_shallow drafts) drafts
