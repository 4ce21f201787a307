-- A value and a draft as the code has them.
use Rattle.std.specs.Prelude.{option_map, map}
use Rattle.ad_load_objects.specs.declared.drafts.Given.{Given as HeldGiven}
use Rattle.ad_load_objects.specs.declared.drafts.Draft.{Draft as HeldDraft}
use Rattle.ad_load_objects.specs.Drafts.{Given, Draft}

abbrev pub given_seen : HeldGiven → Given
given_seen g = record { line = g.line; spelled = g.spelled; attr = g.attr.0; value = g.value }

abbrev pub draft_seen : HeldDraft → Draft
draft_seen d = record {
  rdns = d.dn.rdns;
  parent = d.parent;
  class = d.class.0;
  given = map given_seen d.given.items;
  sd = option_map (λ sd. sd.value) d.sd;
}
