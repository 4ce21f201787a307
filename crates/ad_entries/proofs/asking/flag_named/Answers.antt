use Rattle.std.proofs.Common.{ℕ, Option, false, OnOk, sym, subst}
use Rattle.std.specs.Prelude.{◌==◌}
use Rattle.std.specs.Option.{option_map, option_map_or}
use Rattle.ad_schema.specs.declared.info.AttrId.{AttrId}
use Rattle.ad_entries.specs.Asked.{Flags}
use Rattle.ad_entries.proofs.AskedLaws.{none_flagged}
use Rattle.ad_entries.proofs.asking.flag_named.Goals as goal

pub returns-in-Some : goal.returns-in-Some
returns-in-Some c =
    subst (λ (found : Option AttrId). OnOk c.flag.result (Flags (λ (other : ℕ). option_map_or (λ (place : ℕ).
    place == other) (option_map (λ (i : AttrId). i.0) found) false) c.args.flags.now.items c.flag.new.flags.items
    c.args.named.now.items c.flag.new.named.items)) c.in-Some.ensures.attr c.flag.ensures

pub returns-in-None : goal.returns-in-None
returns-in-None c =
    none_flagged c.args.schema.now c.args.name.now c.args.flags.now.items c.args.named.now.items
    (sym c.in-None.ensures.attr)
