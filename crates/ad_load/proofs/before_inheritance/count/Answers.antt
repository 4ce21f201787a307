use Rattle.std.proofs.Common.{Option, map, ap, ◌∙◌, arith}
use Rattle.std.proofs.lemmas.List.{length-map}
use Rattle.ad_ids.specs.SidValue.{SidValue}
use Rattle.ad_load.specs.Links.{next_rid}
use Rattle.ad_load_objects.specs.Seen.{draft_seen}
use Rattle.ad_load.proofs.before_inheritance.count.Goals as goal

pub returns : goal.returns
returns c =
    let drafts = map draft_seen c.args.drafts.now in
    record {
      number = omega (arith, length-map c.args.drafts.now draft_seen);
      rid = c.next_rid-next_rid.ensures ∙ ap (λ (d : Option SidValue). next_rid c.args.schema.now d drafts)
          c.requires.domain;
      suffix = c.in_ok-suffix.ensures;
      shallow = c.are_shallow-shallow.ensures;
    }
