use Rattle.std.proofs.Common.{codes}
use Rattle.ad_dsacls.specs.Listing.{list_lines, lines_of}
use Rattle.ad_bytes.proofs.Appended.{then, onward}
use Rattle.ad_dsacls.proofs.entries.put_lines.Goals as goal

pub returns : goal.returns
unfolding lines_of
returns c =
    onward c.put_list-2.result c.put_list.new.out.items c.put_list-2.new.out.items
    (list_lines c.args.schema.now (codes "sacl") c.args.sd.now.sacl) c.args.out.now.items
    (lines_of c.args.schema.now c.args.name.now c.args.sd.now)
    (λ last. then c.in_ok-put_labelled.ensures
    (then c.in_ok-put_sid_line.ensures
    (then c.in_ok-put_sid_line-2.ensures (then c.in_ok-put_list.ensures last))))
    c.put_list-2.ensures
