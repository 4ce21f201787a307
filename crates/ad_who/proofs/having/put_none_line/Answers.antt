use Rattle.std.proofs.Common.{codes}
use Rattle.ad_who.specs.Lines.{identity_text}
use Rattle.ad_who.proofs.Putting.{where_ok, two_put}
use Rattle.ad_who.proofs.having.put_none_line.Goals as goal

pub returns : goal.returns
returns c =
    where_ok c.put_identity.result
    (λ last. two_put c.args.into.now.items c.put.new.into.items c.put_identity.new.into.items (codes "none ")
    (identity_text c.args.dir.now c.args.identity.now) c.in_ok-put.ensures last)
    c.put_identity.ensures
