use Rattle.ad_filter.proofs.KeptLaws.{one_read}
use Rattle.ad_filter.proofs.value_cache.keep.Goals as goal

pub returns-clause-read : goal.returns-clause-read
returns-clause-read g c =
    one_read (g.V.Readable.shown c.args.view.now) c.args.kept.now c.insert.new.self c.args.attr c.in_ok-values.values
    c.requires c.in_ok-values.ensures c.in_ok-insert.ensures.updates
