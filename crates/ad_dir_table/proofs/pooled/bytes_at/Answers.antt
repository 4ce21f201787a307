use Rattle.std.proofs.Common.{◌∙◌, sym}
use Rattle.sd_pool.proofs.SharerLaws.{live_extent}
use Rattle.ad_dir_table.proofs.LiveLaws.{bytes_told}
use Rattle.ad_dir_table.proofs.pooled.bytes_at.Goals as goal

pub returns : goal.returns
returns c =
    let e = live_extent c.args.pool.now.live c.args.id.0 c.requires in
    c.bytes.ensures e.0 e.1 ∙ sym (bytes_told c.args.pool.now.live c.args.id.0 e.0 e.1)
