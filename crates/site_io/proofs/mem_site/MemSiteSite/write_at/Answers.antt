use Rattle.site_io.specs.MemDisk.{left_in}
use Rattle.std.proofs.Common.{length}
use Rattle.site_io.proofs.Moments.{passes_as_write}
use Rattle.site_io.proofs.mem_site.MemSiteSite.write_at.Goals as goal

pub returns-then-refuses-clause-images : goal.returns-then-refuses-clause-images
returns-then-refuses-clause-images c =
    passes_as_write c.args.slot c.args.at (length c.args.bytes.now) (length c.args.self.now.disk.done.items)
    (left_in c.args.self.now.disk) (left_in c.pass.new.self) c.pass.ensures.images
