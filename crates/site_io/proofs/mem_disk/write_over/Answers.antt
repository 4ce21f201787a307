use Rattle.std.proofs.Common.{◌≡◌, rules}
use Rattle.site_io.proofs.mem_disk.write_over.Goals as goal

pub returns-then-noted-clause-done : goal.returns-then-noted-clause-done
returns-then-noted-clause-done c =
    let same : c.in-Ok-Ok.kept.items ≡ c.args.bytes.now = search rules in
    rw c.if-noted.true (c.in-Ok-Ok.kept, same, c.if-noted.ensures.noted)
