use Rattle.std.proofs.Common.{◌≡◌, rules}
use Rattle.site_io.proofs.mem_disk.append.Goals as goal

pub returns-else-not-noted-clause-done : goal.returns-else-not-noted-clause-done
returns-else-not-noted-clause-done c =
    let same : c.in-Ok.kept.items ≡ c.args.bytes.now = search rules in
    rw c.if-not-noted.false (c.in-Ok.kept, same, c.if-not-noted.ensures.noted)
