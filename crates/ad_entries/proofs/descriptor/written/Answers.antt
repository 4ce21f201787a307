use Rattle.std.proofs.Common.{refl, Ok, Err}
use Rattle.ad_acl.specs.declared.write_fault.AclWriteFault.TheVariants as fault
use Rattle.ad_sd.specs.Seen.{seen}
use Rattle.ad_entries.proofs.EntryLaws.{written_is}
use Rattle.ad_entries.proofs.descriptor.written.Goals as goal

pub returns-in-Ok : goal.returns-in-Ok
returns-in-Ok c =
    written_is c.args.dir.now c.args.number (seen c.live_sd.result) c.args.flags (Ok c.in-Ok.bytes.items)
    c.live_sd.ensures c.in-Ok.ensures.written

pub returns-in-Err-TooLong : goal.returns-in-Err-TooLong
returns-in-Err-TooLong c =
    let told = rw c.in-Err-TooLong.field-0-is at c.in-Err-TooLong.ensures.written in
    written_is c.args.dir.now c.args.number (seen c.live_sd.result) c.args.flags (Err fault.TooLong)
    c.live_sd.ensures (told refl)
