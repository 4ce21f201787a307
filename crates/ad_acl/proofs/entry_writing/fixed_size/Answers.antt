use Rattle.std.proofs.Common.{arith, length, ap, ◌∙◌, Bool, ◌≡◌}
use Rattle.ad_acl.specs.Writing.{which_of, which_bytes, has_guid}
use Rattle.ad_acl.proofs.EntryWriting.{length-fixed_bytes}
use Rattle.ad_acl.proofs.entry_writing.fixed_size.Goals as goal

pub returns-clause-size : goal.returns-clause-size
returns-clause-size c = λ mask.
    let which = which_of c.args.object.now c.args.inherited.now in
    let flags : c.flags_size.result ≡ length (which_bytes (has_guid c.args.object.now c.args.inherited.now) which)
    = c.flags_size.ensures.size which ∙ ap (λ (b : Bool). length (which_bytes b which)) c.has_guid.ensures in
    omega (
      arith,
      flags,
      length-fixed_bytes mask c.args.object.now c.args.inherited.now,
      ap length
          c.guid_part.ensures.bytes,
      ap length c.guid_part-2.ensures.bytes,
    )
