use Rattle.std.proofs.Common.{length, sym, ap, ◌∙◌}
use Rattle.ad_ids.proofs.GuidCodec.{length_part}
use Rattle.ad_ids.proofs.guid.Guid.read.Goals as goal

pub copy_from_slice-requires : goal.copy_from_slice-requires
copy_from_slice-requires c = sym (ap length c.rest.ensures ∙ length_part 16 c.args.input.now c.in_ok-part.part
    c.part.new.self c.in_ok-part.ensures.read)
