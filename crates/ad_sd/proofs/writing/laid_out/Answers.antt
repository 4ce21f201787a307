use Rattle.std.proofs.Common.{ℕ, List, ◌++◌, ap, ◌∙◌}
use Rattle.ad_sd.proofs.SdWriting.{parts_put}
use Rattle.ad_sd.proofs.writing.laid_out.Goals as goal

pub returns : goal.returns
returns c =
    let owner = c.args.owner.now in
    let group = c.args.group.now in
    let sacl = c.args.sacl.now in
    let dacl = c.args.dacl.now in
    let at = c.offsets_of-offsets.result in
    let stands = c.offsets_of-offsets.ensures in
    parts_put c.args.parts.now c.put_parts.new.into.items c.in_ok-bytes.bytes.items owner group sacl dacl
    c.control_of.result at.owner at.group at.sacl at.dacl
    c.in_ok-bytes.ensures.items c.requires.owner c.requires.group c.control_of.ensures stands.owner stands.group
    stands.sacl stands.dacl
    (c.in_ok-put_parts.ensures ∙ ap (λ (t : List ℕ). (((t ++ owner) ++ group) ++ sacl) ++ dacl)
    c.in_ok-put_header.ensures)
