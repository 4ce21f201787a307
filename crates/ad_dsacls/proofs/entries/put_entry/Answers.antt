use Rattle.std.proofs.Common.{OnOk, ap, subst}
use Rattle.ad_acl.specs.Entry.{Entry}
use Rattle.ad_bytes.specs.Puts.{Puts, spaced}
use Rattle.ad_dsacls.specs.Words.{newline}
use Rattle.ad_dsacls.specs.Listing.{entry_line}
use Rattle.ad_bytes.proofs.Appended.{then, called, onward}
use Rattle.ad_dsacls.proofs.entries.put_entry.Goals as goal

pub returns : goal.returns
unfolding entry_line
returns c =
    let e : Entry = record {
      kind = c.ace.inside.kind;
      flags = c.ace.inside.flags;
      mask = c.ace.inside.mask;
      object = c.ace.inside.object;
      inherited = c.ace.inside.inherited;
      sid = c.ace.inside.sid;
    } in
    subst (λ (a : Entry). OnOk c.put-2.result
    (Puts c.args.out.now.items c.put-2.new.out.items (entry_line c.args.schema.now a))) c.ace.view_is
    (onward c.put-2.result c.put.new.out.items c.put-2.new.out.items newline c.args.out.now.items
    (entry_line c.args.schema.now e)
    (λ last. then (called (ap spaced c.kind_text.ensures) c.in_ok-put_spaced.ensures) (then c.in_ok-put_sid.ensures
    (then c.in_ok-put_rights.ensures (then c.in_ok-put_type.ensures (then c.in_ok-put_type-2.ensures
    (then c.in_ok-put_flags.ensures (then (called c.origin_text.ensures c.in_ok-put.ensures) last)))))))
    c.put-2.ensures)
