use Rattle.std.proofs.Common.{◌≡◌, ℕ, List, Ok, sym, ap, subst, ◌∙◌, arith}
use Rattle.ad_acl.specs.Entry.{Entry}
use Rattle.ad_acl.specs.EntryIn.{is_entry, entry_in}
use Rattle.ad_acl.proofs.EntryPlaces.{Cut, entry_cut, split_read}
use Rattle.ad_acl.proofs.ace_in.AceIn.split_first.Goals as goal

pub number16-requires : goal.number16-requires
number16-requires c = omega (
  arith,
  (entry_cut c.args.bytes.now (λ i. omega (arith, c.type_inv.bytes i))
      c.requires).head,
)

pub split_at-requires : goal.split_at-requires
split_at-requires c =
    let cut : Cut c.args.bytes.now c.from-size.result = subst (Cut c.args.bytes.now)
    (sym (c.from-size.ensures ∙ c.number16.ensures))
    (entry_cut c.args.bytes.now (λ i. omega (arith, c.type_inv.bytes i)) c.requires) in
    cut.within

pub of-requires : goal.of-requires
of-requires c =
    let cut : Cut c.args.bytes.now c.from-size.result = subst (Cut c.args.bytes.now)
    (sym (c.from-size.ensures ∙ c.number16.ensures))
    (entry_cut c.args.bytes.now (λ i. omega (arith, c.type_inv.bytes i)) c.requires) in
    ap is_entry c.split_at.ensures.front ∙ cut.alone

pub returns : goal.returns
returns c =
    let cut : Cut c.args.bytes.now c.from-size.result = subst (Cut c.args.bytes.now)
    (sym (c.from-size.ensures ∙ c.number16.ensures))
    (entry_cut c.args.bytes.now (λ i. omega (arith, c.type_inv.bytes i)) c.requires) in
    split_read c.args.bytes.now c.from-size.result cut c.split_at.result.0.now c.split_at.result.1.now _
    c.split_at.ensures.front c.split_at.ensures.back c.of.ensures
