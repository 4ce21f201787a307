use Rattle.std.proofs.Common.{Bool, ◌&&◌, sym, ap, ◌∙◌}
use Rattle.ad_ldap.specs.MessageValue.{search_seen}
use Rattle.ad_entries.specs.Places.{is_readable_at}
use Rattle.ad_entries.proofs.JudgedLaws.{none_asked}
use Rattle.ad_entries.proofs.verdicts.is_given.Goals as goal

pub returns-then-place-attrs-clause-so : goal.returns-then-place-attrs-clause-so
returns-then-place-attrs-clause-so c =
    let dir = c.args.asking.now.dir.now in
    sym (ap (λ (b : Bool). b && is_readable_at dir c.args.asking.now.token.now c.args.number c.args.place)
    (none_asked dir.schema (search_seen c.args.asking.now.search.now).attrs c.args.place
    (rw (c.attrs.ensures, c.schema.ensures) at c.if-place-attrs.true)))

pub returns-then-not-is_flagged-clause-so : goal.returns-then-not-is_flagged-clause-so
returns-then-not-is_flagged-clause-so c =
    let dir = c.args.asking.now.dir.now in
    ap (λ (b : Bool). b && is_readable_at dir c.args.asking.now.token.now c.args.number c.args.place)
    (rw c.as_slice.ensures.value at c.if-not-is_flagged.ensures ∙ c.requires.asked.flags c.args.place)

pub returns-clause-so : goal.returns-clause-so
returns-clause-so c =
    let dir = c.args.asking.now.dir.now in
    c.is_readable_so.ensures.so
    ∙ ap (λ (b : Bool). b && is_readable_at dir c.args.asking.now.token.now c.args.number c.args.place)
    (rw c.as_slice.ensures.value at c.if-not-is_flagged.ensures ∙ c.requires.asked.flags c.args.place)
