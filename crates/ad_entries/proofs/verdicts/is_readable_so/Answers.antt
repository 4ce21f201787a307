use Rattle.std.proofs.Common.{◌≡◌, Option, Bool, IfSome, sym, subst, ◌∙◌}
use Rattle.ad_entries.specs.Places.{is_readable_at}
use Rattle.ad_entries.proofs.JudgedLaws.{readable_here, knows_more}
use Rattle.ad_entries.proofs.verdicts.is_readable_so.Goals as goal

pub returns-in-Some-clause-so : goal.returns-in-Some-clause-so
returns-in-Some-clause-so c =
    let dir = c.args.asking.now.dir.now in
    let token = c.args.asking.now.token.now in
    subst (λ (v : Option Bool). IfSome v (λ so. so ≡ is_readable_at dir token c.args.number c.args.attr.0)) c.in-Some.is
    (subst (λ (v : Option Bool). IfSome v (λ so. so ≡ is_readable_at dir token c.args.number c.args.attr.0))
    (sym (rw c.as_slice.ensures.value at c.verdict_at.ensures))
    (c.requires.one.judged.knows c.args.number c.requires.one.of c.args.attr.0))

pub returns-clause-so : goal.returns-clause-so
returns-clause-so c =
    c.is_readable-so.ensures
    ∙ readable_here c.args.asking.now.dir.now c.args.asking.now.token.now c.args.number c.args.attr.0
    c.attr_info-info.result.now (rw c.schema.ensures at c.attr_info-info.ensures)

pub returns-clause-one : goal.returns-clause-one
returns-clause-one c =
    let dir = c.args.asking.now.dir.now in
    let token = c.args.asking.now.token.now in
    let one = c.args.one.now in record {
      judged = record {
        live = c.requires.one.judged.live;
        knows = knows_more dir token one.kind c.args.number c.args.attr.0 c.is_readable-so.result
            one.verdicts.items c.keep.new.verdicts.items c.requires.one.of
            (c.is_readable-so.ensures
            ∙ readable_here dir token c.args.number c.args.attr.0 c.attr_info-info.result.now
            (rw c.schema.ensures at c.attr_info-info.ensures))
            c.keep.ensures c.requires.one.judged.knows;
        changing = c.requires.one.judged.changing;
      };
      of = c.requires.one.of;
    }
