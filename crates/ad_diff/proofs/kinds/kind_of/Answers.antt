use Rattle.std.proofs.Common.{length, refl, subst}
use Rattle.std.proofs.lemmas.Option.{slice_get_read}
use Rattle.ad_dir.proofs.NameLaws.{if_ok}
use Rattle.ad_diff.specs.Kinds.{IsOfKind}
use Rattle.ad_diff.proofs.Contexts.{kind_same}
use Rattle.ad_diff.proofs.kinds.kind_of.Goals as goal

pub returns-then-is_of : goal.returns-then-is_of
returns-then-is_of c = kind_same c.args.named.now c.args.parties.now c.args.firsts.now.items c.args.place
    c.in-Some.kind c.index-parties-place.result
    (slice_get_read c.args.parties.now (length c.args.parties.now) c.args.place c.index-parties-place.result refl
    c.requires c.index-parties-place.is)
    (subst (λ firsts. IsOfKind c.args.named.now c.args.parties.now firsts c.in-Some.kind c.index-parties-place.result)
    c.as_slice.ensures.value (c.is_of.ensures c.if-is_of.true))

pub returns : goal.returns
returns c = if_ok c.begin.result (λ kind next. next c.args.named.now c.args.parties.now) c.begin.ensures
