use Rattle.std.proofs.Common.{◌∷◌, [], sym, subst}
use Rattle.std.specs.List.{All}
use Rattle.std.proofs.lemmas.List.Elements.{All-append, All-cons, All-nil}
use Rattle.std.proofs.lemmas.Result.{on_ok_weaker}
use Rattle.ad_dir.proofs.NameLaws.{if_ok}
use Rattle.ad_both.specs.Both.{IsLiveBoth}
use Rattle.ad_diff.specs.Families.{IsOfFamily}
use Rattle.ad_diff.proofs.Contexts.{family_same}
use Rattle.ad_diff.proofs.families.family_of.Goals as goal

pub returns-then-is_of-clause-family : goal.returns-then-is_of-clause-family
returns-then-is_of-clause-family c = family_same c.args.before.now c.args.after.now c.args.firsts.now.items
    c.in-Some.family c.args.o
    (subst (λ firsts. IsOfFamily c.args.before.now c.args.after.now firsts c.in-Some.family c.args.o)
    c.as_slice.ensures.value (c.is_of.ensures c.if-is_of.true))

pub returns-clause-firsts : goal.returns-clause-firsts
returns-clause-firsts c =
    let P = IsLiveBoth c.args.before.now c.args.after.now in
    on_ok_weaker c.begin.result
    (λ are. subst (All P) (sym are)
    (All-append P c.args.firsts.now.items (c.args.o ∷ []) c.requires.firsts
    (All-cons P c.args.o [] c.requires.live (All-nil P))))
    c.begin.ensures.firsts

pub returns-clause-family : goal.returns-clause-family
returns-clause-family c = if_ok c.begin.result (λ family next. next c.args.before.now c.args.after.now)
    c.begin.ensures.family
