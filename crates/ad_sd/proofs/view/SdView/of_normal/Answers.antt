use Rattle.std.proofs.Common.{sym, subst}
use Rattle.ad_sd.specs.declared.parts.Sd.{Sd}
use Rattle.ad_sd.specs.Normal.{SpellsNormal}
use Rattle.ad_sd.proofs.NormalReader.{spelled_normal, spelled_in}
use Rattle.ad_sd.proofs.view.SdView.of_normal.Goals as goal

pub invariant_of-result : goal.invariant_of-result
invariant_of-result c = record { normal = spelled_normal c.args.bytes.now c.requires.0 c.requires.1 }

pub returns-clause-normal : goal.returns-clause-normal
returns-clause-normal c = subst (λ (v : Sd). SpellsNormal v c.args.bytes.now)
    (sym (spelled_in c.args.bytes.now c.requires.0 c.requires.1)) c.requires.1

pub returns-clause-only : goal.returns-clause-only
returns-clause-only c = λ sd s. spelled_in c.args.bytes.now sd s
