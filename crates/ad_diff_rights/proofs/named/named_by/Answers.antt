use Rattle.std.proofs.Common.{subst}
use Rattle.std.specs.Prelude.{All}
use Rattle.std.proofs.lemmas.List.{take_all}
use Rattle.std.proofs.lemmas.List.Elements.{All-more}
use Rattle.ad_both.specs.declared.both.Both.{Both}
use Rattle.ad_diff_rights.specs.Named.{IsNamedBoth}
use Rattle.ad_diff_rights.proofs.Naming.{named_still}
use Rattle.ad_diff_rights.proofs.named.named_by.Goals as goal

pub loop-o-preserved : goal.loop-o-preserved
loop-o-preserved c =
    let none : Both = record { before = 0; after = 0 } in
    All-more (IsNamedBoth c.args.before.now c.args.after.now c.name_both.new.named.keys) c.args.objects.now
    c.loop-o.o-index none c.loop-o-test.true
    (λ i d lt. named_still c.args.before.now c.args.after.now c.loop-o.named.keys c.name_both.new.named.keys _
    c.in_ok-name_both.ensures.grows (c.loop-o.invariant i d lt))
    c.in_ok-name_both.ensures.there

pub returns : goal.returns
returns c = subst (All (IsNamedBoth c.args.before.now c.args.after.now c.loop-o.named.keys))
    (take_all c.loop-o.o-index c.args.objects.now c.loop-o-test.false) c.loop-o.invariant
