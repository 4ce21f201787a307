use Rattle.std.proofs.Common.{◌∙◌, ◌++◌, ◌∷◌, [], List, sym, ap, get_or}
use Rattle.std.proofs.lemmas.List.{take_more}
use Rattle.ad_both.specs.declared.both.Both.{Both}
use Rattle.ad_diff.proofs.families.families_of.Goals as goal

pub loop-o-preserved : goal.loop-o-preserved
loop-o-preserved c =
    let none : Both = record { before = 0; after = 0 } in
    record {
      members_are = c.in_ok-family.ensures.members
          ∙ ap (λ (all : List Both). all ++ (get_or c.args.objects.now c.loop-o.o-index none ∷ []))
          c.loop-o.invariant.members_are
          ∙ sym (take_more c.args.objects.now c.loop-o.o-index none c.loop-o-test.true);
      live = c.in_ok-family.ensures.firsts;
      families = c.in_ok-family.ensures.families;
    }
