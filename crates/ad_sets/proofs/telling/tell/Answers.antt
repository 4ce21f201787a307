use Rattle.std.proofs.Common.{◌≡◌, Bool, List, [], ◌∷◌, ◌++◌, refl, subst}
use Rattle.std.specs.Prelude.{if◌then◌else◌}
use Rattle.ad_sets.specs.declared.told.Fact.{Fact}
use Rattle.ad_sets.specs.declared.told.Fact.TheVariants.{On}
use Rattle.ad_sets.specs.Told.{members_from}
use Rattle.std.proofs.lemmas.Result.{on_ok_weaker}
use Rattle.ad_sets.specs.Sets.{sets_of}
use Rattle.ad_sets.specs.Rows.{value_of}
use Rattle.ad_sets.specs.Telling.{told_of, IsEntered}
use Rattle.ad_sets.proofs.Numbering.{tells, tells_known, hints_entered}
use Rattle.ad_sets.proofs.telling.tell.Goals as goal

pub returns-then-number-gt0-clause-tells : goal.returns-then-number-gt0-clause-tells
returns-then-number-gt0-clause-tells c =
    on_ok_weaker c.put_known.result
    (λ put. tells_known (sets_of c.args.sets.now) (told_of c.args.told.now) c.args.numbers.now.items
    (value_of (sets_of c.args.sets.now) c.args.row) c.args.row.place c.known-number.result c.args.facts.now.items
    c.put_known.new.facts.items c.requires refl c.if-number-gt0.true c.known-number.ensures put)
    c.put_known.ensures

pub returns-clause-hints : goal.returns-clause-hints
returns-clause-hints c =
    on_ok_weaker c.put_line.result
    (λ put. hints_entered (sets_of c.args.sets.now) (told_of c.args.told.now) (told_of c.enter.new.told)
    c.args.numbers.now.items c.note.new.numbers.items c.args.row.place c.in_ok-number.number c.in_ok-number.is_new
    c.at-set.result.now c.requires c.at-set.ensures c.in_ok-number.ensures c.note.ensures)
    c.put_line.ensures

pub returns-clause-tells : goal.returns-clause-tells
returns-clause-tells c =
    on_ok_weaker c.put_line.result
    (λ put. tells c.in_ok-number.is_new (told_of c.args.told.now) (told_of c.enter.new.told)
    (value_of (sets_of c.args.sets.now) c.args.row) c.args.facts.now.items c.put_line.new.facts.items
    c.in_ok-number.number
    (subst (λ (l : List Bool). IsEntered (told_of c.args.told.now) (told_of c.enter.new.told) l c.in_ok-number.number
    c.in_ok-number.is_new) c.at-set.ensures c.in_ok-number.ensures)
    (subst (λ (l : List Bool). c.put_line.new.facts.items ≡ put_of l) c.at-set.ensures put))
    c.put_line.ensures
  where
    put_of : List Bool → List Fact
    put_of set = c.args.facts.now.items ++ ((if c.in_ok-number.is_new then members_from c.in_ok-number.number 0 set else [])
        ++ (On c.in_ok-number.number c.args.row.sign c.args.row.object ∷ []))
