use Rattle.std.proofs.Common.{◌<◌, Bool, Some, None, length, sym, ◌∙◌, arith}
use Rattle.std.specs.Prelude.{nat_le}
use Rattle.sd_pool.specs.declared.holes.Hole.{Hole}
use Rattle.sd_pool.proofs.Lists.{first_passes, first_within}
use Rattle.sd_pool.proofs.HoleLists.{ends_before_at, ends_before_all}
use Rattle.sd_pool.proofs.holes.ended_before.Goals as goal

pub returns-in-Some-clause-bound : goal.returns-in-Some-clause-bound
returns-in-Some-clause-bound c =
    let reaches : Hole → Bool = λ hole. nat_le c.args.block hole.end in
    let within : c.in-Some.place < length c.args.holes.now = first_within reaches c.in-Some.place c.args.holes.now
    (first_passes reaches c.args.holes.now (Some c.in-Some.place) (sym c.in-Some.is ∙ c.position_of_end.ensures))
    in
    omega arith

pub returns-in-Some-clause-before : goal.returns-in-Some-clause-before
returns-in-Some-clause-before c = ends_before_at c.args.block c.in-Some.place c.args.holes.now
    (first_passes (λ hole. nat_le c.args.block hole.end) c.args.holes.now (Some c.in-Some.place)
    (sym c.in-Some.is ∙ c.position_of_end.ensures))

pub returns-in-None-clause-before : goal.returns-in-None-clause-before
returns-in-None-clause-before c = ends_before_all c.args.block c.args.holes.now
    (first_passes (λ hole. nat_le c.args.block hole.end) c.args.holes.now None
    (sym c.in-None.is ∙ c.position_of_end.ensures))
