use Rattle.std.proofs.Common.{List, sym, ap, ◌∙◌, arith}
use Rattle.ad_dir_model.specs.Object.{Object}
use Rattle.ad_dir_model.specs.Objects.{object_at}
use Rattle.ad_dir_objects.specs.Left.{left_of}
use Rattle.ad_dir_objects.proofs.Weights.{spent, too_heavy, nothing}
use Rattle.ad_change.specs.Others.{other_weight, others_weight}
use Rattle.ad_change.proofs.OtherLaws.{behind, all_behind, next_at, others_next, others_end, fewer_behind, none_unless}
use Rattle.ad_change.proofs.light.after_others.Goals as goal

pub each-init : goal.each-init
each-init c = ap (λ (os : List Object). left_of c.args.left (others_weight c.args.dir.now.schema c.args.but os))
    (all_behind 0 0 c.args.dir.now.objects c.invariants.ensures.rise (omega arith))

pub after_other-requires : goal.after_other-requires
after_other-requires c = (next_at 0 c.each.above c.in-Some.number c.args.dir.now.objects c.invariants.ensures.rise
    (sym c.in-Some.ensures)).live

pub returns-in-None : goal.returns-in-None
returns-in-None c =
    let dir = c.args.dir.now in
    let n = c.in-Some.number in
    sym (ap (left_of c.each.left) (others_next dir.schema c.args.but dir.objects c.each.above n
    (next_at 0 c.each.above n dir.objects c.invariants.ensures.rise (sym c.in-Some.ensures)))
    ∙ too_heavy c.each.left (other_weight dir.schema c.args.but (object_at dir.objects n))
    (others_weight dir.schema c.args.but (behind n dir.objects)) (sym c.in-None.ensures))
    ∙ c.each.invariant

pub each-smaller : goal.each-smaller
each-smaller c =
    let dir = c.args.dir.now in
    fewer_behind dir.objects c.each.above c.in-Some.number
    (next_at 0 c.each.above c.in-Some.number dir.objects c.invariants.ensures.rise (sym c.in-Some.ensures))

pub each-preserved : goal.each-preserved
each-preserved c =
    let dir = c.args.dir.now in
    let n = c.in-Some.number in
    sym (ap (left_of c.each.left) (others_next dir.schema c.args.but dir.objects c.each.above n
    (next_at 0 c.each.above n dir.objects c.invariants.ensures.rise (sym c.in-Some.ensures)))
    ∙ spent c.each.left (other_weight dir.schema c.args.but (object_at dir.objects n))
    (others_weight dir.schema c.args.but (behind n dir.objects))
    c.in-Some-after_other.less (sym c.in-Some-after_other.ensures))
    ∙ c.each.invariant

pub returns : goal.returns
returns c =
    let dir = c.args.dir.now in
    sym (ap (left_of c.each.left) (others_end dir.schema c.args.but c.each.above dir.objects
    (sym c.next_number.ensures ∙ none_unless c.next_number.result c.in_default.not-Some)) ∙ nothing c.each.left)
    ∙ c.each.invariant
