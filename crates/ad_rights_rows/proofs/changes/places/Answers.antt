use Rattle.std.proofs.Common.{◌≡◌, ◌∙◌, List, Vec, ◌++◌, map, sym, ap, subst}
use Rattle.std.specs.List.{AllByRecursion, flat_map}
use Rattle.std.specs.declared.alloc.Global.{Global}
use Rattle.ad_questions.specs.declared.alternative.Alternative.{Alternative}
use Rattle.ad_questions.specs.Requirements.{alternative_seen, requirement_seen, IsJudged}
use Rattle.ad_questions.proofs.JudgedLaws.{all_at}
use Rattle.ad_rights.specs.Holding.{listed}
use Rattle.ad_rights_judged.specs.Judged.{own_places}
use Rattle.ad_rights_rows.proofs.Changing.{places_more}
use Rattle.ad_rights_rows.proofs.changes.places.Goals as goal

pub put_each-requires : goal.put_each-requires
put_each-requires c = λ k d lt.
    let dir = c.args.dir.now in
    let item = c.requirement-item.result in
    all_at alternative_seen (IsJudged dir) c.as_slice.result.now k d
    (subst (λ (kept : List Alternative). AllByRecursion (IsJudged dir) (map alternative_seen kept))
    (sym c.as_slice.ensures.value)
    (subst (λ (kept : Vec Alternative Global). AllByRecursion (IsJudged dir) (requirement_seen kept))
    (sym c.requirement-item.is)
    (all_at requirement_seen (AllByRecursion (IsJudged dir)) c.args.needed.now c.loop-requirement.requirement-index item
    c.requires c.loop-requirement-test.true))) lt

pub loop-requirement-preserved : goal.loop-requirement-preserved
loop-requirement-preserved c =
    let l = c.loop-requirement in
    let holders = listed c.args.tokens.now.holding.holders in
    let item = c.requirement-item.result in
    places_more c.args.dir.now holders c.args.needed.now l.requirement-index item l.found.items c.put_each.new.into.items
    c.loop-requirement-test.true l.invariant
    (c.in_ok-put_each.ensures
    ∙ ap (λ (kept : List Alternative). l.found.items
    ++ flat_map (λ (a : Alternative). own_places c.args.dir.now holders (alternative_seen a).object) kept)
    (c.as_slice.ensures.value ∙ ap (λ (v : Vec Alternative Global). v.items) c.requirement-item.is))
