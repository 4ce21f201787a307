use Rattle.std.proofs.lemmas.Result.{on_ok_weaker}
use Rattle.std.proofs.lemmas.Option.{get_or_from_slice_get}
use Rattle.std.proofs.Common.{◌≡◌, ◌∙◌, ℕ, [], List, sym, ap, subst}
use Rattle.std.specs.Prelude.{is_some, slice_get}
use Rattle.ad_ids.specs.declared.token.Token.{Token}
use Rattle.ad_questions.specs.Requirements.{requirements_seen, are_met}
use Rattle.ad_sets.specs.declared.sets.Sets.{Sets}
use Rattle.ad_sets.specs.Sets.{sets_of, set_at}
use Rattle.ad_sets.specs.Rows.{told_set}
use Rattle.ad_rights_rows.specs.Rows.{base_of, whole_of}
use Rattle.ad_rights_rows.proofs.Sets.{ends_kept}
use Rattle.ad_control_graph.specs.Drawing.{Adds}
use Rattle.ad_control_asked.specs.Drawn.{CanDraw, IsTold, AreDrawn}
use Rattle.ad_control_asked.proofs.DrawnLaws.{drawn_kept}
use Rattle.ad_control_asked.proofs.NeededLaws.{can_draw, told_adds}
use Rattle.ad_control_asked.proofs.judging.draw_needed.Goals as goal

pub draw_told-requires-clause-can : goal.draw_told-requires-clause-can
draw_told-requires-clause-can c =
    subst (λ (at : List ℕ). CanDraw c.args.graph.now at c.args.to) (sym c.as_slice.ensures.value)
    (can_draw c.args.dir.now c.args.ground.now c.args.graph.now c.args.to c.requires.ground c.requires.steady
    c.requires.to)

pub draw_told-requires-clause-there : goal.draw_told-requires-clause-there
draw_told-requires-clause-there c =
    ap is_some (ap (λ (s : Sets). slice_get (sets_of s) c.in_ok-told.told.0) c.sets.ensures
    ∙ c.in_ok-told.ensures.told.0)

pub draw_told-requires-clause-drawn : goal.draw_told-requires-clause-drawn
draw_told-requires-clause-drawn c =
    let graph = c.args.graph.now in
    let drawn = c.args.judging.now.drawn in
    let at = c.args.ground.now.at.items in
    subst (λ (s : Sets). AreDrawn (sets_of s) c.as_slice.result.now graph drawn) (sym c.sets.ensures)
    (subst (λ (l : List ℕ). AreDrawn (sets_of c.told_needed.new.judged.sets) l graph drawn)
    (sym c.as_slice.ensures.value)
    (drawn_kept (sets_of c.args.judging.now.judged.sets) (sets_of c.told_needed.new.judged.sets) at graph drawn
    c.in_ok-told.ensures.kept c.requires.judging.drawn))

pub returns-clause-judging : goal.returns-clause-judging
returns-clause-judging c =
    let new = c.told_needed.new.judged in
    let graph = c.draw_told.new.graph in
    let table = c.draw_told.new.drawn in
    on_ok_weaker c.draw_told.result (λ drawn. record {
      judged = c.in_ok-told.ensures.judged;
      ends = ends_kept (sets_of c.args.judging.now.judged.sets) (sets_of new.sets)
          c.args.ground.now.parties.tokens.all.items c.args.judging.now.ends c.in_ok-told.ensures.kept
          c.requires.judging.ends;
      drawn = subst (λ (l : List ℕ). AreDrawn (sets_of new.sets) l graph table) c.as_slice.ensures.value
          (subst (λ (s : Sets). AreDrawn (sets_of s) c.as_slice.result.now graph table) c.sets.ensures drawn);
    }) c.draw_told.ensures.drawn

pub returns-clause-adds : goal.returns-clause-adds
returns-clause-adds c =
    let dir = c.args.dir.now in
    let tokens = c.args.ground.now.parties.tokens.all.items in
    let needed = requirements_seen c.args.needed.now in
    let base = base_of dir tokens needed in
    let whole = whole_of dir tokens needed in
    let own = c.own_of-own.result in
    let told = c.in_ok-told.told in
    let members = set_at (sets_of c.sets.result.now) told.0 in
    let new = sets_of c.told_needed.new.judged.sets in
    let members_are : members ≡ told_set own base whole
    = ap (λ (s : Sets). set_at (sets_of s) told.0) c.sets.ensures
    ∙ get_or_from_slice_get new told.0 (told_set own base whole) [] c.in_ok-told.ensures.told.0 in
    on_ok_weaker c.draw_told.result (λ adds.
    told_adds c.args.graph.now c.draw_told.new.graph c.args.kind c.args.to tokens c.args.ground.now.at.items
    (λ (token : Token). are_met dir token needed) members base told.1 own members_are c.in_ok-told.ensures.told.1
    (λ member. c.a_row_tells_the_whole.ensures c.args.number member own base whole)
    (subst (λ (at : List ℕ). Adds c.args.graph.now c.draw_told.new.graph c.args.kind c.args.to
    (IsTold members told.1 own at)) c.as_slice.ensures.value adds)) c.draw_told.ensures.adds
