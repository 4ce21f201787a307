use Rattle.std.proofs.Common.{◌≡◌, ◌∙◌, List, Vec, sym, ap, subst}
use Rattle.std.specs.Prelude.{slice_get}
use Rattle.std.specs.declared.alloc.Global.{Global}
use Rattle.std.proofs.lemmas.Option.{same_Some}
use Rattle.ad_control_graph.specs.Kinds.{kinds}
use Rattle.ad_control_asked.specs.declared.ways.Known.{Known}
use Rattle.ad_control_asked.specs.Asked.{AreWaysOf}
use Rattle.ad_control_asked.proofs.WayLaws.{ways_at}
use Rattle.ad_control_asked.proofs.ways.Ways.at.Goals as goal

pub returns : goal.returns
returns c =
    let schema = c.args.dir.now.schema in
    let kind = c.args.kind in
    let place = c.place-place.result in
    let made = ways_at schema kinds c.args.self.now.all.items place kind c.requires c.place-place.ensures in
    let same : made.0 ≡ c.in-Some.known.now
    = same_Some made.0 c.in-Some.known.now (sym made.1
    ∙ ap (λ (all : List (Vec Known Global)). slice_get all place) (sym c.as_slice-all.ensures.value)
    ∙ sym c.in-Some.ensures) in
    subst (λ (known : List Known). AreWaysOf schema kind known) (sym c.as_slice.ensures.value)
    (subst (λ (known : Vec Known Global). AreWaysOf schema kind known.items) same made.2)
