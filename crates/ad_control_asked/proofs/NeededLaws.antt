-- Who meets requirements, as what a set tells with a sign.
use Rattle.std.proofs.Common.{◌≡◌, ◌∙◌, ◌<◌, ℕ, Bool, Option, List, length, map, sym, ap}
use Rattle.ad_ids.specs.declared.token.Token.{Token}
use Rattle.ad_dir_model.specs.Directory.{Directory}
use Rattle.ad_sets.specs.declared.told.Sign.{Sign}
use Rattle.ad_sets.specs.Told.{stands_in, signed}
use Rattle.ad_sets.specs.Rows.{told_set, told_sign}
use Rattle.ad_control_graph.specs.declared.kind.Kind.{Kind}
use Rattle.ad_control_graph.specs.declared.graph.Graph.{Graph}
use Rattle.ad_control_graph.specs.Drawing.{IsSteady, Adds, IsBy}
use Rattle.ad_control_graph.proofs.SetLaws.{by_things, by_flags}
use Rattle.ad_control_graph.proofs.AddLaws.{adds_alike}
use Rattle.ad_control_nodes.specs.declared.ground.Ground.{Ground}
use Rattle.ad_control_nodes.specs.Ground.{IsGround}
use Rattle.ad_control_nodes.proofs.Lists.{at_below}
use Rattle.ad_control_asked.specs.Drawn.{CanDraw, IsNodeOf, IsTold}
use Rattle.ad_control_asked.proofs.SignLaws.{node_of, stands}

-- ---- where arcs can be drawn

pub can_draw : (dir : Directory) (ground : Ground) (graph : Graph) (to : ℕ) → IsGround dir graph.nodes.items ground
    → IsSteady graph → to < length graph.nodes.items → CanDraw graph ground.at.items to
can_draw dir ground graph to is steady lt =
    record { steady = steady; from = at_below dir graph.nodes.items ground is; end = lt }

-- ---- who is told

told_as : (members base whole : List Bool) (sign : Sign) (own : Option ℕ) (member : ℕ)
    → members ≡ told_set own base whole
    → sign ≡ told_sign own base whole
    → signed (told_sign own base whole) own member (stands_in (told_set own base whole) member) ≡ stands_in whole member
    → signed sign own member (stands_in members member) ≡ stands_in whole member
told_as members base whole sign own member members_are sign_is tells =
    ap (λ (s : Sign). signed s own member (stands_in members member)) sign_is
    ∙ ap (λ (l : List Bool). signed (told_sign own base whole) own member (stands_in l member)) members_are ∙ tells

pub told_adds : (old new : Graph) (kind : Kind) (to : ℕ) (tokens : List Token) (at : List ℕ) (test : Token → Bool)
    (members base : List Bool) (sign : Sign) (own : Option ℕ)
    → members ≡ told_set own base (map test tokens) → sign ≡ told_sign own base (map test tokens)
    → ((member : ℕ) → signed (told_sign own base (map test tokens)) own member
    (stands_in (told_set own base (map test tokens)) member) ≡ stands_in (map test tokens) member)
    → Adds old new kind to (IsTold members sign own at) → Adds old new kind to (IsBy tokens at test)
told_adds old new kind to tokens at test members base sign own members_are sign_is tells adds =
    let whole = map test tokens in
    let told_is : (member : ℕ) → signed sign own member (stands_in members member) ≡ stands_in whole member
    = λ member. told_as members base whole sign own member members_are sign_is (tells member) in
    adds_alike old new kind to (IsTold members sign own at) (IsBy tokens at test)
    (λ x told. by_things tokens at test x
    (node_of whole at told.member x (sym (told_is told.member) ∙ told.is_told) told.is_at))
    (λ x by. let flags : IsNodeOf whole at x = by_flags tokens at test x by in record {
      member = flags.place;
      is_told = told_is flags.place ∙ stands whole at x flags;
      is_at = flags.is_at;
    }) adds
