-- An edge is one of the parts, and each part is an edge.
use Rattle.std.proofs.Common.{◌≡◌, ◌∙◌, ℕ, zero, suc, ◌<◌, ◌⊎◌, inl, inr, Bool, true, false, ◌||◌, Option, Some, None}
use Rattle.std.proofs.Common.{List, [], ◌∷◌, length, refl, sym, ap, subst, arith}
use Rattle.std.specs.Prelude.{slice_get, nat_eq}
use Rattle.std.specs.List.{list_any}
use Rattle.std.proofs.lemmas.Bool.{cases_Bool, false≢true, eqb-true, eqb-false, and_parts, and_from, or_cases, or_left}
use Rattle.std.proofs.lemmas.Bool.{or_right}
use Rattle.std.proofs.lemmas.Option.{same_Some, none-some, slice_get_within}
use Rattle.ad_ids.specs.declared.token.Token.{Token}
use Rattle.ad_dir_model.specs.Directory.{Directory}
use Rattle.ad_dir_model.specs.Objects.{is_live}
use Rattle.ad_control_graph.specs.declared.kind.Kind.{Kind}
use Rattle.ad_control_graph.specs.declared.node.Node.{Node}
use Rattle.ad_control_graph.specs.Kinds.{From, Nowhere, TheRootItself, ItsParent, ItsHolder, ItsPolicies, Above, ItsMembers}
use Rattle.ad_control_graph.specs.Kinds.{row}
use Rattle.ad_control_graph.specs.Drawing.{IsBy}
use Rattle.ad_control.specs.Edges.{IsTokenIf, is_of, goes, holds, stands, asks_there, by_token, leads, IsEdge}
use Rattle.ad_policies.specs.Policies.{above}
use Rattle.ad_control_nodes.specs.declared.ground.Ground.{Ground}
use Rattle.ad_control_nodes.specs.Ground.{IsTokenOf, AreTokensOf, IsGround}
use Rattle.ad_control_nodes.specs.Parts.{IsPart}

-- ---- from where a node stands

none_there : (dir : Directory) (question : List ℕ) (containers : List ℕ)
    → list_any (asks_there dir None question) containers ≡ false
none_there dir question [] = refl
none_there dir question (c ∷ containers) = none_there dir question containers

-- who stands there without a token does so with one
stands_with : (dir : Directory) (token : Token) (node : Node) (number : ℕ) (from : From)
    → stands dir None node number from ≡ true → stands dir (Some token) node number from ≡ true
unfolding stands
stands_with dir token node number Nowhere is = is
stands_with dir token node number TheRootItself is = is
stands_with dir token node number ItsParent is = is
stands_with dir token node number ItsHolder is = is
stands_with dir token node number ItsPolicies is = is
stands_with dir token node number (Above question) is =
    absurd (false≢true (sym (none_there dir question (above dir number)) ∙ is))
stands_with dir token node number ItsMembers is = absurd (false≢true is)

any_with : (dir : Directory) (token : Token) (node : Node) (number : ℕ) (all : List From)
    → list_any (stands dir None node number) all ≡ true → list_any (stands dir (Some token) node number) all ≡ true
any_with dir token node number [] is = is
any_with dir token node number (from ∷ all) is =
    elim (or_cases (stands dir None node number from) (list_any (stands dir None node number) all) is) [
      | inl here ↦ or_left (stands dir (Some token) node number from)
          (list_any (stands dir (Some token) node number) all) (stands_with dir token node number from here)
      | inr behind ↦ or_right (stands dir (Some token) node number from)
          (list_any (stands dir (Some token) node number) all) (any_with dir token node number all behind)
    ]

-- ---- whether a node has a token

found_in : (xs : List ℕ) (x : ℕ) → ((place : ℕ) × (slice_get xs place ≡ Some x))
    ⊎ ((place : ℕ) → slice_get xs place ≡ Some x → ⊥)
found_in [] x = inr (λ place at. none-some x at)
found_in (y ∷ xs) x =
    elim (cases_Bool (nat_eq y x)) [
      | inl here ↦ inl (zero, ap Some (eqb-true y x here))
      | inr other ↦ elim (found_in xs x) [
        | inl behind ↦ inl (suc behind.0, behind.1)
        | inr nowhere ↦ inr (λ place at. apart place at (eqb-false y x other) nowhere)
      ]
    ]
  where
    apart : (place : ℕ) → slice_get (y ∷ xs) place ≡ Some x → (y ≡ x → ⊥)
        → ((p : ℕ) → slice_get xs p ≡ Some x → ⊥) → ⊥
    apart zero at other nowhere = other (same_Some y x at)
    apart (suc place) at other nowhere = nowhere place at

there : {A : Type 0} (things : List A) (place : ℕ) → place < length things
    → (thing : A) × (slice_get things place ≡ Some thing)
there [] place less = absurd (omega (arith, less))
there (thing ∷ things) zero less = (thing, refl)
there (thing ∷ things) (suc place) less = there things place (omega (arith, less))

pub token_or_none : (dir : Directory) (nodes : List Node) (tokens : List Token) (at : List ℕ) (x : ℕ) (node : Node)
    → AreTokensOf dir nodes tokens at → slice_get nodes x ≡ Some node
    → ((token : Token) × IsTokenIf dir node (Some token)) ⊎ IsTokenIf dir node None
token_or_none dir nodes tokens at x node are is = elim (found_in at x) [
  | inl found ↦
      let less : found.0 < length at = slice_get_within at found.0 x found.1 in
      let token = there tokens found.0 (omega (arith, less, are.long)) in
      let own = are.sound token.0 x (record { place = found.0; is_token = token.1; is_at = found.1 }) in
      inl (token.0, subst (λ (n : Node). IsTokenIf dir n (Some token.0)) (same_Some own.0 node (sym own.1 ∙ is)) own.2)
  | inr nowhere ↦ inr (λ token identity of_node of_token.
      let own = are.each x node token is (identity, of_node, of_token) in
      nowhere own.place own.is_at)
]

-- ---- an edge is a part

by_any : (tokens : List Token) (at : List ℕ) (token : Token) (x : ℕ) (test : Token → Bool)
    → IsTokenOf tokens at token x → test token ≡ true → IsBy tokens at test x
by_any tokens at token x test own passes = record {
  place = own.place;
  thing = token;
  is_thing = own.is_token;
  is_at = own.is_at;
  passes = passes;
}

part_by : (dir : Directory) (nodes : List Node) (tokens : List Token) (at : List ℕ) (kind : Kind) (node : Node)
    (number x : ℕ) (token : Option Token) → AreTokensOf dir nodes tokens at → slice_get nodes x ≡ Some node
    → IsTokenIf dir node token → leads dir kind token node number ≡ true → IsPart dir nodes tokens at kind number x
unfolding leads
part_by dir nodes tokens at kind node number x None are is is_token is_led =
    let from = and_parts (is_of dir (row kind).of number) (list_any (stands dir None node number) (row kind).from)
    is_led in
    inr (inr (record { node = node; is_node = is; by_token = inr from.1 }))
part_by dir nodes tokens at kind node number x (Some token) are is is_token is_led =
    let asked = list_any (goes dir token number) (row kind).ways in
    let held = list_any (holds dir token number) (row kind).held in
    let from = list_any (stands dir (Some token) node number) (row kind).from in
    let parts = and_parts (is_of dir (row kind).of number) (asked || (held || from)) is_led in
    let own = are.each x node token is is_token in
    elim (or_cases asked (held || from) parts.1) [
      | inl first ↦ inl (by_any tokens at token x (λ t. list_any (goes dir t number) (row kind).ways) own first)
      | inr others ↦ elim (or_cases held from others) [
        | inl second ↦ inr (inl (by_any tokens at token x (λ t. list_any (holds dir t number) (row kind).held) own
            second))
        | inr third ↦ inr (inr (record { node = node; is_node = is; by_token = inl (token, is_token, third) }))
      ]
    ]

pub part_of : (dir : Directory) (nodes : List Node) (ground : Ground) (kind : Kind) (node : Node) (number x : ℕ)
    → IsGround dir nodes ground → slice_get nodes x ≡ Some node → IsEdge dir kind node number
    → IsPart dir nodes ground.parties.tokens.all.items ground.at.items kind number x
part_of dir nodes ground kind node number x is at edge =
    part_by dir nodes ground.parties.tokens.all.items ground.at.items kind node number x edge.token is.tokens at
    edge.is_token edge.leads

-- ---- a part is an edge

module _ (dir : Directory) (nodes : List Node) (ground : Ground) (kind : Kind) (node : Node) (number x : ℕ)
    (is : IsGround dir nodes ground) (at : slice_get nodes x ≡ Some node) (live : is_live dir.objects number ≡ true)
    (of : is_of dir (row kind).of number ≡ true) where
  edge : (token : Option Token) → IsTokenIf dir node token
      → (by_token (λ t. list_any (goes dir t number) (row kind).ways) token
      || (by_token (λ t. list_any (holds dir t number) (row kind).held) token
      || list_any (stands dir token node number) (row kind).from)) ≡ true
      → IsEdge dir kind node number
  unfolding leads
  edge token is_token by = record {
    is_node = is.nodes.are x node at;
    live = live;
    token = token;
    is_token = is_token;
    leads = and_from (is_of dir (row kind).of number)
        (by_token (λ t. list_any (goes dir t number) (row kind).ways) token
        || (by_token (λ t. list_any (holds dir t number) (row kind).held) token
        || list_any (stands dir token node number) (row kind).from)) of by;
  }

  -- the token at a place is the node's
  own : (test : Token → Bool) (by : IsBy ground.parties.tokens.all.items ground.at.items test x)
      → IsTokenIf dir node (Some by.thing)
  own test by =
      let found = is.tokens.sound by.thing x (record { place = by.place; is_token = by.is_thing; is_at = by.is_at }) in
      subst (λ (n : Node). IsTokenIf dir n (Some by.thing)) (same_Some found.0 node (sym found.1 ∙ at)) found.2

  from_there : (token : Token) → IsTokenIf dir node (Some token)
      → list_any (stands dir (Some token) node number) (row kind).from ≡ true → IsEdge dir kind node number
  from_there token is_token stands_there =
      let asked = list_any (goes dir token number) (row kind).ways in
      let held = list_any (holds dir token number) (row kind).held in
      let from = list_any (stands dir (Some token) node number) (row kind).from in
      edge (Some token) is_token (or_right asked (held || from) (or_right held from stands_there))

  of_part : IsPart dir nodes ground.parties.tokens.all.items ground.at.items kind number x
      → IsEdge dir kind node number
  of_part (inl ways) =
      let token = ways.thing in
      let held = list_any (holds dir token number) (row kind).held in
      let from = list_any (stands dir (Some token) node number) (row kind).from in
      edge (Some token) (own (λ t. list_any (goes dir t number) (row kind).ways) ways)
      (or_left (list_any (goes dir token number) (row kind).ways) (held || from) ways.passes)
  of_part (inr (inl held)) =
      let token = held.thing in
      let asked = list_any (goes dir token number) (row kind).ways in
      let from = list_any (stands dir (Some token) node number) (row kind).from in
      edge (Some token) (own (λ t. list_any (holds dir t number) (row kind).held) held)
      (or_right asked (list_any (holds dir token number) (row kind).held || from)
      (or_left (list_any (holds dir token number) (row kind).held) from held.passes))
  of_part (inr (inr place)) =
      let same : place.node ≡ node = same_Some place.node node (sym place.is_node ∙ at) in
      elim place.by_token [
        | inl with_token ↦ from_there with_token.0
            (subst (λ (n : Node). IsTokenIf dir n (Some with_token.0)) same with_token.1)
            (subst (λ (n : Node). list_any (stands dir (Some with_token.0) n number) (row kind).from ≡ true) same
            with_token.2)
        | inr alone ↦
            let stands_alone : list_any (stands dir None node number) (row kind).from ≡ true
            = subst (λ (n : Node). list_any (stands dir None n number) (row kind).from ≡ true) same alone in
            elim (token_or_none dir nodes ground.parties.tokens.all.items ground.at.items x node is.tokens at) [
              | inl has ↦ from_there has.0 has.1 (any_with dir has.0 node number (row kind).from stands_alone)
              | inr has_none ↦ edge None has_none stands_alone
            ]
      ]

pub edge_of : (dir : Directory) (nodes : List Node) (ground : Ground) (kind : Kind) (node : Node) (number x : ℕ)
    → IsGround dir nodes ground → slice_get nodes x ≡ Some node → is_live dir.objects number ≡ true
    → is_of dir (row kind).of number ≡ true
    → IsPart dir nodes ground.parties.tokens.all.items ground.at.items kind number x → IsEdge dir kind node number
edge_of dir nodes ground kind node number x is at live of =
    of_part dir nodes ground kind node number x is at live of
