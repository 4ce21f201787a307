-- The node of an object that is asked for; and what is found once.
use Rattle.std.proofs.Common.{◌≡◌, ◌∙◌, ℕ, zero, suc, ◌<◌, Bool, Option, Some, None, List, [], ◌∷◌, inl, inr}
use Rattle.std.proofs.Common.{length, refl, sym, ap}
use Rattle.std.specs.Prelude.{nat_eq, slice_get, if◌then◌else◌}
use Rattle.std.specs.Option.{option_and_then, option_to_list}
use Rattle.std.proofs.lemmas.Bool.{both_ways, cases_Bool}
use Rattle.std.proofs.lemmas.Option.{none-some, same_Some, slice_get_within}
use Rattle.indexmap.specs.IndexMap.{get}
use Rattle.ad_dir_model.specs.Directory.{Directory}
use Rattle.ad_dir_model.specs.Names.{admin_sd_holder}
use Rattle.ad_dir_model.specs.Protection.{has, protected}
use Rattle.ad_protect.specs.Spreading.{Takes}
use Rattle.ad_control_graph.specs.declared.kind.Kind.{Kind}
use Rattle.ad_control_graph.specs.declared.graph.Graph.{Graph}
use Rattle.ad_control_graph.specs.declared.node.Node.{Node}
use Rattle.ad_control_graph.specs.declared.node.Node.TheVariants.{Object}
use Rattle.ad_control_graph.specs.Drawing.{Adds}
use Rattle.ad_control_graph.proofs.AddLaws.{Nobody, adds_nothing, adds_alike}
use Rattle.ad_control.specs.Edges.{holder}
use Rattle.ad_control_nodes.specs.declared.ground.Ground.{Ground}
use Rattle.ad_control_nodes.specs.Ground.{IsGround}
use Rattle.ad_control_linked.specs.Links.{IsOneOf}
use Rattle.ad_control_linked.proofs.Nodes.{node_at}

-- ---- the node of an object

abbrev node_of : Ground → Option ℕ → Option ℕ
node_of ground number = option_and_then (λ n. get nat_eq ground.objects n) number

the_only : (n m place : ℕ) → slice_get (n ∷ []) place ≡ Some m → n ≡ m
the_only n m zero is = same_Some n m is
the_only n m (suc place) is = absurd (none-some m is)

pub within : (dir : Directory) (nodes : List Node) (ground : Ground) (number : Option ℕ) (from : ℕ)
    → IsGround dir nodes ground → Some from ≡ node_of ground number → from < length nodes
within dir nodes ground None from is at = absurd (none-some from (sym at))
within dir nodes ground (Some n) from is at = slice_get_within nodes from (Object n) (is.objects n from (sym at))

from_one : (dir : Directory) (nodes : List Node) (ground : Ground) (number : Option ℕ) (from : ℕ)
    → IsGround dir nodes ground → Some from ≡ node_of ground number → (x : ℕ) → x ≡ from
    → IsOneOf nodes (option_to_list number) x
from_one dir nodes ground None from is at x same = absurd (none-some from (sym at))
from_one dir nodes ground (Some n) from is at x same = record {
  place = 0;
  number = n;
  is_number = refl;
  is_node = ap (slice_get nodes) same ∙ is.objects n from (sym at);
}

one_from : (dir : Directory) (nodes : List Node) (ground : Ground) (number : Option ℕ) (from : ℕ)
    → IsGround dir nodes ground → Some from ≡ node_of ground number → (x : ℕ)
    → IsOneOf nodes (option_to_list number) x → x ≡ from
one_from dir nodes ground None from is at x one = absurd (none-some from (sym at))
one_from dir nodes ground (Some n) from is at x one =
    let there : get nat_eq ground.objects n ≡ Some x
    = ap (get nat_eq ground.objects) (the_only n one.number one.place one.is_number)
    ∙ node_at dir nodes ground one.number x is one.is_node in
    same_Some x from (sym there ∙ sym at)

pub from_object : (dir : Directory) (nodes : List Node) (ground : Ground) (number : Option ℕ) (from : ℕ) (a b : Graph)
    (kind : Kind) (to : ℕ) → IsGround dir nodes ground → Some from ≡ node_of ground number
    → Adds a b kind to (λ x. x ≡ from) → Adds a b kind to (IsOneOf nodes (option_to_list number))
from_object dir nodes ground number from a b kind to is at adds =
    adds_alike a b kind to (λ x. x ≡ from) (IsOneOf nodes (option_to_list number))
    (from_one dir nodes ground number from is at) (one_from dir nodes ground number from is at) adds

nowhere : (dir : Directory) (nodes : List Node) (ground : Ground) (number : Option ℕ) → IsGround dir nodes ground
    → None ≡ node_of ground number → (x : ℕ) → IsOneOf nodes (option_to_list number) x → Nobody x
nowhere dir nodes ground None is at x one = none-some one.number one.is_number
nowhere dir nodes ground (Some n) is at x one =
    none-some x (at ∙ ap (get nat_eq ground.objects) (the_only n one.number one.place one.is_number)
    ∙ node_at dir nodes ground one.number x is one.is_node)

pub from_nowhere : (dir : Directory) (nodes : List Node) (ground : Ground) (number : Option ℕ) (graph : Graph)
    (kind : Kind) (to : ℕ) → IsGround dir nodes ground → None ≡ node_of ground number
    → Adds graph graph kind to (IsOneOf nodes (option_to_list number))
from_nowhere dir nodes ground number graph kind to is at =
    adds_alike graph graph kind to Nobody (IsOneOf nodes (option_to_list number)) (λ x nobody. absurd nobody)
    (nowhere dir nodes ground number is at) (adds_nothing graph kind to)

-- ---- the protected objects

pub taken_all : (numbers set : List ℕ) → Takes (has numbers) [] set → (n : ℕ) → has set n ≡ has numbers n
taken_all numbers set takes n = elim (cases_Bool (has numbers n)) [
  | inl there ↦ takes.all n there ∙ sym there
  | inr absent ↦ elim (cases_Bool (has set n)) [
    | inl taken ↦ absurd (both_ways (has numbers n) absent
        (takes.each n (sym (ap (λ (l : List ℕ). has l n) takes.is) ∙ taken)))
    | inr none ↦ none ∙ sym absent
  ]
]

pub the_holder : (dir : Directory) (number : ℕ) (keys : List ℕ) (kept found : Option ℕ) → kept ≡ admin_sd_holder dir
    → ((n : ℕ) → has keys n ≡ has (protected dir) n) → found ≡ (if has keys number then kept else None)
    → found ≡ holder dir number
the_holder dir number keys kept found is are found_is =
    found_is
    ∙ ap (λ (b : Bool). if b then kept else None) (are number)
    ∙ ap (λ (o : Option ℕ). if has (protected dir) number then o else None) is
