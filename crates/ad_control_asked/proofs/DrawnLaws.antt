-- Arcs from sets of tokens: what is known of sets, and what drawing from them adds.
use Rattle.std.proofs.Common.{◌≡◌, ◌∙◌, ◌⊎◌, ◌<◌, ℕ, Bool, true, false, Option, Some, None, List, [], length, set}
use Rattle.std.proofs.Common.{cond, inl, inr, refl, sym, ap, subst}
use Rattle.std.specs.Prelude.{is_some, nat_eq, slice_get}
use Rattle.std.proofs.lemmas.Bool.{cases_Bool, eqb-true, false≢true}
use Rattle.std.proofs.lemmas.Option.{get_or_from_slice_get, slice_get_cases, same_Some, none-some}
use Rattle.indexmap.specs.IndexMap.{IndexMap, get}
use Rattle.ad_sets.specs.declared.told.Sign.{Sign}
use Rattle.ad_sets.specs.declared.told.Sign.TheVariants.{Same, With, Without}
use Rattle.ad_sets.specs.Sets.{set_at, Keeps}
use Rattle.ad_control_graph.specs.declared.kind.Kind.{Kind}
use Rattle.ad_control_graph.specs.declared.node.Node.{Node}
use Rattle.ad_control_graph.specs.declared.graph.Graph.{Graph}
use Rattle.ad_control_graph.specs.Drawing.{IsSteady, IsOver, Adds, KeepsSets, IsSetOf, AreBelow}
use Rattle.ad_control_graph.proofs.SetLaws.{set_stays}
use Rattle.ad_control_graph.proofs.AddLaws.{Nobody, adds_nothing, adds_alike, adds_both}
use Rattle.ad_control_asked.specs.Drawn.{CanDraw, IsNodeOf, IsTold, IsDrawn, AreDrawn}
use Rattle.ad_control_asked.proofs.SignLaws.{told_alone, alone_told, told_same, same_told, told_with, with_told}
use Rattle.ad_control_asked.proofs.SignLaws.{told_without, without_told}

-- ---- what stays

-- what is over the same nodes
pub over_same : (old new : Graph) → ((nodes : List Node) → IsOver nodes old → IsOver nodes new) → IsSteady old
    → IsOver old.nodes.items new
over_same old new over steady = over old.nodes.items (record { nodes = refl; steady = steady })

pub can_on : (old new : Graph) (at : List ℕ) (to : ℕ)
    → ((nodes : List Node) → IsOver nodes old → IsOver nodes new) → CanDraw old at to → CanDraw new at to
can_on old new at to over can =
    let is : IsOver old.nodes.items new = over_same old new over can.steady in record {
      steady = is.steady;
      from = subst (λ (nodes : List Node). AreBelow (length nodes) at) (sym is.nodes) can.from;
      end = subst (λ (nodes : List Node). to < length nodes) (sym is.nodes) can.end;
    }

pub drawn_stays : {S : Type 0} (sets : List (List Bool)) (at : List ℕ) (old new : Graph) (drawn : IndexMap ℕ ℕ S)
    → KeepsSets old new → AreDrawn sets at old drawn → AreDrawn sets at new drawn
drawn_stays sets at old new drawn keeps are = λ place found known.
    let was = are place found known in record {
      members = was.members;
      is_members = was.is_members;
      is_set = set_stays old new found (IsNodeOf was.members at) keeps was.is_set;
    }

pub drawn_kept : {S : Type 0} (old new : List (List Bool)) (at : List ℕ) (graph : Graph) (drawn : IndexMap ℕ ℕ S)
    → Keeps old new → AreDrawn old at graph drawn → AreDrawn new at graph drawn
drawn_kept old new at graph drawn kept are = λ place found known.
    let was = are place found known in record {
      members = was.members;
      is_members = kept place was.members was.is_members;
      is_set = was.is_set;
    }

-- ---- sets

pub known_is : (sets : List (List Bool)) (at : List ℕ) (graph : Graph) (place found : ℕ)
    → IsDrawn sets at graph place found → IsSetOf graph found (IsNodeOf (set_at sets place) at)
known_is sets at graph place found is =
    subst (λ (members : List Bool). IsSetOf graph found (IsNodeOf members at))
    (sym (get_or_from_slice_get sets place is.members [] is.is_members)) is.is_set

pub there_is : (sets : List (List Bool)) (place : ℕ) → is_some (slice_get sets place) ≡ true
    → slice_get sets place ≡ Some (set_at sets place)
there_is sets place is = elim (slice_get_cases sets place).1 [
  | inl there ↦
      there.2 ∙ ap (λ (l : List Bool). Some l) (sym (get_or_from_slice_get sets place there.0 [] there.2))
  | inr beyond ↦ absurd (false≢true (sym (ap is_some beyond.1) ∙ is))
]

-- what is known of one place more
pub drawn_more : {S : Type 0} (sets : List (List Bool)) (at : List ℕ) (graph : Graph) (old new : IndexMap ℕ ℕ S)
    (place found : ℕ)
    → ((other : ℕ) → get nat_eq new other ≡ cond (nat_eq place other) (Some found) (get nat_eq old other))
    → AreDrawn sets at graph old → IsDrawn sets at graph place found → AreDrawn sets at graph new
drawn_more sets at graph old new place found updates are is = λ other set known.
    elim (cases_Bool (nat_eq place other)) [
      | inl same ↦
          let found_is : found ≡ set
          = same_Some found set (sym (ap (λ (b : Bool). cond b (Some found) (get nat_eq old other)) same)
          ∙ sym (updates other) ∙ known) in
          subst (λ (n : ℕ). IsDrawn sets at graph n set) (eqb-true place other same)
          (subst (λ (n : ℕ). IsDrawn sets at graph place n) found_is is)
      | inr apart ↦
          are other set (sym (ap (λ (b : Bool). cond b (Some found) (get nat_eq old other)) apart)
          ∙ sym (updates other) ∙ known)
    ]

-- ---- arcs

pub own_adds : (old new : Graph) (kind : Kind) (to : ℕ) (at : List ℕ) (own from : ℕ) → slice_get at own ≡ Some from
    → Adds old new kind to (λ x. x ≡ from) → Adds old new kind to (λ x. slice_get at own ≡ Some x)
own_adds old new kind to at own from is adds =
    adds_alike old new kind to (λ x. x ≡ from) (λ x. slice_get at own ≡ Some x)
    (λ x same. is ∙ ap (λ (n : ℕ). Some n) (sym same)) (λ x there. same_Some x from (sym there ∙ is)) adds

pub none_adds : (graph : Graph) (kind : Kind) (to : ℕ) (at : List ℕ) (own : ℕ) → slice_get at own ≡ None
    → Adds graph graph kind to (λ x. slice_get at own ≡ Some x)
none_adds graph kind to at own none =
    adds_alike graph graph kind to Nobody (λ x. slice_get at own ≡ Some x) (λ x is. absurd is)
    (λ x there. none-some x (sym none ∙ there)) (adds_nothing graph kind to)

pub adds_same : (old new : Graph) (kind : Kind) (to : ℕ) (members : List Bool) (sign : Sign) (own : Option ℕ)
    (at : List ℕ) → sign ≡ Same → Adds old new kind to (IsNodeOf members at)
    → Adds old new kind to (IsTold members sign own at)
adds_same old new kind to members sign own at same adds =
    subst (λ (s : Sign). Adds old new kind to (IsTold members s own at)) (sym same)
    (adds_alike old new kind to (IsNodeOf members at) (IsTold members Same own at) (told_same members own at)
    (same_told members own at) adds)

pub adds_alone : (old new : Graph) (kind : Kind) (to : ℕ) (members : List Bool) (sign : Sign) (own : Option ℕ)
    (at : List ℕ) → own ≡ None → Adds old new kind to (IsNodeOf members at)
    → Adds old new kind to (IsTold members sign own at)
adds_alone old new kind to members sign own at none adds =
    subst (λ (o : Option ℕ). Adds old new kind to (IsTold members sign o at)) (sym none)
    (adds_alike old new kind to (IsNodeOf members at) (IsTold members sign None at) (told_alone members sign at)
    (alone_told members sign at) adds)

pub adds_with : (a b c : Graph) (kind : Kind) (to : ℕ) (members : List Bool) (own : ℕ) (at : List ℕ)
    → Adds a b kind to (IsNodeOf members at) → Adds b c kind to (λ x. slice_get at own ≡ Some x)
    → Adds a c kind to (IsTold members With (Some own) at)
adds_with a b c kind to members own at first second =
    adds_alike a c kind to (λ x. IsNodeOf members at x ⊎ (slice_get at own ≡ Some x))
    (IsTold members With (Some own) at)
    (told_with members own at) (with_told members own at)
    (adds_both a b c kind to (IsNodeOf members at) (λ x. slice_get at own ≡ Some x) first second)

pub adds_without : (old new : Graph) (kind : Kind) (to : ℕ) (members : List Bool) (own : ℕ) (at : List ℕ)
    → Adds old new kind to (IsNodeOf (set members own false) at)
    → Adds old new kind to (IsTold members Without (Some own) at)
adds_without old new kind to members own at adds =
    adds_alike old new kind to (IsNodeOf (set members own false) at) (IsTold members Without (Some own) at)
    (told_without members own at) (without_told members own at) adds
