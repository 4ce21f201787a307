-- Sets of policies that stand already, and what is drawn from them.
use Rattle.std.proofs.Common.{◌≡◌, ◌≢◌, ◌∙◌, ℕ, zero, suc, Bool, false, Option, Some, List, [], cond, inl, inr, refl, sym, ap, subst}
use Rattle.std.specs.Prelude.{nat_eq, slice_get}
use Rattle.std.specs.Option.{option_map_or}
use Rattle.std.proofs.lemmas.Bool.{cases_Bool, eqb-true, eq-eqb}
use Rattle.std.proofs.lemmas.Option.{none-some, same_Some}
use Rattle.indexmap.specs.IndexMap.{get}
use Rattle.ad_ids.specs.declared.token.Token.{Token}
use Rattle.ad_dir_model.specs.Limits.{max_depth}
use Rattle.ad_dir_model.specs.Objects.{parent_at}
use Rattle.ad_dir_model.specs.Tree.{root}
use Rattle.ad_dir_model.specs.Directory.{Directory}
use Rattle.ad_policies.specs.Policies.{above_within, above, policies_over, policies_of}
use Rattle.ad_questions.specs.declared.question.Question.{Question}
use Rattle.ad_questions.specs.Question.{question_of}
use Rattle.ad_questions.specs.Requirements.{is_allowed}
use Rattle.ad_control_graph.specs.declared.kind.Kind.{Kind}
use Rattle.ad_control_graph.specs.declared.graph.Graph.{Graph}
use Rattle.ad_control_graph.specs.declared.node.Node.{Node}
use Rattle.ad_control_graph.specs.Drawing.{Adds, KeepsSets, IsSetOf}
use Rattle.ad_control_graph.proofs.SetLaws.{set_stays}
use Rattle.ad_control_graph.proofs.AddLaws.{Nobody, adds_nothing, adds_alike}
use Rattle.ad_control.specs.Edges.{may_ask}
use Rattle.ad_control_asked.specs.Asked.{is_told_yes}
use Rattle.ad_control_linked.specs.declared.links.Links.{Links}
use Rattle.ad_control_linked.specs.Links.{IsOneOf, AreLinks}

-- ---- sets that stand already

pub links_stay : (dir : Directory) (nodes : List Node) (old new : Graph) (links : Links) → KeepsSets old new
    → AreLinks dir nodes old links → AreLinks dir nodes new links
links_stay dir nodes old new links keeps are parent set number at below up =
    set_stays old new set (IsOneOf nodes (policies_of dir number)) keeps (are parent set number at below up)

-- the objects of a parent have the same policies
abbrev pub Law : Type 0
Law = (dir : Directory) (a b : ℕ) → a ≢ root → b ≢ root → parent_at dir.objects a ≡ parent_at dir.objects b
    → policies_of dir a ≡ policies_of dir b

-- one parent more
pub links_more : (dir : Directory) (nodes : List Node) (old new : Graph) (links more : Links) (parent set number : ℕ)
    → Law → number ≢ root → parent ≡ parent_at dir.objects number → KeepsSets old new → AreLinks dir nodes old links
    → IsSetOf new set (IsOneOf nodes (policies_of dir number))
    → ((p : ℕ) → get nat_eq more.sets p ≡ cond (nat_eq parent p) (Some set) (get nat_eq links.sets p))
    → AreLinks dir nodes new more
links_more dir nodes old new links more parent set number law below up keeps are is updates p s n at n_below n_up =
    elim (cases_Bool (nat_eq parent p)) [
      | inl same ↦
          let found : Some set ≡ Some s
          = sym (ap (λ (b : Bool). cond b (Some set) (get nat_eq links.sets p)) same) ∙ sym (updates p) ∙ at in
          let alike : policies_of dir number ≡ policies_of dir n
          = law dir number n below n_below (sym up ∙ eqb-true parent p same ∙ sym n_up) in
          subst (λ (k : ℕ). IsSetOf new k (IsOneOf nodes (policies_of dir n))) (same_Some set s found)
          (subst (λ (l : List ℕ). IsSetOf new set (IsOneOf nodes l)) alike is)
      | inr other ↦
          let was : get nat_eq links.sets p ≡ Some s
          = sym (ap (λ (b : Bool). cond b (Some set) (get nat_eq links.sets p)) other) ∙ sym (updates p) ∙ at in
          set_stays old new s (IsOneOf nodes (policies_of dir n)) keeps (are p s n was n_below n_up)
    ]

-- ---- the root

none_above : (dir : Directory) (levels number : ℕ) → number ≡ root → above_within dir levels number ≡ []
unfolding above_within
none_above dir zero number is = refl
none_above dir (suc levels) number is = rw (eq-eqb number root is) refl

root_has_none : (dir : Directory) (number : ℕ) → number ≡ root → policies_of dir number ≡ []
unfolding policies_of above policies_over
root_has_none dir number is = ap (policies_over dir false) (none_above dir max_depth number is)

pub root_adds : (dir : Directory) (graph : Graph) (nodes : List Node) (kind : Kind) (number to : ℕ) → number ≡ root
    → Adds graph graph kind to (IsOneOf nodes (policies_of dir number))
root_adds dir graph nodes kind number to is =
    adds_alike graph graph kind to Nobody (IsOneOf nodes (policies_of dir number)) (λ x nobody. absurd nobody)
    (λ x one. none-some one.number
    (sym (ap (λ (l : List ℕ). slice_get l one.place) (root_has_none dir number is)) ∙ one.is_number))
    (adds_nothing graph kind to)

-- ---- who is told yes

pub told_yes : (dir : Directory) (token : Token) (number : ℕ) (question : Option Question) (text : List ℕ)
    → question ≡ question_of dir.schema text → is_told_yes dir token number question ≡ may_ask dir token number text
unfolding may_ask
told_yes dir token number question text is =
    ap (λ (o : Option Question). option_map_or (λ (q : Question). is_allowed dir token q number) o false) is
