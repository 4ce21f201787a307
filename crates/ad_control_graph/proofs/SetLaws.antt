-- Laws of sets of nodes.
use Rattle.std.proofs.Common.{◌≡◌, ◌∙◌, ℕ, Bool, true, Option, Some, None, List, map, refl, sym, ap}
use Rattle.std.specs.Prelude.{slice_get}
use Rattle.std.specs.Option.{option_map}
use Rattle.std.proofs.lemmas.Option.{same_Some, slice_get-map}
use Rattle.ad_control_graph.specs.declared.graph.Graph.{Graph}
use Rattle.ad_control_graph.specs.Drawing.{KeepsSets, Readies, IsSetOf, IsBy}

-- ---- what stays

pub keeps_same : (graph : Graph) → KeepsSets graph graph
keeps_same graph = record { sets = λ set x lt m. m; only = λ set x lt m. m; more = λ set lt. lt }

pub keeps_both : (a b c : Graph) → KeepsSets a b → KeepsSets b c → KeepsSets a c
keeps_both a b c first second = record {
  sets = λ set x lt m. second.sets set x (first.more set lt) (first.sets set x lt m);
  only = λ set x lt m. first.only set x lt (second.only set x (first.more set lt) m);
  more = λ set lt. second.more set (first.more set lt);
}

pub readies_same : (graph : Graph) → Readies graph graph
readies_same graph = record { nodes = refl; arcs = refl; kinds = refl; keeps = keeps_same graph }

pub readies_both : (a b c : Graph) → Readies a b → Readies b c → Readies a c
readies_both a b c first second = record {
  nodes = second.nodes ∙ first.nodes;
  arcs = second.arcs ∙ first.arcs;
  kinds = second.kinds ∙ first.kinds;
  keeps = keeps_both a b c first.keeps second.keeps;
}

-- a set stays what it is
pub set_stays : (old new : Graph) (set : ℕ) (From : ℕ → Type 0) → KeepsSets old new → IsSetOf old set From
    → IsSetOf new set From
set_stays old new set From keeps is = record {
  there = keeps.more set is.there;
  only = λ x m. is.only x (keeps.only set x is.there m);
  all = λ x from. keeps.sets set x is.there (is.all x from);
}

-- ---- what a set is of

pub set_alike : (graph : Graph) (set : ℕ) (From To : ℕ → Type 0) → ((x : ℕ) → From x → To x)
    → ((x : ℕ) → To x → From x) → IsSetOf graph set From → IsSetOf graph set To
set_alike graph set From To on back is = record {
  there = is.there;
  only = λ x m. on x (is.only x m);
  all = λ x to. is.all x (back x to);
}

-- a node is by the flags exactly where it is by the test that they tell of each thing
thing_at : {A : Type 0} (things : List A) (at : List ℕ) (test : A → Bool) (x place : ℕ) (flag : Bool)
    (found : Option A) → slice_get things place ≡ found → option_map test found ≡ Some flag
    → slice_get at place ≡ Some x
    → flag ≡ true → IsBy things at test x
thing_at things at test x place flag None there told is_at set = absurd cc
thing_at things at test x place flag (Some thing) there told is_at set = record {
  place = place;
  thing = thing;
  is_thing = there;
  is_at = is_at;
  passes = same_Some (test thing) flag told ∙ set;
}

pub by_things : {A : Type 0} (things : List A) (at : List ℕ) (test : A → Bool) (x : ℕ)
    → IsBy (map test things) at (λ there. there) x → IsBy things at test x
by_things things at test x is =
    thing_at things at test x is.place is.thing (slice_get things is.place) refl
    (sym (slice_get-map test things is.place) ∙ is.is_thing) is.is_at is.passes

pub by_flags : {A : Type 0} (things : List A) (at : List ℕ) (test : A → Bool) (x : ℕ) → IsBy things at test x
    → IsBy (map test things) at (λ there. there) x
by_flags things at test x is = record {
  place = is.place;
  thing = test is.thing;
  is_thing = slice_get-map test things is.place ∙ ap (option_map test) is.is_thing;
  is_at = is.is_at;
  passes = is.passes;
}

-- the set of those of which a test holds
pub set_by : {A : Type 0} (graph : Graph) (set : ℕ) (things : List A) (at : List ℕ) (test : A → Bool)
    → IsSetOf graph set (IsBy (map test things) at (λ there. there)) → IsSetOf graph set (IsBy things at test)
set_by graph set things at test =
    set_alike graph set (IsBy (map test things) at (λ there. there)) (IsBy things at test) (by_things things at test)
    (by_flags things at test)
