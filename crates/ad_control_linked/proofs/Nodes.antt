-- The nodes of objects that are asked for.
use Rattle.std.proofs.Common.{◌≡◌, ◌∙◌, ℕ, zero, suc, ◌+◌, ◌<◌, Option, Some, None, List, [], ◌∷◌, ◌++◌, length}
use Rattle.std.proofs.Common.{take, get_or, refl, sym, ap, subst}
use Rattle.std.specs.Prelude.{filter_map, nat_eq, slice_get}
use Rattle.std.specs.List.{cons_option}
use Rattle.std.proofs.lemmas.List.{take_more}
use Rattle.std.proofs.lemmas.List.Elements.{filter_map-append}
use Rattle.std.proofs.lemmas.Option.{none-some, same_Some, slice_get_within}
use Rattle.indexmap.specs.IndexMap.{get}
use Rattle.ad_dir_model.specs.Directory.{Directory}
use Rattle.ad_control_graph.specs.declared.node.Node.{Node}
use Rattle.ad_control_graph.specs.declared.node.Node.TheVariants.{Object}
use Rattle.ad_control_graph.specs.Drawing.{IsIn, AreBelow}
use Rattle.ad_control_nodes.specs.declared.ground.Ground.{Ground}
use Rattle.ad_control_nodes.specs.Ground.{IsGround}
use Rattle.ad_control_linked.specs.Links.{IsOneOf}

-- ---- what a list gives

-- one of a list gives it
pub record IsGiven (f : ℕ → Option ℕ) (xs : List ℕ) (x : ℕ) : Type 0 where
  pub place : ℕ
  pub by : ℕ
  pub is_by : slice_get xs place ≡ Some by
  pub gives : f by ≡ Some x

given_more : (f : ℕ → Option ℕ) (y : ℕ) (xs : List ℕ) (x : ℕ) → IsGiven f xs x → IsGiven f (y ∷ xs) x
given_more f y xs x given = record {
  place = suc given.place;
  by = given.by;
  is_by = given.is_by;
  gives = given.gives;
}

pub given_in : (f : ℕ → Option ℕ) (xs : List ℕ) (place x : ℕ) → slice_get (filter_map f xs) place ≡ Some x
    → IsGiven f xs x
given_in f [] place x at = absurd (none-some x at)
given_in f (y ∷ xs) place x at = first (f y) refl place at (λ p is. given_in f xs p x is)
  where
    first : (o : Option ℕ) → f y ≡ o → (place : ℕ) → slice_get (cons_option o (filter_map f xs)) place ≡ Some x
        → ((p : ℕ) → slice_get (filter_map f xs) p ≡ Some x → IsGiven f xs x) → IsGiven f (y ∷ xs) x
    first None is place at others = given_more f y xs x (others place at)
    first (Some z) is zero at others = record { place = 0; by = y; is_by = refl; gives = is ∙ at }
    first (Some z) is (suc place) at others = given_more f y xs x (others place at)

pub in_given : (f : ℕ → Option ℕ) (xs : List ℕ) (place by x : ℕ) → slice_get xs place ≡ Some by → f by ≡ Some x
    → IsIn (filter_map f xs) x
in_given f [] place by x at gives = absurd (none-some by at)
in_given f (y ∷ xs) zero by x at gives =
    let here : Some x ≡ f y = sym (ap f (same_Some y by at) ∙ gives) in
    (0, subst (λ (o : Option ℕ). slice_get (cons_option o (filter_map f xs)) 0 ≡ Some x) here refl)
in_given f (y ∷ xs) (suc place) by x at gives = behind (f y) (in_given f xs place by x at gives)
  where
    behind : (o : Option ℕ) → IsIn (filter_map f xs) x → IsIn (cons_option o (filter_map f xs)) x
    behind None rest = rest
    behind (Some z) rest = (suc rest.0, rest.1)

-- what the first of a list give, and one more
pub given_next : (f : ℕ → Option ℕ) (xs old new : List ℕ) (i : ℕ) → i < length xs → old ≡ filter_map f (take i xs)
    → new ≡ old ++ filter_map f (get_or xs i 0 ∷ []) → new ≡ filter_map f (take (i + 1) xs)
given_next f xs old new i lt was is =
    is
    ∙ ap (λ (l : List ℕ). l ++ filter_map f (get_or xs i 0 ∷ [])) was
    ∙ sym (filter_map-append f (take i xs) (get_or xs i 0 ∷ []))
    ∙ ap (filter_map f) (sym (take_more xs i 0 lt))

-- ---- the nodes of objects

-- the node of an object is known to stand where it does
pub node_at : (dir : Directory) (nodes : List Node) (ground : Ground) (number x : ℕ) → IsGround dir nodes ground
    → slice_get nodes x ≡ Some (Object number) → get nat_eq ground.objects number ≡ Some x
node_at dir nodes ground number x is at =
    let there = is.each number (is.nodes.are x (Object number) at) in
    let same : there.0 ≡ x
    = is.nodes.once there.0 x (Object number) (is.objects number there.0 there.1) at in
    there.1 ∙ ap (λ (n : ℕ). Some n) same

pub one_of : (dir : Directory) (nodes : List Node) (ground : Ground) (numbers members : List ℕ)
    → IsGround dir nodes ground → members ≡ filter_map (λ n. get nat_eq ground.objects n) numbers
    → (x : ℕ) → IsIn members x → IsOneOf nodes numbers x
one_of dir nodes ground numbers members is are x here =
    let given = given_in (λ n. get nat_eq ground.objects n) numbers here.0 x
    (sym (ap (λ (l : List ℕ). slice_get l here.0) are) ∙ here.1) in
    record {
      place = given.place;
      number = given.by;
      is_number = given.is_by;
      is_node = is.objects given.by x given.gives;
    }

pub of_one : (dir : Directory) (nodes : List Node) (ground : Ground) (numbers members : List ℕ)
    → IsGround dir nodes ground → members ≡ filter_map (λ n. get nat_eq ground.objects n) numbers
    → (x : ℕ) → IsOneOf nodes numbers x → IsIn members x
of_one dir nodes ground numbers members is are x one =
    let here = in_given (λ n. get nat_eq ground.objects n) numbers one.place one.number x one.is_number
    (node_at dir nodes ground one.number x is one.is_node) in
    (here.0, ap (λ (l : List ℕ). slice_get l here.0) are ∙ here.1)

pub below : (dir : Directory) (nodes : List Node) (ground : Ground) (numbers members : List ℕ)
    → IsGround dir nodes ground → members ≡ filter_map (λ n. get nat_eq ground.objects n) numbers
    → AreBelow (length nodes) members
below dir nodes ground numbers members is are place x at =
    let one = one_of dir nodes ground numbers members is are x (place, at) in
    slice_get_within nodes x (Object one.number) one.is_node
