-- Which nodes stand there, by one place of a row and by one more.
use Rattle.std.proofs.Common.{◌≡◌, ◌∙◌, ℕ, ◌+◌, ◌<◌, ◌⊎◌, inl, inr, Bool, true, false, ◌||◌, Option, Some, None, List, [], ◌∷◌}
use Rattle.std.proofs.Common.{◌++◌, length, map, take, get_or, refl, sym, ap, subst}
use Rattle.std.specs.Prelude.{slice_get}
use Rattle.std.specs.List.{list_any}
use Rattle.std.specs.Option.{option_to_list}
use Rattle.std.proofs.Math.Bool.{or-false}
use Rattle.std.proofs.lemmas.Bool.{false≢true, eqb-true, eq-eqb, or_cases, or_left, or_right}
use Rattle.std.proofs.lemmas.List.{take_more, map-append}
use Rattle.std.proofs.lemmas.List.Folds.{list_any-append}
use Rattle.ad_ids.specs.declared.token.Token.{Token}
use Rattle.ad_dir_model.specs.Tree.{root}
use Rattle.ad_dir_model.specs.Identity.{self_sid}
use Rattle.ad_dir_model.specs.Directory.{Directory}
use Rattle.ad_policies.specs.Policies.{above, policies_of}
use Rattle.ad_control_graph.specs.declared.kind.Kind.{Kind}
use Rattle.ad_control_graph.specs.declared.graph.Graph.{Graph}
use Rattle.ad_control_graph.specs.declared.node.Node.{Node}
use Rattle.ad_control_graph.specs.declared.node.Node.TheVariants.{Object, Identifier}
use Rattle.ad_control_graph.specs.Kinds.{From, TheRootItself, ItsParent, ItsHolder, ItsPolicies, Above, ItsMembers, row}
use Rattle.ad_control_graph.specs.Drawing.{Adds, IsBy}
use Rattle.ad_control_graph.proofs.AddLaws.{Nobody, adds_nothing, adds_both, adds_alike}
use Rattle.ad_control.specs.Edges.{is_object, giver, holder, is_in, asks_there, stands}
use Rattle.ad_control_nodes.specs.Ground.{AreTokensOf}
use Rattle.ad_control_nodes.specs.Parts.{ByPlace}
use Rattle.ad_control_nodes.proofs.Lists.{any_at, passing}
use Rattle.ad_control_linked.specs.Links.{IsOneOf}
use Rattle.ad_control_placed.specs.Standing.{IsStanding}

one : (b : Bool) → b || false ≡ true → b ≡ true
one b is = sym (or-false b) ∙ is

-- ---- where objects stand

the_object : (number : ℕ) (node : Node) → is_object (Some number) node ≡ true → node ≡ Object number
the_object number (Object other) is = ap Object (eqb-true other number is)
the_object number (Identifier sid) is = absurd (false≢true is)

-- the place is that of these objects
abbrev IsOf : Directory → From → ℕ → List ℕ → Type 0
IsOf dir from number numbers = (token : Option Token) (node : Node) → stands dir token node number from
    ≡ list_any (λ (n : ℕ). is_object (Some n) node) numbers

module _ (dir : Directory) (nodes : List Node) (from : From) (number : ℕ) (numbers : List ℕ)
    (same : IsOf dir from number numbers) where
  stands_one : (x : ℕ) → IsOneOf nodes numbers x → IsStanding dir nodes (from ∷ []) number x
  stands_one x one_of = record {
    node = Object one_of.number;
    is_node = one_of.is_node;
    by_token = inr (or_left (stands dir None (Object one_of.number) number from) false
        (same None (Object one_of.number)
        ∙ any_at (λ (n : ℕ). is_object (Some n) (Object one_of.number)) numbers one_of.place one_of.number
        one_of.is_number (eq-eqb one_of.number one_of.number refl)));
  }

  found : (x : ℕ) (node : Node) → slice_get nodes x ≡ Some node
      → list_any (λ (n : ℕ). is_object (Some n) node) numbers ≡ true → IsOneOf nodes numbers x
  found x node is any =
      let there = passing (λ (n : ℕ). is_object (Some n) node) numbers any in
      record {
        place = there.place;
        number = there.thing;
        is_number = there.is_thing;
        is_node = is ∙ ap (λ (n : Node). Some n) (the_object there.thing node there.passes);
      }

  one_stands : (x : ℕ) → IsStanding dir nodes (from ∷ []) number x → IsOneOf nodes numbers x
  one_stands x standing = elim standing.by_token [
    | inl with_token ↦ found x standing.node standing.is_node
        (sym (same (Some with_token.0) standing.node)
        ∙ one (stands dir (Some with_token.0) standing.node number from) with_token.2)
    | inr alone ↦ found x standing.node standing.is_node
        (sym (same None standing.node) ∙ one (stands dir None standing.node number from) alone)
  ]

  of_objects : (a b : Graph) (kind : Kind) (to : ℕ) → Adds a b kind to (IsOneOf nodes numbers)
      → Adds a b kind to (IsStanding dir nodes (from ∷ []) number)
  of_objects a b kind to adds =
      adds_alike a b kind to (IsOneOf nodes numbers) (IsStanding dir nodes (from ∷ []) number) stands_one one_stands adds

target_any : (target : Option ℕ) (node : Node) → is_object target node
    ≡ list_any (λ (n : ℕ). is_object (Some n) node) (option_to_list target)
target_any None node = refl
target_any (Some n) node = sym (or-false (is_object (Some n) node))

-- of one object, if there is one
abbrev IsTarget : Directory → From → ℕ → Option ℕ → Type 0
IsTarget dir from number target = (token : Option Token) (node : Node) → stands dir token node number from
    ≡ is_object target node

root_is : (dir : Directory) (number : ℕ) → IsTarget dir TheRootItself number (Some root)
unfolding stands
root_is dir number token node = refl

parent_is : (dir : Directory) (number : ℕ) → IsTarget dir ItsParent number (giver dir number)
unfolding stands
parent_is dir number token node = refl

holder_is : (dir : Directory) (number : ℕ) → IsTarget dir ItsHolder number (holder dir number)
unfolding stands
holder_is dir number token node = refl

policies_are : (dir : Directory) (number : ℕ) → IsOf dir ItsPolicies number (policies_of dir number)
unfolding stands
policies_are dir number token node = refl

of_target : (dir : Directory) (nodes : List Node) (a b : Graph) (kind : Kind) (number to : ℕ) (from given : From)
    (target found : Option ℕ) → IsTarget dir from number target → found ≡ target → given ≡ from
    → Adds a b kind to (IsOneOf nodes (option_to_list found))
    → Adds a b kind to (IsStanding dir nodes (given ∷ []) number)
of_target dir nodes a b kind number to from given target found is found_is given_is adds =
    subst (λ (f : From). Adds a b kind to (IsStanding dir nodes (f ∷ []) number)) (sym given_is)
    (of_objects dir nodes from number (option_to_list target)
    (λ token node. is token node ∙ target_any target node) a b kind to
    (subst (λ (t : Option ℕ). Adds a b kind to (IsOneOf nodes (option_to_list t))) found_is adds))

pub by_root : (dir : Directory) (nodes : List Node) (a b : Graph) (kind : Kind) (number to : ℕ) (given : From)
    (found : Option ℕ) → given ≡ TheRootItself → found ≡ Some root
    → Adds a b kind to (IsOneOf nodes (option_to_list found))
    → Adds a b kind to (IsStanding dir nodes (given ∷ []) number)
by_root dir nodes a b kind number to given found given_is is =
    of_target dir nodes a b kind number to TheRootItself given (Some root) found (root_is dir number) is given_is

pub by_parent : (dir : Directory) (nodes : List Node) (a b : Graph) (kind : Kind) (number to : ℕ) (given : From)
    (found : Option ℕ) → given ≡ ItsParent → found ≡ giver dir number
    → Adds a b kind to (IsOneOf nodes (option_to_list found))
    → Adds a b kind to (IsStanding dir nodes (given ∷ []) number)
by_parent dir nodes a b kind number to given found given_is is =
    of_target dir nodes a b kind number to ItsParent given (giver dir number) found (parent_is dir number) is given_is

pub by_holder : (dir : Directory) (nodes : List Node) (a b : Graph) (kind : Kind) (number to : ℕ) (given : From)
    (found : Option ℕ) → given ≡ ItsHolder → found ≡ holder dir number
    → Adds a b kind to (IsOneOf nodes (option_to_list found))
    → Adds a b kind to (IsStanding dir nodes (given ∷ []) number)
by_holder dir nodes a b kind number to given found given_is is =
    of_target dir nodes a b kind number to ItsHolder given (holder dir number) found (holder_is dir number) is given_is

pub by_policies : (dir : Directory) (nodes : List Node) (a b : Graph) (kind : Kind) (number to : ℕ) (given : From)
    → given ≡ ItsPolicies → Adds a b kind to (IsOneOf nodes (policies_of dir number))
    → Adds a b kind to (IsStanding dir nodes (given ∷ []) number)
by_policies dir nodes a b kind number to given given_is adds =
    subst (λ (f : From). Adds a b kind to (IsStanding dir nodes (f ∷ []) number)) (sym given_is)
    (of_objects dir nodes ItsPolicies number (policies_of dir number) (policies_are dir number) a b kind to adds)

-- ---- whose token passes a test

module _ (dir : Directory) (nodes : List Node) (tokens : List Token) (at : List ℕ) (from : From) (number : ℕ)
    (test : Token → Bool) (are : AreTokensOf dir nodes tokens at)
    (same : (token : Token) (node : Node) → stands dir (Some token) node number from ≡ test token)
    (none : (node : Node) → stands dir None node number from ≡ false) where
  stands_by : (x : ℕ) → IsBy tokens at test x → IsStanding dir nodes (from ∷ []) number x
  stands_by x by =
      let own = are.sound by.thing x (record { place = by.place; is_token = by.is_thing; is_at = by.is_at }) in
      record {
        node = own.0;
        is_node = own.1;
        by_token = inl (
          by.thing,
          own.2,
          or_left (stands dir (Some by.thing) own.0 number from) false (same by.thing own.0 ∙ by.passes),
        );
      }

  by_stands : (x : ℕ) → IsStanding dir nodes (from ∷ []) number x → IsBy tokens at test x
  by_stands x standing = elim standing.by_token [
    | inl with_token ↦ (
        let own = are.each x standing.node with_token.0 standing.is_node with_token.1 in
        record {
          place = own.place;
          thing = with_token.0;
          is_thing = own.is_token;
          is_at = own.is_at;
          passes = sym (same with_token.0 standing.node)
              ∙ one (stands dir (Some with_token.0) standing.node number from) with_token.2;
        })
    | inr alone ↦ absurd (false≢true (sym (none standing.node)
        ∙ one (stands dir None standing.node number from) alone))
  ]

  of_tokens : (a b : Graph) (kind : Kind) (to : ℕ) → Adds a b kind to (IsBy tokens at test)
      → Adds a b kind to (IsStanding dir nodes (from ∷ []) number)
  of_tokens a b kind to adds =
      adds_alike a b kind to (IsBy tokens at test) (IsStanding dir nodes (from ∷ []) number) stands_by by_stands adds

unasked : (dir : Directory) (question : List ℕ) (containers : List ℕ)
    → list_any (asks_there dir None question) containers ≡ false
unasked dir question [] = refl
unasked dir question (c ∷ containers) = unasked dir question containers

pub by_above : (dir : Directory) (nodes : List Node) (tokens : List Token) (at : List ℕ) (a b : Graph) (kind : Kind)
    (number to : ℕ) (given : From) (question : List ℕ) → AreTokensOf dir nodes tokens at → given ≡ Above question
    → Adds a b kind to (IsBy tokens at (λ (t : Token). list_any (asks_there dir (Some t) question) (above dir number)))
    → Adds a b kind to (IsStanding dir nodes (given ∷ []) number)
unfolding stands
by_above dir nodes tokens at a b kind number to given question are given_is adds =
    subst (λ (f : From). Adds a b kind to (IsStanding dir nodes (f ∷ []) number)) (sym given_is)
    (of_tokens dir nodes tokens at (Above question) number
    (λ (t : Token). list_any (asks_there dir (Some t) question) (above dir number)) are (λ t node. refl)
    (λ node. unasked dir question (above dir number)) a b kind to adds)

pub by_members : (dir : Directory) (nodes : List Node) (tokens : List Token) (at : List ℕ) (a b : Graph) (kind : Kind)
    (number to : ℕ) (given : From) → AreTokensOf dir nodes tokens at → given ≡ ItsMembers
    → Adds a b kind to (IsBy tokens at (λ (t : Token). is_in (Some t) (self_sid dir number)))
    → Adds a b kind to (IsStanding dir nodes (given ∷ []) number)
unfolding stands
by_members dir nodes tokens at a b kind number to given are given_is adds =
    subst (λ (f : From). Adds a b kind to (IsStanding dir nodes (f ∷ []) number)) (sym given_is)
    (of_tokens dir nodes tokens at ItsMembers number (λ (t : Token). is_in (Some t) (self_sid dir number)) are
    (λ t node. refl) (λ node. refl) a b kind to adds)

-- ---- one place after the other

any_first : (test : From → Bool) (xs ys : List From) → list_any test xs ≡ true → list_any test (xs ++ ys) ≡ true
any_first test xs ys is = list_any-append test xs ys ∙ or_left (list_any test xs) (list_any test ys) is

any_second : (test : From → Bool) (xs ys : List From) → list_any test ys ≡ true → list_any test (xs ++ ys) ≡ true
any_second test xs ys is = list_any-append test xs ys ∙ or_right (list_any test xs) (list_any test ys) is

any_either : (test : From → Bool) (xs ys : List From) → list_any test (xs ++ ys) ≡ true
    → (list_any test xs ≡ true) ⊎ (list_any test ys ≡ true)
any_either test xs ys is = or_cases (list_any test xs) (list_any test ys) (sym (list_any-append test xs ys) ∙ is)

module _ (dir : Directory) (nodes : List Node) (number : ℕ) (xs ys : List From) where
  first_stands : (x : ℕ) → IsStanding dir nodes xs number x → IsStanding dir nodes (xs ++ ys) number x
  first_stands x s = record {
    node = s.node;
    is_node = s.is_node;
    by_token = elim s.by_token [
      | inl w ↦ inl (w.0, w.1, any_first (stands dir (Some w.0) s.node number) xs ys w.2)
      | inr h ↦ inr (any_first (stands dir None s.node number) xs ys h)
    ];
  }

  second_stands : (x : ℕ) → IsStanding dir nodes ys number x → IsStanding dir nodes (xs ++ ys) number x
  second_stands x s = record {
    node = s.node;
    is_node = s.is_node;
    by_token = elim s.by_token [
      | inl w ↦ inl (w.0, w.1, any_second (stands dir (Some w.0) s.node number) xs ys w.2)
      | inr h ↦ inr (any_second (stands dir None s.node number) xs ys h)
    ];
  }

  either_stands : (x : ℕ) → IsStanding dir nodes (xs ++ ys) number x
      → IsStanding dir nodes xs number x ⊎ IsStanding dir nodes ys number x
  either_stands x s = elim s.by_token [
    | inl w ↦ elim (any_either (stands dir (Some w.0) s.node number) xs ys w.2) [
      | inl first ↦ inl (record { node = s.node; is_node = s.is_node; by_token = inl (w.0, w.1, first) })
      | inr second ↦ inr (record { node = s.node; is_node = s.is_node; by_token = inl (w.0, w.1, second) })
    ]
    | inr h ↦ elim (any_either (stands dir None s.node number) xs ys h) [
      | inl first ↦ inl (record { node = s.node; is_node = s.is_node; by_token = inr first })
      | inr second ↦ inr (record { node = s.node; is_node = s.is_node; by_token = inr second })
    ]
  ]

  both_add : (a b c : Graph) (kind : Kind) (to : ℕ) → Adds a b kind to (IsStanding dir nodes xs number)
      → Adds b c kind to (IsStanding dir nodes ys number) → Adds a c kind to (IsStanding dir nodes (xs ++ ys) number)
  both_add a b c kind to first second =
      adds_alike a c kind to (λ x. IsStanding dir nodes xs number x ⊎ IsStanding dir nodes ys number x)
      (IsStanding dir nodes (xs ++ ys) number)
      (λ x from. elim from [ inl s ↦ first_stands x s | inr s ↦ second_stands x s ]) either_stands
      (adds_both a b c kind to (IsStanding dir nodes xs number) (IsStanding dir nodes ys number) first second)

pub stands_more : {X : Type 0} (dir : Directory) (nodes given : List Node) (number : ℕ) (a b c : Graph) (kind : Kind)
    (to : ℕ) (seen : X → From) (xs : List X) (i : ℕ) (d : X) → i < length xs → given ≡ nodes
    → Adds a b kind to (IsStanding dir nodes (map seen (take i xs)) number)
    → Adds b c kind to (IsStanding dir given (seen (get_or xs i d) ∷ []) number)
    → Adds a c kind to (IsStanding dir nodes (map seen (take (i + 1) xs)) number)
stands_more {X} dir nodes given number a b c kind to seen xs i d lt same first second =
    subst (λ (l : List From). Adds a c kind to (IsStanding dir nodes l number))
    (sym (ap (map seen) (take_more xs i d lt) ∙ map-append seen (take i xs) (get_or xs i d ∷ [])))
    (both_add dir nodes number (map seen (take i xs)) (seen (get_or xs i d) ∷ []) a b c kind to first
    (subst (λ (l : List Node). Adds b c kind to (IsStanding dir l (seen (get_or xs i d) ∷ []) number)) same second))

nobody : (dir : Directory) (nodes : List Node) (number x : ℕ) → IsStanding dir nodes [] number x → Nobody x
nobody dir nodes number x s = elim s.by_token [ inl w ↦ false≢true w.2 | inr h ↦ false≢true h ]

pub stands_none : (dir : Directory) (nodes : List Node) (number : ℕ) (graph : Graph) (kind : Kind) (to : ℕ)
    → Adds graph graph kind to (IsStanding dir nodes [] number)
stands_none dir nodes number graph kind to =
    adds_alike graph graph kind to Nobody (IsStanding dir nodes [] number) (λ x bad. absurd bad)
    (nobody dir nodes number) (adds_nothing graph kind to)

-- all places of the row
pub by_places : (dir : Directory) (nodes : List Node) (a b : Graph) (kind : Kind) (number to : ℕ) (from : List From)
    → from ≡ (row kind).from → Adds a b kind to (IsStanding dir nodes from number)
    → Adds a b kind to (ByPlace dir nodes kind number)
by_places dir nodes a b kind number to from is adds =
    adds_alike a b kind to (IsStanding dir nodes (row kind).from number) (ByPlace dir nodes kind number)
    (λ x s. record { node = s.node; is_node = s.is_node; by_token = s.by_token })
    (λ x s. record { node = s.node; is_node = s.is_node; by_token = s.by_token })
    (subst (λ (l : List From). Adds a b kind to (IsStanding dir nodes l number)) is adds)
