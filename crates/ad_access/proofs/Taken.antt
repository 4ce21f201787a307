-- One entry, taken at one node of a tree after the other.
use Rattle.std.proofs.Common.{◌≡◌, ◌≢◌, ℕ, ◌+◌, ◌<◌, ◌≤◌, ◌⊎◌, inl, inr, Bool, true, ◌||◌, Option, None, Some, List}
use Rattle.std.proofs.Common.{[], ◌∷◌, ◌++◌, length, get_or, set, refl, sym, ap, ◌∙◌, subst, arith}
use Rattle.std.specs.Prelude.{bit_or, IfSome}
use Rattle.std.specs.List.{list_any}
use Rattle.std.proofs.Math.Bool.{or-false, or-true}
use Rattle.std.proofs.lemmas.Bool.{ltb-true, cases_eq}
use Rattle.std.proofs.lemmas.List.{get_or-set_same, get_or-set_other, length-set}
use Rattle.std.proofs.lemmas.List.Folds.{list_any-append}
use Rattle.ad_ids.specs.declared.guid.Guid.{Guid}
use Rattle.ad_acl.specs.Mask.{has_bit}
use Rattle.ad_acl.proofs.MaskLaws.{has_bit-or}
use Rattle.ad_types.specs.declared.type_tree.Node.{Node}
use Rattle.ad_types.specs.Tree.{is_tree, is_above, path_at}
use Rattle.ad_types.proofs.TreeLaws.{tree_at, path_above, path_step}
use Rattle.ad_access.specs.declared.found.Found.{Found}
use Rattle.ad_access.specs.Matching.{is_about}
use Rattle.ad_ids.specs.Guid.{same_guid}
use Rattle.ad_access.specs.Found.{nothing, found_at, about_above, is_about_below, Decides, AreOpen}

-- The entry is taken at so many nodes, and not yet at the others.
pub record Taken (nodes : List Node) (object : Option Guid) (rights : ℕ) (allows : Bool) (before after : List Found)
    (open_rights count : ℕ) : Type 0 where
  pub len : length after ≡ length nodes
  pub done : (place : ℕ) → place < count → Decides (is_about object (path_at nodes place)) rights allows
      (found_at before place) (found_at after place)
  pub rest : (place : ℕ) → count ≤ place → found_at after place ≡ found_at before place
  pub still : AreOpen count after open_rights

pub taken_none : (nodes : List Node) (object : Option Guid) (rights : ℕ) (allows : Bool) (before : List Found)
    → length before ≡ length nodes → Taken nodes object rights allows before before 0 0
taken_none nodes object rights allows before len = record {
  len = len;
  done = λ place lt. absurd (omega (arith, lt));
  rest = λ place le. refl;
  still = λ place bit lt small e. absurd (omega (arith, lt));
}

-- what stands above a node is in the list
pub within : (above : Option ℕ) (i n : ℕ) → is_above above i ≡ true → i < n → IfSome above (λ place. place < n)
within None i n e lt = tt
within (Some place) i n e lt =
    let less = ltb-true place i e in
    omega (arith, less, lt)

-- whether the entry is about a node follows from whether it is about what stands above it
about_step : (nodes : List Node) (object : Option Guid) (after : List Found) (i : ℕ) (d : Node) → is_tree nodes ≡ true
    → i < length nodes → ((place : ℕ) → place < i → (found_at after place).about
    ≡ is_about object (path_at nodes place)) → is_about_below object (about_above after (get_or nodes i d).above)
    (get_or nodes i d).guid ≡ is_about object (path_at nodes i)
about_step nodes None after i d tree lt done = refl
about_step nodes (Some g) after i d tree lt done =
    let node : Node = get_or nodes i d in
    let test : Guid → Bool = λ guid. same_guid guid g in
    let own : list_any test (path_above nodes node.above ++ node.guid ∷ [])
    ≡ list_any test (path_above nodes node.above) || same_guid node.guid g =
    list_any-append test (path_above nodes node.above) (node.guid ∷ [])
    ∙ ap (λ (b : Bool). list_any test (path_above nodes node.above) || b) (or-false (same_guid node.guid g)) in
    ap (λ (b : Bool). b || same_guid node.guid g) (above node.above (tree_at nodes i d tree lt))
    ∙ sym own
    ∙ ap (list_any test) (sym (path_step nodes i d tree lt))
  where
    above : (place : Option ℕ) → is_above place i ≡ true → about_above after place
        ≡ list_any (λ guid. same_guid guid g) (path_above nodes place)
    above None e = refl
    above (Some place) e = done place (ltb-true place i e)

pub taken_more : (nodes : List Node) (object : Option Guid) (rights : ℕ) (allows : Bool) (before after : List Found)
    (open_rights i : ℕ) (d : Node) (about : Bool) (next : Found) → is_tree nodes ≡ true → i < length nodes
    → Taken nodes object rights allows before after open_rights i → about
    ≡ is_about_below object (about_above after (get_or nodes i d).above) (get_or nodes i d).guid
    → Decides about rights allows (found_at after i) next → Taken nodes object rights allows before (set after i next)
    (bit_or open_rights next.undecided) (i + 1)
taken_more nodes object rights allows before after open_rights i d about next tree lt taken e decides =
    let inside : i < length after = omega (arith, lt, taken.len) in
    let at : found_at (set after i next) i ≡ next = get_or-set_same after i next nothing inside in
    let about_is : about ≡ is_about object (path_at nodes i) = e ∙ about_step nodes object after i d tree lt
    (λ place less. (taken.done place less).about_is) in
    let P : Found → Type 0 = λ f. Decides (is_about object (path_at nodes i)) rights allows f
    (found_at (set after i next) i) in
    let Q : Found → Type 0 = λ f. Decides (is_about object (path_at nodes i)) rights allows (found_at after i) f in
    let R : Bool → Type 0 = λ b. Decides b rights allows (found_at after i) next in
    let here : Decides (is_about object (path_at nodes i)) rights allows (found_at before i)
    (found_at (set after i next) i) = subst P (taken.rest i (omega arith))
    (subst Q (sym at) (subst R about_is decides)) in
    record {
      len = length-set after i next ∙ taken.len;
      done = λ place less. done_at place less here taken.done (cases_eq place i);
      rest = λ place le. other place (omega (arith, le)) ∙ taken.rest place (omega (arith, le));
      still = λ place bit less small undecided. still_at place bit less small at taken.still (cases_eq place i)
          undecided;
    }
  where
    other : (place : ℕ) → place ≢ i → found_at (set after i next) place ≡ found_at after place
    other place apart = get_or-set_other after i place next nothing apart

    done_at : (place : ℕ) → place < i + 1 → Decides (is_about object (path_at nodes i)) rights allows
        (found_at before i) (found_at (set after i next) i)
        → ((p : ℕ) → p < i → Decides (is_about object (path_at nodes p)) rights allows (found_at before p)
        (found_at after p)) → (place ≡ i) ⊎ (place ≡ i → ⊥) → Decides (is_about object (path_at nodes place)) rights
        allows (found_at before place) (found_at (set after i next) place)
    done_at place less here done (inl same)
        = subst (λ (p : ℕ). Decides (is_about object (path_at nodes p)) rights allows (found_at before p)
        (found_at (set after i next) p)) (sym same) here
    done_at place less here done (inr apart)
        = subst (λ (f : Found). Decides (is_about object (path_at nodes place)) rights allows (found_at before place)
        f) (sym (other place apart)) (done place (omega (arith, less, apart)))

    still_at : (place bit : ℕ) → place < i + 1 → bit < 32 → found_at (set after i next) i ≡ next
        → AreOpen i after open_rights → (place ≡ i) ⊎ (place ≡ i → ⊥)
        → has_bit (found_at (set after i next) place).undecided bit ≡ true
        → has_bit (bit_or open_rights next.undecided) bit ≡ true
    still_at place bit less small at still (inl same) undecided =
        let here : has_bit next.undecided bit ≡ true
        = sym (ap (λ (p : ℕ). has_bit (found_at (set after i next) p).undecided bit) same
        ∙ ap (λ (f : Found). has_bit f.undecided bit) at) ∙ undecided in
        has_bit-or open_rights next.undecided bit ∙ ap (λ (b : Bool). has_bit open_rights bit || b) here
        ∙ or-true (has_bit open_rights bit)
    still_at place bit less small at still (inr apart) undecided =
        let there : has_bit open_rights bit ≡ true = still place bit (omega (arith, less, apart)) small
        (sym (ap (λ (f : Found). has_bit f.undecided bit) (other place apart)) ∙ undecided) in
        has_bit-or open_rights next.undecided bit ∙ ap (λ (b : Bool). b || has_bit next.undecided bit) there
