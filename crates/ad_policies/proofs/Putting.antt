-- Policies put one after the other are those of all links, and they are live.
use Rattle.std.proofs.Common.{◌≡◌, ◌∙◌, ℕ, ◌+◌, ◌<◌, ◌≤◌, Bool, true, false, List, [], ◌∷◌, ◌++◌, length, drop, get_or}
use Rattle.std.proofs.Common.{Option, Some, None, refl, sym, ap, append_assoc, drop-cons, add-one}
use Rattle.std.specs.Prelude.{All, filter_map, ◌||◌, if◌then◌else◌}
use Rattle.std.specs.List.{cons_option}
use Rattle.std.proofs.lemmas.List.Elements.{filter_map-append, All-nil, All-cons, All-append}
use Rattle.std.proofs.lemmas.List.{drop_all, append-nil}
use Rattle.std.proofs.lemmas.Option.{none-some, option_and_then_some}
use Rattle.ad_dn.specs.declared.rdn.Dn.{Dn}
use Rattle.ad_dn.specs.Reading.{dn_of}
use Rattle.ad_dir_model.specs.Objects.{is_live, Rise}
use Rattle.ad_dir_model.specs.Names.{found}
use Rattle.ad_dir_model.specs.Directory.{Directory}
use Rattle.ad_dir_model.proofs.Named.{found_live}
use Rattle.ad_policies.specs.Policies.{PolicyLink, next_link, links_of, linked_at, policy, is_in_force, policy_if}
use Rattle.ad_policies.specs.Policies.{above, blocks, policies_over, policies_of}
use Rattle.ad_policies.proofs.LinkLaws.{links_on, links_end}

-- ---- of one text

pub link_put : (f : PolicyLink → Option ℕ) (old new text : List ℕ) (step : PolicyLink × List ℕ)
    → Some step ≡ next_link text → new ≡ old ++ filter_map f (step.0 ∷ [])
    → new ++ filter_map f (links_of step.1) ≡ old ++ filter_map f (links_of text)
link_put f old new text step is put =
    ap (λ (xs : List ℕ). xs ++ filter_map f (links_of step.1)) put
    ∙ append_assoc old (filter_map f (step.0 ∷ [])) (filter_map f (links_of step.1))
    ∙ ap (λ (xs : List ℕ). old ++ xs) (sym (filter_map-append f (step.0 ∷ []) (links_of step.1)))
    ∙ ap (λ (links : List PolicyLink). old ++ filter_map f links) (sym (links_on text step (sym is)))

pub links_put : (f : PolicyLink → Option ℕ) (text : List ℕ) → None ≡ next_link text → filter_map f (links_of text) ≡ []
links_put f text is = ap (filter_map f) (links_end text (sym is))

-- ---- of one more container

pub container_put : (dir : Directory) (blocked next : Bool) (i : ℕ) (containers old new : List ℕ)
    → i < length containers → new ≡ old ++ filter_map (policy_if dir blocked) (linked_at dir (get_or containers i 0))
    → next ≡ (blocked || blocks dir (get_or containers i 0))
    → new ++ policies_over dir next (drop (i + 1) containers)
    ≡ old ++ policies_over dir blocked (drop i containers)
unfolding policies_over
container_put dir blocked next i containers old new within put is =
    let container : ℕ = get_or containers i 0 in
    let own : List ℕ = filter_map (policy_if dir blocked) (linked_at dir container) in
    let others : List ℕ = policies_over dir (blocked || blocks dir container) (drop (i + 1) containers) in
    let rest : container ∷ drop (i + 1) containers ≡ drop i containers
    = sym (rw (add-one, drop-cons containers i 0) refl) in
    ap (λ (xs : List ℕ). xs ++ policies_over dir next (drop (i + 1) containers)) put
    ∙ ap (λ (b : Bool). (old ++ own) ++ policies_over dir b (drop (i + 1) containers)) is
    ∙ append_assoc old own others
    ∙ ap (λ (cs : List ℕ). old ++ policies_over dir blocked cs) rest

-- where no container is left
pub containers_put : (dir : Directory) (blocked : Bool) (i : ℕ) (containers : List ℕ) → length containers ≤ i
    → policies_over dir blocked (drop i containers) ≡ []
unfolding policies_over
containers_put dir blocked i containers none = ap (policies_over dir blocked) (drop_all i containers none)

-- what is put, and nothing else
pub all_put : (old rest all : List ℕ) → rest ≡ [] → old ++ rest ≡ all → old ≡ all
all_put old rest all none are = sym (append-nil old) ∙ ap (λ (xs : List ℕ). old ++ xs) (sym none) ∙ are

-- ---- they are live

all_of : (f : PolicyLink → Option ℕ) (P : ℕ → Type 0) → ((x : PolicyLink) (y : ℕ) → f x ≡ Some y → P y)
    → (xs : List PolicyLink) → All P (filter_map f xs)
all_of f P each [] = All-nil P
all_of f P each (x ∷ xs) = by (f x) refl (all_of f P each xs)
  where
    by : (y : Option ℕ) → f x ≡ y → All P (filter_map f xs) → All P (cons_option y (filter_map f xs))
    by None is rest = rest
    by (Some y) is rest = All-cons P y (filter_map f xs) (each x y is) rest

policy_lives : (dir : Directory) → Rise dir.objects → (blocked : Bool) (link : PolicyLink) (n : ℕ)
    → policy_if dir blocked link ≡ Some n → is_live dir.objects n ≡ true
policy_lives dir rise blocked link n is = by (is_in_force blocked link) is
  where
    by : (force : Bool) → (if force then policy dir link else None) ≡ Some n → is_live dir.objects n ≡ true
    by true e = option_and_then_some (λ (d : Dn). found dir d.rdns) (dn_of link.name) n e
        (λ (d : Dn) first rest. found_live dir d.rdns n rise rest)
    by false e = absurd (none-some n e)

pub policies_alike : (dir : Directory) (a b : ℕ) → above dir a ≡ above dir b → policies_of dir a ≡ policies_of dir b
unfolding policies_of
policies_alike dir a b same = ap (policies_over dir false) same

pub over_lives : (dir : Directory) → Rise dir.objects → (blocked : Bool) (containers : List ℕ)
    → All (λ n. is_live dir.objects n ≡ true) (policies_over dir blocked containers)
unfolding policies_over
over_lives dir rise blocked [] = All-nil (λ n. is_live dir.objects n ≡ true)
over_lives dir rise blocked (container ∷ others) =
    All-append (λ n. is_live dir.objects n ≡ true) (filter_map (policy_if dir blocked) (linked_at dir container))
    (policies_over dir (blocked || blocks dir container) others)
    (all_of (policy_if dir blocked) (λ n. is_live dir.objects n ≡ true) (policy_lives dir rise blocked)
    (linked_at dir container))
    (over_lives dir rise (blocked || blocks dir container) others)
