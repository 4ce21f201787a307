-- The links of a text are its first one, and those of what stands after it.
use Rattle.std.proofs.Common.{◌≡◌, ℕ, zero, suc, ◌<◌, ◌≤◌, List, [], ◌∷◌, length, Option, Some, None, refl, sym, ap}
use Rattle.std.proofs.Common.{◌∙◌, subst, arith}
use Rattle.std.specs.Option.{option_map, option_map_or, option_and_then}
use Rattle.std.proofs.lemmas.Option.{none-some, same_Some}
use Rattle.ad_policies.specs.Policies.{PolicyLink, cut, link_in, next_link, links_within, links_of}
use Rattle.ad_policies.proofs.Cutting.{cut_shorter}

-- what stands after a link is shorter than the text
abbrev IsAfter : ℕ → PolicyLink × List ℕ → Type 0
IsAfter size step = length step.1 < size

-- the link of a pair of brackets, with the text after them
abbrev with_rest : List ℕ → PolicyLink → PolicyLink × List ℕ
with_rest rest link = (link, rest)

after_link : (size : ℕ) (rest : List ℕ) (link : Option PolicyLink) (step : PolicyLink × List ℕ)
    → length rest < size → option_map (with_rest rest) link ≡ Some step → IsAfter size step
after_link size rest None step small is = absurd (none-some step is)
after_link size rest (Some link) step small is =
    subst (IsAfter size) (same_Some (with_rest rest link) step is) small

abbrev in_brackets : Option (List ℕ × List ℕ) → Option (PolicyLink × List ℕ)
in_brackets parts = option_and_then (λ (p : List ℕ × List ℕ). option_map (with_rest p.1) (link_in p.0)) parts

after_brackets : (size : ℕ) (parts : Option (List ℕ × List ℕ)) (step : PolicyLink × List ℕ)
    → ((p : List ℕ × List ℕ) → parts ≡ Some p → length p.1 < size) → in_brackets parts ≡ Some step → IsAfter size step
after_brackets size None step small is = absurd (none-some step is)
after_brackets size (Some parts) step small is = after_link size parts.1 (link_in parts.0) step (small parts refl) is

abbrev from_begun : Option (List ℕ × List ℕ) → Option (PolicyLink × List ℕ)
from_begun begun = option_and_then (λ (b : List ℕ × List ℕ). in_brackets (cut 93 b.1)) begun

after_begun : (size : ℕ) (begun : Option (List ℕ × List ℕ)) (step : PolicyLink × List ℕ)
    → ((b : List ℕ × List ℕ) → begun ≡ Some b → length b.1 < size) → from_begun begun ≡ Some step → IsAfter size step
after_begun size None step small is = absurd (none-some step is)
after_begun size (Some begun) step small is =
    let first = small begun refl in
    after_brackets size (cut 93 begun.1) step
    (λ p at. let second = cut_shorter 93 begun.1 p at in omega (arith, first, second)) is

pub next_shorter : (text : List ℕ) (step : PolicyLink × List ℕ) → next_link text ≡ Some step
    → length step.1 < length text
unfolding next_link
next_shorter text step is = after_begun (length text) (cut 91 text) step (cut_shorter 91 text) is

-- ---- so many at most are all

next_of_none : next_link [] ≡ None
unfolding next_link cut
next_of_none = refl

abbrev linked_on : (List ℕ → List PolicyLink) → Option (PolicyLink × List ℕ) → List PolicyLink
linked_on rest step = option_map_or (λ (s : PolicyLink × List ℕ). s.0 ∷ rest s.1) step []

same_on : (f g : List ℕ → List PolicyLink) (step : Option (PolicyLink × List ℕ))
    → ((s : PolicyLink × List ℕ) → step ≡ Some s → f s.1 ≡ g s.1) → linked_on f step ≡ linked_on g step
same_on f g None same = refl
same_on f g (Some s) same = ap (λ (rest : List PolicyLink). s.0 ∷ rest) (same s refl)

no_links : (n : ℕ) → links_within n [] ≡ []
unfolding links_within
no_links zero = refl
no_links (suc n) = ap (linked_on (links_within n)) next_of_none

enough : (n m : ℕ) (text : List ℕ) → length text ≤ n → length text ≤ m → links_within n text ≡ links_within m text
unfolding links_within
enough zero m [] small other = sym (no_links m)
enough zero m (b ∷ text) small other = absurd (omega (arith, small))
enough (suc n) zero [] small other = no_links (suc n)
enough (suc n) zero (b ∷ text) small other = absurd (omega (arith, other))
enough (suc n) (suc m) text small other = same_on (links_within n) (links_within m) (next_link text)
    (λ s is. let shorter = next_shorter text s is in
    enough n m s.1 (omega (arith, small, shorter)) (omega (arith, other, shorter)))

pub links_on : (text : List ℕ) (step : PolicyLink × List ℕ) → next_link text ≡ Some step
    → links_of text ≡ step.0 ∷ links_of step.1
unfolding links_of links_within
links_on text step is = by (length text) refl
  where
    by : (n : ℕ) → length text ≡ n → links_within n text ≡ step.0 ∷ links_within (length step.1) step.1
    by zero long = let shorter = next_shorter text step is in absurd (omega (arith, shorter, long))
    by (suc n) long =
        let shorter = next_shorter text step is in
        let few : length step.1 ≤ n = omega (arith, shorter, long) in
        ap (linked_on (links_within n)) is
        ∙ ap (λ (rest : List PolicyLink). step.0 ∷ rest) (enough n (length step.1) step.1 few (omega arith))

pub links_end : (text : List ℕ) → next_link text ≡ None → links_of text ≡ []
unfolding links_of links_within
links_end text is = by (length text)
  where
    by : (n : ℕ) → links_within n text ≡ []
    by zero = refl
    by (suc n) = ap (linked_on (links_within n)) is
