-- The identifiers that texts are, one after the other.
use Rattle.std.proofs.Common.{◌≡◌, ◌∙◌, ℕ, ◌+◌, ◌<◌, ◌≤◌, length, drop, get_or, map, List, [], ◌∷◌, ◌++◌, Option}
use Rattle.std.proofs.Common.{Some, None, refl, sym, ap, append_assoc}
use Rattle.std.specs.Option.{option_map}
use Rattle.std.proofs.lemmas.List.{append-nil, at_drop_more, at_drop_all}
use Rattle.ad_ids.specs.SidValue.{SidValue}
use Rattle.ad_ids.specs.SidOfText.{sid_of_text}
use Rattle.ad_who.specs.Answers.{sids_of}

-- those so far, before the others
abbrev pub behind : List SidValue → Option (List SidValue) → Option (List SidValue)
behind front None = None
behind front (Some others) = Some (front ++ others)

pub behind_none : (r : Option (List SidValue)) → r ≡ behind [] r
behind_none None = refl
behind_none (Some others) = refl

pub sids_more : (front : List SidValue) (text : List ℕ) (texts : List (List ℕ)) (sid : SidValue) → Some sid
    ≡ sid_of_text text
    → behind front (sids_of (text ∷ texts)) ≡ behind (front ++ sid ∷ []) (sids_of texts)
unfolding sids_of
sids_more front text texts sid is = rw (sym is) (by_others (sids_of texts))
  where
    by_others : (r : Option (List SidValue)) → behind front (option_map (λ sids. sid ∷ sids) r)
        ≡ behind (front ++ sid ∷ []) r
    by_others None = refl
    by_others (Some others) = ap Some (sym (append_assoc front (sid ∷ []) others))

pub sids_wrong : (front : List SidValue) (text : List ℕ) (texts : List (List ℕ)) → None ≡ sid_of_text text
    → behind front (sids_of (text ∷ texts)) ≡ None
unfolding sids_of
sids_wrong front text texts is = rw (sym is) refl

pub sids_end : (front : List SidValue) → behind front (sids_of []) ≡ Some front
unfolding sids_of
sids_end front = ap Some (append-nil front)

-- ---- along a list of texts

-- what is left begins with the one at hand
pub drop_next : {A : Type 0} (xs : List A) (i : ℕ) (x : A) → i < length xs → x ≡ get_or xs i x → drop i xs ≡ x
    ∷ drop (i + 1) xs
drop_next xs i x lt at = at_drop_more (λ l. l) xs i x lt ∙ ap (λ y. y ∷ drop (i + 1) xs) (sym at)

pub texts_more : {A : Type 0} (f : A → List ℕ) (texts : List A) (i : ℕ) (x : A) (front next : List SidValue)
    (sid : SidValue) (all : Option (List SidValue))
    → i < length texts → x ≡ get_or texts i x → Some sid ≡ sid_of_text (f x) → next ≡ front ++ sid ∷ []
    → all ≡ behind front (sids_of (map f (drop i texts))) → all ≡ behind next (sids_of (map f (drop (i + 1) texts)))
texts_more {A} f texts i x front next sid all lt at is more so =
    so ∙ ap (λ (ts : List A). behind front (sids_of (map f ts))) (drop_next texts i x lt at)
    ∙ sids_more front (f x) (map f (drop (i + 1) texts)) sid is
    ∙ ap (λ (sids : List SidValue). behind sids (sids_of (map f (drop (i + 1) texts)))) (sym more)

pub texts_wrong : {A : Type 0} (f : A → List ℕ) (texts : List A) (i : ℕ) (x : A) (front : List SidValue)
    (all : Option (List SidValue))
    → i < length texts → x ≡ get_or texts i x → None ≡ sid_of_text (f x)
    → all ≡ behind front (sids_of (map f (drop i texts))) → all ≡ None
texts_wrong {A} f texts i x front all lt at is so =
    so ∙ ap (λ (ts : List A). behind front (sids_of (map f ts))) (drop_next texts i x lt at)
    ∙ sids_wrong front (f x) (map f (drop (i + 1) texts)) is

pub texts_end : {A : Type 0} (f : A → List ℕ) (texts : List A) (i : ℕ) (front : List SidValue)
    (all : Option (List SidValue))
    → length texts ≤ i → all ≡ behind front (sids_of (map f (drop i texts))) → all ≡ Some front
texts_end {A} f texts i front all le so = so ∙ at_drop_all (λ (ts : List A). behind front (sids_of (map f ts))) texts
    i le ∙ sids_end front
