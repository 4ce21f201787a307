-- Where no object has a name, none has one below it.
use Rattle.std.proofs.Common.{◌≡◌, ℕ, suc, ◌<◌, ◌≤◌, Bool, true, false, ◌&&◌, List, [], ◌∷◌, ◌++◌, length, drop}
use Rattle.std.proofs.Common.{reverse, Option, Some, None, refl, sym, ap, ◌∙◌, arith}
use Rattle.std.specs.Prelude.{if◌then◌else◌}
use Rattle.std.specs.Option.{option_and_then}
use Rattle.std.proofs.lemmas.Option.{none-some}
use Rattle.std.proofs.lemmas.List.{reverse-append, length-reverse, drop-append-le}
use Rattle.ad_dn.specs.declared.rdn.Rdn.{Rdn}
use Rattle.ad_dir_model.specs.Objects.{is_live}
use Rattle.ad_dir_model.specs.Tree.{root}
use Rattle.ad_dir_model.specs.Directory.{Directory}
use Rattle.ad_dir_model.specs.Names.{rdns_within, rdns_of, same_rdn, begins_with, child_of_rdn, found_below}
use Rattle.ad_dir_model.specs.Names.{found_from_end, found}

-- ---- names from their end

and_false : (b : Bool) → (b && false) ≡ false
and_false true = refl
and_false false = refl

begins_short : (parts top : List Rdn) → length parts < length top → begins_with parts top ≡ false
unfolding begins_with
begins_short parts [] lt = absurd (omega (arith, lt))
begins_short [] (b ∷ bs) lt = refl
begins_short (a ∷ as') (b ∷ bs) lt = ap (λ (t : Bool). same_rdn a b && t) (begins_short as' bs (omega (arith, lt)))
    ∙ and_false (same_rdn a b)

-- one part more changes nothing of how a name begins that is no shorter
begins_more : (parts top : List Rdn) (rdn : Rdn) → length top ≤ length parts → begins_with (parts ++ rdn ∷ []) top
    ≡ begins_with parts top
unfolding begins_with
begins_more parts [] rdn le = refl
begins_more [] (b ∷ bs) rdn le = absurd (omega (arith, le))
begins_more (a ∷ as') (b ∷ bs) rdn le = ap (λ (t : Bool). same_rdn a b && t)
    (begins_more as' bs rdn (omega (arith, le)))

below_none : (dir : Directory) (n : ℕ) (rdns : List Rdn) (rdn : Rdn) → found_below dir n rdns ≡ None
    → found_below dir n (rdns ++ rdn ∷ []) ≡ None
unfolding found_below
below_none dir n [] rdn none = absurd (none-some n (sym none))
below_none dir n (first ∷ rest) rdn none = by_child (child_of_rdn dir n first) (λ k. below_none dir k rest rdn) none
  where
    by_child : (child : Option ℕ) → ((k : ℕ) → found_below dir k rest ≡ None → found_below dir k (rest ++ rdn ∷ [])
        ≡ None)
        → option_and_then (λ (k : ℕ). found_below dir k rest) child ≡ None
        → option_and_then (λ (k : ℕ). found_below dir k (rest ++ rdn ∷ [])) child ≡ None
    by_child None again is = refl
    by_child (Some k) again is = again k is

from_end_none : (dir : Directory) (top parts : List Rdn) (rdn : Rdn) → length top ≤ length parts
    → found_from_end dir top parts ≡ None → found_from_end dir top (parts ++ rdn ∷ []) ≡ None
from_end_none dir top parts rdn le none =
    ap (λ (b : Bool). if is_live dir.objects root && b then found_below dir root
    (drop (length top) (parts ++ rdn ∷ [])) else None) (begins_more parts top rdn le)
    ∙ ap (λ (rest : List Rdn). if is_live dir.objects root && begins_with parts top then found_below dir root rest
    else None) (drop-append-le (length top) parts (rdn ∷ []) le)
    ∙ by_test (is_live dir.objects root && begins_with parts top) none
  where
    by_test : (b : Bool) → (if b then found_below dir root (drop (length top) parts) else None) ≡ None
        → (if b then found_below dir root (drop (length top) parts ++ rdn ∷ []) else None) ≡ None
    by_test true is = below_none dir root (drop (length top) parts) rdn is
    by_test false is = refl

-- ---- names

top_length : (dir : Directory) → length (reverse (rdns_of dir root)) ≡ suc (length dir.meta.suffix)
unfolding rdns_of rdns_within
top_length dir = length-reverse (rdns_of dir root)

-- a name that is shorter than the root's leads nowhere
pub found_short : (dir : Directory) (rdns : List Rdn) → length rdns ≤ length dir.meta.suffix → found dir rdns ≡ None
unfolding found
found_short dir rdns le =
    let top = reverse (rdns_of dir root) in
    let shorter : length (reverse rdns) < length top = omega (arith, length-reverse rdns, top_length dir, le) in
    ap (λ (b : Bool). if is_live dir.objects root && b then found_below dir root (drop (length top) (reverse rdns))
    else None) (begins_short (reverse rdns) top shorter)
    ∙ ap (λ (b : Bool). if b then found_below dir root (drop (length top) (reverse rdns)) else None)
    (and_false (is_live dir.objects root))

-- nor does a name below one that leads nowhere and is as long as the root's
pub found_none : (dir : Directory) (rdn : Rdn) (rdns : List Rdn) → length dir.meta.suffix < length rdns → found dir rdns
    ≡ None → found dir (rdn ∷ rdns) ≡ None
unfolding found
found_none dir rdn rdns lt none =
    let top = reverse (rdns_of dir root) in
    let le : length top ≤ length (reverse rdns) = omega (arith, length-reverse rdns, top_length dir, lt) in
    ap (found_from_end dir top) (reverse-append (rdn ∷ []) rdns) ∙ from_end_none dir top (reverse rdns) rdn le none
