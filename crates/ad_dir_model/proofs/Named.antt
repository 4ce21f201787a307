-- What a name leads to is there.
use Rattle.std.proofs.Common.{◌≡◌, ℕ, Bool, true, false, List, [], ◌∷◌, Option, Some, None, refl, sym, subst}
use Rattle.std.specs.Prelude.{◌&&◌, find, reverse, length, drop, if◌then◌else◌, IfSome}
use Rattle.std.proofs.lemmas.Bool.{and_parts}
use Rattle.std.proofs.lemmas.Option.{none-some, same_Some, cond_some, option_and_then_some}
use Rattle.ad_dn.specs.declared.rdn.Rdn.{Rdn}
use Rattle.ad_dir_model.specs.Object.{Object}
use Rattle.ad_dir_model.specs.Objects.{Rise, is_live}
use Rattle.ad_dir_model.specs.Tree.{root}
use Rattle.ad_dir_model.specs.Directory.{Directory}
use Rattle.ad_dir_model.specs.Names.{rdn_of, rdns_of, same_rdn, begins_with, is_child_named, child_named}
use Rattle.ad_dir_model.specs.Names.{number_if_typed, child_of_rdn, found_below, found_from_end, found}
use Rattle.ad_dir_model.proofs.Finding.{live-of, found_first}

child_live : (dir : Directory) (parent m : ℕ) (rdn : Rdn) → Rise dir.objects → child_of_rdn dir parent rdn ≡ Some m
    → is_live dir.objects m ≡ true
unfolding child_of_rdn child_named
child_live dir parent m rdn rise is =
    option_and_then_some (number_if_typed dir.schema rdn) (find (is_child_named parent rdn.value) dir.objects) m is
    (λ (o : Object) first typed.
    let number : o.number ≡ m = (cond_some (same_rdn (rdn_of dir.schema o) rdn) o.number m typed).1 in
    subst (λ (k : ℕ). is_live dir.objects k ≡ true) number
    (live-of dir.objects o.number o
    (found_first (is_child_named parent rdn.value) 0 dir.objects o rise first).live))

below_live : (dir : Directory) (n m : ℕ) (rdns : List Rdn) → Rise dir.objects → is_live dir.objects n ≡ true
    → found_below dir n rdns ≡ Some m → is_live dir.objects m ≡ true
unfolding found_below
below_live dir n m [] rise live is = subst (λ (k : ℕ). is_live dir.objects k ≡ true) (same_Some n m is) live
below_live dir n m (rdn ∷ rdns) rise live is =
    option_and_then_some (λ (child : ℕ). found_below dir child rdns) (child_of_rdn dir n rdn) m is
    (λ (child : ℕ) first rest.
    below_live dir child m rdns rise (child_live dir n child rdn rise first) rest)

-- the object of a name is live
pub found_live : (dir : Directory) (rdns : List Rdn) (m : ℕ) → Rise dir.objects → found dir rdns ≡ Some m
    → is_live dir.objects m ≡ true
unfolding found
found_live dir rdns m rise is = by_end (reverse (rdns_of dir root)) (reverse rdns) is
  where
    by_end : (top parts : List Rdn) → found_from_end dir top parts ≡ Some m → is_live dir.objects m ≡ true
    by_end top parts is' = by_test (is_live dir.objects root && begins_with parts top) refl is'
      where
        by_test : (b : Bool) → (is_live dir.objects root && begins_with parts top) ≡ b
            → (if b then found_below dir root (drop (length top) parts) else None) ≡ Some m
            → is_live dir.objects m ≡ true
        by_test true e is'' = below_live dir root m (drop (length top) parts) rise
            (and_parts (is_live dir.objects root) (begins_with parts top) e).0 is''
        by_test false e is'' = absurd (none-some m is'')

-- so is the one that was found, if one was
pub found_lives : (dir : Directory) (rdns : List Rdn) (r : Option ℕ) → Rise dir.objects → r ≡ found dir rdns
    → IfSome r (λ n. is_live dir.objects n ≡ true)
found_lives dir rdns None rise is = tt
found_lives dir rdns (Some n) rise is = found_live dir rdns n rise (sym is)
