-- What stands in both directories is live in both.
use Rattle.std.proofs.Common.{◌≡◌, ℕ, Bool, true, false, List, [], ◌∷◌, Option, Some, None, refl, subst}
use Rattle.std.specs.Prelude.{All, ◌&&◌, find, reverse, length, drop, if◌then◌else◌}
use Rattle.std.specs.List.{AllByRecursion}
use Rattle.std.proofs.lemmas.Bool.{and_parts}
use Rattle.std.proofs.lemmas.Option.{none-some, same_Some, cond_some, option_and_then_some}
use Rattle.std.proofs.lemmas.List.Elements.{All-append, All-nil, All-cons, All-from_recursion}
use Rattle.ad_dn.specs.declared.rdn.Rdn.{Rdn}
use Rattle.ad_dir_model.specs.Object.{Object}
use Rattle.ad_dir_model.specs.Objects.{Rise, numbers, is_live}
use Rattle.ad_dir_model.specs.Tree.{root}
use Rattle.ad_dir_model.specs.Directory.{Directory}
use Rattle.ad_dir_model.specs.Names.{rdn_of, rdns_of, same_rdn, begins_with, is_child_named, child_named}
use Rattle.ad_dir_model.specs.Names.{number_if_typed, child_of_rdn, found_below, found}
use Rattle.ad_dir_model.proofs.Finding.{live-of, found_first}
use Rattle.ad_dir_model.proofs.Counting.{all_numbers}
use Rattle.ad_both.specs.Both.{counterpart, with_other, both_among, objects_of_both}
use Rattle.ad_both.specs.Both.{IsLiveBoth}

-- ---- the object of a name is live

child_live : (dir : Directory) (parent m : ℕ) (rdn : Rdn) → Rise dir.objects → child_of_rdn dir parent rdn ≡ Some m
    → is_live dir.objects m ≡ true
unfolding child_of_rdn child_named
child_live dir parent m rdn rise is =
    option_and_then_some (number_if_typed dir.schema rdn) (find (is_child_named parent rdn.value) dir.objects) m is
    (λ (o : Object) first typed.
    let number : o.number ≡ m = (cond_some (same_rdn (rdn_of dir.schema o) rdn) o.number m typed).1 in
    subst (λ (k : ℕ). is_live dir.objects k ≡ true) number
    (live-of dir.objects o.number o
    (found_first (is_child_named parent rdn.value) 0 dir.objects o rise first).live))

below_live : (dir : Directory) (n m : ℕ) (rdns : List Rdn) → Rise dir.objects → is_live dir.objects n ≡ true
    → found_below dir n rdns ≡ Some m → is_live dir.objects m ≡ true
unfolding found_below
below_live dir n m [] rise live is = subst (λ (k : ℕ). is_live dir.objects k ≡ true) (same_Some n m is) live
below_live dir n m (rdn ∷ rdns) rise live is =
    option_and_then_some (λ (child : ℕ). found_below dir child rdns) (child_of_rdn dir n rdn) m is
    (λ (child : ℕ) first rest.
    below_live dir child m rdns rise (child_live dir n child rdn rise first) rest)

pub found_live : (dir : Directory) (rdns : List Rdn) (m : ℕ) → Rise dir.objects → found dir rdns ≡ Some m
    → is_live dir.objects m ≡ true
unfolding found
found_live dir rdns m rise is = by_test (reverse (rdns_of dir root)) (reverse rdns)
    (is_live dir.objects root && begins_with (reverse rdns) (reverse (rdns_of dir root))) refl is
  where
    by_test : (top parts : List Rdn) (b : Bool) → (is_live dir.objects root && begins_with parts top) ≡ b
        → (if b then found_below dir root (drop (length top) parts) else None) ≡ Some m → is_live dir.objects m ≡ true
    by_test top parts true e is' = below_live dir root m (drop (length top) parts) rise
        (and_parts (is_live dir.objects root) (begins_with parts top) e).0 is'
    by_test top parts false e is' = absurd (none-some m is')

-- ---- those of both

one_live : (before after : Directory) (number : ℕ) (other : Option ℕ) → Rise after.objects
    → is_live before.objects number ≡ true
    → counterpart before after number ≡ other → All (IsLiveBoth before after) (with_other number other)
unfolding counterpart
one_live before after number None rise live is = All-nil (IsLiveBoth before after)
one_live before after number (Some other) rise live is =
    All-cons (IsLiveBoth before after) (record { before = number; after = other }) []
    (record { first = live; second = found_live after (rdns_of before number) other rise is })
    (All-nil (IsLiveBoth before after))

among_live : (before after : Directory) (ns : List ℕ) → Rise after.objects
    → AllByRecursion (λ (n : ℕ). is_live before.objects n ≡ true) ns
    → All (IsLiveBoth before after) (both_among before after ns)
among_live before after [] rise live = All-nil (IsLiveBoth before after)
among_live before after (n ∷ ns) rise live =
    All-append (IsLiveBoth before after) (with_other n (counterpart before after n)) (both_among before after ns)
    (one_live before after n (counterpart before after n) rise live.0 refl)
    (among_live before after ns rise live.1)

pub all_live : (before after : Directory) → Rise after.objects
    → All (IsLiveBoth before after) (objects_of_both before after)
all_live before after rise = among_live before after (numbers before.objects) rise
    (all_numbers (λ (n : ℕ). is_live before.objects n ≡ true) before.objects (λ n live. live))

-- numbers of live objects
pub numbers_live : (dir : Directory) → All (λ (n : ℕ). is_live dir.objects n ≡ true) (numbers dir.objects)
numbers_live dir = All-from_recursion (λ (n : ℕ). is_live dir.objects n ≡ true) (numbers dir.objects)
    (all_numbers (λ (n : ℕ). is_live dir.objects n ≡ true) dir.objects (λ n live. live))
