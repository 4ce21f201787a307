-- Which links are in force.
use Rattle.std.specs.Prelude.{◌≡◌, ℕ, Bool, true, false, List, pos, negsuc, refl}
use Rattle.ad_value.specs.declared.value.Key.TheVariants as key
use Rattle.ad_policies.specs.Policies.{is_in_force, is_odd}
use Rattle.ad_policies.specs.examples.Links.{link}

-- a link counts where no container below blocks
counts : (name : List ℕ) → is_in_force false (link name false false) ≡ true
counts name = refl

-- where one does, only a link that is enforced
blocked : (name : List ℕ) → is_in_force true (link name false false) ≡ false
blocked name = refl

enforced : (name : List ℕ) → is_in_force true (link name false true) ≡ true
enforced name = refl

-- one that is disabled never
disabled : (name : List ℕ) (enforced' : Bool) → is_in_force false (link name true enforced') ≡ false
disabled name enforced' = refl

-- gPOptions 1 blocks, and with other bits too; 0, an even number and one below 0 don't
one : is_odd (key.Number (pos 1)) ≡ true
one = refl

three : is_odd (key.Number (pos 3)) ≡ true
three = refl

none_set : is_odd (key.Number (pos 0)) ≡ false
none_set = refl

two : is_odd (key.Number (pos 2)) ≡ false
two = refl

negative : is_odd (key.Number (negsuc 0)) ≡ false
negative = refl
