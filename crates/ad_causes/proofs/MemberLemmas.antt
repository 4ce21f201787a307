-- Members are live.
use Rattle.std.proofs.Common.{◌≡◌, ℕ, Bool, true, false, List, [], ◌∷◌, ◌++◌, refl}
use Rattle.std.specs.Prelude.{All, if◌then◌else◌}
use Rattle.std.specs.List.{AllByRecursion, flat_map}
use Rattle.std.proofs.lemmas.List.Elements.{All-from_recursion}
use Rattle.ad_dir_model.specs.Directory.{Directory}
use Rattle.ad_dir_model.specs.Object.{Stored, plain, link}
use Rattle.ad_dir_model.specs.Objects.{is_live}
use Rattle.ad_causes.specs.Members.{member_values, member_in, members_of}

abbrev pub AreLive : Directory → List ℕ → Type 0
AreLive dir numbers = AllByRecursion (λ (n : ℕ). is_live dir.objects n ≡ true) numbers

both_live : (dir : Directory) (a b : List ℕ) → AreLive dir a → AreLive dir b → AreLive dir (a ++ b)
both_live dir [] b p q = q
both_live dir (x ∷ a) b p q = (p.0, both_live dir a b p.1 q)

one_live : (dir : Directory) (value : Stored) → AreLive dir (member_in dir value)
one_live dir (plain value) = tt
one_live dir (link number) = by (is_live dir.objects number) refl
  where
    by : (t : Bool) → is_live dir.objects number ≡ t → AreLive dir (if t then number ∷ [] else [])
    by true e = (e, tt)
    by false e = tt

among_live : (dir : Directory) (values : List Stored) → AreLive dir (flat_map (member_in dir) values)
among_live dir [] = tt
among_live dir (value ∷ values) = both_live dir (member_in dir value) (flat_map (member_in dir) values)
    (one_live dir value) (among_live dir values)

pub live_by_recursion : (dir : Directory) (number : ℕ) → AreLive dir (members_of dir number)
unfolding members_of
live_by_recursion dir number = among_live dir (member_values dir number)

pub members_live : (dir : Directory) (number : ℕ)
    → All (λ (n : ℕ). is_live dir.objects n ≡ true) (members_of dir number)
members_live dir number = All-from_recursion (λ (n : ℕ). is_live dir.objects n ≡ true) (members_of dir number)
    (live_by_recursion dir number)
