-- In a sound directory each object is the one of its own name.
use Rattle.std.proofs.Common.{◌≡◌, ℕ, true, List, [], ◌∷◌, Option, Some, refl, sym, subst}
use Rattle.std.specs.Prelude.{All}
use Rattle.std.specs.List.{AllByRecursion}
use Rattle.std.proofs.lemmas.List.Elements.{All-append, All-nil, All-cons}
use Rattle.ad_dir_model.specs.Objects.{numbers, is_live}
use Rattle.ad_dir_model.specs.Directory.{Directory}
use Rattle.ad_dir_model.specs.Soundness.{IsSound}
use Rattle.ad_dir_model.proofs.Counting.{all_numbers}
use Rattle.ad_dir_model.proofs.Naming.{named_found}
use Rattle.ad_both.specs.declared.both.Both.{Both}
use Rattle.ad_both.specs.Both.{counterpart, both, with_other, both_among, objects_of_both}

pub itself : (dir : Directory) (n : ℕ) → IsSound dir → is_live dir.objects n ≡ true → counterpart dir dir n ≡ Some n
unfolding counterpart
itself dir n sound live = named_found dir n sound live

abbrev pub IsOne : Both → Type 0
IsOne o = o.before ≡ o.after

one_same : (n : ℕ) (other : Option ℕ) → other ≡ Some n → All IsOne (with_other n other)
one_same n other is =
    subst (λ (o : Option ℕ). All IsOne (with_other n o)) (sym is) (All-cons IsOne (both n n) [] refl (All-nil IsOne))

among_same : (dir : Directory) (ns : List ℕ) → IsSound dir
    → AllByRecursion (λ (n : ℕ). is_live dir.objects n ≡ true) ns → All IsOne (both_among dir dir ns)
among_same dir [] sound live = All-nil IsOne
among_same dir (n ∷ ns) sound live =
    All-append IsOne (with_other n (counterpart dir dir n)) (both_among dir dir ns)
    (one_same n (counterpart dir dir n) (itself dir n sound live.0)) (among_same dir ns sound live.1)

pub same_both : (dir : Directory) → IsSound dir → All IsOne (objects_of_both dir dir)
same_both dir sound = among_same dir (numbers dir.objects) sound
    (all_numbers (λ (n : ℕ). is_live dir.objects n ≡ true) dir.objects (λ n live. live))
