-- What is known of sets, and whether a sign leaves nobody.
use Rattle.std.proofs.Common.{◌≡◌, ◌∙◌, ℕ, ◌<◌, Bool, true, false, not, ◌&&◌, ◌||◌, Option, Some, None, List, length}
use Rattle.std.proofs.Common.{refl, sym, ap, subst, arith}
use Rattle.std.specs.Prelude.{◌==◌, nat_lt, slice_get}
use Rattle.std.proofs.lemmas.Bool.{eq-eqb, false≢true}
use Rattle.std.proofs.lemmas.Bool.Decides.{nat_tests}
use Rattle.indexmap.specs.IndexMap.{IndexMap}
use Rattle.ad_sets.specs.declared.told.Sign.{Sign}
use Rattle.ad_sets.specs.declared.told.Sign.TheVariants.{Same, With, Without}
use Rattle.ad_sets.specs.Told.{stands_in, is_own, signed}
use Rattle.ad_sets.specs.Sets.{is_nobody, Keeps}
use Rattle.ad_rights_rows.specs.Steps.{is_added, IsFirst, AreFirsts, IsToldBy}
use Rattle.ad_rights_rows.proofs.Telling.{one_there}

-- ---- a sign

or_true : (b : Bool) → b || true ≡ true
or_true true = refl
or_true false = refl

pub added_there : (set whole : List Bool) (own : Option ℕ) (sign : Sign) → IsToldBy set own sign whole
    → is_added set own sign ≡ true → is_nobody whole ≡ false
added_there set whole None sign is added = absurd (false≢true added)
added_there set whole (Some own) Same is added = absurd (false≢true added)
added_there set whole (Some own) With is added =
    one_there whole own (sym (is.1 own) ∙ ap (λ (b : Bool). stands_in set own || b) (eq-eqb own own refl)
    ∙ or_true (stands_in set own))
added_there set whole (Some own) Without is added = absurd (false≢true added)

another : (own q size : ℕ) → nat_lt own size ≡ false → q < size → (own == q) ≡ false
another own q size beyond within = grind (arith, nat_tests)

pub none_before : (set : List Bool) (own : Option ℕ) (sign : Sign) (q : ℕ) → is_added set own sign ≡ false
    → q < length set → stands_in set q ≡ false → signed sign own q (stands_in set q) ≡ false
none_before set own Same q added within is = is
none_before set None With q added within is = ap (λ (b : Bool). b || false) is
none_before set (Some own) With q added within is =
    ap (λ (b : Bool). b || (own == q)) is ∙ another own q (length set) added within
none_before set own Without q added within is = ap (λ (b : Bool). b && not (is_own own q)) is

-- ---- what is known of sets

pub firsts_kept : {S : Type 0} (old new : List (List Bool)) (firsts : IndexMap ℕ ℕ S) → Keeps old new
    → AreFirsts old firsts → AreFirsts new firsts
firsts_kept old new firsts kept are = λ place first known.
    let was = are place first known in (was.0, kept place was.0 was.1, was.2)
