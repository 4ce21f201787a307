-- What is printed encodes the parts.
use Rattle.std.proofs.Common.{◌≡◌, ℕ, List, Option, Result, Ok, Err, IfOk, OnOk, rules, subst, sym}
use Rattle.ad_ids.specs.SidValue.{SidValue}
use Rattle.ad_sd.specs.declared.parts.Sd.{Sd}
use Rattle.ad_sd.specs.declared.parts.SdParts.{SdParts}
use Rattle.ad_sddl.specs.Grammar.{SpellsSddl}
use Rattle.ad_sddl.specs.Canonical.{canonical, all_parts, AreParts, IsEmpty}
use Rattle.ad_sddl.proofs.CanonicalText.{canonical_spelled}

pub printed : {T E : Type 0} (bytes : T → List ℕ) (r : Result T E) (p : SdParts) → IfOk r (λ t. bytes t ≡ canonical p)
    → OnOk r (AreParts p) → IfOk r (λ t. (IsEmpty p → ⊥) → (domain : Option SidValue) → SpellsSddl domain p (bytes t))
printed bytes (Ok t) p written are = λ some domain. subst (λ (text : List ℕ). SpellsSddl domain p text) (sym written)
    (canonical_spelled domain p are some)
printed bytes (Err e) p written are = search rules

none_missing : (sd : Sd) → IsEmpty (all_parts sd) → ⊥
none_missing sd empty = absurd cc

pub all_printed : {T E : Type 0} (bytes : T → List ℕ) (r : Result T E) (sd : Sd)
    → IfOk r (λ t. bytes t ≡ canonical (all_parts sd)) → OnOk r (AreParts (all_parts sd))
    → IfOk r (λ t. (domain : Option SidValue) → SpellsSddl domain (all_parts sd) (bytes t))
all_printed bytes (Ok t) sd written are = λ domain. subst (λ (text : List ℕ). SpellsSddl domain (all_parts sd) text)
    (sym written) (canonical_spelled domain (all_parts sd) are (none_missing sd))
all_printed bytes (Err e) sd written are = search rules
