-- One right that is asked for alone.
use Rattle.std.proofs.Common.{◌≡◌, ℕ, ◌^◌, ◌<◌, Bool, true, not, ◌&&◌, nat_eq, ap, ◌∙◌}
use Rattle.std.specs.Prelude.{bit_and}
use Rattle.ad_acl.specs.Mask.{has_bit, mapped_has}
use Rattle.ad_acl.proofs.MaskLaws.{masked}

pub asked_alone : (answer mask place : ℕ) (granted : ℕ → Bool) → mask ≡ 2 ^ place → place < 32 → mapped_has mask place
    ≡ true → ((bit : ℕ) → bit < 32 → has_bit answer bit ≡ mapped_has mask bit && granted bit)
    → not (nat_eq (bit_and answer mask) 0) ≡ granted place
asked_alone answer mask place granted is lt has bits =
    ap (λ (m : ℕ). not (nat_eq (bit_and answer m) 0)) is
    ∙ masked answer place
    ∙ bits place lt
    ∙ ap (λ (b : Bool). b && granted place) has

-- one of several rights that are asked for together
pub asked_among : (answer mask place : ℕ) (granted : ℕ → Bool) → place < 32 → mapped_has mask place ≡ true
    → ((bit : ℕ) → bit < 32 → has_bit answer bit ≡ mapped_has mask bit && granted bit)
    → not (nat_eq (bit_and answer (2 ^ place)) 0) ≡ granted place
asked_among answer mask place granted lt has bits =
    masked answer place ∙ bits place lt ∙ ap (λ (b : Bool). b && granted place) has
