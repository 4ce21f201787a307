use Rattle.std.proofs.Common.{Option, Some, None, ◌≡◌, refl}
use Rattle.ad_ids.specs.SidOfText.{sid_of_text}
use Rattle.ad_dir_objects.proofs.sid.of_text.Goals as goal

none_from : {A : Type 0} (o : Option A) → ((x : A) → o ≡ Some x → ⊥) → None ≡ o
none_from None no_value = refl
none_from (Some x) no_value = absurd (no_value x refl)

pub returns-in-Err : goal.returns-in-Err
returns-in-Err c = none_from (sid_of_text c.args.bytes.now)
    (λ sid e. let read = c.in-Err.ensures.only sid ((c.what_a_sid_s_text_spells.ensures sid c.args.bytes.now).0 e)
    in absurd cc)
