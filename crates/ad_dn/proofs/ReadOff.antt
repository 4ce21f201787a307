-- The name that is read off a text is the one that the text encodes.
use Rattle.std.proofs.Common.{◌≡◌, Option, Some, None, List, ℕ, ap, ◌∙◌, refl}
use Rattle.std.specs.Prelude.{option_and_then}
use Rattle.std.proofs.lemmas.Option.{option_and_then_some}
use Rattle.ad_bytes.specs.Machine.{run}
use Rattle.ad_dn.specs.declared.rdn.Dn.{Dn}
use Rattle.ad_dn.specs.Grammar.{SpellsDn}
use Rattle.ad_dn.specs.Steps.{step, start}
use Rattle.ad_dn.specs.Reading.{finished_name, dn_of}
use Rattle.ad_dn.proofs.Ends.{reads_names}

pub dn_read : (text : List ℕ) (dn : Dn) → dn_of text ≡ Some dn → SpellsDn dn text
unfolding dn_of
dn_read text dn e = option_and_then_some finished_name (run step (Some start) text) dn e
    (λ last steps whole. reads_names.found last text dn steps whole)

pub dn_again : (text : List ℕ) (dn : Dn) → SpellsDn dn text → dn_of text ≡ Some dn
unfolding dn_of
dn_again text dn s = let f = reads_names.read dn text s in ap (option_and_then finished_name) f.steps ∙ f.whole

none_of : {A : Type 0} (o : Option A) → ((x : A) → o ≡ Some x → ⊥) → o ≡ None
none_of None n = refl
none_of (Some x) n = absurd (n x refl)

-- where the text encodes none, none is read off it
pub dn_none : (text : List ℕ) → ((dn : Dn) → SpellsDn dn text → ⊥) → dn_of text ≡ None
dn_none text n = none_of (dn_of text) (λ dn e. n dn (dn_read text dn e))
