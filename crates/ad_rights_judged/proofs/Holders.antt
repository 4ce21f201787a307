-- For whom the own identifier of an object can count.
use Rattle.std.proofs.Common.{◌≡◌, ◌∙◌, ℕ, zero, suc, Bool, true, false, Option, Some, None, List, [], ◌∷◌, ◌++◌, sym, ap}
use Rattle.std.proofs.Common.{subst}
use Rattle.std.specs.Prelude.{slice_get}
use Rattle.std.specs.Option.{option_map_or}
use Rattle.std.proofs.lemmas.Option.{none-some, same_Some}
use Rattle.ad_ids.specs.SidValue.{SidValue}
use Rattle.ad_ids.specs.declared.token.Token.{Token}
use Rattle.ad_access.specs.Holder.{first_holder, holds}
use Rattle.ad_rights.specs.Holding.{listed, has, IsHoldingOf}
use Rattle.ad_rights.specs.Set.{IsBare, AreBare}
use Rattle.ad_rights.specs.declared.holding.Holding.{Holding}
use Rattle.ad_rights_judged.specs.Judged.{places_if}

abbrev held : SidValue → Option Token → Bool
held sid token = option_map_or (λ (t : Token). holds (first_holder t) sid) token false

-- a token at none of the places doesn't hold the identifier
pub not_held : (tokens : List Token) (holding : Holding) (self : Option SidValue) (place : ℕ) (token : Token)
    → IsHoldingOf tokens holding → slice_get tokens place ≡ Some token
    → has (places_if true (listed holding.holders) self) place ≡ false
    → (sid : SidValue) → self ≡ Some sid → holds (first_holder token) sid ≡ false
not_held tokens holding None place token index at none sid is = absurd (none-some sid is)
not_held tokens holding (Some own) place token index at none sid is =
    sym (ap (held sid) at)
    ∙ sym (index.holders sid place)
    ∙ ap (λ (s : SidValue). has (listed holding.holders s) place) (sym (same_Some own sid is))
    ∙ none

-- one token more that only allows
pub bare_more : (tokens : List Token) (token : Token) → AreBare tokens → IsBare token → AreBare (tokens ++ token ∷ [])
bare_more [] token all bare zero one at = subst IsBare (same_Some token one at) bare
bare_more [] token all bare (suc place) one at = absurd (none-some one at)
bare_more (t ∷ tokens) token all bare zero one at = all zero one at
bare_more (t ∷ tokens) token all bare (suc place) one at =
    bare_more tokens token (λ p. all (suc p)) bare place one at
