-- Flags of principals, as they grow.
use Rattle.std.proofs.Common.{◌≡◌, ◌∙◌, ℕ, Bool, true, inl, inr, List, [], ◌∷◌, ◌++◌, length, sym, ap, subst, Some}
use Rattle.std.specs.Prelude.{slice_get}
use Rattle.std.proofs.lemmas.Option.{same_Some}
use Rattle.ad_dir_model.specs.Directory.{Directory}
use Rattle.ad_diff_rights.specs.declared.tokens.Party.{Party}
use Rattle.ad_diff_rights.specs.Same.{IsUnchangedParty, AreUnchangedParties}
use Rattle.ad_diff_rights.proofs.Lists.{last_cases}

-- one more flag
pub flagged_more : (before after : Directory) (parties : List Party) (old new : List Bool) (n : ℕ) (party : Party)
    (flag : Bool) → slice_get parties n ≡ Some party → length old ≡ n → new ≡ old ++ (flag ∷ [])
    → (flag ≡ true → IsUnchangedParty before after party) → AreUnchangedParties before after parties old
    → AreUnchangedParties before after parties new
flagged_more before after parties old new n party flag here count are unchanged all place other there set =
    elim (last_cases old flag true place (ap (λ (l : List Bool). slice_get l place) (sym are) ∙ set)) [
      | inl front ↦ all place other there front
      | inr last ↦ subst (IsUnchangedParty before after) (same_Some party other (sym here ∙ ap (slice_get parties)
          (sym (last.0 ∙ count)) ∙ there)) (unchanged last.1)
    ]
