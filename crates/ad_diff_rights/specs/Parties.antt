-- Principals of both directories with the tokens that each gives them, and why there are none.
use Rattle.std.specs.Prelude.{◌≡◌, ◌⊎◌, ℕ, true, List, [], ◌∷◌}
use Rattle.ad_ids.specs.declared.token.Token.{Token}
use Rattle.ad_dir_model.specs.Directory.{Directory}
use Rattle.ad_dir_model.specs.Objects.{is_live}
use Rattle.ad_principals.specs.Tokens.{IsTokenOf, HasTooManyGroups}
use Rattle.ad_both.specs.declared.both.Both.{Both}
use Rattle.ad_diff_rights.specs.declared.tokens.Party.{Party}
use Rattle.ad_diff_rights.specs.declared.tokens.DiffFault.{DiffFault}
use Rattle.ad_diff_rights.specs.declared.tokens.DiffFault.TheVariants.{Before, After, Memory}

-- a principal with the tokens that the directories give it
pub record IsParty (before after : Directory) (party : Party) : Type 0 where
  pub was : IsTokenOf before party.both.before [] party.was
  pub is : IsTokenOf after party.both.after [] party.is

-- ---- why there are none

abbrev pub HasToken : Directory → ℕ → Type 0
HasToken dir number = (token : Token) × IsTokenOf dir number [] token

-- Of the first of these principals that has no token: it has too many groups in the first directory, or has a token
-- there and too many in the second.
abbrev pub IsRefused : Directory → Directory → List Both → DiffFault → Type 0
IsRefused before after [] fault = ⊥
IsRefused before after (p ∷ others) fault =
    ((fault ≡ Before p.before) × HasTooManyGroups before p.before [])
    ⊎ (HasToken before p.before
    × (((fault ≡ After p.after) × HasTooManyGroups after p.after [])
    ⊎ (HasToken after p.after × IsRefused before after others fault)))

-- the fault is this one's, where the principal has too many groups
abbrev pub IsNoToken : Directory → ℕ → DiffFault → DiffFault → Type 0
IsNoToken dir principal own fault = (fault ≡ Memory) ⊎ ((fault ≡ own) × HasTooManyGroups dir principal [])

-- of the tokens of a list of principals
abbrev pub AreNoParties : Directory → Directory → List Both → DiffFault → Type 0
AreNoParties before after principals fault = (fault ≡ Memory) ⊎ IsRefused before after principals fault

-- the principal of a fault is live
abbrev pub IsOfLive : Directory → Directory → DiffFault → Type 0
IsOfLive before after (Before number) = is_live before.objects number ≡ true
IsOfLive before after (After number) = is_live after.objects number ≡ true
IsOfLive before after Memory = Unit {0}
