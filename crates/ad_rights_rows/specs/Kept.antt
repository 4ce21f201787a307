-- What is kept while objects are asked one after the other: who there is, and the sets that stand already.
use Rattle.std.specs.Prelude.{◌≡◌, ℕ, Bool, true, false, Some, List, map, slice_get}
use Rattle.std.specs.List.{All}
use Rattle.ad_ids.specs.declared.token.Token.{Token}
use Rattle.ad_dir_model.specs.Directory.{Directory}
use Rattle.ad_identities.specs.Identities.{IsIdentity}
use Rattle.ad_rights_judged.specs.Judged.{AreIndexed}
use Rattle.ad_rights_rows.specs.declared.parties.Parties.{Parties}
use Rattle.ad_rights_rows.specs.declared.bases.Ends.{Ends}

-- ---- parties

-- what is kept of them: an index over the tokens, and identities that are such
pub record AreKept (dir : Directory) (parties : Parties) : Type 0 where
  pub indexed : AreIndexed parties.tokens
  pub members : All (IsIdentity dir) parties.members.items
  pub without : All (IsIdentity dir) parties.without.items

-- ---- sets of tokens by a test

-- the set at a place is of the tokens that pass a test
abbrev pub IsSetOf : List (List Bool) → List Token → (Token → Bool) → ℕ → Type 0
IsSetOf sets tokens test place = slice_get sets place ≡ Some (map test tokens)

-- the sets of nobody and of everybody
pub record AreEnds (sets : List (List Bool)) (tokens : List Token) (ends : Ends) : Type 0 where
  pub nobody : IsSetOf sets tokens (λ token. false) ends.nobody
  pub everybody : IsSetOf sets tokens (λ token. true) ends.everybody
