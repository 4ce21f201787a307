-- The tokens of connections.
use Rattle.std.specs.Prelude.{ℕ, zero, suc, Option, Some, None, unwrap_or, List, [], ◌∷◌, slice_get}
use Rattle.ad_ids.specs.SidValue.{SidValue}
use Rattle.ad_ids.specs.WellKnown.{everyone}
use Rattle.ad_ids.specs.declared.token.Token.{Token}

-- ---- a connection without a token

-- S-1-5-7
abbrev pub anonymous : SidValue
anonymous = record { authority = 5; sub_authorities = 7 ∷ [] }

-- no privilege, the anonymous user as user and owner, and everyone as primary and only group
abbrev pub anonymous_token : Token
anonymous_token = record {
  version = 1;
  privileges = 0;
  user = anonymous;
  owner = anonymous;
  primary = everyone;
  groups = everyone ∷ [];
  deny_only = [];
  restricting = [];
}

-- ---- tokens by connection, from connection 0 on; after the end of the list no connection has one

unfoldable pub token_of : List (Option Token) → ℕ → Token
token_of tokens connection = unwrap_or (unwrap_or (slice_get tokens connection) None) anonymous_token

-- the connection has this token, whatever it had before
unfoldable pub with_token : ℕ → Token → List (Option Token) → List (Option Token)
with_token zero token [] = Some token ∷ []
with_token zero token (_ ∷ others) = Some token ∷ others
with_token (suc n) token [] = None ∷ with_token n token []
with_token (suc n) token (first ∷ others) = first ∷ with_token n token others

-- the connection has none
unfoldable pub without_token : ℕ → List (Option Token) → List (Option Token)
without_token n [] = []
without_token zero (_ ∷ others) = None ∷ others
without_token (suc n) (first ∷ others) = first ∷ without_token n others
