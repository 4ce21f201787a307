-- Lists in which less grants more.
use Rattle.std.specs.Prelude.{ℕ, None, List, [], ◌∷◌}
use Rattle.ad_ids.specs.SidValue.{SidValue}
use Rattle.ad_ids.specs.declared.token.Token.{Token}
use Rattle.ad_acl.specs.declared.kind.AceKind.{AceKind}
use Rattle.ad_acl.specs.Entry.{Entry}

-- a user and a group of some domain
abbrev pub a_user : SidValue
a_user = record { authority = 5; sub_authorities = 21 ∷ 1 ∷ 2 ∷ 3 ∷ 1001 ∷ [] }

abbrev pub a_group : SidValue
a_group = record { authority = 5; sub_authorities = 21 ∷ 1 ∷ 2 ∷ 3 ∷ 1002 ∷ [] }

-- the user's token with these groups, and no privilege
abbrev pub user_token : List SidValue → Token
user_token groups = record {
  version = 1;
  privileges = 0;
  user = a_user;
  owner = a_user;
  primary = a_group;
  groups = groups;
  deny_only = [];
  restricting = [];
}

-- to read properties (0x10), to the identifier, with these flags
abbrev pub an_entry : AceKind → ℕ → SidValue → Entry
an_entry kind flags sid = record {
  kind = kind;
  flags = flags;
  mask = 16;
  object = None;
  inherited = None;
  sid = sid;
}
