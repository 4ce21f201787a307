-- What `adsd access` is asked, and the bytes of the question.
use Rattle.std.specs.Prelude.{◌≡◌, ℕ, ◌≤◌, List, ◌++◌, length}
use Rattle.ad_bytes.specs.Reading.{StartsWith}
use Rattle.ad_bytes.specs.Numbers.{be_bytes, SpellsBe}
use Rattle.ad_ids.specs.declared.token.Token.{Token}
use Rattle.ad_ids.specs.SidValue.{SidValue}
use Rattle.ad_ids.specs.Sid.{SpellsSid}
use Rattle.ad_ids.specs.Token.{SpellsToken}
use Rattle.ad_acl.specs.Entry.{Entry}
use Rattle.ad_acl.specs.Acl.{SpellsList}

-- who asks, whose the object is, what its DACL has, and which rights are wanted
pub record Question : Type 0 where
  pub token : Token
  pub owner : SidValue
  pub dacl : List Entry
  pub want : ℕ

-- the most bytes of a token
abbrev pub max_token : ℕ
max_token = 262144

-- The length of the token in four bytes, the most significant first, and at most that; the token; the owner's
-- identifier; the list; the wanted rights in four bytes, the most significant first; and nothing after them.
pub record SpellsQuestion (q : Question) (text : List ℕ) : Type 0 where
  pub token : List ℕ
  pub others : List ℕ
  pub token_fits : length token ≤ max_token
  pub token_is : SpellsToken q.token token
  pub others_are : StartsWith SpellsSid q.owner (StartsWith SpellsList q.dacl (SpellsBe 4 q.want)) others
  pub parts : text ≡ be_bytes 4 (length token) ++ (token ++ others)
