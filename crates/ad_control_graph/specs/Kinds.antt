-- The table of kinds: of each, what leads from a node to an object, as `docs/profile/control.md` says it. A kind more
-- is a row more.
use Rattle.std.specs.Prelude.{ℕ, Bool, true, false, if◌then◌else◌, Option, Some, None, List, [], ◌∷◌, codes}
use Rattle.ad_acl.specs.Mask.{read_property}
use Rattle.ad_control_graph.specs.declared.kind.Kind.{Kind}
use Rattle.ad_control_graph.specs.declared.kind.Kind.TheVariants as kind

-- ---- what a row says

-- which objects a kind leads to
pub data Of : Type 0 where
  Each : Of
  TheRoot : Of
  -- with an identifier, and that count for access
  Groups : Of
  -- of a class that may have the attribute of this name
  Having : List ℕ → Of

-- One way: at an object that has a value of one of these attributes (or any, where none is named), who is allowed each
-- of these questions.
pub record Way : Type 0 where
  pub stored : List (List ℕ)
  pub asks : List (List ℕ)

-- An attribute of the object whose value is a descriptor, and the place of the right that it has to grant, or none
-- where any will do.
pub record Held : Type 0 where
  pub attr : List ℕ
  pub bit : Option ℕ

-- objects that lead there whoever controls them
pub data From : Type 0 where
  Nowhere : From
  TheRootItself : From
  -- the parent of an object that takes over entries
  ItsParent : From
  -- AdminSDHolder, of a protected object
  ItsHolder : From
  -- the policies that count for an account
  ItsPolicies : From
  -- the container above whose policies count for an account, for who is allowed this question there
  Above : List ℕ → From
  -- who has the identifier of the group
  ItsMembers : From

pub record Row : Type 0 where
  pub name : List ℕ
  pub of : Of
  pub ways : List Way
  pub held : List Held
  pub from : List From
  -- whether such an edge counts in the length of a chain
  pub counts : Bool

-- ---- words for rows

-- who is allowed the question
abbrev pub asked : List ℕ → Way
asked question = record { stored = []; asks = question ∷ [] }

-- the same at an object that has a value of one of these
abbrev pub asked_where : List (List ℕ) → List ℕ → Way
asked_where attrs question = record { stored = attrs; asks = question ∷ [] }

abbrev pub account : Of
account = Having (codes "unicodePwd")

-- ---- the table

unfoldable pub row : Kind → Row
row kind.Descriptor = record {
  name = codes "descriptor";
  of = Each;
  ways = asked (codes "WD") ∷ asked (codes "WO") ∷ [];
  held = [];
  from = [];
  counts = true;
}
row kind.Reset = record {
  name = codes "reset";
  of = account;
  ways = asked (codes "reset") ∷ [];
  held = [];
  from = [];
  counts = true;
}
row kind.Join = record {
  name = codes "join";
  of = Groups;
  ways = asked (codes "write:member") ∷ asked (codes "join") ∷ [];
  held = [];
  from = [];
  counts = true;
}
row kind.Key = record {
  name = codes "key";
  of = account;
  ways = asked (codes "write:msDS-KeyCredentialLink") ∷ asked (codes "write:altSecurityIdentities") ∷ [];
  held = [];
  from = [];
  counts = true;
}
row kind.Act = record {
  name = codes "act";
  of = Each;
  ways = asked (codes "write:msDS-AllowedToActOnBehalfOfOtherIdentity") ∷ [];
  held = record { attr = codes "msDS-AllowedToActOnBehalfOfOtherIdentity"; bit = None } ∷ [];
  from = [];
  counts = true;
}
row kind.Secret = record {
  name = codes "secret";
  of = Each;
  ways =
      asked_where (codes "ms-Mcs-AdmPwd" ∷ codes "ms-Mcs-AdmPwdExpirationTime" ∷ []) (codes "read:ms-Mcs-AdmPwd")
      ∷ asked_where (codes "msLAPS-Password" ∷ codes "msLAPS-PasswordExpirationTime" ∷ [])
      (codes "read:msLAPS-Password")
      ∷ asked_where (codes "msLAPS-EncryptedPassword" ∷ codes "msLAPS-PasswordExpirationTime" ∷ [])
      (codes "read:msLAPS-EncryptedPassword")
      ∷ [];
  held = record { attr = codes "msDS-GroupMSAMembership"; bit = Some read_property } ∷ [];
  from = [];
  counts = true;
}
row kind.Replicate = record {
  name = codes "replicate";
  of = TheRoot;
  ways = record {
    stored = [];
    asks = codes "CR:DS-Replication-Get-Changes" ∷ codes "CR:DS-Replication-Get-Changes-All" ∷ [];
  } ∷ [];
  held = [];
  from = [];
  counts = true;
}
row kind.All = record {
  name = codes "all";
  of = Each;
  ways = [];
  held = [];
  from = TheRootItself ∷ [];
  counts = true;
}
row kind.Child = record {
  name = codes "child";
  of = Each;
  ways = [];
  held = [];
  from = ItsParent ∷ [];
  counts = true;
}
row kind.Protect = record {
  name = codes "protect";
  of = Each;
  ways = [];
  held = [];
  from = ItsHolder ∷ [];
  counts = true;
}
row kind.Link = record {
  name = codes "link";
  of = account;
  ways = [];
  held = [];
  from = ItsPolicies ∷ Above (codes "write:gPLink") ∷ [];
  counts = true;
}
row kind.Member = record {
  name = codes "member";
  of = Groups;
  ways = [];
  held = [];
  from = ItsMembers ∷ [];
  counts = false;
}

-- what an edge of a kind adds to the length of a chain
abbrev pub cost : Kind → ℕ
cost kind = if (row kind).counts then 1 else 0

-- all kinds, in the order in which one is told of several that lead alike
abbrev pub kinds : List Kind
kinds =
    kind.Descriptor ∷ kind.Reset ∷ kind.Join ∷ kind.Key ∷ kind.Act ∷ kind.Secret ∷ kind.Replicate ∷ kind.All
    ∷ kind.Child ∷ kind.Protect ∷ kind.Link ∷ kind.Member ∷ []
