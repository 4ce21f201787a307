-- Only for private contracts, invariants and proofs: the identifiers and nodes of identities, and where nodes stand.
use Rattle.std.specs.Prelude.{◌≡◌, ℕ, Option, Some, None, List, slice_get}
use Rattle.ad_ids.specs.SidValue.{SidValue}
use Rattle.ad_dir_model.specs.Directory.{Directory}
use Rattle.ad_identities.specs.declared.identity.Identity.{Identity}
use Rattle.ad_identities.specs.Identities.{AreIdentities}
use Rattle.ad_rights_rows.specs.Rows.{AreParties}
use Rattle.ad_rights_rows.specs.declared.parties.Parties.{Parties}
use Rattle.ad_control_graph.specs.declared.node.Node.{Node}
use Rattle.ad_control_graph.specs.declared.node.Node.TheVariants.{Object, Identifier}

-- ---- identities

abbrev pub lone_by : SidValue → Option ℕ → Option SidValue
lone_by sid None = Some sid
lone_by sid (Some number) = None

-- the identifier of one without a principal
abbrev pub lone_sid : Identity → Option SidValue
lone_sid identity = lone_by identity.sid identity.number

-- all identities of the directory, with their tokens
abbrev pub AreAll : Directory → Parties → Type 0
AreAll dir parties = (all : List Identity) × AreIdentities dir all × AreParties dir all parties.members.items
    parties.tokens.all.items parties.without.items

-- ---- where nodes stand

-- Of each number and each identifier the place of its node, by what is found of them.
pub record AreAt (nodes : List Node) (by_number : ℕ → Option ℕ) (by_sid : SidValue → Option ℕ) : Type 0 where
  pub objects : (number place : ℕ) → by_number number ≡ Some place → slice_get nodes place ≡ Some (Object number)
  pub each_object : (place number : ℕ) → slice_get nodes place ≡ Some (Object number)
      → (found : ℕ) × (by_number number ≡ Some found)
  pub sids : (sid : SidValue) (place : ℕ) → by_sid sid ≡ Some place → slice_get nodes place ≡ Some (Identifier sid)
  pub each_sid : (place : ℕ) (sid : SidValue) → slice_get nodes place ≡ Some (Identifier sid)
      → (found : ℕ) × (by_sid sid ≡ Some found)

abbrev pub place_by : (ℕ → Option ℕ) → (SidValue → Option ℕ) → SidValue → Option ℕ → Option ℕ
place_by by_number by_sid sid None = by_sid sid
place_by by_number by_sid sid (Some number) = by_number number

-- what is found of an identity
abbrev pub place_for : (ℕ → Option ℕ) → (SidValue → Option ℕ) → Identity → Option ℕ
place_for by_number by_sid identity = place_by by_number by_sid identity.sid identity.number

abbrev pub IsFound : (ℕ → Option ℕ) → (SidValue → Option ℕ) → Identity → Type 0
IsFound by_number by_sid identity = (place : ℕ) × (place_for by_number by_sid identity ≡ Some place)
