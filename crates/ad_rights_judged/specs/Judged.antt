-- Sets of tokens on the objects of a directory: who is granted a right, were it not for the own identifiers of objects.
use Rattle.std.specs.Prelude.{◌≡◌, ℕ, true, false, Bool, Option, None, Some, List, [], slice_get, map}
use Rattle.std.specs.List.{list_any, All}
use Rattle.ad_ids.specs.SidValue.{SidValue}
use Rattle.ad_ids.specs.declared.guid.Guid.{Guid}
use Rattle.ad_ids.specs.declared.token.Token.{Token}
use Rattle.ad_types.specs.Path.{guids_of}
use Rattle.ad_access.specs.Grant.{granted}
use Rattle.ad_rights.specs.Holding.{IsHoldingOf}
use Rattle.ad_rights.specs.Set.{AreBare, is_for_self}
use Rattle.ad_sets.specs.Sets.{sets_of, IsJoined}
use Rattle.ad_dir_model.specs.Objects.{is_live, sd_at}
use Rattle.ad_dir_model.specs.Identity.{self_sid}
use Rattle.ad_dir_model.specs.Directory.{Directory}
use Rattle.ad_rights_judged.specs.declared.tokens.Tokens.{Tokens}
use Rattle.ad_rights_judged.specs.declared.bases.Base.{Base}
use Rattle.ad_rights_judged.specs.declared.joins.Join.{Join}
use Rattle.ad_rights_judged.specs.declared.judged.Judged.{Judged}

-- ---- who is granted

-- the right is granted to the token on the object, if the object had no identifier
unfoldable pub is_granted_apart : Directory → Token → ℕ → List Guid → ℕ → Bool
is_granted_apart dir token number path bit =
    let sd = sd_at dir.objects number in
    granted sd.owner sd.dacl.entries token None path bit

-- the set of the tokens to which it is
abbrev pub set_apart : Directory → List Token → ℕ → List Guid → ℕ → List Bool
set_apart dir tokens number path bit = map (λ token. is_granted_apart dir token number path bit) tokens

-- ---- the own identifier of an object

-- the places of the tokens that hold it, where an entry is for the object itself
abbrev pub places_if : Bool → (SidValue → List ℕ) → Option SidValue → List ℕ
places_if false holders self = []
places_if true holders None = []
places_if true holders (Some sid) = holders sid

unfoldable pub own_places : Directory → (SidValue → List ℕ) → ℕ → List ℕ
own_places dir holders number =
    places_if (list_any is_for_self (sd_at dir.objects number).dacl.entries) holders (self_sid dir number)

-- ---- what is kept

-- the index is of the tokens that are kept, and these only allow
pub record AreIndexed (tokens : Tokens) : Type 0 where
  pub index : IsHoldingOf tokens.all.items tokens.holding
  pub bare : AreBare tokens.all.items

-- a set stands at the place of what was judged
pub record IsBase (dir : Directory) (tokens : List Token) (sets : List (List Bool)) (base : Base) : Type 0 where
  pub live : is_live dir.objects base.object ≡ true
  pub set_is : slice_get sets base.place ≡ Some (set_apart dir tokens base.object (guids_of base.path) base.bit)

-- two sets were joined to the one at the place
pub record IsJoin (sets : List (List Bool)) (join : Join) : Type 0 where
  pub first : List Bool
  pub second : List Bool
  pub joined : List Bool
  pub first_is : slice_get sets join.first ≡ Some first
  pub second_is : slice_get sets join.second ≡ Some second
  pub joined_is : slice_get sets join.place ≡ Some joined
  pub are : IsJoined join.both first second joined

-- each that is kept is right
pub record AreJudged (dir : Directory) (tokens : List Token) (judged : Judged) : Type 0 where
  pub bases : All (IsBase dir tokens (sets_of judged.sets)) judged.bases.known.items
  pub joins : All (IsJoin (sets_of judged.sets)) judged.joins.known.items

-- the set at a place, of two that are joined
abbrev pub IsJoinOf : List (List Bool) → List (List Bool) → Bool → ℕ → ℕ → ℕ → Type 0
IsJoinOf old new both first second place = (a b : List Bool) → slice_get old first ≡ Some a → slice_get old second ≡ Some b
    → (c : List Bool) × (slice_get new place ≡ Some c) × IsJoined both a b c
