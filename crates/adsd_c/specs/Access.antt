-- The access check, asked for with bytes.
use Rattle.std.specs.Prelude.{◌≡◌, ◌⊎◌, ℕ, ◌<◌, ◌≤◌, ◌&&◌, false, Option, List, length, slice_index_or, Result, Ok, Err}
use Rattle.ad_bytes.specs.Reading.{◌>>=◌, or_fault}
use Rattle.ad_ids.specs.SidValue.{SidValue}
use Rattle.ad_ids.specs.declared.guid.Guid.{Guid}
use Rattle.ad_ids.specs.declared.token.Token.{Token}
use Rattle.ad_ids.specs.TokenReading.{token_of}
use Rattle.ad_acl.specs.Mask.{has_bit, mapped_has}
use Rattle.ad_sd.specs.declared.parts.Sd.{Sd}
use Rattle.ad_sd.specs.Reading.{sd_of}
use Rattle.ad_types.specs.declared.type_tree.Node.{Node}
use Rattle.ad_access.specs.Grant.{granted}
use Rattle.ad_access.specs.Tree.{node_granted}
use Rattle.ad_access.specs.Rights.{right_at}
use Rattle.adsd_c.specs.declared.refusal.Refusal.{Refusal}
use Rattle.adsd_c.specs.declared.refusal.Refusal.TheVariants as refusal
use Rattle.adsd_c.specs.declared.tree.TypeNode.{TypeNode}
use Rattle.adsd_c.specs.Refusal.{answered, no_memory, no_room, is_memory, code_of}
use Rattle.adsd_c.specs.Reading.{sid_if, path_of}
use Rattle.adsd_c.specs.Descriptors.{normal_sd}
use Rattle.adsd_c.specs.Tree.{nodes_of}

-- who asks, and the identifier that the object has of its own, if it has one
pub record Asker : Type 0 where
  pub token : Token
  pub own : Option SidValue

-- The token is all of its bytes; of an identifier that isn't given there are none.
unfoldable pub asker_of : List ℕ → List ℕ → Result Asker Refusal
asker_of token own = do
  who ← or_fault refusal.Token (token_of token)
  sid ← sid_if refusal.OwnSid own
  Ok (record { token = who; own = sid })

-- ---- on a path

pub record Question : Type 0 where
  pub sd : Sd
  pub asker : Asker
  pub path : List Guid

-- what is asked of a self-relative descriptor
unfoldable pub question_of : List ℕ → List ℕ → List ℕ → List ℕ → Result Question Refusal
question_of bytes token own path = do
  sd ← or_fault refusal.Sd (sd_of bytes)
  asker ← asker_of token own
  guids ← path_of path
  Ok (record { sd = sd; asker = asker; path = guids })

-- what is asked of a descriptor in its normal bytes
unfoldable pub normal_question : List ℕ → List ℕ → List ℕ → List ℕ → Result Question Refusal
normal_question bytes token own path = do
  sd ← normal_sd bytes
  asker ← asker_of token own
  guids ← path_of path
  Ok (record { sd = sd; asker = asker; path = guids })

-- the mask has the wanted rights, after generic mapping, that are granted
abbrev pub IsMask : ℕ → Question → ℕ → Type 0
IsMask want q mask = (bit : ℕ) → bit < 32 → has_bit mask bit
    ≡ (mapped_has want bit && granted q.sd.owner q.sd.dacl.entries q.asker.token q.asker.own q.path bit)

-- What a call found answers the question, or is its refusal, unless memory ran out.
abbrev pub Judges : ℕ → Result ℕ Refusal → Result Question Refusal → Type 0
Judges want (Ok mask) question = (q : Question) × (question ≡ Ok q) × IsMask want q mask
Judges want (Err fault) question = is_memory fault ≡ false → question ≡ Err fault

-- ---- at the nodes of a tree

pub record TreeQuestion : Type 0 where
  pub sd : Sd
  pub asker : Asker
  pub nodes : List Node

unfoldable pub tree_question : List ℕ → List ℕ → List ℕ → List TypeNode → Result TreeQuestion Refusal
tree_question bytes token own given = do
  sd ← or_fault refusal.Sd (sd_of bytes)
  asker ← asker_of token own
  nodes ← nodes_of given
  Ok (record { sd = sd; asker = asker; nodes = nodes })

-- at each node's place stand the wanted rights, after generic mapping, that are granted there
pub record AreMasks (want : ℕ) (q : TreeQuestion) (masks : List ℕ) : Type 0 where
  pub each : length q.nodes ≤ length masks
  pub bits : (place bit : ℕ) → place < length q.nodes → bit < 32 → right_at masks bit place
      ≡ (mapped_has want bit && node_granted q.sd q.asker.token q.asker.own q.nodes place bit)

abbrev pub JudgesEach : {X : Type 0} → (X → List ℕ) → ℕ → Result X Refusal → Result TreeQuestion Refusal → Type 0
JudgesEach view want (Ok masks) question =
    (q : TreeQuestion) × (question ≡ Ok q) × (length q.nodes ≡ length (view masks)) × AreMasks want q (view masks)
JudgesEach view want (Err fault) question = is_memory fault ≡ false → question ≡ Err fault

-- no right is given anywhere
abbrev pub AreNone : List ℕ → Type 0
AreNone masks = (place : ℕ) → slice_index_or masks place 0 ≡ 0

-- no right is given from a place on
abbrev pub AreNoneFrom : ℕ → List ℕ → Type 0
AreNoneFrom first masks = (place : ℕ) → first ≤ place → slice_index_or masks place 0 ≡ 0

-- Masks are put at the start, and after them no right is given; or none where there is too little room.
abbrev pub PutsEach : List ℕ → ℕ → List ℕ → Type 0
PutsEach found code masks =
    ((code ≡ answered) × (length found ≤ length masks)
    × ((place : ℕ) → place < length found → slice_index_or masks place 0 ≡ slice_index_or found place 0)
    × AreNoneFrom (length found) masks)
    ⊎ ((code ≡ no_room) × (length masks < length found) × AreNone masks)

-- The masks, and no right after them; with any code but that of an answer no right is given, as where there is room
-- for fewer masks than there are nodes.
abbrev pub TellsEach : ℕ → Result TreeQuestion Refusal → ℕ → List ℕ → Type 0
TellsEach want (Ok q) code masks =
    ((code ≡ answered) × AreMasks want q masks × AreNoneFrom (length q.nodes) masks)
    ⊎ ((code ≡ no_room) × (length masks < length q.nodes) × AreNone masks)
TellsEach want (Err fault) code masks = (code ≡ code_of fault) × AreNone masks

-- the answer, or that memory ran out
abbrev pub TellsEachUnless : ℕ → Result TreeQuestion Refusal → ℕ → List ℕ → Type 0
TellsEachUnless want question code masks = TellsEach want question code masks ⊎ ((code ≡ no_memory) × AreNone masks)
