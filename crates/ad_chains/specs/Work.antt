-- Nodes that are marked one after the other.
use Rattle.std.specs.Prelude.{◌≡◌, ℕ, ◌+◌, ◌<◌, ◌≤◌, ◌⊎◌, Bool, is_some, if◌then◌else◌, List, [], ◌∷◌, ◌++◌, length}
use Rattle.std.specs.Prelude.{Option, Some, slice_get, slice_index}
use Rattle.std.specs.Option.{option_map_or}
use Rattle.std.specs.Global.{Vec}
use Rattle.ad_chains.specs.declared.edge.Edge.{Edge}
use Rattle.ad_chains.specs.declared.link.Link.{Link}
use Rattle.ad_chains.specs.Chain.{link_at}

-- both ends of each edge are among so many nodes
abbrev pub IsWithin : ℕ → List Edge → Type 0
IsWithin count edges = (place : ℕ) (edge : Edge) → slice_get edges place ≡ Some edge → (edge.from < count)
    × (edge.to < count)

-- all of these are below a number
abbrev pub AreWithin : ℕ → List ℕ → Type 0
AreWithin count list = (at : ℕ) → at < length list → slice_index list at < count

-- ---- the index

-- the places that stand in a row
abbrev pub listed : List (Vec ℕ) → ℕ → List ℕ
listed rows y = option_map_or (λ row. row.items) (slice_get rows y) []

-- a place is put at the end of a row
pub record Puts (rows : List (Vec ℕ)) (node place : ℕ) (new : List (Vec ℕ)) : Type 0 where
  pub long : length new ≡ length rows
  pub here : listed new node ≡ listed rows node ++ place ∷ []
  pub other : (y : ℕ) → (y ≡ node → ⊥) → listed new y ≡ listed rows y

-- Of the first n edges, the rows have of each node the places of those that lead to it.
pub record IsIndexSoFar (edges : List Edge) (n : ℕ) (rows : List (Vec ℕ)) : Type 0 where
  pub only : (y at : ℕ) → at < length (listed rows y) → (edge : Edge)
      × (slice_get edges (slice_index (listed rows y) at) ≡ Some edge) × (edge.to ≡ y)
  pub all : (place : ℕ) (edge : Edge) → place < n → slice_get edges place ≡ Some edge → (at : ℕ)
      × (at < length (listed rows edge.to)) × (slice_index (listed rows edge.to) at ≡ place)

abbrev pub IsIndexOf : List Edge → List (Vec ℕ) → Type 0
IsIndexOf edges rows = IsIndexSoFar edges (length edges) rows

-- ---- marks

-- how many nodes aren't marked
unfoldable pub free_count : List (Option Link) → ℕ
free_count [] = 0
free_count (link ∷ links) = (if is_some link then 0 else 1) + free_count links

-- Nodes were marked. Marks from before stand. Each new mark is one that was asked for, and its node stands in the
-- list after those from before, which has no others; as many were marked as stand there. Who was asked for is
-- marked.
pub record Marks (Asked : ℕ → Link → Type 0) (links : List (Option Link)) (list : List ℕ) (new : List (Option Link))
    (longer : List ℕ) : Type 0 where
  pub long : length new ≡ length links
  pub kept : (x : ℕ) (link : Link) → link_at links x ≡ Some link → link_at new x ≡ Some link
  pub fresh : (x : ℕ) (link : Link) → link_at new x ≡ Some link → (link_at links x ≡ Some link) ⊎ (Asked x link
      × ((at : ℕ) × (at < length longer) × (slice_index longer at ≡ x)))
  pub all : (x : ℕ) (link : Link) → Asked x link → (found : Link) × (link_at new x ≡ Some found)
  pub grows : length list ≤ length longer
  pub same : (at : ℕ) → at < length list → slice_index longer at ≡ slice_index list at
  pub each : (at : ℕ) → length list ≤ at → at < length longer → (link : Link) × Asked (slice_index longer at) link
      × (link_at new (slice_index longer at) ≡ Some link)
  pub fewer : free_count new + length longer ≡ free_count links + length list

-- this mark of this node
abbrev pub IsThis : ℕ → Link → ℕ → Link → Type 0
IsThis node mark x link = (x ≡ node) × (link ≡ mark)

-- The mark of a node that the edge at a place asks for: the node where it begins.
pub record IsBy (edges : List Edge) (place : ℕ) (counts : Bool) (long x : ℕ) (link : Link) : Type 0 where
  pub edge : Edge
  pub is : slice_get edges place ≡ Some edge
  pub counted : edge.counts ≡ counts
  pub from : edge.from ≡ x
  pub mark : link ≡ record { length = long; step = Some place }

-- that one of the first n places asks for
abbrev pub IsListed : List Edge → List ℕ → ℕ → Bool → ℕ → ℕ → Link → Type 0
IsListed edges places n counts long x link = (at : ℕ) × (at < n) × IsBy edges (slice_index places at) counts long x link

-- that an edge which leads to a node asks for
pub record IsInto (edges : List Edge) (node : ℕ) (counts : Bool) (long x : ℕ) (link : Link) : Type 0 where
  pub place : ℕ
  pub edge : Edge
  pub is : slice_get edges place ≡ Some edge
  pub to : edge.to ≡ node
  pub counted : edge.counts ≡ counts
  pub from : edge.from ≡ x
  pub mark : link ≡ record { length = long; step = Some place }

-- that an edge which leads to one of the first n nodes of a list asks for
abbrev pub IsIntoOf : List Edge → List ℕ → ℕ → Bool → ℕ → ℕ → Link → Type 0
IsIntoOf edges frontier n counts long x link = (at : ℕ) × (at < n)
    × IsInto edges (slice_index frontier at) counts long x link
