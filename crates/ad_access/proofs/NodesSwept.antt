-- A sweep over the entries, at all nodes of a tree.
use Rattle.std.proofs.Common.{◌≡◌, ℕ, ◌<◌, Bool, true, false, not, ◌&&◌, ◌||◌, Option, List, [], ◌∷◌, length}
use Rattle.std.proofs.Common.{replicate, refl, sym, ap, ◌∙◌, subst}
use Rattle.std.proofs.lemmas.List.{get_or-replicate, length-replicate}
use Rattle.ad_ids.specs.SidValue.{SidValue}
use Rattle.ad_acl.specs.Entry.{Entry}
use Rattle.ad_acl.specs.Mask.{has_bit, mapped_has}
use Rattle.ad_acl.proofs.MaskLaws.{has_bit-zero, has_bit-or}
use Rattle.std.specs.Prelude.{bit_or}
use Rattle.std.proofs.Math.Bool.{or-false}
use Rattle.ad_sd.specs.declared.parts.Sd.{Sd}
use Rattle.ad_types.specs.declared.type_tree.Node.{Node}
use Rattle.ad_types.specs.Tree.{path_at}
use Rattle.ad_access.specs.declared.found.Found.{Found}
use Rattle.ad_access.specs.Holder.{Holder, holds}
use Rattle.ad_access.specs.Matching.{matches, speaks, is_about, decides_access, is_inherit_only}
use Rattle.ad_access.specs.Grant.{decides, is_allow, sets_owner_rights, is_implicit_owner_right, granted_to}
use Rattle.ad_access.specs.Found.{nothing, undecided, found_at, Decides, AreOpen, IsSwept}
use Rattle.ad_access.proofs.Swept.{Swept, swept_none, swept_step, closed_at, swept_all}

-- The sweep has come this far at each node, and no right but the open ones is undecided at one.
pub record NodesSwept (owner : SidValue) (holder : Holder) (self : Option SidValue) (nodes : List Node)
    (whole others : List Entry) (want : ℕ) (found : List Found) (open_rights owned : ℕ) : Type 0 where
  pub len : length found ≡ length nodes
  pub each : (place : ℕ) → place < length nodes → Swept owner holder self (path_at nodes place) whole others want
      (found_at found place).undecided (found_at found place).allowed owned
  pub still : AreOpen (length nodes) found open_rights

pub nodes_none : (owner : SidValue) (holder : Holder) (self : Option SidValue) (nodes : List Node)
    (whole : List Entry) (want : ℕ) (found : List Found) (owned : ℕ) → found ≡ replicate (length nodes)
    (undecided want) → ((bit : ℕ) → bit < 32 → has_bit owned bit ≡ has_bit want bit
    && (is_implicit_owner_right bit && holds holder owner)) → NodesSwept owner holder self nodes whole whole want found want
    owned
nodes_none owner holder self nodes whole want found owned is had = record {
  len = ap length is ∙ length-replicate (length nodes) (undecided want);
  each = λ place lt. subst (λ (f : Found). Swept owner holder self (path_at nodes place) whole whole want f.undecided
      f.allowed owned) (sym (at place lt)) (swept_none owner holder self (path_at nodes place) whole want owned had);
  still = λ place bit lt small e. sym (ap (λ (f : Found). has_bit f.undecided bit) (at place lt)) ∙ e;
}
  where
    at : (place : ℕ) → place < length nodes → found_at found place ≡ undecided want
    at place lt = ap (λ (fs : List Found). found_at fs place) is ∙ get_or-replicate (length nodes) place
        (undecided want) nothing lt

-- what an entry decides at a node, among the open rights
agrees : (wanted open_right spoken about matched mapped : Bool) → (wanted ≡ true → open_right ≡ true) → wanted
    && (((spoken && about) && matched) && mapped) ≡ wanted
    && (about && (open_right && ((spoken && matched) && mapped)))
agrees false open_right spoken about matched mapped h = refl
agrees true false spoken about matched mapped h =
    let e = h refl in
    absurd cc
agrees true true false false matched mapped h = refl
agrees true true false true matched mapped h = refl
agrees true true true false matched mapped h = refl
agrees true true true true matched mapped h = refl

once : (wanted decided : Bool) → wanted && not decided ≡ wanted && not (wanted && decided)
once false decided = refl
once true decided = refl

-- the open rights that an entry decides for the principal, where it is about the node
abbrev pub AreDecided : Entry → Holder → Option SidValue → SidValue → ℕ → ℕ → Type 0
AreDecided entry holder self owner open_rights rights = (bit : ℕ) → bit < 32 → has_bit rights bit
    ≡ has_bit open_rights bit && (((decides_access entry.kind && not (is_inherit_only entry))
    && matches entry holder self owner) && mapped_has entry.mask bit)

decided_here : (entry : Entry) (holder : Holder) (self : Option SidValue) (owner : SidValue) (nodes : List Node)
    (found : List Found) (open_rights rights place bit : ℕ) → AreDecided entry holder self owner open_rights rights
    → AreOpen (length nodes) found open_rights → place < length nodes → bit < 32
    → has_bit (found_at found place).undecided bit && decides entry holder self owner (path_at nodes place) bit
    ≡ has_bit (found_at found place).undecided bit
    && (is_about entry.object (path_at nodes place) && has_bit rights bit)
unfolding speaks
decided_here entry holder self owner nodes found open_rights rights place bit decided still lt small =
    agrees (has_bit (found_at found place).undecided bit) (has_bit open_rights bit)
    (decides_access entry.kind && not (is_inherit_only entry)) (is_about entry.object (path_at nodes place))
    (matches entry holder self owner) (mapped_has entry.mask bit) (still place bit lt small)
    ∙ ap (λ (b : Bool). has_bit (found_at found place).undecided bit
    && (is_about entry.object (path_at nodes place) && b)) (sym (decided bit small))

-- an entry that decides none of the open rights
pub nodes_skip : (owner : SidValue) (holder : Holder) (self : Option SidValue) (nodes : List Node)
    (whole : List Entry) (entry : Entry) (others : List Entry) (want : ℕ) (found : List Found)
    (open_rights owned rights left : ℕ) → NodesSwept owner holder self nodes whole (entry ∷ others) want found
    open_rights owned → AreDecided entry holder self owner open_rights rights → rights ≡ 0
    → ((bit : ℕ) → has_bit left bit ≡ has_bit owned bit && not (sets_owner_rights entry)) → NodesSwept owner holder
    self nodes whole others want found open_rights left
nodes_skip owner holder self nodes whole entry others want found open_rights owned rights left swept decided none
    lefts = record {
      len = swept.len;
      still = swept.still;
      each = λ place lt.
          let f : Found = found_at found place in
          let nothing_here : (bit : ℕ) → bit < 32 → has_bit f.undecided bit && decides entry holder self owner
          (path_at nodes place) bit ≡ false = λ bit small.
          decided_here entry holder self owner nodes found open_rights rights place bit decided swept.still lt small
          ∙ ap (λ (b : Bool). has_bit f.undecided bit && (is_about entry.object (path_at nodes place) && b))
          (ap (λ (n : ℕ). has_bit n bit) none ∙ has_bit-zero bit)
          ∙ nowhere (has_bit f.undecided bit) (is_about entry.object (path_at nodes place)) in
          swept_step owner holder self (path_at nodes place) whole entry others want f.undecided f.allowed owned
          f.undecided f.allowed left (swept.each place lt)
          (λ bit small. kept (has_bit f.undecided bit) _ (nothing_here bit small))
          (λ bit small. same (has_bit f.allowed bit) _ (is_allow entry.kind) (nothing_here bit small))
          lefts;
    }
  where
    nowhere : (a b : Bool) → a && (b && false) ≡ false
    nowhere false b = refl
    nowhere true false = refl
    nowhere true true = refl

    kept : (a x : Bool) → x ≡ false → a ≡ a && not x
    kept false x e = refl
    kept true x e = sym (ap not e)

    same : (a x allow : Bool) → x ≡ false → a ≡ a || (x && allow)
    same true x allow e = refl
    same false x allow e = sym (ap (λ (b : Bool). b && allow) e)

-- an entry that is taken at all nodes
pub nodes_more : (owner : SidValue) (holder : Holder) (self : Option SidValue) (nodes : List Node)
    (whole : List Entry) (entry : Entry) (others : List Entry) (want : ℕ) (found found' : List Found)
    (open_rights open_rights' owned rights left : ℕ) → NodesSwept owner holder self nodes whole (entry ∷ others) want
    found open_rights owned → AreDecided entry holder self owner open_rights rights → length found' ≡ length nodes
    → ((place : ℕ) → place < length nodes → Decides (is_about entry.object (path_at nodes place)) rights
    (is_allow entry.kind) (found_at found place) (found_at found' place)) → AreOpen (length nodes) found' open_rights'
    → ((bit : ℕ) → has_bit left bit ≡ has_bit owned bit && not (sets_owner_rights entry)) → NodesSwept owner holder
    self nodes whole others want found' open_rights' left
nodes_more owner holder self nodes whole entry others want found found' open_rights open_rights' owned rights left
    swept decided len taken still lefts = record {
      len = len;
      still = still;
      each = λ place lt.
          let f : Found = found_at found place in
          let f' : Found = found_at found' place in
          let about : Bool = is_about entry.object (path_at nodes place) in
          let here : (bit : ℕ) → bit < 32 → has_bit f.undecided bit && (about && has_bit rights bit)
          ≡ has_bit f.undecided bit && decides entry holder self owner (path_at nodes place) bit = λ bit small.
          sym (decided_here entry holder self owner nodes found open_rights rights place bit decided swept.still lt
          small) in
          swept_step owner holder self (path_at nodes place) whole entry others want f.undecided f.allowed owned
          f'.undecided f'.allowed left (swept.each place lt)
          (λ bit small. (taken place lt).undecided bit small ∙ once (has_bit f.undecided bit)
          (about && has_bit rights bit) ∙ ap (λ (b : Bool). has_bit f.undecided bit && not b) (here bit small))
          (λ bit small. (taken place lt).allowed bit small
          ∙ ap (λ (b : Bool). has_bit f.allowed bit || (b && is_allow entry.kind)) (here bit small))
          lefts;
    }

pub nodes_all : (sd : Sd) (owner : SidValue) (holder : Holder) (self : Option SidValue) (nodes : List Node)
    (others : List Entry) (want : ℕ) (found : List Found) (open_rights owned : ℕ) → owner ≡ sd.owner → others ≡ []
    → NodesSwept owner holder self nodes sd.dacl.entries others want found open_rights owned
    → IsSwept sd holder self nodes want found owned
nodes_all sd owner holder self nodes others want found open_rights owned same none swept = record {
  len = swept.len;
  each = λ place bit lt small.
      let f : Found = found_at found place in
      let last : Swept owner holder self (path_at nodes place) sd.dacl.entries [] want f.undecided f.allowed owned
      = subst (λ (es : List Entry). Swept owner holder self (path_at nodes place) sd.dacl.entries es want
      f.undecided f.allowed owned) none (swept.each place lt) in
      swept_all owner holder self (path_at nodes place) sd.dacl.entries want f.undecided f.allowed owned last bit small
      ∙ ap (λ (o : SidValue). has_bit want bit && granted_to o sd.dacl.entries holder self (path_at nodes place) bit)
      same;
}

none_open : (a b bit : ℕ) → bit_or a b ≡ 0 → has_bit a bit || has_bit b bit ≡ false
none_open a b bit none = sym (has_bit-or a b bit) ∙ ap (λ (n : ℕ). has_bit n bit) none ∙ has_bit-zero bit

-- where no right is open at any node, and none is had as the owner, the other entries decide nothing
pub nodes_closed : (sd : Sd) (owner : SidValue) (holder : Holder) (self : Option SidValue) (nodes : List Node)
    (others : List Entry) (want : ℕ) (found : List Found) (open_rights owned : ℕ) → owner ≡ sd.owner
    → bit_or open_rights owned ≡ 0 → NodesSwept owner holder self nodes sd.dacl.entries others want found open_rights
    owned → IsSwept sd holder self nodes want found owned
nodes_closed sd owner holder self nodes others want found open_rights owned same none swept = record {
  len = swept.len;
  each = λ place bit lt small.
      let f : Found = found_at found place in
      let node : Swept owner holder self (path_at nodes place) sd.dacl.entries others want f.undecided f.allowed owned
      = swept.each place lt in
      let parts = neither (has_bit open_rights bit) (has_bit owned bit) (none_open open_rights owned bit none) in
      let undecided : has_bit f.undecided bit ≡ false = not_open (has_bit f.undecided bit) (has_bit open_rights bit)
      (swept.still place bit lt small) parts.0 in
      has_bit-or f.allowed owned bit
      ∙ ap (λ (b : Bool). has_bit f.allowed bit || b) parts.1
      ∙ or-false (has_bit f.allowed bit)
      ∙ closed_at owner holder self (path_at nodes place) sd.dacl.entries others want f.undecided f.allowed owned bit
      small node undecided parts.1
      ∙ ap (λ (o : SidValue). has_bit want bit && granted_to o sd.dacl.entries holder self (path_at nodes place) bit)
      same;
}
  where
    neither : (a b : Bool) → a || b ≡ false → (a ≡ false) × (b ≡ false)
    neither false false e = (refl, refl)
    neither false true e = absurd cc
    neither true b e = absurd cc

    no_both : (b : Bool) → b ≡ true → b ≡ false → ⊥
    no_both true e f = absurd cc
    no_both false e f = absurd cc

    not_open : (a b : Bool) → (a ≡ true → b ≡ true) → b ≡ false → a ≡ false
    not_open false b f e = refl
    not_open true b f e = absurd (no_both b (f refl) e)
