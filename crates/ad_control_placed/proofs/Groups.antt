-- The members of a group: of who holds its identifier, those that have it among their groups.
use Rattle.std.proofs.Common.{◌≡◌, ◌∙◌, ℕ, Bool, true, false, Option, Some, None, List, refl, sym, ap}
use Rattle.std.specs.Prelude.{nat_eq, slice_get, filter_map, if◌then◌else◌}
use Rattle.std.specs.Option.{option_map_or}
use Rattle.std.proofs.lemmas.Bool.{false≢true, eqb-true, or_right}
use Rattle.std.proofs.lemmas.Option.{none-some}
use Rattle.ad_ids.specs.SidValue.{SidValue, same_sid, contains_sid}
use Rattle.ad_ids.specs.declared.token.Token.{Token}
use Rattle.ad_access.specs.Holder.{first_holder, holds}
use Rattle.ad_rights.specs.Holding.{has, listed, holds_at, IsHoldingOf}
use Rattle.ad_rights.specs.declared.holding.Holding.{Holding}
use Rattle.ad_dir_model.specs.Identity.{self_sid}
use Rattle.ad_dir_model.specs.Directory.{Directory}
use Rattle.ad_control_graph.specs.declared.kind.Kind.{Kind}
use Rattle.ad_control_graph.specs.declared.graph.Graph.{Graph}
use Rattle.ad_control_graph.specs.Drawing.{Adds, IsIn, IsBy, AreBelow}
use Rattle.ad_control_graph.proofs.ByLaws.{adds_same, adds_unmet}
use Rattle.ad_control.specs.Edges.{is_in}
use Rattle.ad_control_nodes.proofs.Lists.{passing}
use Rattle.ad_control_linked.proofs.Nodes.{given_in, in_given}
use Rattle.ad_control_placed.specs.Standing.{has_group, member_at}

-- ---- the token at a place

if_parts : (b : Bool) (o : Option ℕ) (x : ℕ) → (if b then o else None) ≡ Some x → (b ≡ true) × (o ≡ Some x)
if_parts true o x is = (refl, is)
if_parts false o x is = absurd (none-some x is)

token_there : (sid : SidValue) (o : Option Token) → option_map_or (has_group sid) o false ≡ true
    → (t : Token) × (o ≡ Some t) × (has_group sid t ≡ true)
token_there sid None is = absurd (false≢true is)
token_there sid (Some t) is = (t, refl, is)

of_member : (tokens : List Token) (at : List ℕ) (sid : SidValue) (place x : ℕ) → member_at tokens at sid place ≡ Some x
    → IsBy tokens at (has_group sid) x
of_member tokens at sid place x is =
    let parts = if_parts (option_map_or (has_group sid) (slice_get tokens place) false) (slice_get at place) x is in
    let token = token_there sid (slice_get tokens place) parts.0 in
    record { place = place; thing = token.0; is_thing = token.1; is_at = parts.1; passes = token.2 }

member_of : (tokens : List Token) (at : List ℕ) (sid : SidValue) (x : ℕ) (by : IsBy tokens at (has_group sid) x)
    → member_at tokens at sid by.place ≡ Some x
member_of tokens at sid x by =
    ap (λ (o : Option Token). if option_map_or (has_group sid) o false then slice_get at by.place else None) by.is_thing
    ∙ ap (λ (b : Bool). if b then slice_get at by.place else None) by.passes
    ∙ by.is_at

is_held : (tokens : List Token) (at : List ℕ) (sid : SidValue) (x : ℕ) (by : IsBy tokens at (has_group sid) x)
    → holds_at tokens sid by.place ≡ true
is_held tokens at sid x by =
    ap (λ (o : Option Token). option_map_or (λ (t : Token). holds (first_holder t) sid) o false) by.is_thing
    ∙ or_right (same_sid by.thing.user sid) (contains_sid by.thing.groups sid) by.passes

is_found : (tokens : List Token) (at : List ℕ) (sid : SidValue) (holders : List ℕ) (x : ℕ)
    (by : IsBy tokens at (has_group sid) x) → has holders by.place ≡ true
    → IsIn (filter_map (member_at tokens at sid) holders) x
is_found tokens at sid holders x by is =
    let there = passing (λ (p : ℕ). nat_eq p by.place) holders is in
    let same : there.thing ≡ by.place = eqb-true there.thing by.place there.passes in
    in_given (member_at tokens at sid) holders there.place there.thing x there.is_thing
    (ap (member_at tokens at sid) same ∙ member_of tokens at sid x by)

-- ---- all members

module _ (tokens : List Token) (at : List ℕ) (sid : SidValue) (holding : Holding) (members : List ℕ)
    (index : IsHoldingOf tokens holding)
    (are : members ≡ filter_map (member_at tokens at sid) (listed holding.holders sid)) where
  pub only : (x : ℕ) → IsIn members x → IsBy tokens at (has_group sid) x
  only x here =
      let given = given_in (member_at tokens at sid) (listed holding.holders sid) here.0 x
      (sym (ap (λ (l : List ℕ). slice_get l here.0) are) ∙ here.1) in
      of_member tokens at sid given.by x given.gives

  pub all : (x : ℕ) → IsBy tokens at (has_group sid) x → IsIn members x
  all x by =
      let here = is_found tokens at sid (listed holding.holders sid) x by
      (index.holders sid by.place ∙ is_held tokens at sid x by) in
      (here.0, ap (λ (l : List ℕ). slice_get l here.0) are ∙ here.1)

  pub members_below : (count : ℕ) → AreBelow count at → AreBelow count members
  members_below count below place x is =
      let by = only x (place, is) in
      below by.place x by.is_at

-- ---- the identifier of a group

pub with_identifier : (dir : Directory) (number : ℕ) (sid : SidValue) (tokens : List Token) (at : List ℕ) (a b : Graph)
    (kind : Kind) (to : ℕ) → Some sid ≡ self_sid dir number → Adds a b kind to (IsBy tokens at (has_group sid))
    → Adds a b kind to (IsBy tokens at (λ (t : Token). is_in (Some t) (self_sid dir number)))
with_identifier dir number sid tokens at a b kind to is adds =
    adds_same a b kind to tokens at (has_group sid) (λ (t : Token). is_in (Some t) (self_sid dir number))
    (λ t. ap (λ (own : Option SidValue). is_in (Some t) own) is) adds

pub without_identifier : (dir : Directory) (number : ℕ) (tokens : List Token) (at : List ℕ) (graph : Graph)
    (kind : Kind) (to : ℕ) → None ≡ self_sid dir number
    → Adds graph graph kind to (IsBy tokens at (λ (t : Token). is_in (Some t) (self_sid dir number)))
without_identifier dir number tokens at graph kind to is =
    adds_unmet graph kind to tokens at (λ (t : Token). is_in (Some t) (self_sid dir number))
    (λ t. ap (λ (own : Option SidValue). is_in (Some t) own) (sym is))
