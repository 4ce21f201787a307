-- Which node each token is of.
use Rattle.std.proofs.Common.{◌≡◌, ◌∙◌, ℕ, zero, suc, ◌⊎◌, inl, inr, Bool, true, false, Option, Some, None, List, []}
use Rattle.std.proofs.Common.{◌∷◌, length, map, refl, sym, ap, subst}
use Rattle.std.specs.Prelude.{slice_get, nat_eq, if◌then◌else◌, filter_map}
use Rattle.std.specs.List.{All}
use Rattle.std.specs.Option.{option_map}
use Rattle.std.proofs.lemmas.Bool.{false≢true, eqb-true}
use Rattle.std.proofs.lemmas.List.{length-map}
use Rattle.std.proofs.lemmas.Option.{same_Some, none-some, slice_get-map}
use Rattle.ad_ids.specs.SidValue.{SidValue, same_sid}
use Rattle.ad_ids.specs.declared.token.Token.{Token}
use Rattle.ad_dir_model.specs.Directory.{Directory}
use Rattle.ad_dir_model.specs.Identity.{self_sid}
use Rattle.ad_principals.specs.Groups.{is_principal, principals}
use Rattle.ad_principals.proofs.Identified.{principal_live}
use Rattle.ad_principals.proofs.Rising.{one_sid}
use Rattle.ad_identities.specs.declared.identity.Identity.{Identity}
use Rattle.ad_identities.specs.Identities.{identity_at, lone, is_of, is_without_principal, IsIdentityBy, IsIdentity}
use Rattle.ad_identities.specs.Identities.{AreIdentities, IsIdentityToken, HasTooManyIn}
use Rattle.ad_identities.proofs.Listed.{all_identities, principal_listed}
use Rattle.ad_identities.proofs.Tokens.{one_token, no_token}
use Rattle.ad_rights_rows.specs.Rows.{AreParties}
use Rattle.ad_control_graph.specs.declared.node.Node.{Node}
use Rattle.ad_control_graph.specs.declared.node.Node.TheVariants.{Object, Identifier}
use Rattle.ad_control.specs.Edges.{is_node, identity_of, IsTokenIf}
use Rattle.ad_control_nodes.specs.Ground.{AreNodes, IsTokenOf, AreTokensOf}
use Rattle.ad_control_nodes.specs.Steps.{AreAt, place_by, place_for, IsFound}
use Rattle.ad_control_nodes.proofs.Lists.{behind, all_at, each_at, passing, made_at}

-- ---- who has a token

pub record HasParty (dir : Directory) (members : List Identity) (tokens : List Token) (identity : Identity) : Type 0 where
  pub place : ℕ
  pub is_member : slice_get members place ≡ Some identity
  pub token : Token
  pub is_token : slice_get tokens place ≡ Some token
  pub own : IsIdentityToken dir identity token

party_later : (dir : Directory) (members rest : List Identity) (tokens left : List Token) (first identity : Identity)
    (token : Token) → members ≡ first ∷ rest → tokens ≡ token ∷ left → HasParty dir rest left identity
    → HasParty dir members tokens identity
party_later dir members rest tokens left first identity token one other p = record {
  place = suc p.place;
  is_member = ap (λ l. slice_get l (suc p.place)) one ∙ p.is_member;
  token = p.token;
  is_token = ap (λ l. slice_get l (suc p.place)) other ∙ p.is_token;
  own = p.own;
}

party_of : (dir : Directory) (all members : List Identity) (tokens : List Token) (without : List Identity) (place : ℕ)
    (identity : Identity) → AreParties dir all members tokens without → slice_get all place ≡ Some identity
    → HasParty dir members tokens identity ⊎ HasTooManyIn dir identity
party_of dir [] members tokens without place identity are is = absurd (none-some identity is)
party_of dir (i ∷ all) members tokens without zero identity (inl w) is =
    let same : i ≡ identity = same_Some i identity is in
    inl (record {
      place = 0;
      is_member = ap (λ l. slice_get l 0) w.4 ∙ ap (λ (x : Identity). Some x) same;
      token = w.0;
      is_token = ap (λ l. slice_get l 0) w.5;
      own = subst (λ (x : Identity). IsIdentityToken dir x w.0) same w.3;
    })
party_of dir (i ∷ all) members tokens without (suc place) identity (inl w) is =
    elim (party_of dir all w.1 w.2 without place identity w.6 is) [
      | inl p ↦ inl (party_later dir members w.1 tokens w.2 i identity w.0 w.4 w.5 p)
      | inr many ↦ inr many
    ]
party_of dir (i ∷ all) members tokens without zero identity (inr w) is =
    inr (subst (λ (x : Identity). HasTooManyIn dir x) (same_Some i identity is) w.1)
party_of dir (i ∷ all) members tokens without (suc place) identity (inr w) is =
    party_of dir all members tokens w.0 place identity w.3 is

-- the identity of the token at a place
owner_of : (dir : Directory) (all members : List Identity) (tokens : List Token) (without : List Identity) (place : ℕ)
    (token : Token) → AreParties dir all members tokens without → slice_get tokens place ≡ Some token
    → (identity : Identity) × (slice_get members place ≡ Some identity) × IsIdentityToken dir identity token
owner_of dir [] members tokens without place token are is =
    absurd (none-some token (sym (ap (λ l. slice_get l place) are.1.0) ∙ is))
owner_of dir (i ∷ all) members tokens without zero token (inl w) is =
    let same : w.0 ≡ token = same_Some w.0 token (sym (ap (λ l. slice_get l 0) w.5) ∙ is) in
    (i, ap (λ l. slice_get l 0) w.4, subst (IsIdentityToken dir i) same w.3)
owner_of dir (i ∷ all) members tokens without (suc place) token (inl w) is =
    let rest = owner_of dir all w.1 w.2 without place token w.6
    (sym (ap (λ l. slice_get l (suc place)) w.5) ∙ is) in
    (rest.0, ap (λ l. slice_get l (suc place)) w.4 ∙ rest.1, rest.2)
owner_of dir (i ∷ all) members tokens without place token (inr w) is =
    owner_of dir all members tokens w.0 place token w.3 is

as_many : (dir : Directory) (all members : List Identity) (tokens : List Token) (without : List Identity)
    → AreParties dir all members tokens without → length members ≡ length tokens
as_many dir [] members tokens without are = ap length are.0 ∙ sym (ap length are.1.0)
as_many dir (i ∷ all) members tokens without (inl w) =
    ap length w.4 ∙ ap suc (as_many dir all w.1 w.2 without w.6) ∙ sym (ap length w.5)
as_many dir (i ∷ all) members tokens without (inr w) = as_many dir all members tokens w.0 w.3

-- ---- identities and nodes

-- the node of an identity
abbrev node_by : SidValue → Option ℕ → Node
node_by sid None = Identifier sid
node_by sid (Some number) = Object number

node_is : (dir : Directory) (sid : SidValue) (number : Option ℕ) → IsIdentityBy dir sid number
    → is_node dir (node_by sid number) ≡ true
node_is dir sid None is = is
node_is dir sid (Some n) is = principal_live dir n is.0

its_identity : (dir : Directory) (sid : SidValue) (number : Option ℕ) → IsIdentityBy dir sid number
    → identity_of dir (node_by sid number) ≡ Some (record { sid = sid; number = number })
its_identity dir sid None is = refl
its_identity dir sid (Some n) is = rw is.0 (rw is.1 refl)

-- the node of an identity is the one that has it
by_sid : (n : ℕ) (identity : Identity) (sid : Option SidValue)
    → option_map (λ (s : SidValue). record { sid = s; number = Some n }) sid ≡ Some identity
    → node_by identity.sid identity.number ≡ Object n
by_sid n identity None is = absurd (none-some identity is)
by_sid n identity (Some s) is =
    ap (λ (i : Identity). node_by i.sid i.number) (sym (same_Some (record { sid = s; number = Some n }) identity is))

one_object : (dir : Directory) (n : ℕ) (identity : Identity) (principal : Bool)
    → (if principal then identity_at dir n else None) ≡ Some identity
    → node_by identity.sid identity.number ≡ Object n
one_object dir n identity true is = by_sid n identity (self_sid dir n) is
one_object dir n identity false is = absurd (none-some identity is)

one_node : (dir : Directory) (identity : Identity) (node : Node) → identity_of dir node ≡ Some identity
    → node_by identity.sid identity.number ≡ node
one_node dir identity (Object n) is = one_object dir n identity (is_principal dir n) is
one_node dir identity (Identifier sid) is =
    ap (λ (i : Identity). node_by i.sid i.number) (sym (same_Some (lone sid) identity is))

its_place : (nodes : List Node) (objects : ℕ → Option ℕ) (sids : SidValue → Option ℕ) (sid : SidValue)
    (number : Option ℕ) (x : ℕ) → AreAt nodes objects sids → place_by objects sids sid number ≡ Some x
    → slice_get nodes x ≡ Some (node_by sid number)
its_place nodes objects sids sid None x at is = at.sids sid x is
its_place nodes objects sids sid (Some n) x at is = at.objects n x is

found_by : (nodes : List Node) (objects : ℕ → Option ℕ) (sids : SidValue → Option ℕ) (sid : SidValue)
    (number : Option ℕ) (x : ℕ) → AreAt nodes objects sids → slice_get nodes x ≡ Some (node_by sid number)
    → (place : ℕ) × (place_by objects sids sid number ≡ Some place)
found_by nodes objects sids sid None x at is = at.each_sid x sid is
found_by nodes objects sids sid (Some n) x at is = at.each_object x n is

pub found : (dir : Directory) (nodes : List Node) (objects : ℕ → Option ℕ) (sids : SidValue → Option ℕ)
    (identity : Identity) → AreNodes dir nodes → AreAt nodes objects sids → IsIdentity dir identity
    → IsFound objects sids identity
found dir nodes objects sids identity are at is =
    let there = are.each (node_by identity.sid identity.number) (node_is dir identity.sid identity.number is) in
    found_by nodes objects sids identity.sid identity.number there.0 at there.1

-- ---- each identity is listed

of_number : (dir : Directory) (n : ℕ) (identity : Identity) (number : Option ℕ) → identity.number ≡ number
    → IsIdentityBy dir identity.sid number → is_of n identity ≡ true → identity_at dir n ≡ Some identity
of_number dir n identity None e is of = absurd (false≢true (rw e at of))
of_number dir n identity (Some m) e is of =
    let own : nat_eq m n ≡ true = rw e at of in
    let same : m ≡ n = eqb-true m n own in
    let sid : self_sid dir n ≡ Some identity.sid = ap (self_sid dir) (sym same) ∙ is.1 in
    ap (λ (s : Option SidValue). option_map (λ (x : SidValue). record { sid = x; number = Some n }) s) sid
    ∙ ap (λ (k : Option ℕ). Some (record { sid = identity.sid; number = k }))
    (sym (e ∙ ap (λ (k : ℕ). Some k) same))

listed_object : (dir : Directory) (all : List Identity) (n : ℕ) (identity : Identity) → AreIdentities dir all
    → is_principal dir n ≡ true → identity_at dir n ≡ Some identity
    → (place : ℕ) × (slice_get all place ≡ Some identity)
listed_object dir all n identity are is own =
    let there = passing (is_of n) all (principal_listed dir all n are is) in
    let known : IsIdentity dir there.thing
    = each_at (IsIdentity dir) all there.place there.thing (all_identities dir all are) there.is_thing in
    let same : there.thing ≡ identity = same_Some there.thing identity
    (sym (of_number dir n there.thing there.thing.number refl known there.passes) ∙ own) in
    (there.place, there.is_thing ∙ ap (λ (i : Identity). Some i) same)

listed_lone : (dir : Directory) (all : List Identity) (sid : SidValue) → AreIdentities dir all
    → is_without_principal dir sid ≡ true → (place : ℕ) × (slice_get all place ≡ Some (lone sid))
listed_lone dir all sid are is =
    let there = passing (λ (s : SidValue). same_sid s sid) are.others (are.each sid ∙ is) in
    let same : there.thing ≡ sid = one_sid there.thing sid there.passes in
    let last = behind (filter_map (identity_at dir) (principals dir)) (map lone are.others) there.place (lone sid)
    (slice_get-map lone are.others there.place
    ∙ ap (option_map lone) (there.is_thing ∙ ap (λ (s : SidValue). Some s) same)) in
    (last.0, ap (λ l. slice_get l last.0) are.are ∙ last.1)

listed : (dir : Directory) (all : List Identity) (node : Node) (identity : Identity) → AreIdentities dir all
    → is_node dir node ≡ true → identity_of dir node ≡ Some identity
    → (place : ℕ) × (slice_get all place ≡ Some identity)
listed dir all (Object n) identity are is own = by (is_principal dir n) refl own
  where
    by : (principal : Bool) → is_principal dir n ≡ principal
        → (if principal then identity_at dir n else None) ≡ Some identity
        → (place : ℕ) × (slice_get all place ≡ Some identity)
    by true principal at_n = listed_object dir all n identity are principal at_n
    by false principal at_n = absurd (none-some identity at_n)
listed dir all (Identifier sid) identity are is own =
    let there = listed_lone dir all sid are is in
    (there.0, there.1 ∙ own)

-- ---- all tokens

module _ (dir : Directory) (nodes : List Node) (all members : List Identity) (tokens : List Token)
    (without : List Identity) (at : List ℕ) (objects : ℕ → Option ℕ) (sids : SidValue → Option ℕ)
    (are : AreNodes dir nodes) (identities : AreIdentities dir all) (parties : AreParties dir all members tokens without)
    (known : All (IsIdentity dir) members) (stand : AreAt nodes objects sids)
    (is : map (λ x. Some x) at ≡ map (place_for objects sids) members) where
  long : length at ≡ length tokens
  long =
      sym (length-map at (λ x. Some x)) ∙ ap length is ∙ length-map members (place_for objects sids)
      ∙ as_many dir all members tokens without parties

  -- the node of who has a token at a place
  node_of : (place x : ℕ) (identity : Identity) → slice_get members place ≡ Some identity
      → slice_get at place ≡ Some x → slice_get nodes x ≡ Some (node_by identity.sid identity.number)
  node_of place x identity member is_at =
      let made = made_at (place_for objects sids) members at place identity is member in
      its_place nodes objects sids identity.sid identity.number x stand
      (made.2 ∙ sym made.1 ∙ is_at)

  sound : (token : Token) (x : ℕ) → IsTokenOf tokens at token x
      → (node : Node) × (slice_get nodes x ≡ Some node) × IsTokenIf dir node (Some token)
  sound token x of =
      let owner = owner_of dir all members tokens without of.place token parties of.is_token in
      let identity = owner.0 in (
        node_by identity.sid identity.number,
        node_of of.place x identity owner.1 of.is_at,
        (
          identity,
          its_identity dir identity.sid identity.number
              (all_at (IsIdentity dir) members of.place identity known owner.1),
          owner.2,
        ),
      )

  -- the node of one who has a party stands at the place that is kept
  at_party : (x : ℕ) (node : Node) (token : Token) (identity : Identity) → slice_get nodes x ≡ Some node
      → identity_of dir node ≡ Some identity → IsIdentityToken dir identity token
      → HasParty dir members tokens identity → IsTokenOf tokens at token x
  at_party x node token identity here of_node of_token p =
      let made = made_at (place_for objects sids) members at p.place identity is p.is_member in
      let there = node_of p.place made.0 identity p.is_member made.1 in
      let same_node = one_node dir identity node of_node in
      let same : made.0 ≡ x
      = are.once made.0 x node (there ∙ ap (λ (n : Node). Some n) same_node) here in
      record {
        place = p.place;
        is_token = p.is_token ∙ ap (λ (t : Token). Some t) (one_token dir identity p.token token p.own of_token);
        is_at = made.1 ∙ ap (λ (k : ℕ). Some k) same;
      }

  each : (x : ℕ) (node : Node) (token : Token) → slice_get nodes x ≡ Some node → IsTokenIf dir node (Some token)
      → IsTokenOf tokens at token x
  each x node token here of =
      let there = listed dir all node of.0 identities (are.are x node here) of.1 in
      elim (party_of dir all members tokens without there.0 of.0 parties there.1) [
        | inl p ↦ at_party x node token of.0 here of.1 of.2 p
        | inr many ↦ absurd (no_token dir of.0 token many of.2)
      ]

  tokens_of : AreTokensOf dir nodes tokens at
  tokens_of = record { long = long; sound = sound; each = each }

pub are_tokens : (dir : Directory) (nodes : List Node) (all members : List Identity) (tokens : List Token)
    (without : List Identity) (at : List ℕ) (objects : ℕ → Option ℕ) (sids : SidValue → Option ℕ) → AreNodes dir nodes
    → AreIdentities dir all → AreParties dir all members tokens without → All (IsIdentity dir) members
    → AreAt nodes objects sids → map (λ x. Some x) at ≡ map (place_for objects sids) members
    → AreTokensOf dir nodes tokens at
are_tokens dir nodes all members tokens without at objects sids are identities parties known stand is =
    tokens_of dir nodes all members tokens without at objects sids are identities parties known stand is
