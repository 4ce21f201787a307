-- From which nodes an edge of a kind leads to an object.
use Rattle.std.specs.Prelude.{◌≡◌, ℕ, zero, suc, Bool, true, false, is_some, ◌==◌, ◌&&◌, ◌||◌, if◌then◌else◌}
use Rattle.std.specs.Prelude.{Option, Some, None, List, [], ◌∷◌, Result, Ok, Err}
use Rattle.std.specs.List.{list_any, list_all}
use Rattle.std.specs.Option.{option_map_or, option_and_then}
use Rattle.ad_ids.specs.SidValue.{SidValue, contains_sid}
use Rattle.ad_ids.specs.declared.token.Token.{Token}
use Rattle.ad_sd.specs.declared.parts.Sd.{Sd}
use Rattle.ad_sd.specs.declared.fault.SdFault.{SdFault}
use Rattle.ad_sd.specs.Reading.{sd_of}
use Rattle.ad_access.specs.Grant.{granted}
use Rattle.ad_schema.specs.Classes as class
use Rattle.ad_dir_model.specs.Objects.{is_live, object_at, parent_at, sd_at}
use Rattle.ad_dir_model.specs.Tree.{root}
use Rattle.ad_dir_model.specs.Attributes.{attr_place}
use Rattle.ad_dir_model.specs.Identity.{first_of_attr, self_sid}
use Rattle.ad_dir_model.specs.Names.{admin_sd_holder}
use Rattle.ad_dir_model.specs.Protection.{has, protected}
use Rattle.ad_dir_model.specs.Directory.{Directory}
use Rattle.ad_needs_rules.specs.Requests.{class_at}
use Rattle.ad_principals.specs.Groups.{is_principal, is_security_enabled}
use Rattle.ad_identities.specs.declared.identity.Identity.{Identity}
use Rattle.ad_identities.specs.Identities.{identity_at, lone, is_without_principal, IsIdentityToken}
use Rattle.ad_questions.specs.Question.{question_of}
use Rattle.ad_questions.specs.Requirements.{is_allowed}
use Rattle.ad_control_graph.specs.declared.kind.Kind.{Kind}
use Rattle.ad_control_graph.specs.declared.node.Node.{Node}
use Rattle.ad_control_graph.specs.declared.node.Node.TheVariants.{Object, Identifier}
use Rattle.ad_control_graph.specs.Kinds.{Of, Each, TheRoot, Groups, Having, Way, Held, From, Nowhere, TheRootItself}
use Rattle.ad_control_graph.specs.Kinds.{ItsParent, ItsHolder, ItsPolicies, Above, ItsMembers, row}
use Rattle.ad_policies.specs.Policies.{above, policies_of}

-- ---- nodes and their tokens

-- a live object, or an identifier that counts without one
abbrev pub is_node : Directory → Node → Bool
is_node dir (Object number) = is_live dir.objects number
is_node dir (Identifier sid) = is_without_principal dir sid

-- the identity of a node, if it has one
abbrev pub identity_of : Directory → Node → Option Identity
identity_of dir (Object number) = if is_principal dir number then identity_at dir number else None
identity_of dir (Identifier sid) = Some (lone sid)

-- A node is judged by the token of its identity as it is now. One without an identity, or without a token, is granted
-- nothing.
abbrev pub IsTokenIf : Directory → Node → Option Token → Type 0
IsTokenIf dir node (Some token) = (identity : Identity) × (identity_of dir node ≡ Some identity)
    × IsIdentityToken dir identity token
IsTokenIf dir node None = (token : Token) (identity : Identity) → identity_of dir node ≡ Some identity
    → IsIdentityToken dir identity token → ⊥

-- ---- which objects a kind leads to

unfoldable pub may_have : Directory → ℕ → List ℕ → Bool
may_have dir number name =
    option_map_or (class.is_allowed dir.schema (class_at dir number)) (attr_place dir.schema name) false

unfoldable pub is_of : Directory → Of → ℕ → Bool
is_of dir Each number = true
is_of dir TheRoot number = number == root
is_of dir Groups number = is_some (self_sid dir number) && is_security_enabled dir number
is_of dir (Having name) number = may_have dir number name

-- ---- by questions

-- the object has a value of the attribute
unfoldable pub has_value : Directory → ℕ → List ℕ → Bool
has_value dir number name = is_some (first_of_attr (attr_place dir.schema name) (object_at dir.objects number))

abbrev pub has_one : Directory → ℕ → List (List ℕ) → Bool
has_one dir number [] = true
has_one dir number (name ∷ names) = list_any (has_value dir number) (name ∷ names)

-- the token is told yes to the question of a text; not where the schema has no such question
unfoldable pub may_ask : Directory → Token → ℕ → List ℕ → Bool
may_ask dir token number text =
    option_map_or (λ question. is_allowed dir token question number) (question_of dir.schema text) false

unfoldable pub goes : Directory → Token → ℕ → Way → Bool
goes dir token number way =
    has_one dir number way.stored && list_all (may_ask dir token number) way.asks

-- ---- by a descriptor that is a value

abbrev pub sd_read : Result Sd SdFault → Option Sd
sd_read (Ok sd) = Some sd
sd_read (Err fault) = None

-- the descriptor that the first value of the attribute is
unfoldable pub held_sd : Directory → ℕ → List ℕ → Option Sd
held_sd dir number name =
    option_and_then (λ value. sd_read (sd_of value.shown))
    (first_of_attr (attr_place dir.schema name) (object_at dir.objects number))

-- the test holds of a number below this one
unfoldable pub any_below : (ℕ → Bool) → ℕ → Bool
any_below test zero = false
any_below test (suc n) = test n || any_below test n

-- it grants the right, or one of the twenty of objects and their descriptors
abbrev pub sd_grants : Directory → ℕ → Token → Option ℕ → Sd → Bool
sd_grants dir number token (Some bit) sd = granted sd.owner sd.dacl.entries token (self_sid dir number) [] bit
sd_grants dir number token None sd =
    any_below (granted sd.owner sd.dacl.entries token (self_sid dir number) []) 20

unfoldable pub holds : Directory → Token → ℕ → Held → Bool
holds dir token number held =
    option_map_or (sd_grants dir number token held.bit) (held_sd dir number held.attr) false

-- ---- by the place of objects

abbrev pub is_object : Option ℕ → Node → Bool
is_object (Some number) (Object other) = other == number
is_object (Some number) (Identifier sid) = false
is_object None node = false

-- where its DACL isn't protected, its parent
abbrev pub giver : Directory → ℕ → Option ℕ
giver dir number =
    if (number == root) || (sd_at dir.objects number).dacl.protected then None else Some (parent_at dir.objects number)

-- AdminSDHolder, where the object is protected
abbrev pub holder : Directory → ℕ → Option ℕ
holder dir number = if has (protected dir) number then admin_sd_holder dir else None

-- the token has the group's identifier, and not as the group itself
abbrev pub is_in : Option Token → Option SidValue → Bool
is_in (Some token) (Some sid) = contains_sid token.groups sid
is_in _ _ = false

abbrev pub asks_there : Directory → Option Token → List ℕ → ℕ → Bool
asks_there dir None text container = false
asks_there dir (Some token) text container = may_ask dir token container text

unfoldable pub stands : Directory → Option Token → Node → ℕ → From → Bool
stands dir token node number Nowhere = false
stands dir token node number TheRootItself = is_object (Some root) node
stands dir token node number ItsParent = is_object (giver dir number) node
stands dir token node number ItsHolder = is_object (holder dir number) node
stands dir token node number ItsPolicies = list_any (λ policy. is_object (Some policy) node) (policies_of dir number)
stands dir token node number (Above question) = list_any (asks_there dir token question) (above dir number)
stands dir token node number ItsMembers = is_in token (self_sid dir number)

-- ---- an edge

abbrev pub by_token : (Token → Bool) → Option Token → Bool
by_token test None = false
by_token test (Some token) = test token

-- An edge of the kind leads from the node, with this token, to the live object.
unfoldable pub leads : Directory → Kind → Option Token → Node → ℕ → Bool
leads dir kind token node number =
    is_of dir (row kind).of number
    && (by_token (λ t. list_any (goes dir t number) (row kind).ways) token
    || (by_token (λ t. list_any (holds dir t number) (row kind).held) token
    || list_any (stands dir token node number) (row kind).from))

pub record IsEdge (dir : Directory) (kind : Kind) (node : Node) (number : ℕ) : Type 0 where
  pub is_node : is_node dir node ≡ true
  pub live : is_live dir.objects number ≡ true
  pub token : Option Token
  pub is_token : IsTokenIf dir node token
  pub leads : leads dir kind token node number ≡ true
