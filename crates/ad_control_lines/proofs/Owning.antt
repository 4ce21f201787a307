-- Whose a token is.
use Rattle.std.proofs.Common.{◌≡◌, ◌∙◌, ℕ, zero, suc, ◌+◌, ◌<◌, ◌⊎◌, inl, inr, Option, Some, None, List, [], ◌∷◌}
use Rattle.std.proofs.Common.{length, set, refl, sym, ap, subst, arith}
use Rattle.std.specs.Prelude.{slice_get}
use Rattle.std.specs.Option.{option_and_then}
use Rattle.std.proofs.lemmas.Bool.{cases_eq}
use Rattle.std.proofs.lemmas.Option.{same_Some, slice_get_within}
use Rattle.std.proofs.lemmas.List.{get_or-set_same, get_or-set_other}
use Rattle.ad_ids.specs.declared.token.Token.{Token}
use Rattle.ad_dir_model.specs.Directory.{Directory}
use Rattle.ad_control_graph.specs.declared.node.Node.{Node}
use Rattle.ad_control.specs.Edges.{IsTokenIf}
use Rattle.ad_control_nodes.specs.declared.ground.Ground.{Ground}
use Rattle.ad_control_nodes.specs.Ground.{IsGround}
use Rattle.ad_control_lines.specs.Tables.{place_at, AreOwners}

-- ---- one token after the other

pub owners_none : (at : List ℕ) (owners : List (Option ℕ)) → ((x : ℕ) → place_at owners x ≡ None)
    → AreOwners at 0 owners
owners_none at owners none = record {
  sound = λ x place is. let no : None ≡ Some place = sym (none x) ∙ is in absurd cc;
  each = λ x place low is gone. omega (arith, low);
}

pub owners_more : (at : List ℕ) (n node : ℕ) (owners : List (Option ℕ)) → slice_get at n ≡ Some node
    → node < length owners → AreOwners at n owners → AreOwners at (n + 1) (set owners node (Some n))
owners_more at n node owners is low so = record { sound = sound; each = each }
  where
    here : place_at (set owners node (Some n)) node ≡ Some n
    here = get_or-set_same owners node (Some n) None low

    sound : (x place : ℕ) → place_at (set owners node (Some n)) x ≡ Some place → slice_get at place ≡ Some x
    sound x place found = by_node (cases_eq x node)
      where
        by_node : (x ≡ node) ⊎ (x ≡ node → ⊥) → slice_get at place ≡ Some x
        by_node (inl same) =
            let it : n ≡ place = same_Some n place (sym here
            ∙ sym (ap (place_at (set owners node (Some n))) same) ∙ found) in
            ap (slice_get at) (sym it) ∙ is ∙ ap (λ (k : ℕ). Some k) (sym same)
        by_node (inr other) = so.sound x place (sym (get_or-set_other owners node x (Some n) None other) ∙ found)

    each : (x place : ℕ) → place < n + 1 → slice_get at place ≡ Some x
        → place_at (set owners node (Some n)) x ≡ None → ⊥
    each x place few stands gone = by_node (cases_eq x node)
      where
        by_place : (x ≡ node → ⊥) → (place ≡ n) ⊎ (place ≡ n → ⊥) → ⊥
        by_place other (inl last) =
            other (same_Some x node (sym stands ∙ ap (slice_get at) last ∙ is))
        by_place other (inr before) = so.each x place (omega (arith, few, before)) stands
            (sym (get_or-set_other owners node x (Some n) None other) ∙ gone)

        by_node : (x ≡ node) ⊎ (x ≡ node → ⊥) → ⊥
        by_node (inl same) =
            let no : Some n ≡ None = sym here ∙ sym (ap (place_at (set owners node (Some n))) same) ∙ gone in absurd cc
        by_node (inr other) = by_place other (cases_eq place n)

-- ---- the token of a node

-- the token that is kept at the place of a node
abbrev pub kept_at : Ground → List (Option ℕ) → ℕ → Option Token
kept_at ground owners x = option_and_then (slice_get ground.parties.tokens.all.items) (place_at owners x)

present : (tokens : List Token) (place : ℕ) → place < length tokens
    → (token : Token) × (slice_get tokens place ≡ Some token)
present [] place low = absurd (omega (arith, low))
present (token ∷ tokens) zero low = (token, refl)
present (token ∷ tokens) (suc place) low = present tokens place (omega (arith, low))

-- where a place is kept, it is the place of the node's own token
owned : (dir : Directory) (nodes : List Node) (ground : Ground) (owners : List (Option ℕ)) (x place : ℕ) (node : Node)
    → IsGround dir nodes ground → AreOwners ground.at.items (length ground.at.items) owners
    → slice_get nodes x ≡ Some node → place_at owners x ≡ Some place
    → IsTokenIf dir node (slice_get ground.parties.tokens.all.items place)
owned dir nodes ground owners x place node is so at found =
    let stands : slice_get ground.at.items place ≡ Some x = so.sound x place found in
    let low : place < length ground.at.items = slice_get_within ground.at.items place x stands in
    let long = is.tokens.long in
    let there : place < length ground.parties.tokens.all.items = omega (arith, low, long) in
    let token = present ground.parties.tokens.all.items place there in
    let own = is.tokens.sound token.0 x (record { place = place; is_token = token.1; is_at = stands }) in
    subst (IsTokenIf dir node) (sym token.1)
    (subst (λ (n : Node). IsTokenIf dir n (Some token.0)) (same_Some own.0 node (sym own.1 ∙ at)) own.2)

-- where none is, the node has no token
unowned : (dir : Directory) (nodes : List Node) (ground : Ground) (owners : List (Option ℕ)) (x : ℕ) (node : Node)
    → IsGround dir nodes ground → AreOwners ground.at.items (length ground.at.items) owners
    → slice_get nodes x ≡ Some node → place_at owners x ≡ None → IsTokenIf dir node None
unowned dir nodes ground owners x node is so at none token identity has is_token =
    let own = is.tokens.each x node token at (identity, has, is_token) in
    so.each x own.place (slice_get_within ground.at.items own.place x own.is_at) own.is_at none

pub token_is : (dir : Directory) (nodes : List Node) (ground : Ground) (owners : List (Option ℕ)) (x : ℕ) (node : Node)
    → IsGround dir nodes ground → AreOwners ground.at.items (length ground.at.items) owners
    → slice_get nodes x ≡ Some node → IsTokenIf dir node (kept_at ground owners x)
token_is dir nodes ground owners x node is so at = by_place (place_at owners x) refl
  where
    by_place : (place : Option ℕ) → place_at owners x ≡ place
        → IsTokenIf dir node (option_and_then (slice_get ground.parties.tokens.all.items) place)
    by_place None none = unowned dir nodes ground owners x node is so at none
    by_place (Some place) found = owned dir nodes ground owners x place node is so at found

-- a token that is kept only allows
pub alone_is : (dir : Directory) (nodes : List Node) (ground : Ground) (owners : List (Option ℕ)) (x : ℕ)
    (token : Token) → IsGround dir nodes ground → kept_at ground owners x ≡ Some token → token.restricting ≡ []
alone_is dir nodes ground owners x token is = by_place (place_at owners x)
  where
    by_place : (place : Option ℕ) → option_and_then (slice_get ground.parties.tokens.all.items) place ≡ Some token
        → token.restricting ≡ []
    by_place None found = absurd cc
    by_place (Some place) found = (is.parties.indexed.bare place token found).restricting

-- the same of what is found there
pub token_found : (dir : Directory) (nodes : List Node) (ground : Ground) (owners : List (Option ℕ)) (x : ℕ)
    (node : Node) (found : Option Token) → IsGround dir nodes ground
    → AreOwners ground.at.items (length ground.at.items) owners → slice_get nodes x ≡ Some node
    → found ≡ kept_at ground owners x → IsTokenIf dir node found
token_found dir nodes ground owners x node found is so at same =
    subst (IsTokenIf dir node) (sym same) (token_is dir nodes ground owners x node is so at)

-- the node of each token is there
pub stands_low : (dir : Directory) (nodes : List Node) (ground : Ground) (place x : ℕ) → IsGround dir nodes ground
    → slice_get ground.at.items place ≡ Some x → x < length nodes
stands_low dir nodes ground place x is at =
    let low : place < length ground.at.items = slice_get_within ground.at.items place x at in
    let long = is.tokens.long in
    let there : place < length ground.parties.tokens.all.items = omega (arith, low, long) in
    let token = present ground.parties.tokens.all.items place there in
    let own = is.tokens.sound token.0 x (record { place = place; is_token = token.1; is_at = at }) in
    slice_get_within nodes x own.0 own.1
