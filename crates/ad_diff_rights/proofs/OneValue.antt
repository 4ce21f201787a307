-- Tokens are equal where their parts are, and descriptors where their normal bytes are.
use Rattle.std.proofs.Common.{◌≡◌, ◌∙◌, ℕ, List, ◌++◌, [], sym, ap}
use Rattle.ad_ids.specs.SidValue.{SidValue}
use Rattle.ad_ids.specs.declared.token.Token.{Token}
use Rattle.ad_sd.specs.declared.parts.Sd.{Sd}
use Rattle.ad_sd.specs.Normal.{SpellsNormal}
use Rattle.ad_sd.proofs.NormalCodec.{normal_apart}

abbrev token : ℕ → ℕ → SidValue → SidValue → SidValue → List SidValue → List SidValue → List SidValue → Token
token version privileges user owner primary groups deny_only restricting = record {
  version = version;
  privileges = privileges;
  user = user;
  owner = owner;
  primary = primary;
  groups = groups;
  deny_only = deny_only;
  restricting = restricting;
}

pub one_token : (a b : Token) → a.version ≡ b.version → a.privileges ≡ b.privileges → a.user ≡ b.user
    → a.owner ≡ b.owner → a.primary ≡ b.primary → a.groups ≡ b.groups → a.deny_only ≡ b.deny_only
    → a.restricting ≡ b.restricting → a ≡ b
one_token a b version privileges user owner primary groups deny_only restricting =
    ap (λ (n : ℕ). token n a.privileges a.user a.owner a.primary a.groups a.deny_only a.restricting) version
    ∙ ap (λ (n : ℕ). token b.version n a.user a.owner a.primary a.groups a.deny_only a.restricting) privileges
    ∙ ap (λ (s : SidValue). token b.version b.privileges s a.owner a.primary a.groups a.deny_only a.restricting) user
    ∙ ap (λ (s : SidValue). token b.version b.privileges b.user s a.primary a.groups a.deny_only a.restricting) owner
    ∙ ap (λ (s : SidValue). token b.version b.privileges b.user b.owner s a.groups a.deny_only a.restricting) primary
    ∙ ap (λ (l : List SidValue). token b.version b.privileges b.user b.owner b.primary l a.deny_only a.restricting)
    groups
    ∙ ap (λ (l : List SidValue). token b.version b.privileges b.user b.owner b.primary b.groups l a.restricting)
    deny_only
    ∙ ap (λ (l : List SidValue). token b.version b.privileges b.user b.owner b.primary b.groups b.deny_only l)
    restricting

pub one_sd : (a b : Sd) (x y : List ℕ) → SpellsNormal a x → SpellsNormal b y → x ≡ y → a ≡ b
one_sd a b x y spells_a spells_b one = normal_apart a b [] [] spells_a.0 spells_b.0
    (ap (λ (t : List ℕ). t ++ []) (sym spells_a.1 ∙ one ∙ spells_b.1))
