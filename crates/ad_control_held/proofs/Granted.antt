-- Sets of the tokens that are granted one right or another.
use Rattle.std.proofs.Common.{◌≡◌, ◌∙◌, ℕ, suc, ◌+◌, Bool, false, ◌||◌, Option, Some, None, List, [], ◌∷◌, length, map, replicate}
use Rattle.std.proofs.Common.{refl, sym, ap, subst, arith}
use Rattle.std.proofs.lemmas.List.{length-map}
use Rattle.std.proofs.lemmas.Option.{same_Some}
use Rattle.ad_ids.specs.SidValue.{SidValue}
use Rattle.ad_ids.specs.declared.token.Token.{Token}
use Rattle.ad_sd.specs.declared.parts.Sd.{Sd}
use Rattle.ad_access.specs.Grant.{granted}
use Rattle.ad_rights.specs.Holding.{takes}
use Rattle.ad_rights.specs.Set.{granted_set}
use Rattle.ad_sets.specs.Sets.{IsJoined}
use Rattle.ad_dir_model.specs.Directory.{Directory}
use Rattle.ad_dir_model.specs.Identity.{self_sid}
use Rattle.ad_rights_rows.proofs.Sets.{joined_set, constant}
use Rattle.ad_control.specs.Edges.{any_below, sd_grants}
use Rattle.ad_control_held.specs.Granting.{any_set}

-- ---- one right more

pub nobody : (tokens : List Token) (takers : List Bool) (count : ℕ) (set : List Bool) → takers ≡ map takes tokens
    → count ≡ length takers → set ≡ replicate count false → set ≡ map (λ (t : Token). false) tokens
nobody tokens takers count set are long is =
    is
    ∙ ap (λ (n : ℕ). replicate n false) (long ∙ ap length are ∙ length-map tokens takes)
    ∙ constant false tokens

pub none_yet : (sd : Sd) (tokens : List Token) (self : Option SidValue)
    → any_set sd tokens self 0 ≡ map (λ (t : Token). false) tokens
unfolding any_set any_below
none_yet sd tokens self = refl

pub one_more : (sd : Sd) (tokens : List Token) (self : Option SidValue) (bit : ℕ) (one set joined : List Bool)
    → one ≡ granted_set sd tokens self [] bit → set ≡ any_set sd tokens self bit → IsJoined false one set joined
    → joined ≡ any_set sd tokens self (bit + 1)
unfolding granted_set any_set any_below
one_more sd tokens self bit one set joined one_is set_is are =
    let first = λ (t : Token). granted sd.owner sd.dacl.entries t self [] bit in
    let second = λ (t : Token). any_below (granted sd.owner sd.dacl.entries t self []) bit in
    same_Some joined (map (λ (t : Token). first t || second t) tokens)
    (joined_set false (one ∷ set ∷ []) (joined ∷ []) tokens first second 0 1 0 (ap (λ (l : List Bool). Some l) one_is)
    (ap (λ (l : List Bool). Some l) set_is)
    (λ a b a_is b_is. (
      joined,
      refl,
      subst (λ (l : List Bool). IsJoined false l b joined) (same_Some one a a_is)
          (subst (λ (l : List Bool). IsJoined false one l joined) (same_Some set b b_is) are),
    )))
    ∙ ap (λ (n : ℕ). map (λ (t : Token). any_below (granted sd.owner sd.dacl.entries t self []) n) tokens) next
  where
    next : suc bit ≡ bit + 1
    next = omega arith

-- ---- the right, or any

pub by_right : (dir : Directory) (number bit : ℕ) (given : Option ℕ) (sd : Sd) (tokens : List Token)
    (self : Option SidValue) (set : List Bool) → given ≡ Some bit → self ≡ self_sid dir number
    → set ≡ granted_set sd tokens self [] bit → set ≡ map (λ (t : Token). sd_grants dir number t given sd) tokens
unfolding granted_set
by_right dir number bit given sd tokens self set given_is own is =
    is
    ∙ ap (λ (s : Option SidValue). map (λ (t : Token). granted sd.owner sd.dacl.entries t s [] bit) tokens) own
    ∙ ap (λ (b : Option ℕ). map (λ (t : Token). sd_grants dir number t b sd) tokens) (sym given_is)

pub by_any : (dir : Directory) (number : ℕ) (given : Option ℕ) (sd : Sd) (tokens : List Token) (self : Option SidValue)
    (set : List Bool) → given ≡ None → self ≡ self_sid dir number → set ≡ any_set sd tokens self 20
    → set ≡ map (λ (t : Token). sd_grants dir number t given sd) tokens
unfolding any_set
by_any dir number given sd tokens self set given_is own is =
    is
    ∙ ap (λ (s : Option SidValue).
    map (λ (t : Token). any_below (granted sd.owner sd.dacl.entries t s []) 20) tokens) own
    ∙ ap (λ (b : Option ℕ). map (λ (t : Token). sd_grants dir number t b sd) tokens) (sym given_is)
