-- Who there is, one after the other; and where the objects themselves stand.
use Rattle.std.proofs.Common.{◌≡◌, ◌∙◌, ℕ, zero, suc, ◌+◌, ◌<◌, ◌≤◌, ◌⊎◌, inl, inr, Bool, true, false, Option, Some, None, List}
use Rattle.std.proofs.Common.{[], ◌∷◌, ◌++◌, length, map, take, get_or, refl, sym, ap, subst, arith}
use Rattle.std.specs.Prelude.{◌==◌, if◌then◌else◌, filter}
use Rattle.std.specs.List.{All, AllByRecursion}
use Rattle.std.specs.Option.{option_map, option_map_or}
use Rattle.std.proofs.lemmas.List.{take_more}
use Rattle.ad_ids.specs.declared.token.Token.{Token}
use Rattle.ad_dir_model.specs.Directory.{Directory}
use Rattle.ad_rights.specs.Set.{IsBare}
use Rattle.ad_ids.specs.SidValue.{SidValue, same_sid}
use Rattle.ad_identities.specs.declared.identity.Identity.{Identity}
use Rattle.ad_identities.specs.Identities.{IsIdentityToken, IsTokenBy, IsTokenAlone, HasTooManyIn, is_of, anonymous_token}
use Rattle.ad_rights_rows.specs.Rows.{AreParties, own_at}
use Rattle.ad_rights_rows.specs.Steps.{or_else, place_if}

-- ---- tokens only allow

bare_alone : (b : Bool) (dir : Directory) (sid : SidValue) (token : Token) → IsTokenAlone b dir sid token → IsBare token
bare_alone true dir sid token is = record {
  deny_only = ap (λ (t : Token). t.deny_only) is;
  restricting = ap (λ (t : Token). t.restricting) is;
}
bare_alone false dir sid token is = record { deny_only = is.deny_only; restricting = is.restricting }

pub bare_by : (dir : Directory) (sid : SidValue) (number : Option ℕ) (token : Token) → IsTokenBy dir sid number token
    → IsBare token
bare_by dir sid (Some number) token is = record { deny_only = is.deny_only; restricting = is.restricting }
bare_by dir sid None token is = bare_alone (same_sid sid _) dir sid token is

-- ---- one identity more

pub with_more : (dir : Directory) (done members : List Identity) (tokens : List Token) (without : List Identity)
    (identity : Identity) (token : Token) → AreParties dir done members tokens without
    → IsIdentityToken dir identity token
    → AreParties dir (done ++ identity ∷ []) (members ++ identity ∷ []) (tokens ++ token ∷ []) without
with_more dir [] members tokens without identity token are is =
    inl (
      token,
      [],
      [],
      is,
      ap (λ (l : List Identity). l ++ identity ∷ []) are.0,
      ap (λ (l : List Token). l ++ token ∷ []) are.1.0,
      (refl, (refl, are.1.1)),
    )
with_more dir (i ∷ done) members tokens without identity token (inl is_with) is =
    inl (
      is_with.0,
      is_with.1 ++ identity ∷ [],
      is_with.2 ++ token ∷ [],
      is_with.3,
      ap (λ (l : List Identity). l ++ identity ∷ []) is_with.4,
      ap (λ (l : List Token). l ++ token ∷ []) is_with.5,
      with_more dir done is_with.1 is_with.2 without identity token is_with.6 is,
    )
with_more dir (i ∷ done) members tokens without identity token (inr is_without) is =
    inr (
      is_without.0,
      is_without.1,
      is_without.2,
      with_more dir done members tokens is_without.0 identity token is_without.3 is,
    )

pub without_more : (dir : Directory) (done members : List Identity) (tokens : List Token) (without : List Identity)
    (identity : Identity) → AreParties dir done members tokens without → HasTooManyIn dir identity
    → AreParties dir (done ++ identity ∷ []) members tokens (without ++ identity ∷ [])
without_more dir [] members tokens without identity are is =
    inr ([], is, ap (λ (l : List Identity). l ++ identity ∷ []) are.1.1, (are.0, (are.1.0, refl)))
without_more dir (i ∷ done) members tokens without identity (inl is_with) is =
    inl (
      is_with.0,
      is_with.1,
      is_with.2,
      is_with.3,
      is_with.4,
      is_with.5,
      without_more dir done is_with.1 is_with.2 without identity is_with.6 is,
    )
without_more dir (i ∷ done) members tokens without identity (inr is_without) is =
    inr (
      is_without.0 ++ identity ∷ [],
      is_without.1,
      ap (λ (l : List Identity). l ++ identity ∷ []) is_without.2,
      without_more dir done members tokens is_without.0 identity is_without.3 is,
    )

-- ---- where objects stand

own_end : (number : Option ℕ) (asked : ℕ) (identity : Identity) → identity.number ≡ number
    → (if is_of asked identity then Some 0 else None) ≡ place_if number 0 asked
own_end None asked identity is =
    ap (λ (o : Option ℕ). if option_map_or (λ (n : ℕ). n == asked) o false then Some 0 else None) is
own_end (Some number) asked identity is =
    ap (λ (o : Option ℕ). if option_map_or (λ (n : ℕ). n == asked) o false then Some 0 else None) is

step : (b : Bool) (found : Option ℕ) (number : Option ℕ) (count asked : ℕ)
    → (if b then Some 0 else option_map (λ (n : ℕ). n + 1) (or_else found (place_if number count asked)))
    ≡ or_else (if b then Some 0 else option_map (λ (n : ℕ). n + 1) found) (place_if number (suc count) asked)
step true found number count asked = refl
step false (Some place) number count asked = refl
step false None None count asked = refl
step false None (Some number) count asked = by (number == asked)
  where
    on : count + 1 ≡ suc count
    on = omega arith

    by : (b : Bool) → option_map (λ (n : ℕ). n + 1) (if b then Some count else None)
        ≡ (if b then Some (suc count) else None)
    by true = ap (λ (n : ℕ). Some n) on
    by false = refl

own_push : (members : List Identity) (identity : Identity) (asked : ℕ) → own_at (members ++ identity ∷ []) asked
    ≡ or_else (own_at members asked) (place_if identity.number (length members) asked)
unfolding own_at
own_push [] identity asked = own_end identity.number asked identity refl
own_push (i ∷ members) identity asked =
    ap (λ (o : Option ℕ). if is_of asked i then Some 0 else option_map (λ (n : ℕ). n + 1) o)
    (own_push members identity asked)
    ∙ step (is_of asked i) (own_at members asked) identity.number (length members) asked

long_take : (members : List Identity) (i : ℕ) → i < length members → length (take i members) ≡ i
long_take [] i lt = absurd (omega arith)
long_take (m ∷ members) zero lt = refl
long_take (m ∷ members) (suc i) lt = ap suc (long_take members i (omega (arith, lt)))

pub own_more : (members : List Identity) (i : ℕ) (d : Identity) (asked : ℕ) (old new : Option ℕ) → i < length members
    → old ≡ own_at (take i members) asked
    → new ≡ or_else old (place_if (get_or members i d).number i asked)
    → new ≡ own_at (take (i + 1) members) asked
own_more members i d asked old new lt was is =
    let long : length (take i members) ≡ i = long_take members i lt in
    is
    ∙ ap (λ (o : Option ℕ). or_else o (place_if (get_or members i d).number i asked)) was
    ∙ ap (λ (n : ℕ). or_else (own_at (take i members) asked) (place_if (get_or members i d).number n asked)) (sym long)
    ∙ sym (own_push (take i members) (get_or members i d) asked)
    ∙ ap (λ (l : List Identity). own_at l asked) (sym (take_more members i d lt))
