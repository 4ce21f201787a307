-- A name's key is read back: names have one key exactly where they are the same.
use Rattle.std.proofs.Common.{◌≡◌, ℕ, ◌+◌, ◌<◌, ◌≤◌, Bool, true, false, List, [], ◌∷◌, ◌++◌, length, drop, get_or}
use Rattle.std.proofs.Common.{refl, sym, ap, ◌∙◌, append_assoc, arith, add-one, drop-cons, eqb}
use Rattle.std.specs.Prelude.{◌||◌, if◌then◌else◌}
use Rattle.std.specs.Str.{str_to_ascii_uppercase}
use Rattle.std.specs.List.{list_all}
use Rattle.std.proofs.lemmas.List.{drop_all}
use Rattle.std.proofs.lemmas.Bool.{true≢false, and_parts}
use Rattle.ad_dn.specs.declared.rdn.Rdn.{Rdn}
use Rattle.ad_dn.specs.AttributeType.{is_letter, is_type_byte, is_type}
use Rattle.ad_dn.specs.Fold.{folded, AreSameRdns}
use Rattle.ad_dn.specs.Value.{IsRdn, AreRdns}
use Rattle.ad_dn.specs.NameKey.{escaped, closed, rdn_key, rdns_key}

-- ---- how it is written

-- one more byte of a value
pub closed_more : (key next value whole : List ℕ) (i : ℕ) → i < length value → next ≡ key ++ escaped (get_or value i 0)
    → key ++ closed (drop i value) ≡ whole → next ++ closed (drop (i + 1) value) ≡ whole
unfolding closed
closed_more key next value whole i lt n e =
    let byte = get_or value i 0 in
    let cut : drop i value ≡ byte ∷ drop (i + 1) value = drop-cons value i 0 lt ∙ ap (λ n. byte ∷ drop n value)
    (sym (add-one i)) in
    ap (λ k. k ++ closed (drop (i + 1) value)) n
    ∙ append_assoc key (escaped byte) (closed (drop (i + 1) value))
    ∙ ap (λ v. key ++ closed v) (sym cut)
    ∙ e

-- and after the last the comma
pub closed_done : (key value whole : List ℕ) (i : ℕ) → length value ≤ i → key ++ closed (drop i value) ≡ whole → key
    ++ 44 ∷ [] ≡ whole
unfolding closed
closed_done key value whole i le e = ap (λ v. key ++ closed v) (sym (drop_all i value le)) ∙ e

-- ---- how it is read back

abbrev special : ℕ → Bool
special b = eqb b 44 || eqb b 92

pub record AreBoth (v w r s : List ℕ) : Type 0 where
  pub first : v ≡ w
  pub rest : r ≡ s

tails : (a b : ℕ) (v w : List ℕ) → a ∷ v ≡ b ∷ w → v ≡ w
tails a b v w e = cc

heads : (a b : ℕ) (v w : List ℕ) → a ∷ v ≡ b ∷ w → a ≡ b
heads a b v w e = cc

abbrev marked : Bool → ℕ → List ℕ
marked true b = 92 ∷ b ∷ []
marked false b = b ∷ []

escaped_is : (b : ℕ) → escaped b ≡ marked (special b) b
escaped_is b = by (special b) where
  by : (s : Bool) → (if s then 92 ∷ b ∷ [] else b ∷ []) ≡ marked s b
  by true = refl
  by false = refl

-- an escaped byte is no comma
no_comma_by : (s : Bool) (b : ℕ) (v rest : List ℕ) → special b ≡ s → 44 ∷ rest ≡ marked s b ++ v → ⊥
no_comma_by true b v rest q e = absurd (omega (arith, heads 44 92 rest (b ∷ v) e))
no_comma_by false b v rest q e = true≢false (ap special (heads 44 b rest v e) ∙ q)

no_comma : (b : ℕ) (v rest : List ℕ) → 44 ∷ rest ≡ escaped b ++ v → ⊥
no_comma b v rest e = no_comma_by (special b) b v rest refl (e ∙ ap (λ m. m ++ v) (escaped_is b))

-- and can be told from what follows
one_byte_by : (s t : Bool) (a b : ℕ) (v w : List ℕ) → special a ≡ s → special b ≡ t → marked s a ++ v ≡ marked t b
    ++ w → (a ≡ b) × (v ≡ w)
one_byte_by true true a b v w p q e =
    let e2 = tails 92 92 (a ∷ v) (b ∷ w) e in
    (heads a b v w e2, tails a b v w e2)
one_byte_by true false a b v w p q e = absurd (true≢false (ap special (heads 92 b (a ∷ v) w e) ∙ q))
one_byte_by false true a b v w p q e = absurd (true≢false (ap special (sym (heads a 92 v (b ∷ w) e)) ∙ p))
one_byte_by false false a b v w p q e = (heads a b v w e, tails a b v w e)

one_byte : (a b : ℕ) (v w : List ℕ) → escaped a ++ v ≡ escaped b ++ w → (a ≡ b) × (v ≡ w)
one_byte a b v w e =
    one_byte_by (special a) (special b) a b v w refl refl
    (ap (λ m. m ++ v) (sym (escaped_is a)) ∙ e ∙ ap (λ m. m ++ w) (escaped_is b))

-- a value and what follows it can be told apart
closed_parts : (v w r s : List ℕ) → closed v ++ r ≡ closed w ++ s → AreBoth v w r s
unfolding closed
closed_parts [] [] r s e = record { first = refl; rest = tails 44 44 r s e }
closed_parts [] (b ∷ w) r s e = absurd (no_comma b (closed w ++ s) r (e ∙ append_assoc (escaped b) (closed w) s))
closed_parts (a ∷ v) [] r s e = absurd (no_comma a (closed v ++ r) s (sym e ∙ append_assoc (escaped a) (closed v) r))
closed_parts (a ∷ v) (b ∷ w) r s e =
    let both = one_byte a b (closed v ++ r) (closed w ++ s) (sym (append_assoc (escaped a) (closed v) r) ∙ e
    ∙ append_assoc (escaped b) (closed w) s) in
    let others = closed_parts v w r s both.1 in
    record { first = ap (λ x. x ∷ v) both.0 ∙ ap (λ x. b ∷ x) others.first; rest = others.rest }

-- a type has no =
type_bytes : (kind : List ℕ) → is_type kind ≡ true → list_all is_type_byte kind ≡ true
type_bytes [] e = absurd (true≢false (sym e))
type_bytes (b ∷ kind) e =
    let parts = and_parts (is_letter b) (list_all is_type_byte kind) e in
    let letter : is_letter b ≡ true = parts.0 in
    rw (letter, parts.1) refl

kind_parts : (k l r s : List ℕ) → list_all is_type_byte k ≡ true → list_all is_type_byte l ≡ true → k ++ 61 ∷ r ≡ l
    ++ 61 ∷ s → AreBoth k l r s
kind_parts [] [] r s p q e = record { first = refl; rest = tails 61 61 r s e }
kind_parts [] (b ∷ l) r s p q e =
    let first = and_parts (is_type_byte b) (list_all is_type_byte l) q in
    absurd (true≢false (sym first.0 ∙ ap is_type_byte (sym (heads 61 b r (l ++ 61 ∷ s) e))))
kind_parts (a ∷ k) [] r s p q e =
    let first = and_parts (is_type_byte a) (list_all is_type_byte k) p in
    absurd (true≢false (sym first.0 ∙ ap is_type_byte (heads a 61 (k ++ 61 ∷ r) s e)))
kind_parts (a ∷ k) (b ∷ l) r s p q e =
    let first = and_parts (is_type_byte a) (list_all is_type_byte k) p in
    let second = and_parts (is_type_byte b) (list_all is_type_byte l) q in
    let others = kind_parts k l r s first.1 second.1 (tails a b (k ++ 61 ∷ r) (l ++ 61 ∷ s) e) in
    record {
      first = ap (λ x. x ∷ k) (heads a b (k ++ 61 ∷ r) (l ++ 61 ∷ s) e) ∙ ap (λ x. b ∷ x) others.first;
      rest
          = others.rest;
    }

pub record AreAlike (a b : Rdn) (r s : List ℕ) : Type 0 where
  pub kind : a.kind ≡ b.kind
  pub value : folded a.value ≡ folded b.value
  pub rest : r ≡ s

rdn_parts : (a b : Rdn) (r s : List ℕ) → IsRdn a → IsRdn b → rdn_key a ++ r ≡ rdn_key b ++ s → AreAlike a b r s
rdn_parts a b r s p q e =
    let kinds = kind_parts a.kind b.kind (closed (folded a.value) ++ r) (closed (folded b.value) ++ s)
    (type_bytes a.kind p.kind.form) (type_bytes b.kind q.kind.form)
    (sym (append_assoc a.kind (61 ∷ closed (folded a.value)) r) ∙ e
    ∙ append_assoc b.kind (61 ∷ closed (folded b.value)) s) in
    let values = closed_parts (folded a.value) (folded b.value) r s kinds.rest in
    record { kind = kinds.first; value = values.first; rest = values.rest }

not_empty : (k r s : List ℕ) → [] ≡ (k ++ 61 ∷ r) ++ s → ⊥
not_empty [] r s e = absurd cc
not_empty (x ∷ k) r s e = absurd cc

-- names of one key are the same
pub same_of_keys : (xs ys : List Rdn) → AreRdns xs → AreRdns ys → rdns_key xs ≡ rdns_key ys → AreSameRdns xs ys
same_of_keys [] [] p q e = tt
same_of_keys [] (y ∷ ys) p q e = not_empty y.kind (closed (folded y.value)) (rdns_key ys) e
same_of_keys (x ∷ xs) [] p q e = not_empty x.kind (closed (folded x.value)) (rdns_key xs) (sym e)
same_of_keys (x ∷ xs) (y ∷ ys) p q e =
    let parts = rdn_parts x y (rdns_key xs) (rdns_key ys) p.0 q.0 e in
    (record { kind = ap str_to_ascii_uppercase parts.kind; value = parts.value }, same_of_keys xs ys p.1 q.1 parts.rest)

-- and the same names have one key
pub keys_of_same : (xs ys : List Rdn) → AreRdns xs → AreRdns ys → AreSameRdns xs ys → rdns_key xs ≡ rdns_key ys
keys_of_same [] [] p q s = refl
keys_of_same [] (y ∷ ys) p q s = absurd s
keys_of_same (x ∷ xs) [] p q s = absurd s
keys_of_same (x ∷ xs) (y ∷ ys) p q s =
    let kinds : x.kind ≡ y.kind = sym p.0.kind.upper ∙ s.0.kind ∙ q.0.kind.upper in
    let first : rdn_key x ≡ rdn_key y = ap (λ k. k ++ 61 ∷ closed (folded x.value)) kinds
    ∙ ap (λ v. y.kind ++ 61 ∷ closed v) s.0.value in
    ap (λ k. k ++ rdns_key xs) first ∙ ap (λ k. rdn_key y ++ k) (keys_of_same xs ys p.1 q.1 s.1)
