-- The key of the name above is what stands after the first part in a name's key.
use Rattle.std.proofs.Common.{◌≡◌, ℕ, ◌+◌, ◌<◌, ◌≤◌, Bool, true, false, List, [], ◌∷◌, ◌++◌, length, drop, get_or}
use Rattle.std.proofs.Common.{refl, sym, ap, ◌∙◌}
use Rattle.std.proofs.Common.{append_assoc, add-one, drop-cons}
use Rattle.std.specs.Prelude.{◌==◌, ◌||◌, if◌then◌else◌}
use Rattle.std.specs.List.{list_all}
use Rattle.std.proofs.lemmas.Bool.{true≢false, and_parts, ne_eqb}
use Rattle.std.proofs.lemmas.List.{drop_all}
use Rattle.ad_dn.specs.declared.rdn.Rdn.{Rdn}
use Rattle.ad_dn.specs.AttributeType.{is_letter, is_type_byte, is_type}
use Rattle.ad_dn.specs.Fold.{folded}
use Rattle.ad_dn.specs.Value.{IsRdn, AreRdns}
use Rattle.ad_dn.specs.NameKey.{escaped, closed, rdn_key, rdns_key}
use Rattle.ad_load_objects.specs.Above.{is_end, is_mark, behind}

-- ---- a byte more

abbrev byte_at : List ℕ → ℕ → ℕ
byte_at key i = get_or key i 0

from_here : (key : List ℕ) (i : ℕ) → i < length key → drop i key ≡ byte_at key i ∷ drop (i + 1) key
from_here key i lt = drop-cons key i 0 lt ∙ ap (λ (n : ℕ). byte_at key i ∷ drop n key) (sym (add-one i))

abbrev goes_by : Bool → List ℕ → ℕ → Bool → List ℕ
goes_by marked key i end = if end then drop (i + 1) key else behind (is_mark marked (byte_at key i)) (drop (i + 1) key)

one_more : (key : List ℕ) (i : ℕ) (marked end : Bool) → i < length key → is_end marked (byte_at key i) ≡ end
    → behind marked (drop i key) ≡ goes_by marked key i end
unfolding behind
one_more key i marked end lt e = ap (behind marked) (from_here key i lt) ∙ ap (goes_by marked key i) e

pub ends_here : (key : List ℕ) (i : ℕ) (marked : Bool) → i < length key → is_end marked (byte_at key i) ≡ true
    → behind marked (drop i key) ≡ drop (i + 1) key
ends_here key i marked lt e = one_more key i marked true lt e

pub goes_on : (key : List ℕ) (i : ℕ) (marked : Bool) → i < length key → is_end marked (byte_at key i) ≡ false
    → behind marked (drop i key) ≡ behind (is_mark marked (byte_at key i)) (drop (i + 1) key)
goes_on key i marked lt e = one_more key i marked false lt e

pub none_behind : (key : List ℕ) (i : ℕ) (marked : Bool) → length key ≤ i → behind marked (drop i key) ≡ []
unfolding behind
none_behind key i marked le = ap (behind marked) (drop_all i key le)

-- ---- the first part

-- a byte that is neither a comma nor \
plain_byte : (b : ℕ) (rest : List ℕ) → (b == 44) ≡ false → (b == 92) ≡ false → behind false (b ∷ rest)
    ≡ behind false rest
unfolding behind
plain_byte b rest p q = ap (λ (t : Bool). if t then rest else behind (b == 92) rest) p
    ∙ ap (λ (m : Bool). behind m rest) q

escaped_by : (b : ℕ) (rest : List ℕ) (s t : Bool) → (b == 44) ≡ s → (b == 92) ≡ t
    → behind false ((if s || t then 92 ∷ b ∷ [] else b ∷ []) ++ rest) ≡ behind false rest
unfolding behind
escaped_by b rest true t p q = refl
escaped_by b rest false true p q = refl
escaped_by b rest false false p q = plain_byte b rest p q

escaped_passed : (b : ℕ) (rest : List ℕ) → behind false (escaped b ++ rest) ≡ behind false rest
escaped_passed b rest = escaped_by b rest (b == 44) (b == 92) refl refl

value_passed : (value rest : List ℕ) → behind false (closed value ++ rest) ≡ rest
unfolding behind closed
value_passed [] rest = refl
value_passed (b ∷ bytes) rest =
    ap (behind false) (append_assoc (escaped b) (closed bytes) rest) ∙ escaped_passed b (closed bytes ++ rest)
    ∙ value_passed bytes rest

-- what no comma and no \ passes
passed_by : (test : ℕ → Bool) (b : ℕ) (rest : List ℕ) → test 44 ≡ false → test 92 ≡ false → test b ≡ true
    → behind false (b ∷ rest) ≡ behind false rest
passed_by test b rest comma mark passes = plain_byte b rest
    (ne_eqb b 44 (λ (same : b ≡ 44). true≢false (sym passes ∙ ap test same ∙ comma)))
    (ne_eqb b 92 (λ (same : b ≡ 92). true≢false (sym passes ∙ ap test same ∙ mark)))

bytes_passed : (bytes rest : List ℕ) → list_all is_type_byte bytes ≡ true → behind false (bytes ++ rest)
    ≡ behind false rest
bytes_passed [] rest e = refl
bytes_passed (b ∷ bytes) rest e =
    let parts = and_parts (is_type_byte b) (list_all is_type_byte bytes) e in
    passed_by is_type_byte b (bytes ++ rest) refl refl parts.0 ∙ bytes_passed bytes rest parts.1

kind_passed : (kind rest : List ℕ) → is_type kind ≡ true → behind false (kind ++ rest) ≡ behind false rest
kind_passed [] rest e = absurd (true≢false (sym e))
kind_passed (b ∷ bytes) rest e =
    let parts = and_parts (is_letter b) (list_all is_type_byte bytes) e in
    passed_by is_letter b (bytes ++ rest) refl refl parts.0 ∙ bytes_passed bytes rest parts.1

part_passed : (rdn : Rdn) (rest : List ℕ) → IsRdn rdn → behind false (rdn_key rdn ++ rest) ≡ rest
part_passed rdn rest is =
    let value = closed (folded rdn.value) in
    ap (behind false) (append_assoc rdn.kind (61 ∷ value) rest)
    ∙ kind_passed rdn.kind (61 ∷ (value ++ rest)) is.kind.form
    ∙ plain_byte 61 (value ++ rest) refl refl
    ∙ value_passed (folded rdn.value) rest

pub above_is : (key : List ℕ) (rdns : List Rdn) → AreRdns rdns → key ≡ rdns_key rdns → behind false key
    ≡ rdns_key (drop 1 rdns)
unfolding behind
above_is key [] are e = ap (behind false) e
above_is key (rdn ∷ rdns) are e = ap (behind false) e ∙ part_passed rdn (rdns_key rdns) are.0

pub parts_above : (rdns : List Rdn) → AreRdns rdns → AreRdns (drop 1 rdns)
parts_above [] are = tt
parts_above (rdn ∷ rdns) are = are.1
