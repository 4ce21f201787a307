-- Codes, one after the other, and their text.
use Rattle.std.proofs.Common.{Bool, eqb, true, false, ◌≡◌, ℕ, zero, suc, ◌<◌, if◌then◌else◌, Option, Some, unwrap_or}
use Rattle.std.proofs.Common.{List, [], ◌∷◌, ◌++◌, length, Ok, codes, refl, sym, ap, subst, ◌∙◌, arith}
use Rattle.std.specs.Prelude.{bit_or}
use Rattle.std.specs.Char.{to_ascii_lowercase}
use Rattle.std.proofs.lemmas.Bool.{eqb-true}
use Rattle.ad_bytes.proofs.Steps.{both_true}
use Rattle.std.specs.List.{flat_map, AllByRecursion}
use Rattle.std.specs.Str.{str_to_ascii_lowercase}
use Rattle.ad_bytes.specs.Numbers.{byte_at}
use Rattle.ad_sddl.specs.declared.fault.SddlKind.{SddlKind}
use Rattle.ad_acl.specs.declared.codes.Code.{Code}
use Rattle.ad_sddl.specs.Words.{begins, find, are_letters}
use Rattle.ad_sddl.specs.Grammar.{lower_letters, IsIn, with_codes, SpellsCodes}
use Rattle.ad_sddl.specs.Reading.{code_at, codes_at, field_at}
use Rattle.ad_sddl.proofs.Beginnings.{begins_one, TakesField}
use Rattle.ad_sddl.proofs.Codes.{codes_if, code_is}

-- a code of two letters
pub record IsTwo (c : Code) : Type 0 where
  pub one : ℕ
  pub two : ℕ
  pub letters : c.letters ≡ one ∷ two ∷ []

two_letters : (a b : ℕ) (c : Code) → IsTwo c → are_letters a b c.letters ≡ true → lower_letters c ≡ a ∷ b ∷ []
two_letters a b c t e =
    let is : are_letters a b (t.one ∷ t.two ∷ []) ≡ true = subst (λ (l : List ℕ). are_letters a b l ≡ true) t.letters
    e in
    let both = both_true (eqb (to_ascii_lowercase t.one) a) (eqb (to_ascii_lowercase t.two) b) is in
    ap str_to_ascii_lowercase t.letters ∙ ap (λ (x : ℕ). x ∷ to_ascii_lowercase t.two ∷ []) (eqb-true _ a both.0)
    ∙ ap (λ (x : ℕ). a ∷ x ∷ []) (eqb-true _ b both.1)

here_or : (is : Bool) (d c : Code) (others : Option Code) (P : Type 0) → (is ≡ true → d ≡ c → P)
    → (others ≡ Some c → P) → (if is then Some d else others) ≡ Some c → P
here_or true d c others P here there e = here refl (ap (λ (o : Option Code). unwrap_or o d) e)
here_or false d c others P here there e = there e

-- the letters of a code that was found
pub letters_found : (table : List Code) (a b : ℕ) (c : Code) → AllByRecursion IsTwo table → find table a b ≡ Some c
    → lower_letters c ≡ a ∷ b ∷ []
letters_found [] a b c two e = absurd cc
letters_found (d ∷ table) a b c two e =
    here_or (are_letters a b d.letters) d c (find table a b) (lower_letters c ≡ a ∷ b ∷ [])
    (λ is same. ap lower_letters (sym same) ∙ two_letters a b d two.0 is) (letters_found table a b c two.1) e

-- codes that add their bits to a mask
pub record Adds (table : List Code) (before mask : ℕ) (text : List ℕ) : Type 0 where
  pub given : List Code
  pub each : AllByRecursion (IsIn table) given
  pub mask_is : mask ≡ with_codes before given
  pub parts : text ≡ flat_map lower_letters given

codes_take : (table : List Code) (kind : SddlKind) → AllByRecursion IsTwo table → (n before : ℕ) (bytes : List ℕ)
    (mask : ℕ) (rest : List ℕ) → codes_at table kind n before bytes ≡ Ok (mask, rest)
    → TakesField 59 (Adds table before) bytes mask rest
unfolding codes_at
codes_take table kind two zero before bytes mask rest e = absurd cc
codes_take table kind two (suc n) before bytes mask rest e =
    codes_if (begins (codes ";") bytes) table kind n before bytes mask rest
    (TakesField 59 (Adds table before) bytes mask rest) e
    (λ end same behind. record {
      text = [];
      parts = begins_one 59 bytes end ∙ ap (λ (r : List ℕ). 59 ∷ r) behind;
      spelled = record { given = []; each = tt; mask_is = sym same; parts = refl };
    })
    (λ t.
    let c = code_is table kind bytes t.bits t.after t.code in
    let f = codes_take table kind two n (bit_or before t.bits) t.after mask rest t.others in
    let letters : lower_letters c.code ≡ c.first ∷ c.second ∷ [] = letters_found table c.first c.second c.code two
    c.found in
    record {
      text = c.first ∷ c.second ∷ f.text;
      parts = c.parts ∙ ap (λ (r : List ℕ). c.first ∷ c.second ∷ r) f.parts;
      spelled = record {
        given = c.code ∷ f.spelled.given;
        each = ((c.first, c.second, letters, c.found), f.spelled.each);
        mask_is = f.spelled.mask_is ∙ ap (λ (b : ℕ). with_codes (bit_or before b) f.spelled.given) (sym c.bits_are);
        parts = ap (λ (r : List ℕ). c.first ∷ c.second ∷ r) f.spelled.parts
            ∙ ap (λ (l : List ℕ). l ++ flat_map lower_letters f.spelled.given) (sym letters);
      };
    })

pub field_takes : (table : List Code) (kind : SddlKind) → AllByRecursion IsTwo table → (bytes : List ℕ) (mask : ℕ)
    (rest : List ℕ) → field_at table kind bytes ≡ Ok (mask, rest) → TakesField 59 (SpellsCodes table) bytes mask rest
field_takes table kind two bytes mask rest e =
    let f = codes_take table kind two (suc (length bytes)) 0 bytes mask rest e in
    record {
      text = f.text;
      parts = f.parts;
      spelled
          = record {
            given = f.spelled.given;
            each = f.spelled.each;
            mask_is = f.spelled.mask_is;
            parts
                = f.spelled.parts;
          };
    }

-- a code at the beginning is read
code_read : (table : List Code) (kind : SddlKind) (a b : ℕ) (c : Code) (rest : List ℕ) → find table a b ≡ Some c
    → code_at table kind (a ∷ b ∷ rest) ≡ Ok (c.bits, rest)
unfolding code_at byte_at
code_read table kind a b c rest found = rw found refl

-- the field of these codes
pub codes_again : (table : List Code) (kind : SddlKind) (n before : ℕ) (given : List Code) (rest : List ℕ)
    → AllByRecursion (IsIn table) given
    → ((a b : ℕ) (c : Code) → find table a b ≡ Some c → eqb 59 a ≡ false)
    → length (flat_map lower_letters given ++ 59 ∷ rest) < n
    → codes_at table kind n before (flat_map lower_letters given ++ 59 ∷ rest) ≡ Ok (with_codes before given, rest)
unfolding codes_at begins
codes_again table kind zero before given rest each none lt = absurd (omega (arith, lt))
codes_again table kind (suc n) before [] rest each none lt = refl
codes_again table kind (suc n) before (c ∷ given) rest each none lt =
    let is = each.0 in
    let others = flat_map lower_letters given ++ 59 ∷ rest in
    let whole : flat_map lower_letters (c ∷ given) ++ 59 ∷ rest ≡ is.0 ∷ is.1 ∷ others
    = ap (λ (l : List ℕ). (l ++ flat_map lower_letters given) ++ 59 ∷ rest) is.2 in
    let other : eqb 59 is.0 ≡ false = none is.0 is.1 c is.3 in
    let shorter : length others < n = omega (arith, lt, ap length whole) in
    let code : code_at table kind (is.0 ∷ is.1 ∷ others) ≡ Ok (c.bits, others) = code_read table kind is.0 is.1 c
    others is.3 in
    ap (codes_at table kind (suc n) before) whole
    ∙ rw (other, code) (codes_again table kind n (bit_or before c.bits) given rest each.1 none shorter)

-- what is encoded is read
pub field_again : (table : List Code) (kind : SddlKind)
    → ((a b : ℕ) (c : Code) → find table a b ≡ Some c → eqb 59 a ≡ false)
    → (mask : ℕ) (text rest : List ℕ) → SpellsCodes table mask text → field_at table kind (text ++ 59 ∷ rest)
    ≡ Ok (mask, rest)
field_again table kind none mask text rest s =
    ap (λ (t : List ℕ). field_at table kind (t ++ 59 ∷ rest)) s.parts
    ∙ codes_again table kind (suc (length (flat_map lower_letters s.given ++ 59 ∷ rest))) 0 s.given rest s.each none
    (omega arith)
    ∙ ap (λ (m : ℕ). Ok (m, rest)) (sym s.mask_is)
