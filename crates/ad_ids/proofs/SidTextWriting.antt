-- The text that is written of an identifier is in the grammar.
use Rattle.std.proofs.Common.{Bool, ltb, ◌≡◌, inl, inr, ℕ, zero, suc, ◌/◌, ◌%◌, ◌^◌, ◌<◌, true, if◌then◌else◌, ◌++◌}
use Rattle.std.proofs.Common.{refl, ap, arith, codes, decimal}
use Rattle.std.proofs.lemmas.Bool.{cases_Bool, ltb-true, ltb-false}
use Rattle.std.proofs.lemmas.Bool.Decides.{nat_tests}
use Rattle.uuid.specs.Text.{lower, is_hex_digit, value_of}
use Rattle.uuid.specs.Text.{hex_digit as digit_of}
use Rattle.uuid.proofs.TextLemmas.{table_at}
use Rattle.ad_ids.specs.SidValue.{SidValue}
use Rattle.ad_ids.specs.Sid.{IsSid}
use Rattle.ad_ids.specs.SidText.{hex_digit, hex_digits, authority_text, sid_text}
use Rattle.ad_ids.specs.SidGrammar.{SpellsHex, SpellsAuthority, SpellsSidText}

digit_written : (d : ℕ) → d < 16 → hex_digit d ≡ digit_of lower d
digit_written d small = table_at lower d 0 (inl refl) small

digit_read : (d : ℕ) → d < 16 → (is_hex_digit (hex_digit d) ≡ true) × (value_of (hex_digit d) ≡ d)
digit_read d small = rw (digit_written d small) (grind (arith, nat_tests), grind (arith, nat_tests))

hex_written : (k n : ℕ) → n < 16 ^ k → SpellsHex k n (hex_digits k n)
unfolding hex_digits
hex_written zero n small = (omega (arith, small), refl)
hex_written (suc k) n small =
    let d = digit_read (n % 16) (omega arith) in
    record {
      front = hex_digits k (n / 16);
      last = hex_digit (n % 16);
      digit = d.0;
      remainder = d.1;
      parts
          = refl;
      before = hex_written k (n / 16) (omega (arith, small));
    }

authority_written : (n : ℕ) → n < 2 ^ 48 → SpellsAuthority n (authority_text n)
authority_written n small = elim (cases_Bool (ltb n (2 ^ 32))) [
  | inl below ↦ inl (
    ltb-true n (2 ^ 32) below,
    ap (λ (c : Bool). if c then decimal n else codes "0x"
        ++ hex_digits 12 n) below,
  )
  | inr large ↦ inr (record {
    large = ltb-false n (2 ^ 32) large;
    digits = hex_digits 12 n;
    parts = ap (λ (c : Bool). if c then decimal n else codes "0x" ++ hex_digits 12 n) large;
    spelled = hex_written 12 n (omega (arith, small));
  })
]

pub spelled_by_text : (v : SidValue) → IsSid v → SpellsSidText v (sid_text v)
spelled_by_text v s = record {
  is_sid = s;
  front = codes "S-1-";
  is_front = record { letter = 83; is_s = inl refl; parts = refl };
  authority = authority_text v.authority;
  spelled = authority_written v.authority s.authority;
  parts = refl;
}
