-- A value is normal in one way at most, and what it shows reads back.
use Rattle.std.proofs.Common.{◌≡◌, inl, inr, ℕ, ◌<◌, ◌≤◌, ◌^◌, ℤ, true, false, nat_lt, Option, Some, None, Ok, Err}
use Rattle.std.proofs.Common.{List, length, refl, sym, ap, subst, ◌∙◌, arith, FitsSigned, codes}
use Rattle.std.specs.Prelude.{if◌then◌else◌, option_map, Bool, [], ◌++◌}
use Rattle.std.specs.Option.{ok_or}
use Rattle.std.specs.Int.{Width, w32, w64}
use Rattle.std.specs.Str.{str_to_ascii_lowercase}
use Rattle.std.proofs.lemmas.Bool.Decides.{nat_tests}
use Rattle.std.proofs.lemmas.Fmt.{signed_decimal_injective}
use Rattle.std.proofs.lemmas.Option.{same_Some}
use lib.Signed.{mag}
use Rattle.ad_bytes.specs.Reading.{IsBytes}
use Rattle.ad_ids.specs.SidValue.{SidValue}
use Rattle.ad_ids.specs.Sid.{IsSid, SpellsSid, sid_bytes}
use Rattle.ad_ids.specs.SidGrammar.{SpellsSidText}
use Rattle.ad_ids.specs.SidReading.{sid_at}
use Rattle.ad_dn.specs.declared.rdn.Dn.{Dn}
use Rattle.ad_dn.specs.NameKey.{name_key}
use Rattle.ad_value.specs.declared.syntax.Syntax.{Syntax}
use Rattle.ad_value.specs.declared.syntax.Syntax.TheVariants as syntax
use Rattle.ad_value.specs.declared.value.Key.TheVariants as key
use Rattle.ad_value.specs.Value.{Value, value, as_shown}
use Rattle.ad_value.specs.declared.fault.ValueFault.TheVariants as fault
use Rattle.ad_value.specs.Normal.{IsNameText, IsAsciiText, IsNumber, IsText, IsSpelled, IsNormal}
use Rattle.ad_value.specs.ValueOf.{normal_of, normal_or_fault}
use Rattle.ad_value.proofs.Lower.{Promised, SidLengths}
use Rattle.ad_value.proofs.FormLaws.{bytes_no_text, same_first}
use Rattle.ad_value.proofs.ValueLaws.{normal_same, no_both, boolean_again, sid_bytes_again}

-- ---- one value at most

numbers_once : (w : Width) (bytes : List ℕ) (v u : Value) → ((z : ℤ) → FitsSigned w z → mag z < 2 ^ 63)
    → IsNumber w bytes v → IsNumber w bytes u → v ≡ u
numbers_once w bytes v u small p q =
    let same : p.number ≡ q.number = signed_decimal_injective p.number q.number (small p.number p.fits)
    (small q.number q.fits) (sym p.spelled ∙ q.spelled) in
    p.is ∙ ap (λ (z : ℤ). value bytes (key.Number z)) same ∙ sym q.is

words_once : (bytes : List ℕ) (v u : Value) → IsNormal syntax.Boolean bytes v → IsNormal syntax.Boolean bytes u → v ≡ u
words_once bytes v u (inl p) (inl q) = p.is ∙ sym q.is
words_once bytes v u (inl p) (inr q) = absurd (no_both bytes p.spelled q.spelled)
words_once bytes v u (inr p) (inl q) = absurd (no_both bytes q.spelled p.spelled)
words_once bytes v u (inr p) (inr q) = p.is ∙ sym q.is

in_bytes_once : Promised → (a b : SidValue) (bytes : List ℕ) → SpellsSid a bytes → SpellsSid b bytes → a ≡ b
in_bytes_once w a b bytes p q = same_first (sid_at (bytes ++ [])) (a, []) (b, []) (w.sid_read.again a bytes [] p)
    (w.sid_read.again b bytes [] q)

in_text_once : Promised → (a b : SidValue) (text : List ℕ) → SpellsSidText a text → SpellsSidText b text → a ≡ b
in_text_once w a b text p q =
    let first = (w.sid_texts a text).1 p in
    let second = (w.sid_texts b text).1 q in
    cc

sids_once : Promised → (a b : SidValue) (bytes : List ℕ) → IsSpelled a bytes → IsSpelled b bytes → a ≡ b
sids_once w a b bytes (inl p) (inl q) = in_bytes_once w a b bytes p q
sids_once w a b bytes (inl p) (inr q) = absurd (bytes_no_text a b bytes p q)
sids_once w a b bytes (inr p) (inl q) = absurd (bytes_no_text b a bytes q p)
sids_once w a b bytes (inr p) (inr q) = in_text_once w a b bytes p q

pub one_value : Promised → (s : Syntax) (bytes : List ℕ) (v u : Value) → IsNormal s bytes v → IsNormal s bytes u → v ≡ u
one_value w syntax.Name bytes v u p q = p.is ∙ ap (λ (d : Dn). value bytes (key.Bytes (name_key d)))
    (same_Some p.dn q.dn (sym ((w.names p.dn bytes).1 p.spelled) ∙ (w.names q.dn bytes).1 q.spelled)) ∙ sym q.is
one_value w syntax.Ascii bytes v u p q = p.is ∙ sym q.is
one_value w syntax.Boolean bytes v u p q = words_once bytes v u p q
one_value w syntax.Integer bytes v u p q = numbers_once w32 bytes v u (λ z f. omega (arith, f.sfits)) p q
one_value w syntax.Large bytes v u p q = numbers_once w64 bytes v u (λ z f. f.sfits) p q
one_value w syntax.Octets bytes v u p q = p ∙ sym q
one_value w syntax.Unicode bytes v u p q = p.is ∙ sym q.is
one_value w syntax.Sid bytes v u p q = p.is ∙ ap (λ (s : SidValue). as_shown (sid_bytes s))
    (sids_once w p.sid q.sid bytes p.spelled q.spelled) ∙ sym q.is
one_value w syntax.Other bytes v u p q = p ∙ sym q

-- ---- what is shown

shows : (v w : Value) → v ≡ w → v.shown ≡ w.shown
shows v w e = ap (λ (u : Value). u.shown) e

as_shown_again : (bytes : List ℕ) (v : Value) → v ≡ as_shown bytes → v ≡ as_shown v.shown
as_shown_again bytes v e = e ∙ ap as_shown (sym (shows v (as_shown bytes) e))

is_sid : (sid : SidValue) (bytes : List ℕ) → IsSpelled sid bytes → IsSid sid
is_sid sid bytes (inl p) = p.0
is_sid sid bytes (inr q) = q.is_sid

words_shown : (bytes : List ℕ) (v : Value) → IsNormal syntax.Boolean bytes v → IsNormal syntax.Boolean v.shown v
words_shown bytes v (inl p) = inl (record
    { spelled = ap str_to_ascii_lowercase (shows v (as_shown (codes "TRUE")) p.is); is = p.is })
words_shown bytes v (inr p) = inr (record
    { spelled = ap str_to_ascii_lowercase (shows v (as_shown (codes "FALSE")) p.is); is = p.is })

pub shown_again : (s : Syntax) (bytes : List ℕ) (v : Value) → IsNormal s bytes v → IsNormal s v.shown v
shown_again syntax.Name bytes v p = subst (λ (t : List ℕ). IsNameText t v)
    (sym (shows v (value bytes (key.Bytes (name_key p.dn))) p.is)) p
shown_again syntax.Ascii bytes v p = subst (λ (t : List ℕ). IsAsciiText t v) (sym (shows v _ p.is)) p
shown_again syntax.Boolean bytes v p = words_shown bytes v p
shown_again syntax.Integer bytes v p = subst (λ (t : List ℕ). IsNumber w32 t v)
    (sym (shows v (value bytes (key.Number p.number)) p.is)) p
shown_again syntax.Large bytes v p = subst (λ (t : List ℕ). IsNumber w64 t v)
    (sym (shows v (value bytes (key.Number p.number)) p.is)) p
shown_again syntax.Octets bytes v p = as_shown_again bytes v p
shown_again syntax.Unicode bytes v p = subst (λ (t : List ℕ). IsText t v) (sym (shows v _ p.is)) p
shown_again syntax.Sid bytes v p = record {
  sid = p.sid;
  spelled = inl (is_sid p.sid bytes p.spelled, shows v (as_shown (sid_bytes p.sid)) p.is);
  is
      = p.is;
}
shown_again syntax.Other bytes v p = as_shown_again bytes v p

-- ---- and is read back

-- of the same bytes, or of shorter ones that are read
record IsReadBack (s : Syntax) (bytes : List ℕ) (v : Value) : Type 0 where
  short : length v.shown ≤ 1048576
  again : normal_of s v.shown ≡ Some v

same_bytes : (s : Syntax) (bytes : List ℕ) (v : Value) → length bytes ≤ 1048576 → normal_of s bytes ≡ Some v → v.shown
    ≡ bytes → IsReadBack s bytes v
same_bytes s bytes v le e same = record {
  short = subst (λ (t : List ℕ). length t ≤ 1048576) (sym same) le;
  again = subst (λ (t : List ℕ). normal_of s t ≡ Some v) (sym same) e;
}

words_back : (bytes : List ℕ) (v : Value) → IsNormal syntax.Boolean bytes v → IsReadBack syntax.Boolean bytes v
unfolding normal_of
words_back bytes v (inl p) = record {
  short = subst (λ (t : List ℕ). length t ≤ 1048576) (sym (shows v (as_shown (codes "TRUE")) p.is)) (omega arith);
  again = boolean_again v.shown v (words_shown bytes v (inl p));
}
words_back bytes v (inr p) = record {
  short = subst (λ (t : List ℕ). length t ≤ 1048576) (sym (shows v (as_shown (codes "FALSE")) p.is)) (omega arith);
  again = boolean_again v.shown v (words_shown bytes v (inr p));
}

sids_back : Promised → SidLengths → (bytes : List ℕ) (v : Value) → IsNormal syntax.Sid bytes v
    → IsReadBack syntax.Sid bytes v
unfolding normal_of
sids_back w long bytes v p =
    let shown : v.shown ≡ sid_bytes p.sid = shows v (as_shown (sid_bytes p.sid)) p.is in
    let sid : IsSid p.sid = is_sid p.sid bytes p.spelled in
    let most : length p.sid.sub_authorities ≤ 15 = sid.at_most_15 in
    let size : length (sid_bytes p.sid) ≤ 1048576 = omega (arith, long p.sid, most) in
    record {
      short = subst (λ (t : List ℕ). length t ≤ 1048576) (sym shown) size;
      again = ap (option_map (λ s. as_shown (sid_bytes s))) (sid_bytes_again w v.shown p.sid (sid, shown))
          ∙ ap (λ (u : Value). Some u) (sym p.is);
    }

read_back : Promised → SidLengths → (s : Syntax) (bytes : List ℕ) (v : Value) → length bytes ≤ 1048576
    → normal_of s bytes ≡ Some v → IsNormal s bytes v → IsReadBack s bytes v
read_back w long syntax.Name bytes v le e p = same_bytes syntax.Name bytes v le e
    (shows v (value bytes (key.Bytes (name_key p.dn))) p.is)
read_back w long syntax.Ascii bytes v le e p = same_bytes syntax.Ascii bytes v le e (shows v _ p.is)
read_back w long syntax.Boolean bytes v le e p = words_back bytes v p
read_back w long syntax.Integer bytes v le e p = same_bytes syntax.Integer bytes v le e
    (shows v (value bytes (key.Number p.number)) p.is)
read_back w long syntax.Large bytes v le e p = same_bytes syntax.Large bytes v le e
    (shows v (value bytes (key.Number p.number)) p.is)
read_back w long syntax.Octets bytes v le e p = same_bytes syntax.Octets bytes v le e (shows v (as_shown bytes) p)
read_back w long syntax.Unicode bytes v le e p = same_bytes syntax.Unicode bytes v le e (shows v _ p.is)
read_back w long syntax.Sid bytes v le e p = sids_back w long bytes v p
read_back w long syntax.Other bytes v le e p = same_bytes syntax.Other bytes v le e (shows v (as_shown bytes) p)

-- what was read was not too long
record WasRead (s : Syntax) (bytes : List ℕ) (v : Value) : Type 0 where
  short : length bytes ≤ 1048576
  found : normal_of s bytes ≡ Some v

found_of : {A E : Type 0} (o : Option A) (e : E) (x : A) → ok_or o e ≡ Ok x → o ≡ Some x
found_of None e x h = absurd cc
found_of (Some y) e x h = let same : y ≡ x = cc in ap (λ z. Some z) same

was_read : (s : Syntax) (bytes : List ℕ) (v : Value) → normal_or_fault s bytes ≡ Ok v → WasRead s bytes v
was_read s bytes v e = by (nat_lt 1048576 (length bytes)) refl e where
  by : (b : Bool) → nat_lt 1048576 (length bytes) ≡ b
      → (if b then Err fault.TooLong else ok_or (normal_of s bytes) fault.Syntax) ≡ Ok v → WasRead s bytes v
  by true is h = absurd cc
  by false is h = record { short = grind (arith, nat_tests, is); found = found_of (normal_of s bytes) fault.Syntax v h }

not_long : (s : Syntax) (bytes : List ℕ) (v : Value) → length bytes ≤ 1048576 → normal_of s bytes ≡ Some v
    → normal_or_fault s bytes ≡ Ok v
not_long s bytes v le e =
    let short : nat_lt 1048576 (length bytes) ≡ false = grind (arith, nat_tests) in
    rw short (ap (λ (o : Option Value). ok_or o fault.Syntax) e)

pub shown_read : Promised → SidLengths → (s : Syntax) (bytes : List ℕ) (v : Value) → IsBytes bytes
    → normal_or_fault s bytes ≡ Ok v → normal_or_fault s v.shown ≡ Ok v
shown_read w long s bytes v b e =
    let r = was_read s bytes v e in
    let back = read_back w long s bytes v r.short r.found ((normal_same w s bytes b v).0 r.found) in
    not_long s v.shown v back.short back.again
