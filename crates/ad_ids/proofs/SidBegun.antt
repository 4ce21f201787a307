-- What bytes that begin with an identifier say of its sub-authorities.
use Rattle.std.proofs.Common.{◌≡◌, ℕ, zero, suc, ◌+◌, ◌-◌, ◌*◌, ◌^◌, ◌<◌, ◌≤◌, Bool, true, false, List, [], ◌∷◌, ◌++◌}
use Rattle.std.proofs.Common.{length, drop, get_or, slice_index, Ok, Err, refl, sym, ap, subst, ◌∙◌, append_assoc}
use Rattle.std.proofs.Common.{arith}
use Rattle.std.specs.Prelude.{◌||◌}
use Rattle.std.specs.List.{list_any, AllByRecursion}
use Rattle.std.proofs.Math.Seq.{drop-append-add}
use Rattle.std.proofs.lemmas.List.{length-append}
use Rattle.byteorder.specs.Endian.{little_number}
use Rattle.byteorder.specs.Numbers.{little_number-reads_back}
use Rattle.ad_bytes.specs.Reading.{IsBytes, Reading, TakesFront}
use Rattle.ad_bytes.specs.Numbers.{be_bytes, le_bytes}
use Rattle.ad_bytes.proofs.Codec.{length-be_bytes, length-le_bytes}
use Rattle.ad_ids.specs.declared.sid.SidFault.{SidFault}
use Rattle.ad_ids.specs.Sid.{IsSid, SpellsSid, sid_bytes}
use Rattle.ad_ids.specs.SidValue.{SidValue, same_sid, contains_sid}
use Rattle.ad_ids.specs.SidReading.{sid_at}
use Rattle.ad_ids.specs.SidBegun.{is_read, begins_with, begins_with_one}
use Rattle.ad_ids.proofs.SidCodec.{sid_reader}
use Rattle.ad_ids.proofs.SidLaws.{same_sid-Decides}
use Rattle.ad_ids.proofs.SidWriting.{words, length-sid_bytes}

-- the bytes begin with the identifier
pub record Begun (v : SidValue) (bytes : List ℕ) : Type 0 where
  pub rest : List ℕ
  pub is : IsSid v
  pub parts : bytes ≡ sid_bytes v ++ rest

from_read : (v : SidValue) (bytes : List ℕ) (r : Reading SidValue SidFault) → IsBytes bytes → sid_at bytes ≡ r
    → is_read r v ≡ true → Begun v bytes
from_read v bytes (Err fault) fits read same = absurd cc
from_read v bytes (Ok x) fits read same =
    let t : TakesFront SpellsSid bytes x.0 x.1 = sid_reader.takes bytes x.0 x.1 fits read in
    let one : v ≡ x.0 = (same_sid-Decides v x.0).0 same in
    record {
      rest = x.1;
      is = subst IsSid (sym one) t.spelled.0;
      parts = t.parts ∙ ap (λ (text : List ℕ). text ++ x.1) (t.spelled.1 ∙ ap sid_bytes (sym one));
    }

pub begun : (v : SidValue) (bytes : List ℕ) → IsBytes bytes → begins_with bytes v ≡ true → Begun v bytes
unfolding begins_with
begun v bytes fits e = from_read v bytes (sid_at bytes) fits refl e

pub begun_long : (v : SidValue) (bytes : List ℕ) → Begun v bytes → 8 + 4 * length v.sub_authorities ≤ length bytes
begun_long v bytes b = omega (arith, ap length b.parts, length-append (sid_bytes v) b.rest, length-sid_bytes v)

pub begun_count : (v : SidValue) (bytes : List ℕ) → Begun v bytes → slice_index bytes 1 ≡ length v.sub_authorities
unfolding sid_bytes
begun_count v bytes b = ap (λ (t : List ℕ). slice_index t 1) b.parts

word_at : (xs rest : List ℕ) (k : ℕ) → AllByRecursion (λ n. n < 2 ^ 32) xs → k < length xs
    → little_number 4 (drop (4 * k) (words xs ++ rest)) ≡ get_or xs k 0
unfolding le_bytes
word_at [] rest k all lt = absurd (omega (arith, lt))
word_at (x ∷ xs) rest zero all lt = ap (little_number 4) (append_assoc (le_bytes 4 x) (words xs) rest)
    ∙ little_number-reads_back 4 x (words xs ++ rest) all.0
word_at (x ∷ xs) rest (suc k) all lt =
    let at : 4 * suc k ≡ length (le_bytes 4 x) + 4 * k = omega (arith, length-le_bytes 4 x) in
    ap (λ (n : ℕ). little_number 4 (drop n (words (x ∷ xs) ++ rest))) at
    ∙ ap (λ (t : List ℕ). little_number 4 (drop (length (le_bytes 4 x) + 4 * k) t))
    (append_assoc (le_bytes 4 x) (words xs) rest)
    ∙ ap (little_number 4) (drop-append-add (le_bytes 4 x) (words xs ++ rest) (4 * k))
    ∙ word_at xs rest k all.1 (omega (arith, lt))

pub begun_word : (v : SidValue) (bytes : List ℕ) → Begun v bytes → (i : ℕ) → i < length v.sub_authorities
    → little_number 4 (drop (8 + 4 * i) bytes) ≡ get_or v.sub_authorities i 0
unfolding sid_bytes
begun_word v bytes b i lt =
    let head : List ℕ = 1 ∷ length v.sub_authorities ∷ be_bytes 6 v.authority in
    let others : List ℕ = words v.sub_authorities in
    let long : length head ≡ 8 = omega (arith, length-be_bytes 6 v.authority) in
    let at : 8 + 4 * i ≡ length head + 4 * i = omega (arith, long) in
    let parts : bytes ≡ head ++ (others ++ b.rest) = b.parts ∙ append_assoc head others b.rest in
    ap (λ (t : List ℕ). little_number 4 (drop (8 + 4 * i) t)) parts
    ∙ ap (λ (m : ℕ). little_number 4 (drop m (head ++ (others ++ b.rest)))) at
    ∙ ap (little_number 4) (drop-append-add head (others ++ b.rest) (4 * i))
    ∙ word_at v.sub_authorities b.rest i b.is.sub_authorities lt

pub begun_last : (v : SidValue) (bytes : List ℕ) → Begun v bytes → (n : ℕ) → n ≡ length v.sub_authorities
    → little_number 4 (drop (4 + 4 * n) bytes) ≡ get_or v.sub_authorities (n - 1) 0
begun_last v bytes b n count =
    let one : 1 ≤ n = omega (arith, b.is.at_least_one, count) in
    let at : 4 + 4 * n ≡ 8 + 4 * (n - 1) = omega (arith, one) in
    ap (λ (m : ℕ). little_number 4 (drop m bytes)) at ∙ begun_word v bytes b (n - 1) (omega (arith, one, count))

-- an identifier that is read is the one that they begin with
pub read_begun : (bytes : List ℕ) (v : SidValue) (rest : List ℕ) → IsBytes bytes → sid_at bytes ≡ Ok (v, rest)
    → Begun v bytes
read_begun bytes v rest fits read =
    let t : TakesFront SpellsSid bytes v rest = sid_reader.takes bytes v rest fits read in
    record { rest = rest; is = t.spelled.0; parts = t.parts ∙ ap (λ (text : List ℕ). text ++ rest) t.spelled.1 }

-- where no identifier is read, there is none of the list
pub none_begun : (bytes : List ℕ) (sids : List SidValue) (fault : SidFault) → sid_at bytes ≡ Err fault
    → begins_with_one bytes sids ≡ false
unfolding begins_with
none_begun bytes [] fault e = refl
none_begun bytes (v ∷ sids) fault e = ap (λ (b : Bool). is_read (sid_at bytes) v || b) (none_begun bytes sids fault e)
    ∙ ap (λ (r : Reading SidValue SidFault). is_read r v || false) e

-- where one is read, the list is asked for it
pub one_begun : (bytes : List ℕ) (sids : List SidValue) (sid : SidValue) (rest : List ℕ) → sid_at bytes
    ≡ Ok (sid, rest) → begins_with_one bytes sids ≡ contains_sid sids sid
unfolding begins_with
one_begun bytes sids sid rest e = ap (λ (r : Reading SidValue SidFault). list_any (λ (s : SidValue). is_read r s)
    sids) e

pub read_as : (bytes : List ℕ) (s sid : SidValue) (rest : List ℕ) → sid_at bytes ≡ Ok (sid, rest)
    → begins_with bytes s ≡ same_sid s sid
unfolding begins_with
read_as bytes s sid rest e = ap (λ (r : Reading SidValue SidFault). is_read r s) e

-- where the one that is read isn't in the list, they begin with none
pub not_begun : (bytes : List ℕ) (sids : List SidValue)
    → ((sid : SidValue) (rest : List ℕ) → sid_at bytes ≡ Ok (sid, rest) → false ≡ contains_sid sids sid) → false
    ≡ begins_with_one bytes sids
not_begun bytes sids none = by_read (sid_at bytes) refl
  where
    by_read : (r : Reading SidValue SidFault) → sid_at bytes ≡ r → false ≡ begins_with_one bytes sids
    by_read (Ok x) read = none x.0 x.1 read ∙ sym (one_begun bytes sids x.0 x.1 read)
    by_read (Err fault) read = sym (none_begun bytes sids fault read)
