-- The reader of a security identifier is that of its one encoding.
use Rattle.std.proofs.Common.{◌≡◌, ℕ, ◌^◌, ◌<◌, ◌≤◌, true, ltb, eqb, List, [], ◌∷◌, ◌++◌, length, Ok, refl, sym, ap}
use Rattle.std.proofs.Common.{subst, ◌∙◌, append_assoc, arith}
use Rattle.std.specs.Prelude.{◌&&◌}
use Rattle.std.specs.List.{flat_map, AllByRecursion}
use Rattle.std.proofs.lemmas.Bool.{eqb-true, ltb-true, lt-ltb}
use Rattle.ad_bytes.specs.Reading.{IsBytes, or_fault, many_at, TakesFront, IsReaderOf, SpellsEach, SpellsMany}
use Rattle.ad_bytes.specs.Numbers.{byte_at, be_at, le_at, be_bytes, le_bytes, SpellsBe, SpellsLe}
use Rattle.ad_bytes.proofs.Steps.{both_true, from_bind, from_need, from_or_fault, from_ok}
use Rattle.ad_bytes.proofs.Codec.{byte_parts, be_reader, le_reader, rest_fits}
use Rattle.ad_bytes.proofs.NumberBytes.{IsBytes-rest}
use Rattle.ad_bytes.proofs.Many.{many_reader}
use Rattle.ad_ids.specs.declared.sid.SidFault.TheVariants.{Short, Revision, Count}
use Rattle.ad_ids.specs.SidValue.{SidValue}
use Rattle.ad_ids.specs.Sid.{sid_bytes, SpellsSid}
use Rattle.ad_ids.specs.SidReading.{header_at, sid_at}

-- ---- the sub-authorities

-- numbers in a row are the bytes of each
each_le : (xs : List ℕ) (text : List ℕ) → SpellsEach (SpellsLe 4) xs text → AllByRecursion (λ n. n < 2 ^ 32) xs
    × (text ≡ flat_map (le_bytes 4) xs)
each_le [] text s = (tt, s)
each_le (x ∷ xs) text s =
    let others = each_le xs s.behind s.follows in
    ((s.spelled.0, others.0), s.parts ∙ rw (s.spelled.1, others.1) refl)

le_each : (xs : List ℕ) → AllByRecursion (λ n. n < 2 ^ 32) xs → SpellsEach (SpellsLe 4) xs (flat_map (le_bytes 4) xs)
le_each [] all = refl
le_each (x ∷ xs) all = record {
  front = le_bytes 4 x;
  behind = flat_map (le_bytes 4) xs;
  parts = refl;
  spelled
      = (all.0, refl);
  follows = le_each xs all.1;
}

-- ---- the header

-- what the header says, and that it is two bytes
record Header (bytes : List ℕ) (count : ℕ) (rest : List ℕ) : Type 0 where
  parts : bytes ≡ 1 ∷ count ∷ rest
  at_least_one : 1 ≤ count
  at_most_15 : count ≤ 15

header_takes : (bytes : List ℕ) (count : ℕ) (rest : List ℕ) → IsBytes bytes → header_at bytes ≡ Ok (count, rest)
    → Header bytes count rest
unfolding header_at
header_takes bytes count rest fits e =
    from_bind (or_fault Short (byte_at bytes)) _ (count, rest) e
    (λ (r : ℕ × List ℕ) (e1 : or_fault Short (byte_at bytes) ≡ Ok r) e2.
    from_need (eqb r.0 1) (Revision r.0) _ (count, rest) e2 (λ (one : eqb r.0 1 ≡ true) e3.
    from_bind (or_fault Short (byte_at r.1)) _ (count, rest) e3
    (λ (n : ℕ × List ℕ) (e4 : or_fault Short (byte_at r.1) ≡ Ok n) e5.
    from_need (ltb 0 n.0 && ltb n.0 16) (Count n.0) _ (count, rest) e5
    (λ (bounds : ltb 0 n.0 && ltb n.0 16 ≡ true) (e6 : Ok n ≡ Ok (count, rest)).
    let first : bytes ≡ r.0 ∷ r.1 = byte_parts bytes r.0 r.1 fits (from_or_fault Short (byte_at bytes) r e1) in
    let second : r.1 ≡ n.0 ∷ n.1 = byte_parts r.1 n.0 n.1 (IsBytes-rest r.0 r.1 (subst IsBytes first fits))
    (from_or_fault Short (byte_at r.1) n e4) in
    let same : n ≡ (count, rest) = from_ok n (count, rest) e6 in
    let revision : r.0 ≡ 1 = eqb-true r.0 1 one in
    let both = both_true (ltb 0 n.0) (ltb n.0 16) bounds in
    subst (λ (p : ℕ × List ℕ). Header bytes p.0 p.1) same
    (record {
      parts = first ∙ rw (revision, second) refl;
      at_least_one = ltb-true _ _ both.0;
      at_most_15
          = omega (arith, ltb-true _ _ both.1);
    })))))

header_again : (count : ℕ) (rest : List ℕ) → 1 ≤ count → count ≤ 15 → header_at (1 ∷ count ∷ rest) ≡ Ok (count, rest)
unfolding header_at byte_at
header_again count rest low high =
    let a : ltb 0 count ≡ true = lt-ltb 0 count low in
    let b : ltb count 16 ≡ true = lt-ltb count 16 (omega arith) in
    rw (a, b) refl

-- ---- the identifier

sid_takes : (bytes : List ℕ) (v : SidValue) (rest : List ℕ) → IsBytes bytes → sid_at bytes ≡ Ok (v, rest)
    → TakesFront SpellsSid bytes v rest
unfolding sid_at sid_bytes
sid_takes bytes v rest fits e =
    from_bind (header_at bytes) _ (v, rest) e (λ (n : ℕ × List ℕ) (e1 : header_at bytes ≡ Ok n) e2.
    let h : Header bytes n.0 n.1 = header_takes bytes n.0 n.1 fits e1 in
    let fits1 : IsBytes n.1 = IsBytes-rest n.0 n.1 (IsBytes-rest 1 (n.0 ∷ n.1) (subst IsBytes h.parts fits)) in
    from_bind (or_fault Short (be_at 6 n.1)) _ (v, rest) e2
    (λ (a : ℕ × List ℕ) (e3 : or_fault Short (be_at 6 n.1) ≡ Ok a) e4.
    let t : TakesFront (SpellsBe 6) n.1 a.0 a.1 = (be_reader 6).takes n.1 a.0 a.1 fits1
    (from_or_fault Short (be_at 6 n.1) a e3) in
    let fits2 : IsBytes a.1 = rest_fits (SpellsBe 6) n.1 a.0 a.1 fits1 t in
    from_bind (or_fault Short (many_at (le_at 4) n.0 a.1)) _ (v, rest) e4
    (λ (o : List ℕ × List ℕ) (e5 : or_fault Short (many_at (le_at 4) n.0 a.1) ≡ Ok o)
    (e6 : Ok (record { authority = a.0; sub_authorities = o.0 }, o.1) ≡ Ok (v, rest)).
    let u : TakesFront (SpellsMany (SpellsLe 4) n.0) a.1 o.0 o.1
    = (many_reader (SpellsLe 4) (le_at 4) (le_reader 4) n.0).takes a.1 o.0 o.1 fits2
    (from_or_fault Short (many_at (le_at 4) n.0 a.1) o e5) in
    let each = each_le o.0 u.text u.spelled.1 in
    let value : SidValue = record { authority = a.0; sub_authorities = o.0 } in
    let same : (value, o.1) ≡ (v, rest) = from_ok (value, o.1) (v, rest) e6 in
    subst (λ (p : SidValue × List ℕ). TakesFront SpellsSid bytes p.0 p.1) same
    (record {
      text = 1 ∷ n.0 ∷ be_bytes 6 a.0 ++ u.text;
      parts = h.parts ∙ ap (λ (r : List ℕ). 1 ∷ n.0 ∷ r)
          (t.parts ∙ rw t.spelled.1 (ap (λ (r : List ℕ). be_bytes 6 a.0 ++ r) u.parts
          ∙ sym (append_assoc (be_bytes 6 a.0) u.text o.1)));
      spelled = (
        record {
          authority = t.spelled.0;
          at_least_one = omega (arith, h.at_least_one, u.spelled.0);
          at_most_15
              = omega (arith, h.at_most_15, u.spelled.0);
          sub_authorities = each.0;
        },
        rw (u.spelled.0, each.1) refl,
      );
    }))))

sid_again : (v : SidValue) (text rest : List ℕ) → SpellsSid v text → sid_at (text ++ rest) ≡ Ok (v, rest)
unfolding sid_at sid_bytes
sid_again v text rest s =
    let n = length v.sub_authorities in
    let others = flat_map (le_bytes 4) v.sub_authorities in
    let head : header_at (1 ∷ n ∷ be_bytes 6 v.authority ++ (others ++ rest))
    ≡ Ok (n, be_bytes 6 v.authority ++ (others ++ rest))
    = header_again n (be_bytes 6 v.authority ++ (others ++ rest)) s.0.at_least_one s.0.at_most_15 in
    let authority : be_at 6 (be_bytes 6 v.authority ++ (others ++ rest)) ≡ Ok (v.authority, others ++ rest)
    = (be_reader 6).again v.authority (be_bytes 6 v.authority) (others ++ rest) (s.0.authority, refl) in
    let each : many_at (le_at 4) n (others ++ rest) ≡ Ok (v.sub_authorities, rest)
    = (many_reader (SpellsLe 4) (le_at 4) (le_reader 4) n).again v.sub_authorities others rest
    (refl, le_each v.sub_authorities s.0.sub_authorities) in
    let whole : text ++ rest ≡ 1 ∷ n ∷ be_bytes 6 v.authority ++ (others ++ rest)
    = rw s.1 (ap (λ (r : List ℕ). 1 ∷ n ∷ r) (append_assoc (be_bytes 6 v.authority) others rest)) in
    ap sid_at whole ∙ rw (head, authority, each) refl

-- what is read is the encoding, and the encoding is read, whatever follows
pub sid_reader : IsReaderOf SpellsSid sid_at
sid_reader = record { takes = sid_takes; again = sid_again }
