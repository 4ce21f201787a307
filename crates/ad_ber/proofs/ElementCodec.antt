-- The reader of an element is that of its encodings.
use Rattle.std.proofs.Common.{◌≡◌, inl, inr, ◌⊎◌, ℕ, ◌+◌, ◌-◌, ◌^◌, ◌%◌, ◌<◌, ◌≤◌, ◌≢◌, true, false, eqb, ltb, List}
use Rattle.std.proofs.Common.{[], ◌++◌, length, take, drop, Ok, Err, refl, sym, ap, subst, ◌∙◌, length-append}
use Rattle.std.proofs.Common.{length-drop, arith}
use Rattle.std.proofs.lemmas.List.{drop_at, drop_all, drop-drop, take_all}
use Rattle.std.proofs.lemmas.Bool.{cases_Bool, eqb-false, ne_eqb, ltb-true, ltb-false, lt-ltb, le-ltb}
use Rattle.ad_bytes.specs.Reading.{IsBytes, Reading, ◌>>=◌, or_fault, TakesFront, StartsWith, IsReaderOf}
use Rattle.ad_bytes.specs.Numbers.{byte_at, be_at, part_at, SpellsByte, SpellsBe, SpellsPart}
use Rattle.ad_bytes.proofs.Steps.{from_bind, from_need, from_or_fault, from_ok}
use Rattle.ad_bytes.proofs.Codec.{byte_reader, be_reader, part_reader, rest_fits, front_then, again_first, none_found}
use Rattle.ad_ber.specs.declared.fault.BerFault.{BerFault}
use Rattle.ad_ber.specs.declared.fault.BerFault.TheVariants as fault
use Rattle.ad_ber.specs.declared.finding.Tagged.{Tagged}
use Rattle.ad_ber.specs.Element.{SpellsLong, SpellsLength, SpellsElement}
use Rattle.ad_ber.specs.Reading.{tag_at, long_at, length_behind, length_at, element_at}

-- ---- the tag

tag_takes : (bytes : List ℕ) (tag : ℕ) (rest : List ℕ) → IsBytes bytes → tag_at bytes ≡ Ok (tag, rest)
    → TakesFront SpellsByte bytes tag rest × (tag % 32 < 31)
unfolding tag_at
tag_takes bytes tag rest fits e =
    from_bind (or_fault fault.Short (byte_at bytes)) _ (tag, rest) e
    (λ (b : ℕ × List ℕ) (e1 : or_fault fault.Short (byte_at bytes) ≡ Ok b) e2.
    from_need (ltb (b.0 % 32) 31) fault.Tag _ (tag, rest) e2
    (λ (low : ltb (b.0 % 32) 31 ≡ true) (e3 : Ok b ≡ Ok (tag, rest)).
    subst (λ (p : ℕ × List ℕ). TakesFront SpellsByte bytes p.0 p.1 × (p.0 % 32 < 31))
    (from_ok {E = BerFault} b (tag, rest) e3)
    (byte_reader.takes bytes b.0 b.1 fits (from_or_fault fault.Short (byte_at bytes) b e1), ltb-true _ _ low)))

tag_again : (tag : ℕ) (Follows : List ℕ → Type 0) (text rest : List ℕ) (s : StartsWith SpellsByte tag Follows text)
    → tag % 32 < 31 → tag_at (text ++ rest) ≡ Ok (tag, s.behind ++ rest)
unfolding tag_at
tag_again tag Follows text rest s low =
    let test : ltb (tag % 32) 31 ≡ true = lt-ltb _ _ low in
    rw (again_first SpellsByte byte_at byte_reader tag Follows text rest s, test) refl

-- ---- the length

long_takes : (count : ℕ) (bytes : List ℕ) (n : ℕ) (rest : List ℕ) → IsBytes bytes → long_at count bytes ≡ Ok (n, rest)
    → TakesFront (SpellsBe count) bytes n rest × (n < 2 ^ 32)
unfolding long_at
long_takes count bytes n rest fits e =
    from_bind (or_fault fault.Short (be_at count bytes)) _ (n, rest) e
    (λ (k : ℕ × List ℕ) (e1 : or_fault fault.Short (be_at count bytes) ≡ Ok k) e2.
    from_need (ltb k.0 (2 ^ 32)) fault.Long _ (n, rest) e2
    (λ (low : ltb k.0 (2 ^ 32) ≡ true) (e3 : Ok k ≡ Ok (n, rest)).
    subst (λ (p : ℕ × List ℕ). TakesFront (SpellsBe count) bytes p.0 p.1 × (p.0 < 2 ^ 32))
    (from_ok {E = BerFault} k (n, rest) e3) (
      (be_reader count).takes bytes k.0 k.1 fits (from_or_fault fault.Short (be_at count bytes) k e1),
      ltb-true _ _
          low,
    )))

long_again : (count n : ℕ) (text rest : List ℕ) → n < 2 ^ 32 → SpellsBe count n text → long_at count (text ++ rest)
    ≡ Ok (n, rest)
unfolding long_at
long_again count n text rest low s =
    let test : ltb n (2 ^ 32) ≡ true = lt-ltb _ _ low in
    rw ((be_reader count).again n text rest s, test) refl

-- the first byte b, and what follows it
behind_takes : (bytes : List ℕ) (b : ℕ) (middle : List ℕ) (n : ℕ) (rest : List ℕ) → b < 256
    → TakesFront SpellsByte bytes b middle → IsBytes middle → length_behind b middle ≡ Ok (n, rest)
    → TakesFront SpellsLength bytes n rest
unfolding length_behind
behind_takes bytes b middle n rest byte t fits e =
    elim (cases_Bool (eqb b 128)) [
      | inl is_128 ↦ let clash : Err fault.Indefinite ≡ Ok (n, rest) = sym (rw is_128 refl) ∙ e in absurd cc
      | inr not_128 ↦
          elim (cases_Bool (ltb b 128)) [
            | inl low ↦
                let same : (b, middle) ≡ (n, rest) = from_ok {E = BerFault} (b, middle) (n, rest)
                (sym (rw (not_128, low) refl) ∙ e) in
                let below : b < 128 = ltb-true _ _ low in
                subst (λ (p : ℕ × List ℕ). TakesFront SpellsLength bytes p.0 p.1) same
                (record { text = t.text; parts = t.parts; spelled = (omega arith, inl (below, t.spelled)) })
            | inr high ↦
                let from : 128 ≤ b = ltb-false _ _ high in
                let other : b ≢ 128 = eqb-false _ _ not_128 in
                let long : TakesFront (SpellsBe (b - 128)) middle n rest × (n < 2 ^ 32) = long_takes (b - 128) middle
                n rest fits (sym (rw (not_128, high) refl) ∙ e) in
                let first : TakesFront SpellsByte bytes (128 + (b - 128)) middle
                = subst (λ (k : ℕ). TakesFront SpellsByte bytes k middle) (omega arith) t in
                let whole = front_then SpellsByte (λ (k : ℕ). SpellsBe (b - 128) k) bytes (128 + (b - 128)) middle n
                rest first long.0 in
                record {
                  text = whole.text;
                  parts = whole.parts;
                  spelled
                      = (
                        long.1,
                        inr (record {
                          count = b - 128;
                          some = omega arith;
                          few = omega arith;
                          text_is
                              = whole.spelled;
                        }),
                      );
                }
          ]
    ]

length_takes : (bytes : List ℕ) (n : ℕ) (rest : List ℕ) → IsBytes bytes → length_at bytes ≡ Ok (n, rest)
    → TakesFront SpellsLength bytes n rest
unfolding length_at
length_takes bytes n rest fits e =
    from_bind (or_fault fault.Short (byte_at bytes)) _ (n, rest) e
    (λ (b : ℕ × List ℕ) (e1 : or_fault fault.Short (byte_at bytes) ≡ Ok b)
    (e2 : length_behind b.0 b.1 ≡ Ok (n, rest)).
    let t = byte_reader.takes bytes b.0 b.1 fits (from_or_fault fault.Short (byte_at bytes) b e1) in
    behind_takes bytes b.0 b.1 n rest t.spelled.0 t (rest_fits SpellsByte bytes b.0 b.1 fits t) e2)

short_again : (n : ℕ) (text rest : List ℕ) → n < 128 → SpellsByte n text → length_at (text ++ rest) ≡ Ok (n, rest)
unfolding length_at length_behind
short_again n text rest low s =
    let not_128 : eqb n 128 ≡ false = ne_eqb n 128 (omega arith) in
    let test : ltb n 128 ≡ true = lt-ltb _ _ low in
    rw (byte_reader.again n text rest s, not_128, test) refl

count_again : (n : ℕ) (text rest : List ℕ) → n < 2 ^ 32 → (s : SpellsLong n text) → length_at (text ++ rest)
    ≡ Ok (n, rest)
unfolding length_at length_behind
count_again n text rest low s =
    let k = s.count in
    let some : 0 < k = s.some in
    let not_128 : eqb (128 + k) 128 ≡ false = ne_eqb (128 + k) 128 (omega arith) in
    let test : ltb (128 + k) 128 ≡ false = le-ltb _ _ (omega arith) in
    let back : 128 + k - 128 ≡ k = omega arith in
    rw (again_first SpellsByte byte_at byte_reader (128 + k) (SpellsBe k n) text rest s.text_is, not_128, test, back)
    (long_again k n s.text_is.behind rest low s.text_is.follows)

length_again : (n : ℕ) (text rest : List ℕ) → SpellsLength n text → length_at (text ++ rest) ≡ Ok (n, rest)
length_again n text rest (low, inl s) = short_again n text rest s.0 s.1
length_again n text rest (low, inr s) = count_again n text rest low s

pub length_reader : IsReaderOf SpellsLength length_at
length_reader = record { takes = length_takes; again = length_again }

-- ---- the element

element_takes : (bytes : List ℕ) (e : Tagged) (rest : List ℕ) → IsBytes bytes → element_at bytes ≡ Ok (e, rest)
    → TakesFront SpellsElement bytes e rest
unfolding element_at
element_takes bytes e rest fits h =
    from_bind (tag_at bytes) _ (e, rest) h (λ (tag : ℕ × List ℕ) (e1 : tag_at bytes ≡ Ok tag) h2.
    from_bind (length_at tag.1) _ (e, rest) h2 (λ (n : ℕ × List ℕ) (e2 : length_at tag.1 ≡ Ok n) h3.
    from_bind (or_fault fault.Short (part_at n.0 n.1)) _ (e, rest) h3
    (λ (body : List ℕ × List ℕ) (e3 : or_fault fault.Short (part_at n.0 n.1) ≡ Ok body)
    (h4 : Ok (record { tag = tag.0; body = body.0 }, body.1) ≡ Ok (e, rest)).
    let t1 = tag_takes bytes tag.0 tag.1 fits e1 in
    let f1 = rest_fits SpellsByte bytes tag.0 tag.1 fits t1.0 in
    let t2 = length_takes tag.1 n.0 n.1 f1 e2 in
    let f2 = rest_fits SpellsLength tag.1 n.0 n.1 f1 t2 in
    let t3 = (part_reader n.0).takes n.1 body.0 body.1 f2 (from_or_fault fault.Short (part_at n.0 n.1) body e3) in
    let len : n.0 ≡ length body.0 = sym t3.spelled.0 in
    let u2 : TakesFront SpellsLength tag.1 (length body.0) n.1
    = subst (λ (k : ℕ). TakesFront SpellsLength tag.1 k n.1) len t2 in
    let u3 : TakesFront (SpellsPart (length body.0)) n.1 body.0 body.1
    = subst (λ (k : ℕ). TakesFront (SpellsPart k) n.1 body.0 body.1) len t3 in
    let w2 = front_then SpellsLength (λ (b : List ℕ). SpellsPart (length body.0) b) tag.1 (length body.0) n.1 body.0
    body.1 u2 u3 in
    let w1 = front_then SpellsByte (λ (b : List ℕ). StartsWith SpellsLength (length body.0)
    (SpellsPart (length body.0) b)) bytes tag.0 tag.1 body.0 body.1 t1.0 w2 in
    let value : Tagged = record { tag = tag.0; body = body.0 } in
    subst (λ (p : Tagged × List ℕ). TakesFront SpellsElement bytes p.0 p.1)
    (from_ok {E = BerFault} (value, body.1) (e, rest) h4)
    (record { text = w1.text; parts = w1.parts; spelled = record { number = t1.1; text_is = w1.spelled } }))))

element_again : (e : Tagged) (text rest : List ℕ) → SpellsElement e text → element_at (text ++ rest) ≡ Ok (e, rest)
unfolding element_at
element_again e text rest s =
    let w1 = s.text_is in
    let w2 = w1.follows in
    let n = length e.body in
    rw (
      tag_again e.tag (StartsWith SpellsLength n (SpellsPart n e.body)) text rest w1 s.number,
      again_first
          SpellsLength length_at length_reader n (SpellsPart n e.body) w1.behind rest w2,
      (part_reader n).again e.body
          w2.behind rest w2.follows,
    ) refl

pub element_reader : IsReaderOf SpellsElement element_at
element_reader = record { takes = element_takes; again = element_again }

-- nothing is at the end of the bytes
pub none_at : (at : ℕ) (bytes : List ℕ) → length bytes ≤ at → element_at (drop at bytes) ≡ Err fault.Short
unfolding element_at tag_at byte_at
none_at at bytes past =
    let none : drop at bytes ≡ [] = drop_all at bytes past in
    rw none refl

-- what is read after a place stands between it and what is left
pub between : (at : ℕ) (bytes text rest : List ℕ) → drop at bytes ≡ text ++ rest → 0 < length text
    → (at + length text ≡ length bytes - length rest) × (rest ≡ drop (length bytes - length rest) bytes)
between at bytes text rest parts some =
    let len : length bytes - at ≡ length text + length rest = sym (length-drop at bytes) ∙ ap length parts
    ∙ length-append text rest in
    let n : at + length text ≡ length bytes - length rest = omega arith in (
      n,
      sym (drop_at text rest (length text) refl) ∙ ap (drop (length text)) (sym parts) ∙ drop-drop (length text) at
          bytes ∙ ap (λ (m : ℕ). drop m bytes) (omega arith),
    )

element_some : (e : Tagged) (text : List ℕ) → SpellsElement e text → 0 < length text
element_some e text s =
    let t = s.text_is in
    let n : length text ≡ length t.front + length t.behind = ap length t.parts ∙ length-append t.front t.behind in
    let one : length t.front ≡ 1 = ap length t.spelled.1 in
    omega arith

pub found_at : (at : ℕ) (bytes : List ℕ) (e : Tagged) (left : List ℕ) (next : ℕ) → IsBytes (drop at bytes)
    → element_at (drop at bytes) ≡ Ok (e, left) → next ≡ length bytes - length left
    → TakesFront SpellsElement (drop at bytes) e (drop next bytes)
found_at at bytes e left next fits h is_next =
    let t = element_takes (drop at bytes) e left fits h in
    let place = between at bytes t.text left t.parts (element_some e t.text t.spelled) in
    record {
      text = t.text;
      parts = t.parts ∙ ap (λ (r : List ℕ). t.text ++ r)
          (place.1 ∙ ap (λ (n : ℕ). drop n bytes) (sym is_next));
      spelled = t.spelled;
    }

pub only_at : (at : ℕ) (bytes : List ℕ) (e : Tagged) (left : List ℕ) (next : ℕ) → element_at (drop at bytes)
    ≡ Ok (e, left) → next ≡ length bytes - length left
    → (other : Tagged) (text rest : List ℕ) → SpellsElement other text → drop at bytes ≡ text ++ rest → (e ≡ other)
    × (next ≡ at + length text)
only_at at bytes e left next h is_next other text rest s parts =
    let same : (e, left) ≡ (other, rest) = from_ok {E = BerFault} (e, left) (other, rest)
    (sym h ∙ ap element_at parts ∙ element_again other text rest s) in
    let place = between at bytes text rest parts (element_some other text s) in
    let is_left : left ≡ rest = ap (λ (p : Tagged × List ℕ). p.1) same in (
      ap (λ (p : Tagged × List ℕ). p.0) same,
      is_next ∙ ap (λ (r : List ℕ). length bytes - length r) is_left
          ∙ sym place.0,
    )

pub not_at : (at : ℕ) (bytes : List ℕ) (d : BerFault) → element_at (drop at bytes) ≡ Err d
    → (other : Tagged) (text rest : List ℕ) → SpellsElement other text → drop at bytes ≡ text ++ rest → ⊥
not_at at bytes d h other text rest s parts = none_found SpellsElement element_at element_reader (drop at bytes) d h
    other text rest s parts

-- the bytes from a place on
pub slice_rest : (at : ℕ) (bytes : List ℕ) → take (length bytes - at) (drop at bytes) ≡ drop at bytes
slice_rest at bytes = take_all (length bytes - at) (drop at bytes) (omega (arith, length-drop at bytes))
