-- A result with another code is encoded in other bytes.
use Rattle.std.proofs.Common.{◌≡◌, ℕ, ◌+◌, ◌*◌, ◌^◌, ◌<◌, ◌≤◌, List, [], ◌∷◌, ◌++◌, length, Ok, refl, sym, ap, ◌∙◌}
use Rattle.std.proofs.Common.{append_assoc, arith, inl, inr}
use Rattle.std.specs.Prelude.{nat_lt, ◌%◌}
use Rattle.std.proofs.lemmas.Bool.{cases_Bool}
use Rattle.std.proofs.lemmas.List.{length-append, append_cancel_left}
use Rattle.ad_bytes.specs.Reading.{Reading}
use Rattle.ad_bytes.specs.Numbers.{be_bytes, be_at}
use Rattle.ad_bytes.specs.declared.input.Short.{Short}
use Rattle.ad_bytes.proofs.Codec.{length-be_bytes, be_reader}
use Rattle.ad_bytes.proofs.Steps.{from_ok}
use Rattle.ad_ber.specs.declared.fault.BerFault.{BerFault}
use Rattle.ad_ber.specs.declared.finding.Tagged.{Tagged}
use Rattle.ad_ber.specs.Reading.{element_at}
use Rattle.ad_ber.specs.Writing.{width, length_bytes, header, element_bytes, number_bytes, number_element}
use Rattle.ad_ber.proofs.ElementCodec.{element_reader}
use Rattle.ad_ber.proofs.Shortest.{fits_width, width_within, element_spelled}
use Rattle.ad_ldap.specs.Reply.{result_body, message_bytes}

-- ---- what stands before a body takes few bytes

lengths_few : (n : ℕ) → length (length_bytes n) ≤ 9
unfolding length_bytes
lengths_few n = elim (cases_Bool (nat_lt n 128)) [
  | inl short ↦ rw short (omega arith)
  | inr long ↦ (let within = width_within n in rw long (omega (arith, length-be_bytes (width n) n, within.1)))
]

element_few : (tag : ℕ) (body : List ℕ) → (length body ≤ length (element_bytes tag body))
    × (length (element_bytes tag body) ≤ 10 + length body)
unfolding element_bytes header
element_few tag body =
    let long = length-append (tag ∷ length_bytes (length body)) body in
    (omega (arith, long), omega (arith, long, lengths_few (length body)))

number_few : (tag n : ℕ) → length (number_element tag n) ≤ 18
unfolding number_element number_bytes
number_few tag n =
    let within = width_within (2 * n) in
    omega (arith, (element_few tag (be_bytes (width (2 * n)) n)).1, length-be_bytes (width (2 * n)) n, within.1)

-- ---- the body of an element that begins some bytes

abbrev tagged : ℕ → List ℕ → Tagged
tagged tag body = record { tag = tag; body = body }

abbrev read : Tagged → List ℕ → Reading Tagged BerFault
read e rest = Ok (e, rest)

same_first : (tag : ℕ) (a b r s : List ℕ) → tag < 256 → tag % 32 < 31 → length a < 2 ^ 32 → length b < 2 ^ 32
    → element_bytes tag a ++ r ≡ element_bytes tag b ++ s → a ≡ b
same_first tag a b r s byte number fits_a fits_b e =
    let first : element_at (element_bytes tag a ++ r) ≡ read (tagged tag a) r = element_reader.again (tagged tag a)
    (element_bytes tag a) r (element_spelled tag a byte number fits_a) in
    let second : element_at (element_bytes tag b ++ s) ≡ read (tagged tag b) s = element_reader.again (tagged tag b)
    (element_bytes tag b) s (element_spelled tag b byte number fits_b) in
    let both : (tagged tag a, r) ≡ (tagged tag b, s) = from_ok {E = BerFault} (tagged tag a, r) (tagged tag b, s)
    (sym first ∙ ap element_at e ∙ second) in
    ap (λ (p : Tagged × List ℕ). p.0.body) both

same_body : (tag : ℕ) (a b : List ℕ) → tag < 256 → tag % 32 < 31 → length b < 65536 → element_bytes tag a
    ≡ element_bytes tag b → a ≡ b
same_body tag a b byte number few e =
    let fits : length a < 2 ^ 32 = omega (arith, (element_few tag a).0, (element_few tag b).1, ap length e, few) in
    same_first tag a b [] [] byte number fits (omega (arith, few)) (ap (λ (t : List ℕ). t ++ []) e)

-- ---- numbers

same_number : (n m : ℕ) → n < 2 ^ 32 → m < 2 ^ 32 → number_bytes n ≡ number_bytes m → n ≡ m
unfolding number_bytes
same_number n m small_n small_m e =
    let w = width (2 * n) in
    let v = width (2 * m) in
    let same : w ≡ v = omega (arith, ap length e, length-be_bytes w n, length-be_bytes v m) in
    let under_n : n < 256 ^ w = omega (arith, fits_width (2 * n) (omega (arith, small_n))) in
    let under_m : m < 256 ^ v = omega (arith, fits_width (2 * m) (omega (arith, small_m))) in
    let first : be_at w (be_bytes w n ++ []) ≡ Ok (n, []) = (be_reader w).again n (be_bytes w n) [] (under_n, refl) in
    let second : be_at v (be_bytes v m ++ []) ≡ Ok (m, []) = (be_reader v).again m (be_bytes v m) [] (under_m, refl) in
    let both : (n, []) ≡ (m, []) = from_ok {E = Short} (n, []) (m, [])
    (sym first ∙ ap (λ (i : ℕ). be_at i (be_bytes w n ++ [])) same ∙ ap (λ (t : List ℕ). be_at v (t ++ [])) e
    ∙ second) in
    ap (λ (p : ℕ × List ℕ). p.0) both

-- ---- results

-- the code stands first in a result
code_first : (code : ℕ) (matched text : List ℕ) → result_body code matched text ≡ element_bytes 10 (number_bytes code)
    ++ (element_bytes 4 matched ++ element_bytes 4 text)
unfolding number_element
code_first code matched text = append_assoc (element_bytes 10 (number_bytes code)) (element_bytes 4 matched)
    (element_bytes 4 text)

digits_few : (n : ℕ) → length (number_bytes n) ≤ 8
unfolding number_bytes
digits_few n = let within = width_within (2 * n) in omega (arith, length-be_bytes (width (2 * n)) n, within.1)

pub same_code : (id tag code other : ℕ) (matched text : List ℕ) → tag < 256 → tag % 32 < 31 → code < 2 ^ 32 → other
    < 2 ^ 32
    → message_bytes id tag (result_body code matched text) ≡ message_bytes id tag (result_body other [] []) → code
    ≡ other
same_code id tag code other matched text byte number small_code small_other e =
    let body : List ℕ = result_body code matched text in
    let known : List ℕ = result_body other [] [] in
    let few_known : length known ≤ 38 = omega (
      arith,
      length-append (number_element 10 other ++ element_bytes 4 []) (element_bytes 4 []),
      length-append
          (number_element 10 other) (element_bytes 4 []),
      number_few 10 other,
      (element_few 4 []).1,
    ) in
    let few : length (number_element 2 id ++ element_bytes tag known) < 65536
    = omega (
      arith,
      length-append (number_element 2 id) (element_bytes tag known),
      number_few 2 id,
      (element_few tag known).1,
      few_known,
    ) in
    let inner : number_element 2 id ++ element_bytes tag body ≡ number_element 2 id ++ element_bytes tag known =
    same_body 48 (number_element 2 id ++ element_bytes tag body) (number_element 2 id ++ element_bytes tag known)
    (omega arith) (omega arith) few e in
    let bodies : body ≡ known = same_body tag body known byte number (omega (arith, few_known))
    (append_cancel_left (number_element 2 id) (element_bytes tag body) (element_bytes tag known) inner) in
    same_number code other small_code small_other
    (same_first 10 (number_bytes code) (number_bytes other) (element_bytes 4 matched ++ element_bytes 4 text)
    (element_bytes 4 [] ++ element_bytes 4 []) (omega arith) (omega arith)
    (omega (arith, digits_few code)) (omega (arith, digits_few other))
    (sym (code_first code matched text) ∙ bodies ∙ code_first other [] []))
