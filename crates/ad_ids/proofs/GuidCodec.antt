-- The reader of a GUID is that of its encoding.
use Rattle.std.proofs.Common.{◌≡◌, ℕ, ◌≤◌, false, ltb, List, ◌++◌, length, take, drop, Ok, refl, sym, ap, subst, ◌∙◌}
use Rattle.std.proofs.Common.{arith}
use Rattle.std.proofs.lemmas.Bool.{ltb-false}
use Rattle.std.proofs.lemmas.List.{length-take}
use Rattle.ad_bytes.specs.Reading.{IsBytes, TakesFront, IsReaderOf}
use Rattle.ad_bytes.specs.Numbers.{short, part_at, SpellsPart}
use Rattle.ad_bytes.proofs.Steps.{from_bind, from_guard, from_ok}
use Rattle.ad_bytes.proofs.Codec.{part_reader, IsBytes-front}
use Rattle.ad_ids.specs.declared.guid.Guid.{Guid}
use Rattle.ad_ids.specs.Guid.{SpellsGuid, guid_at}

-- a part has the length that was asked
pub length_part : (n : ℕ) (bytes part rest : List ℕ) → part_at n bytes ≡ Ok (part, rest) → length part ≡ n
unfolding part_at
length_part n bytes part rest e =
    from_guard (ltb (length bytes) n) short (take n bytes, drop n bytes) (part, rest) e
    (λ (long : ltb (length bytes) n ≡ false) (same : (take n bytes, drop n bytes) ≡ (part, rest)).
    let le : n ≤ length bytes = ltb-false _ _ long in
    let taken : length (take n bytes) ≡ n = omega (arith, length-take n bytes) in
    ap (λ (p : List ℕ × List ℕ). length p.0) (sym same) ∙ taken)

abbrev guid : List ℕ → Guid
guid bytes = record { bytes = bytes }

guid_takes : (bytes : List ℕ) (g : Guid) (rest : List ℕ) → IsBytes bytes → guid_at bytes ≡ Ok (g, rest)
    → TakesFront SpellsGuid bytes g rest
unfolding guid_at
guid_takes bytes g rest fits e =
    from_bind (part_at 16 bytes) _ (g, rest) e
    (λ (part : List ℕ × List ℕ) (e1 : part_at 16 bytes ≡ Ok part) (e2 : Ok (guid part.0, part.1) ≡ Ok (g, rest)).
    let t : TakesFront (SpellsPart 16) bytes part.0 part.1 = (part_reader 16).takes bytes part.0 part.1 fits e1 in
    let parts : bytes ≡ part.0 ++ part.1 = t.parts ∙ ap (λ (text : List ℕ). text ++ part.1) t.spelled.1 in
    let same : (guid part.0, part.1) ≡ (g, rest) = from_ok (guid part.0, part.1) (g, rest) e2 in
    subst (λ (p : Guid × List ℕ). TakesFront SpellsGuid bytes p.0 p.1) same
    (record {
      text = part.0;
      parts = parts;
      spelled = (record { sixteen = t.spelled.0; fits = IsBytes-front part.0 part.1 (subst IsBytes parts fits) }, refl);
    }))

guid_again : (g : Guid) (text rest : List ℕ) → SpellsGuid g text → guid_at (text ++ rest) ≡ Ok (g, rest)
unfolding guid_at
guid_again g text rest s = rw ((part_reader 16).again g.bytes text rest (s.0.sixteen, s.1)) refl

-- what is read is the encoding, and the encoding is read, whatever follows
pub guid_reader : IsReaderOf SpellsGuid guid_at
guid_reader = record { takes = guid_takes; again = guid_again }
