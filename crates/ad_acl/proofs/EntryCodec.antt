-- The reader of an entry is that of its encodings.
use Rattle.std.proofs.Common.{◌≡◌, ℕ, ◌+◌, ◌-◌, ◌^◌, ◌<◌, ◌≤◌, true, leb, List, ◌∷◌, ◌++◌, length, Ok, refl, sym, ap}
use Rattle.std.proofs.Common.{subst, ◌∙◌, append_assoc, arith}
use Rattle.std.proofs.lemmas.Bool.{leb-true, le-leb}
use Rattle.std.proofs.lemmas.List.{length-append}
use Rattle.ad_bytes.specs.Reading.{IsBytes, or_fault, fault_as, TakesFront, IsReaderOf}
use Rattle.ad_bytes.specs.Numbers.{le_bytes, part_at, SpellsPart}
use Rattle.ad_bytes.proofs.Steps.{from_bind, from_need, from_or_fault, from_fault_as, from_ok}
use Rattle.ad_bytes.proofs.Codec.{part_reader, rest_fits, length-le_bytes, IsBytes-front}
use Rattle.ad_ids.specs.SidValue.{SidValue}
use Rattle.ad_ids.specs.Sid.{SpellsSid}
use Rattle.ad_ids.specs.SidReading.{sid_at}
use Rattle.ad_ids.proofs.SidCodec.{sid_reader}
use Rattle.ad_acl.specs.declared.fault.AclFault.TheVariants.{AceSize, Sid}
use Rattle.ad_acl.specs.declared.entry.Header.{Header}
use Rattle.ad_acl.specs.declared.entry.Shape.{Shape}
use Rattle.ad_acl.specs.declared.entry.Fixed.{Fixed}
use Rattle.ad_acl.specs.Entry.{Entry, type_code, SpellsEntry}
use Rattle.ad_acl.specs.Reading.{header_at, shape_of, kept, fixed_at, entry_at}
use Rattle.ad_acl.proofs.KeptFlags.{kept-spelled, spelled-kept}
use Rattle.ad_acl.proofs.EntryFields.{SpellsHeader, header, header_reader, shape_takes, shape_again, type_code-lt}
use Rattle.ad_acl.proofs.EntryFields.{SpellsFixedOf, fixed, fixed_reader}

-- an entry of this type, these flags and this size
abbrev whole : ℕ → ℕ → ℕ → List ℕ → List ℕ
whole code flags size body = code ∷ flags ∷ le_bytes 2 size ++ body

abbrev entry_of : Shape → Header → Fixed → SidValue → Entry
entry_of s h f sid = record {
  kind = s.kind;
  flags = kept h.flags;
  mask = f.mask;
  object = f.object;
  inherited
      = f.inherited;
  sid = sid;
}

-- the parts that were read, one in the other, are an encoding
entry_spelled : (h : Header) (head : List ℕ) (s : Shape) (body : List ℕ) (f : Fixed) (fixed_text after : List ℕ)
    (sid : SidValue) (sid_text behind : List ℕ)
    → SpellsHeader h head → h.code ≡ type_code s.is_object s.kind → 4 ≤ h.size → length body ≡ h.size - 4
    → body ≡ fixed_text ++ after → SpellsFixedOf s.is_object f fixed_text → after ≡ sid_text ++ behind
    → SpellsSid sid sid_text → IsBytes behind
    → SpellsEntry (entry_of s h f sid) (whole h.code h.flags h.size body)
entry_spelled h head s body f fixed_text after sid sid_text behind header_is code big long body_parts fixed_is
    after_parts sid_is fits =
    let size : length (whole h.code h.flags h.size body) ≡ h.size
    = omega (arith, length-append (le_bytes 2 h.size) body, length-le_bytes 2 h.size) in
    record {
      is_object = s.is_object;
      flags = h.flags;
      fixed = fixed_text;
      sid = sid_text;
      behind = behind;
      flags_are = kept-spelled h.flags header_is.flags;
      fixed_is = fixed_is;
      sid_is = sid_is;
      behind_fits = fits;
      size_fits = subst (λ (n : ℕ). n < 2 ^ 16) (sym size) header_is.size;
      parts = ap (λ (c : ℕ). whole c h.flags h.size body) code
          ∙ ap (λ (n : ℕ). whole (type_code s.is_object s.kind) h.flags n body) (sym size)
          ∙ ap (λ (b : List ℕ). whole (type_code s.is_object s.kind) h.flags
          (length (whole h.code h.flags h.size body)) b)
          (body_parts ∙ ap (λ (r : List ℕ). fixed_text ++ r) after_parts);
    }

entry_takes : (bytes : List ℕ) (v : Entry) (rest : List ℕ) → IsBytes bytes → entry_at bytes ≡ Ok (v, rest)
    → TakesFront SpellsEntry bytes v rest
unfolding entry_at
entry_takes bytes v rest fits e =
    from_bind (or_fault AceSize (header_at bytes)) _ (v, rest) e
    (λ (h : Header × List ℕ) (e1 : or_fault AceSize (header_at bytes) ≡ Ok h) e2.
    let t : TakesFront SpellsHeader bytes h.0 h.1 = header_reader.takes bytes h.0 h.1 fits
    (from_or_fault AceSize (header_at bytes) h e1) in
    let f1 : IsBytes h.1 = rest_fits SpellsHeader bytes h.0 h.1 fits t in
    from_bind (shape_of h.0.code) _ (v, rest) e2 (λ (s : Shape) (e3 : shape_of h.0.code ≡ Ok s) e4.
    from_need (leb 4 h.0.size) AceSize _ (v, rest) e4 (λ (big : leb 4 h.0.size ≡ true) e5.
    from_bind (or_fault AceSize (part_at (h.0.size - 4) h.1)) _ (v, rest) e5
    (λ (b : List ℕ × List ℕ) (e6 : or_fault AceSize (part_at (h.0.size - 4) h.1) ≡ Ok b) e7.
    let u : TakesFront (SpellsPart (h.0.size - 4)) h.1 b.0 b.1 = (part_reader (h.0.size - 4)).takes h.1 b.0 b.1 f1
    (from_or_fault AceSize (part_at (h.0.size - 4) h.1) b e6) in
    let p : h.1 ≡ b.0 ++ b.1 = u.parts ∙ ap (λ (text : List ℕ). text ++ b.1) u.spelled.1 in
    let f2 : IsBytes b.0 = IsBytes-front b.0 b.1 (subst IsBytes p f1) in
    from_bind (or_fault AceSize (fixed_at s.is_object b.0)) _ (v, rest) e7
    (λ (x : Fixed × List ℕ) (e8 : or_fault AceSize (fixed_at s.is_object b.0) ≡ Ok x) e9.
    let w : TakesFront (SpellsFixedOf s.is_object) b.0 x.0 x.1 = (fixed_reader s.is_object).takes b.0 x.0 x.1 f2
    (from_or_fault AceSize (fixed_at s.is_object b.0) x e8) in
    let f3 : IsBytes x.1 = rest_fits (SpellsFixedOf s.is_object) b.0 x.0 x.1 f2 w in
    from_bind (fault_as Sid (sid_at x.1)) _ (v, rest) e9
    (λ (d : SidValue × List ℕ) (e10 : fault_as Sid (sid_at x.1) ≡ Ok d)
    (e11 : Ok (entry_of s h.0 x.0 d.0, b.1) ≡ Ok (v, rest)).
    let z : TakesFront SpellsSid x.1 d.0 d.1 = sid_reader.takes x.1 d.0 d.1 f3 (from_fault_as Sid (sid_at x.1) d e10) in
    let same : (entry_of s h.0 x.0 d.0, b.1) ≡ (v, rest) = from_ok (entry_of s h.0 x.0 d.0, b.1) (v, rest) e11 in
    let head : bytes ≡ whole h.0.code h.0.flags h.0.size h.1 = t.parts ∙ ap (λ (text : List ℕ). text ++ h.1)
    t.spelled.parts in
    subst (λ (q : Entry × List ℕ). TakesFront SpellsEntry bytes q.0 q.1) {x = (entry_of s h.0 x.0 d.0, b.1)}
    {y = (v, rest)} same
    (record {
      text = whole h.0.code h.0.flags h.0.size b.0;
      parts = head ∙ ap (whole h.0.code h.0.flags h.0.size) p ∙ ap (λ (r : List ℕ). h.0.code ∷ h.0.flags ∷ r)
          (sym (append_assoc (le_bytes 2 h.0.size) b.0 b.1));
      spelled = entry_spelled h.0 t.text s b.0 x.0 w.text x.1 d.0 z.text d.1 t.spelled (shape_takes h.0.code s e3)
          (leb-true 4 h.0.size big) u.spelled.0 w.parts w.spelled z.parts z.spelled
          (rest_fits SpellsSid x.1 d.0 d.1 f3 z);
    })))))))

entry_again : (v : Entry) (text rest : List ℕ) → SpellsEntry v text → entry_at (text ++ rest) ≡ Ok (v, rest)
unfolding entry_at
entry_again v text rest s =
    let code = type_code s.is_object v.kind in
    let body = s.fixed ++ (s.sid ++ s.behind) in
    let n = length text in
    let regrouped : text ++ rest ≡ whole code s.flags n (body ++ rest) = ap (λ (t : List ℕ). t ++ rest) s.parts
    ∙ ap (λ (r : List ℕ). code ∷ s.flags ∷ r) (append_assoc (le_bytes 2 n) body rest) in
    let long : length text ≡ 4 + length body = ap length s.parts
    ∙ omega (arith, length-append (le_bytes 2 n) body, length-le_bytes 2 n) in
    let head : header_at (whole code s.flags n (body ++ rest)) ≡ Ok (header code s.flags n, body ++ rest)
    = header_reader.again (header code s.flags n) (code ∷ s.flags ∷ le_bytes 2 n) (body ++ rest)
    (record {
      code = type_code-lt s.is_object v.kind;
      flags = s.flags_are.fits;
      size = s.size_fits;
      parts
          = refl;
    }) in
    let big : leb 4 n ≡ true = le-leb 4 n (omega arith) in
    let part : part_at (n - 4) (body ++ rest) ≡ Ok (body, rest) = (part_reader (n - 4)).again body body rest
    (omega arith, refl) in
    let fixed_part : fixed_at s.is_object body ≡ Ok (fixed v.mask v.object v.inherited, s.sid ++ s.behind)
    = (fixed_reader s.is_object).again (fixed v.mask v.object v.inherited) s.fixed (s.sid ++ s.behind) s.fixed_is
    in
    let sid : sid_at (s.sid ++ s.behind) ≡ Ok (v.sid, s.behind) = sid_reader.again v.sid s.sid s.behind s.sid_is in
    ap entry_at regrouped ∙ rw (
      head,
      shape_again s.is_object v.kind,
      big,
      part,
      fixed_part,
      sid,
      spelled-kept v.flags
          s.flags s.flags_are,
    ) refl

-- what is read is an encoding, and each encoding is read, whatever follows
pub entry_reader : IsReaderOf SpellsEntry entry_at
entry_reader = record { takes = entry_takes; again = entry_again }
