-- The reader of a list is that of its encodings.
use Rattle.std.proofs.Common.{◌≡◌, ℕ, ◌+◌, ◌-◌, ◌^◌, ◌<◌, ◌≤◌, ◌⊎◌, true, leb, eqb, List, [], ◌∷◌, ◌++◌, length}
use Rattle.std.proofs.Common.{Result, Ok, Err, refl, sym, ap, subst, ◌∙◌, append_assoc, arith, inl, inr}
use Rattle.std.specs.Prelude.{◌||◌, IfOk}
use Rattle.std.proofs.lemmas.Bool.{eqb-true, leb-true, le-leb}
use Rattle.std.proofs.lemmas.List.{length-append}
use Rattle.ad_bytes.specs.Reading.{IsBytes, or_fault, many_at, TakesFront, IsReaderOf, SpellsMany, ReadsUnless}
use Rattle.ad_bytes.specs.Reading.{GivesUnless}
use Rattle.ad_bytes.specs.Numbers.{byte_at, le_at, le_bytes, part_at, SpellsPart}
use Rattle.ad_bytes.proofs.Steps.{from_bind, from_need, from_or_fault, from_ok}
use Rattle.ad_bytes.proofs.Codec.{byte_parts, le_reader, part_reader, rest_fits, length-le_bytes, IsBytes-front}
use Rattle.ad_bytes.proofs.Codec.{only_found, none_found}
use Rattle.ad_bytes.proofs.NumberBytes.{IsBytes-rest}
use Rattle.ad_bytes.proofs.Many.{many_reader}
use Rattle.ad_acl.specs.declared.fault.AclFault.{AclFault}
use Rattle.ad_acl.specs.declared.fault.AclFault.TheVariants.{Short, Revision, Size}
use Rattle.ad_acl.specs.declared.list.ListHeader.{ListHeader}
use Rattle.ad_acl.specs.Entry.{Entry, SpellsEntry}
use Rattle.ad_acl.specs.Acl.{SpellsList}
use Rattle.ad_acl.specs.Reading.{list_header_at, entry_at, list_at, is_memory}
use Rattle.ad_acl.proofs.KeptFlags.{or_true}
use Rattle.ad_acl.proofs.EntryFields.{Number, number_parts}
use Rattle.ad_acl.proofs.EntryCodec.{entry_reader}

-- ---- the header

-- the eight bytes of a header, before what follows
abbrev whole : ℕ → ℕ → ℕ → ℕ → ℕ → List ℕ → List ℕ
whole revision free size count free_two behind = revision ∷ free ∷ le_bytes 2 size
    ++ (le_bytes 2 count ++ (le_bytes 2 free_two ++ behind))

record SpellsHeader (h : ListHeader) (text : List ℕ) : Type 0 where
  free : ℕ
  free_two : ℕ
  free_fits : free < 256
  size : h.size < 2 ^ 16
  count : h.count < 2 ^ 16
  free_two_fits : free_two < 2 ^ 16
  parts : text ≡ whole h.revision free h.size h.count free_two []

abbrev header : ℕ → ℕ → ℕ → ListHeader
header revision size count = record { revision = revision; size = size; count = count }

regroup : (a b c r : List ℕ) → a ++ (b ++ (c ++ r)) ≡ (a ++ (b ++ (c ++ []))) ++ r
regroup a b c r = simp append_assoc

header_takes : (bytes : List ℕ) (h : ListHeader) (rest : List ℕ) → IsBytes bytes → list_header_at bytes ≡ Ok (h, rest)
    → TakesFront SpellsHeader bytes h rest
unfolding list_header_at
header_takes bytes h rest fits e =
    from_bind (byte_at bytes) _ (h, rest) e (λ (r : ℕ × List ℕ) (e1 : byte_at bytes ≡ Ok r) e2.
    let p1 : bytes ≡ r.0 ∷ r.1 = byte_parts bytes r.0 r.1 fits e1 in
    let f1 : IsBytes (r.0 ∷ r.1) = subst IsBytes p1 fits in
    from_bind (byte_at r.1) _ (h, rest) e2 (λ (f : ℕ × List ℕ) (e3 : byte_at r.1 ≡ Ok f) e4.
    let p2 : r.1 ≡ f.0 ∷ f.1 = byte_parts r.1 f.0 f.1 (IsBytes-rest r.0 r.1 f1) e3 in
    let f2 : IsBytes (f.0 ∷ f.1) = subst IsBytes p2 (IsBytes-rest r.0 r.1 f1) in
    from_bind (le_at 2 f.1) _ (h, rest) e4 (λ (s : ℕ × List ℕ) (e5 : le_at 2 f.1 ≡ Ok s) e6.
    let n : Number 2 f.1 s.0 s.1 = number_parts 2 f.1 s.0 s.1 (IsBytes-rest f.0 f.1 f2) e5 in
    from_bind (le_at 2 s.1) _ (h, rest) e6 (λ (c : ℕ × List ℕ) (e7 : le_at 2 s.1 ≡ Ok c) e8.
    let m : Number 2 s.1 c.0 c.1 = number_parts 2 s.1 c.0 c.1 n.fits e7 in
    from_bind (le_at 2 c.1) _ (h, rest) e8
    (λ (d : ℕ × List ℕ) (e9 : le_at 2 c.1 ≡ Ok d) (e10 : Ok (header r.0 s.0 c.0, d.1) ≡ Ok (h, rest)).
    let k : Number 2 c.1 d.0 d.1 = number_parts 2 c.1 d.0 d.1 m.fits e9 in
    let same : (header r.0 s.0 c.0, d.1) ≡ (h, rest) = from_ok (header r.0 s.0 c.0, d.1) (h, rest) e10 in
    let numbers : f.1 ≡ le_bytes 2 s.0 ++ (le_bytes 2 c.0 ++ (le_bytes 2 d.0 ++ d.1)) = n.parts
    ∙ ap (λ (t : List ℕ). le_bytes 2 s.0 ++ t) (m.parts ∙ ap (λ (t : List ℕ). le_bytes 2 c.0 ++ t) k.parts) in
    subst (λ (p : ListHeader × List ℕ). TakesFront SpellsHeader bytes p.0 p.1) same
    (record {
      text = whole r.0 f.0 s.0 c.0 d.0 [];
      parts = p1 ∙ ap (λ (t : List ℕ). r.0 ∷ t) p2 ∙ ap (λ (t : List ℕ). r.0 ∷ f.0 ∷ t)
          (numbers ∙ regroup (le_bytes 2 s.0) (le_bytes 2 c.0) (le_bytes 2 d.0) d.1);
      spelled = record {
        free = f.0;
        free_two = d.0;
        free_fits = f2 0;
        size = n.below;
        count = m.below;
        free_two_fits
            = k.below;
        parts = refl;
      };
    }))))))

header_again : (revision free size count free_two : ℕ) (rest : List ℕ) → size < 2 ^ 16 → count < 2 ^ 16 → free_two
    < 2 ^ 16
    → list_header_at (whole revision free size count free_two rest) ≡ Ok (header revision size count, rest)
unfolding list_header_at byte_at
header_again revision free size count free_two rest s c f =
    let first : le_at 2 (le_bytes 2 size ++ (le_bytes 2 count ++ (le_bytes 2 free_two ++ rest)))
    ≡ Ok (size, le_bytes 2 count ++ (le_bytes 2 free_two ++ rest)) = (le_reader 2).again size (le_bytes 2 size)
    (le_bytes 2 count ++ (le_bytes 2 free_two ++ rest)) (s, refl) in
    let second : le_at 2 (le_bytes 2 count ++ (le_bytes 2 free_two ++ rest)) ≡ Ok (count, le_bytes 2 free_two ++ rest)
    = (le_reader 2).again count (le_bytes 2 count) (le_bytes 2 free_two ++ rest) (c, refl) in
    let third : le_at 2 (le_bytes 2 free_two ++ rest) ≡ Ok (free_two, rest) = (le_reader 2).again free_two
    (le_bytes 2 free_two) rest (f, refl) in
    rw (first, second, third) refl

length-whole : (revision free size count free_two : ℕ) (behind : List ℕ)
    → length (whole revision free size count free_two behind) ≡ 8 + length behind
length-whole revision free size count free_two behind =
    omega (
      arith,
      length-append (le_bytes 2 size) (le_bytes 2 count ++ (le_bytes 2 free_two ++ behind)),
      length-append
          (le_bytes 2 count) (le_bytes 2 free_two ++ behind),
      length-append (le_bytes 2 free_two) behind,
      length-le_bytes 2 size,
      length-le_bytes 2 count,
      length-le_bytes 2 free_two,
    )

-- the bytes of a header, and then what follows it
behind_header : (revision free size count free_two : ℕ) (rest : List ℕ) → whole revision free size count free_two []
    ++ rest ≡ whole revision free size count free_two rest
behind_header revision free size count free_two rest = ap (λ (t : List ℕ). revision ∷ free ∷ t)
    (sym (regroup (le_bytes 2 size) (le_bytes 2 count) (le_bytes 2 free_two) rest))

-- what follows a header, a part and then the rest
within_whole : (revision free size count free_two : ℕ) (part rest : List ℕ) → whole revision free size count free_two
    part ++ rest ≡ whole revision free size count free_two (part ++ rest)
within_whole revision free size count free_two part rest =
    ap (λ (t : List ℕ). t ++ rest) (sym (behind_header revision free size count free_two part))
    ∙ append_assoc (whole revision free size count free_two []) part rest
    ∙ behind_header revision free size count free_two (part ++ rest)

-- ---- the revision

two_or_four : (n : ℕ) → eqb n 2 || eqb n 4 ≡ true → (n ≡ 2) ⊎ (n ≡ 4)
two_or_four n e = elim (or_true (eqb n 2) (eqb n 4) e) [
  | inl two ↦ inl (eqb-true n 2 two)
  | inr four
      ↦ inr (eqb-true n 4 four)
]

is_two_or_four : (n : ℕ) → (n ≡ 2) ⊎ (n ≡ 4) → eqb n 2 || eqb n 4 ≡ true
is_two_or_four n h = elim h [ inl two ↦ rw two refl | inr four ↦ rw four refl ]

-- ---- the list

-- the parts that were read, one in the other, are an encoding
list_spelled : (h : ListHeader) (free free_two : ℕ) (body : List ℕ) (entries : List Entry) (text behind : List ℕ)
    → (h.revision ≡ 2) ⊎ (h.revision ≡ 4) → free < 256 → free_two < 2 ^ 16 → h.size < 2 ^ 16 → h.count < 2 ^ 16 → 8
    ≤ h.size → length body ≡ h.size - 8
    → body ≡ text ++ behind → SpellsMany SpellsEntry h.count entries text → IsBytes behind
    → SpellsList entries (whole h.revision free h.size h.count free_two body)
list_spelled h free free_two body entries text behind revision free_fits two_fits size_fits count_fits big long parts
    spelled fits =
    let size : length (whole h.revision free h.size h.count free_two body) ≡ h.size
    = omega (arith, length-whole h.revision free h.size h.count free_two body) in
    record {
      revision = h.revision;
      free = free;
      free_two = free_two;
      body = text;
      behind = behind;
      revision_is = revision;
      free_fits = free_fits;
      free_two_fits = two_fits;
      count_fits = subst (λ (n : ℕ). n < 2 ^ 16) (sym spelled.0) count_fits;
      size_fits = subst (λ (n : ℕ). n < 2 ^ 16) (sym size) size_fits;
      spelled = spelled.1;
      behind_fits = fits;
      parts = ap (λ (n : ℕ). whole h.revision free n h.count free_two body) (sym size)
          ∙ ap (λ (n : ℕ). whole h.revision free (length (whole h.revision free h.size h.count free_two body)) n
          free_two body) (sym spelled.0)
          ∙ ap (λ (b : List ℕ). whole h.revision free (length (whole h.revision free h.size h.count free_two body))
          (length entries) free_two b) parts;
    }

list_takes : (bytes : List ℕ) (v : List Entry) (rest : List ℕ) → IsBytes bytes → list_at bytes ≡ Ok (v, rest)
    → TakesFront SpellsList bytes v rest
unfolding list_at
list_takes bytes v rest fits e =
    from_bind (or_fault Short (list_header_at bytes)) _ (v, rest) e
    (λ (h : ListHeader × List ℕ) (e1 : or_fault Short (list_header_at bytes) ≡ Ok h) e2.
    let t : TakesFront SpellsHeader bytes h.0 h.1 = header_takes bytes h.0 h.1 fits
    (from_or_fault Short (list_header_at bytes) h e1) in
    let f1 : IsBytes h.1 = rest_fits SpellsHeader bytes h.0 h.1 fits t in
    from_need (eqb h.0.revision 2 || eqb h.0.revision 4) (Revision h.0.revision) _ (v, rest) e2
    (λ (revision : eqb h.0.revision 2 || eqb h.0.revision 4 ≡ true) e3.
    from_need (leb 8 h.0.size) Size _ (v, rest) e3 (λ (big : leb 8 h.0.size ≡ true) e4.
    from_bind (or_fault Size (part_at (h.0.size - 8) h.1)) _ (v, rest) e4
    (λ (b : List ℕ × List ℕ) (e5 : or_fault Size (part_at (h.0.size - 8) h.1) ≡ Ok b) e6.
    let u : TakesFront (SpellsPart (h.0.size - 8)) h.1 b.0 b.1 = (part_reader (h.0.size - 8)).takes h.1 b.0 b.1 f1
    (from_or_fault Size (part_at (h.0.size - 8) h.1) b e5) in
    let p : h.1 ≡ b.0 ++ b.1 = u.parts ∙ ap (λ (text : List ℕ). text ++ b.1) u.spelled.1 in
    let f2 : IsBytes b.0 = IsBytes-front b.0 b.1 (subst IsBytes p f1) in
    from_bind (many_at entry_at h.0.count b.0) _ (v, rest) e6
    (λ (x : List Entry × List ℕ) (e7 : many_at entry_at h.0.count b.0 ≡ Ok x) (e8 : Ok (x.0, b.1) ≡ Ok (v, rest)).
    let w : TakesFront (SpellsMany SpellsEntry h.0.count) b.0 x.0 x.1
    = (many_reader SpellsEntry entry_at entry_reader h.0.count).takes b.0 x.0 x.1 f2 e7 in
    let same : (x.0, b.1) ≡ (v, rest) = from_ok (x.0, b.1) (v, rest) e8 in
    let s = t.spelled in
    let head : bytes ≡ whole h.0.revision s.free h.0.size h.0.count s.free_two h.1 = t.parts
    ∙ ap (λ (text : List ℕ). text ++ h.1) s.parts ∙ behind_header h.0.revision s.free h.0.size h.0.count
    s.free_two h.1 in
    subst (λ (q : List Entry × List ℕ). TakesFront SpellsList bytes q.0 q.1) same
    (record {
      text = whole h.0.revision s.free h.0.size h.0.count s.free_two b.0;
      parts = head ∙ ap (whole h.0.revision s.free h.0.size h.0.count s.free_two) p
          ∙ sym (within_whole h.0.revision s.free h.0.size h.0.count s.free_two b.0 b.1);
      spelled = list_spelled h.0 s.free s.free_two b.0 x.0 w.text x.1 (two_or_four h.0.revision revision) s.free_fits
          s.free_two_fits s.size s.count (leb-true 8 h.0.size big) u.spelled.0 w.parts w.spelled
          (rest_fits (SpellsMany SpellsEntry h.0.count) b.0 x.0 x.1 f2 w);
    }))))))

list_again : (v : List Entry) (text rest : List ℕ) → SpellsList v text → list_at (text ++ rest) ≡ Ok (v, rest)
unfolding list_at
list_again v text rest s =
    let body = s.body ++ s.behind in
    let n = length text in
    let regrouped : text ++ rest ≡ whole s.revision s.free n (length v) s.free_two (body ++ rest)
    = ap (λ (t : List ℕ). t ++ rest) s.parts ∙ within_whole s.revision s.free n (length v) s.free_two body rest in
    let long : length text ≡ 8 + length body = ap length s.parts ∙ length-whole s.revision s.free n (length v)
    s.free_two body in
    let head : list_header_at (whole s.revision s.free n (length v) s.free_two (body ++ rest))
    ≡ Ok (header s.revision n (length v), body ++ rest) = header_again s.revision s.free n (length v) s.free_two
    (body ++ rest) s.size_fits s.count_fits s.free_two_fits in
    let big : leb 8 n ≡ true = le-leb 8 n (omega arith) in
    let part : part_at (n - 8) (body ++ rest) ≡ Ok (body, rest) = (part_reader (n - 8)).again body body rest
    (omega arith, refl) in
    let entries : many_at entry_at (length v) body ≡ Ok (v, s.behind)
    = (many_reader SpellsEntry entry_at entry_reader (length v)).again v s.body s.behind (refl, s.spelled) in
    ap list_at regrouped ∙ rw (head, is_two_or_four s.revision s.revision_is, big, part, entries) refl

-- what is read is an encoding, and each encoding is read, whatever follows
pub acl_reader : IsReaderOf SpellsList list_at
acl_reader = record { takes = list_takes; again = list_again }

-- ---- what a reader that takes memory says

pub found_unless : {X : Type 0} (view : X → List Entry) (r : Result X AclFault) (left bytes : List ℕ) → IsBytes bytes
    → ReadsUnless is_memory view r left (list_at bytes)
    → IfOk r (λ x. (rest : List ℕ) × TakesFront SpellsList bytes (view x) rest)
found_unless view (Ok x) left bytes fits read = (left, acl_reader.takes bytes (view x) left fits read)
found_unless view (Err e) left bytes fits read = tt

pub only_unless : {X : Type 0} (view : X → List Entry) (r : Result X AclFault) (left bytes : List ℕ)
    → ReadsUnless is_memory view r left (list_at bytes)
    → (entries : List Entry) (text rest : List ℕ) → SpellsList entries text → bytes ≡ text ++ rest
    → GivesUnless is_memory view r (Ok entries)
only_unless view (Ok x) left bytes read entries text rest s parts = ap (λ (v : List Entry). Ok v)
    (sym (only_found SpellsList list_at acl_reader bytes (view x) left read entries text rest s parts).0)
only_unless view (Err e) left bytes read entries text rest s parts = λ h.
    absurd (none_found SpellsList list_at acl_reader bytes e (read h) entries text rest s parts)
