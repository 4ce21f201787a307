-- The readers of an entry's fields are those of their encodings.
use Rattle.std.proofs.Common.{◌≡◌, ℕ, ◌^◌, ◌<◌, Bool, true, false, cond, eqb, Option, None, Some, List, [], ◌∷◌, ◌++◌}
use Rattle.std.proofs.Common.{Result, Ok, refl, sym, ap, subst, ◌∙◌, append_assoc, arith}
use Rattle.std.proofs.lemmas.Bool.{eqb-true}
use Rattle.ad_bytes.specs.Reading.{IsBytes, TakesFront, IsReaderOf}
use Rattle.ad_bytes.specs.Numbers.{byte_at, le_at, le_bytes}
use Rattle.ad_bytes.proofs.Steps.{from_bind, from_ok}
use Rattle.ad_bytes.proofs.Codec.{byte_parts, le_reader, rest_fits, IsBytes-back}
use Rattle.ad_bytes.proofs.NumberBytes.{IsBytes-rest}
use Rattle.ad_ids.specs.declared.guid.Guid.{Guid}
use Rattle.ad_ids.specs.Guid.{SpellsGuid, guid_at}
use Rattle.ad_ids.proofs.GuidCodec.{guid_reader}
use Rattle.ad_acl.specs.declared.kind.AceKind.{AceKind}
use Rattle.ad_acl.specs.declared.kind.AceKind.TheVariants.{Allow, Deny, Audit}
use Rattle.ad_acl.specs.declared.entry.Header.{Header}
use Rattle.ad_acl.specs.declared.entry.Shape.{Shape}
use Rattle.ad_acl.specs.declared.entry.Fixed.{Fixed}
use Rattle.ad_acl.specs.Entry.{type_code, says, SpellsGuidIf, SpellsWhich, SpellsFixed}
use Rattle.ad_acl.specs.Reading.{header_at, shape_of, which_at, guid_if, fixed_at}

-- ---- bytes and numbers at the start

-- a number, and what stands after it
pub record Number (n : ℕ) (bytes : List ℕ) (x : ℕ) (rest : List ℕ) : Type 0 where
  pub below : x < 256 ^ n
  pub parts : bytes ≡ le_bytes n x ++ rest
  pub fits : IsBytes rest

pub number_parts : (n : ℕ) (bytes : List ℕ) (x : ℕ) (rest : List ℕ) → IsBytes bytes → le_at n bytes ≡ Ok (x, rest)
    → Number n bytes x rest
number_parts n bytes x rest fits e =
    let t = (le_reader n).takes bytes x rest fits e in
    let parts : bytes ≡ le_bytes n x ++ rest = t.parts ∙ ap (λ (text : List ℕ). text ++ rest) t.spelled.1 in
    record { below = t.spelled.0; parts = parts; fits = IsBytes-back (le_bytes n x) rest (subst IsBytes parts fits) }

-- ---- the header

pub record SpellsHeader (h : Header) (text : List ℕ) : Type 0 where
  pub code : h.code < 256
  pub flags : h.flags < 256
  pub size : h.size < 2 ^ 16
  pub parts : text ≡ h.code ∷ h.flags ∷ le_bytes 2 h.size

abbrev pub header : ℕ → ℕ → ℕ → Header
header code flags size = record { code = code; flags = flags; size = size }

header_takes : (bytes : List ℕ) (h : Header) (rest : List ℕ) → IsBytes bytes → header_at bytes ≡ Ok (h, rest)
    → TakesFront SpellsHeader bytes h rest
unfolding header_at
header_takes bytes h rest fits e =
    from_bind (byte_at bytes) _ (h, rest) e (λ (c : ℕ × List ℕ) (e1 : byte_at bytes ≡ Ok c) e2.
    let p1 : bytes ≡ c.0 ∷ c.1 = byte_parts bytes c.0 c.1 fits e1 in
    let f1 : IsBytes (c.0 ∷ c.1) = subst IsBytes p1 fits in
    from_bind (byte_at c.1) _ (h, rest) e2 (λ (f : ℕ × List ℕ) (e3 : byte_at c.1 ≡ Ok f) e4.
    let p2 : c.1 ≡ f.0 ∷ f.1 = byte_parts c.1 f.0 f.1 (IsBytes-rest c.0 c.1 f1) e3 in
    let f2 : IsBytes (f.0 ∷ f.1) = subst IsBytes p2 (IsBytes-rest c.0 c.1 f1) in
    from_bind (le_at 2 f.1) _ (h, rest) e4
    (λ (s : ℕ × List ℕ) (e5 : le_at 2 f.1 ≡ Ok s) (e6 : Ok (header c.0 f.0 s.0, s.1) ≡ Ok (h, rest)).
    let n : Number 2 f.1 s.0 s.1 = number_parts 2 f.1 s.0 s.1 (IsBytes-rest f.0 f.1 f2) e5 in
    let same : (header c.0 f.0 s.0, s.1) ≡ (h, rest) = from_ok (header c.0 f.0 s.0, s.1) (h, rest) e6 in
    subst (λ (p : Header × List ℕ). TakesFront SpellsHeader bytes p.0 p.1) same
    (record {
      text = c.0 ∷ f.0 ∷ le_bytes 2 s.0;
      parts = p1 ∙ ap (λ (r : List ℕ). c.0 ∷ r) (p2 ∙ ap (λ (r : List ℕ). f.0 ∷ r) n.parts);
      spelled = record { code = f1 0; flags = f2 0; size = n.below; parts = refl };
    }))))

header_again : (h : Header) (text rest : List ℕ) → SpellsHeader h text → header_at (text ++ rest) ≡ Ok (h, rest)
unfolding header_at byte_at
header_again h text rest s =
    let size : le_at 2 (le_bytes 2 h.size ++ rest) ≡ Ok (h.size, rest) = (le_reader 2).again h.size
    (le_bytes 2 h.size) rest (s.size, refl) in
    ap (λ (t : List ℕ). header_at (t ++ rest)) s.parts ∙ rw size refl

pub header_reader : IsReaderOf SpellsHeader header_at
header_reader = record { takes = header_takes; again = header_again }

-- ---- the type

abbrev pub shape : Bool → AceKind → Shape
shape is_object kind = record { kind = kind; is_object = is_object }

-- the first of two that stand after a test, or the second
from_if : {A E P : Type 0} (b : Bool) (x : A) (r : Result A E) (y : A) → cond b (Ok x) r ≡ Ok y
    → (b ≡ true → x ≡ y → P) → (r ≡ Ok y → P) → P
from_if true x r y e k l = k refl cc
from_if false x r y e k l = l e

pub shape_takes : (code : ℕ) (s : Shape) → shape_of code ≡ Ok s → code ≡ type_code s.is_object s.kind
unfolding shape_of
shape_takes code s e =
    from_if (eqb code 0) (shape false Allow) _ s e
    (λ (t : eqb code 0 ≡ true) (same : shape false Allow ≡ s). eqb-true code 0 t ∙ coded (shape false Allow) same)
    (λ e1.
    from_if (eqb code 1) (shape false Deny) _ s e1
    (λ (t : eqb code 1 ≡ true) (same : shape false Deny ≡ s). eqb-true code 1 t ∙ coded (shape false Deny) same)
    (λ e2.
    from_if (eqb code 2) (shape false Audit) _ s e2
    (λ (t : eqb code 2 ≡ true) (same : shape false Audit ≡ s). eqb-true code 2 t ∙ coded (shape false Audit) same)
    (λ e3.
    from_if (eqb code 5) (shape true Allow) _ s e3
    (λ (t : eqb code 5 ≡ true) (same : shape true Allow ≡ s). eqb-true code 5 t ∙ coded (shape true Allow) same)
    (λ e4.
    from_if (eqb code 6) (shape true Deny) _ s e4
    (λ (t : eqb code 6 ≡ true) (same : shape true Deny ≡ s). eqb-true code 6 t ∙ coded (shape true Deny) same)
    (λ e5.
    from_if (eqb code 7) (shape true Audit) _ s e5
    (λ (t : eqb code 7 ≡ true) (same : shape true Audit ≡ s). eqb-true code 7 t ∙ coded (shape true Audit) same)
    (λ e6. absurd cc))))))
  where
    coded : (p : Shape) → p ≡ s → type_code p.is_object p.kind ≡ type_code s.is_object s.kind
    coded p same = ap (λ (q : Shape). type_code q.is_object q.kind) same

pub shape_again : (is_object : Bool) (kind : AceKind) → shape_of (type_code is_object kind) ≡ Ok (shape is_object kind)
unfolding shape_of
shape_again false Allow = refl
shape_again false Deny = refl
shape_again false Audit = refl
shape_again true Allow = refl
shape_again true Deny = refl
shape_again true Audit = refl

pub type_code-lt : (is_object : Bool) (kind : AceKind) → type_code is_object kind < 256
type_code-lt false Allow = omega arith
type_code-lt false Deny = omega arith
type_code-lt false Audit = omega arith
type_code-lt true Allow = omega arith
type_code-lt true Deny = omega arith
type_code-lt true Audit = omega arith

-- ---- the object flags and the GUIDs

pub which_reader : (is_object : Bool) → IsReaderOf (SpellsWhich is_object) (which_at is_object)
which_reader false = record {
  takes = λ bytes x rest fits e. subst (λ (p : ℕ × List ℕ). TakesFront (SpellsWhich false) bytes p.0 p.1)
      (from_ok (0, bytes) (x, rest) e) (record { text = []; parts = refl; spelled = (refl, refl) });
  again = λ x text rest s. rw (s.0, s.1) refl;
}
which_reader true = le_reader 4

guid_if_takes : (stands : Bool) (bytes : List ℕ) (v : Option Guid) (rest : List ℕ) → IsBytes bytes
    → guid_if stands bytes ≡ Ok (v, rest) → TakesFront (SpellsGuidIf stands) bytes v rest
unfolding guid_if
guid_if_takes false bytes v rest fits e = subst
    (λ (p : Option Guid × List ℕ). TakesFront (SpellsGuidIf false) bytes p.0 p.1) (from_ok (None, bytes) (v, rest) e)
    (record { text = []; parts = refl; spelled = refl })
guid_if_takes true bytes v rest fits e =
    from_bind (guid_at bytes) _ (v, rest) e
    (λ (g : Guid × List ℕ) (e1 : guid_at bytes ≡ Ok g) (e2 : Ok (Some g.0, g.1) ≡ Ok (v, rest)).
    let t : TakesFront SpellsGuid bytes g.0 g.1 = guid_reader.takes bytes g.0 g.1 fits e1 in
    subst (λ (p : Option Guid × List ℕ). TakesFront (SpellsGuidIf true) bytes p.0 p.1)
    (from_ok (Some g.0, g.1) (v, rest) e2) (record { text = t.text; parts = t.parts; spelled = t.spelled }))

guid_if_again : (stands : Bool) (v : Option Guid) (text rest : List ℕ) → SpellsGuidIf stands v text
    → guid_if stands (text ++ rest) ≡ Ok (v, rest)
unfolding guid_if
guid_if_again false None text rest s = rw s refl
guid_if_again false (Some g) text rest s = absurd s
guid_if_again true None text rest s = absurd s
guid_if_again true (Some g) text rest s = rw (guid_reader.again g text rest s) refl

pub guid_if_reader : (stands : Bool) → IsReaderOf (SpellsGuidIf stands) (guid_if stands)
guid_if_reader stands = record { takes = guid_if_takes stands; again = guid_if_again stands }

-- ---- the fixed part

abbrev pub SpellsFixedOf : Bool → Fixed → List ℕ → Type 0
SpellsFixedOf is_object f text = SpellsFixed is_object f.mask f.object f.inherited text

abbrev pub fixed : ℕ → Option Guid → Option Guid → Fixed
fixed mask object inherited = record { mask = mask; object = object; inherited = inherited }

regroup : (a b c d r : List ℕ) → a ++ (b ++ (c ++ (d ++ r))) ≡ (a ++ (b ++ (c ++ d))) ++ r
regroup a b c d r = simp append_assoc

fixed_takes : (is_object : Bool) (bytes : List ℕ) (v : Fixed) (rest : List ℕ) → IsBytes bytes
    → fixed_at is_object bytes ≡ Ok (v, rest) → TakesFront (SpellsFixedOf is_object) bytes v rest
unfolding fixed_at
fixed_takes is_object bytes v rest fits e =
    from_bind (le_at 4 bytes) _ (v, rest) e (λ (m : ℕ × List ℕ) (e1 : le_at 4 bytes ≡ Ok m) e2.
    let n : Number 4 bytes m.0 m.1 = number_parts 4 bytes m.0 m.1 fits e1 in
    from_bind (which_at is_object m.1) _ (v, rest) e2 (λ (w : ℕ × List ℕ) (e3 : which_at is_object m.1 ≡ Ok w) e4.
    let t : TakesFront (SpellsWhich is_object) m.1 w.0 w.1 = (which_reader is_object).takes m.1 w.0 w.1 n.fits e3 in
    let f : IsBytes w.1 = rest_fits (SpellsWhich is_object) m.1 w.0 w.1 n.fits t in
    from_bind (guid_if (says w.0 1) w.1) _ (v, rest) e4
    (λ (o : Option Guid × List ℕ) (e5 : guid_if (says w.0 1) w.1 ≡ Ok o) e6.
    let u : TakesFront (SpellsGuidIf (says w.0 1)) w.1 o.0 o.1 = (guid_if_reader (says w.0 1)).takes w.1 o.0 o.1 f e5 in
    let g : IsBytes o.1 = rest_fits (SpellsGuidIf (says w.0 1)) w.1 o.0 o.1 f u in
    from_bind (guid_if (says w.0 2) o.1) _ (v, rest) e6
    (λ (i : Option Guid × List ℕ) (e7 : guid_if (says w.0 2) o.1 ≡ Ok i)
    (e8 : Ok (fixed m.0 o.0 i.0, i.1) ≡ Ok (v, rest)).
    let x : TakesFront (SpellsGuidIf (says w.0 2)) o.1 i.0 i.1 = (guid_if_reader (says w.0 2)).takes o.1 i.0 i.1 g e7 in
    let same : (fixed m.0 o.0 i.0, i.1) ≡ (v, rest) = from_ok (fixed m.0 o.0 i.0, i.1) (v, rest) e8 in
    subst (λ (p : Fixed × List ℕ). TakesFront (SpellsFixedOf is_object) bytes p.0 p.1) same
    (record {
      text = le_bytes 4 m.0 ++ (t.text ++ (u.text ++ x.text));
      parts = n.parts ∙ ap (λ (r : List ℕ). le_bytes 4 m.0 ++ r)
          (t.parts ∙ ap (λ (r : List ℕ). t.text ++ r) (u.parts ∙ ap (λ (r : List ℕ). u.text ++ r) x.parts))
          ∙ regroup (le_bytes 4 m.0) t.text u.text x.text i.1;
      spelled = record {
        which = w.0;
        which_text = t.text;
        object_text = u.text;
        inherited_text = x.text;
        mask_fits
            = n.below;
        which_is = t.spelled;
        object_is = u.spelled;
        inherited_is = x.spelled;
        parts = refl;
      };
    })))))

fixed_again : (is_object : Bool) (v : Fixed) (text rest : List ℕ) → SpellsFixedOf is_object v text
    → fixed_at is_object (text ++ rest) ≡ Ok (v, rest)
unfolding fixed_at
fixed_again is_object v text rest s =
    let whole : text ++ rest ≡ le_bytes 4 v.mask ++ (s.which_text ++ (s.object_text ++ (s.inherited_text ++ rest)))
    = ap (λ (t : List ℕ). t ++ rest) s.parts
    ∙ sym (regroup (le_bytes 4 v.mask) s.which_text s.object_text s.inherited_text rest) in
    let mask : le_at 4 (le_bytes 4 v.mask ++ (s.which_text ++ (s.object_text ++ (s.inherited_text ++ rest))))
    ≡ Ok (v.mask, s.which_text ++ (s.object_text ++ (s.inherited_text ++ rest))) = (le_reader 4).again v.mask
    (le_bytes 4 v.mask) (s.which_text ++ (s.object_text ++ (s.inherited_text ++ rest))) (s.mask_fits, refl) in
    let which : which_at is_object (s.which_text ++ (s.object_text ++ (s.inherited_text ++ rest)))
    ≡ Ok (s.which, s.object_text ++ (s.inherited_text ++ rest)) = (which_reader is_object).again s.which
    s.which_text (s.object_text ++ (s.inherited_text ++ rest)) s.which_is in
    let object : guid_if (says s.which 1) (s.object_text ++ (s.inherited_text ++ rest))
    ≡ Ok (v.object, s.inherited_text ++ rest) = (guid_if_reader (says s.which 1)).again v.object s.object_text
    (s.inherited_text ++ rest) s.object_is in
    let inherited : guid_if (says s.which 2) (s.inherited_text ++ rest) ≡ Ok (v.inherited, rest)
    = (guid_if_reader (says s.which 2)).again v.inherited s.inherited_text rest s.inherited_is in
    ap (fixed_at is_object) whole ∙ rw (mask, which, object, inherited) refl

pub fixed_reader : (is_object : Bool) → IsReaderOf (SpellsFixedOf is_object) (fixed_at is_object)
fixed_reader is_object = record { takes = fixed_takes is_object; again = fixed_again is_object }
