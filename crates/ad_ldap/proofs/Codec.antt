-- The readers of elements are those of their encodings.
use Rattle.std.proofs.Common.{◌≡◌, ℕ, zero, suc, ◌-◌, ◌+◌, ◌<◌, ◌≤◌, Bool, true, false, eqb, leb, List, [], ◌∷◌, ◌++◌}
use Rattle.std.proofs.Common.{length, get_or, Option, None, Some, Result, Ok, Err, refl, sym, ap, subst, ◌∙◌}
use Rattle.std.proofs.Common.{length-append, eq-eqb, arith, inl, inr, ◌⊎◌}
use Rattle.std.specs.Prelude.{ℤ, pos, negsuc, not}
use Rattle.std.proofs.lemmas.Bool.{cases_Bool, eqb-true, ne_eqb, leb-true, le-leb}
use Rattle.std.proofs.lemmas.List.{append-nil, nil_from_length}
use Rattle.ad_bytes.specs.Reading.{IsBytes, Reading, ◌>>=◌, need, fault_as, TakesFront, StartsWith, IsReaderOf}
use Rattle.ad_bytes.specs.Reading.{SpellsEach}
use Rattle.ad_bytes.proofs.Steps.{from_bind, from_need, from_fault_as, from_ok}
use Rattle.ad_bytes.proofs.Codec.{IsBytes-front, IsBytes-back, rest_fits}
use Rattle.ad_ber.specs.declared.finding.Tagged.{Tagged as Element}
use Rattle.ad_ber.specs.Element.{SpellsElement}
use Rattle.ad_ber.specs.Integer.{integer_of}
use Rattle.ad_ber.specs.Reading.{element_at}
use Rattle.ad_ber.proofs.ElementCodec.{element_reader}
use Rattle.ad_ldap.specs.declared.fault.LdapFault.{LdapFault}
use Rattle.ad_ldap.specs.declared.fault.LdapFault.TheVariants as fault
use Rattle.ad_ldap.specs.Elements.{IsEmpty, Tagged, SpellsOctets, SpellsNumber, IsTruth, SpellsBoolean, SpellsOption}
use Rattle.ad_ldap.specs.Elements.{SpellsDefault, SpellsValues}
use Rattle.ad_ldap.specs.Filters.{Joined}
use Rattle.ad_ldap.specs.Reading.{form, begins, body_at, ended, some, within, number_at, boolean_at, option_at}
use Rattle.ad_ldap.specs.Reading.{default_at, inside_at, each_within, each_of, values_of}

-- ---- laws of a body, and of parts in a body

-- A reader of all its bytes is one of a format.
pub record IsWholeOf {A : Type 0} (Spells : A → List ℕ → Type 0) (whole : ℕ → List ℕ → Result A LdapFault) : Type 0
  where
    pub takes : (end : ℕ) (bytes : List ℕ) (x : A) → IsBytes bytes → whole end bytes ≡ Ok x → Spells x bytes
    pub again : (end : ℕ) (x : A) (text : List ℕ) → Spells x text → whole end text ≡ Ok x

-- A part of which no encoding is without bytes.
pub record IsPartOf {A : Type 0} (Spells : A → List ℕ → Type 0) (read : ℕ → List ℕ → Reading A LdapFault) : Type 0 where
  pub reader : (end : ℕ) → IsReaderOf Spells (read end)
  pub some : (x : A) (text : List ℕ) → Spells x text → 0 < length text

-- one part before, and what follows
pub starts : {A : Type 0} (Spells : A → List ℕ → Type 0) (Follows : List ℕ → Type 0) (bytes : List ℕ) (x : A)
    (rest : List ℕ) → TakesFront Spells bytes x rest → Follows rest → StartsWith Spells x Follows bytes
starts Spells Follows bytes x rest t f = record {
  front = t.text;
  behind = rest;
  parts = t.parts;
  spelled
      = t.spelled;
  follows = f;
}

-- the part before is read, and what follows is left
pub first_again : {A : Type 0} (Spells : A → List ℕ → Type 0) (read : List ℕ → Reading A LdapFault)
    → IsReaderOf Spells read → (x : A) (Follows : List ℕ → Type 0) (text : List ℕ)
    (s : StartsWith Spells x Follows text) → read text ≡ Ok (x, s.behind)
first_again Spells read reader x Follows text s = ap read s.parts ∙ reader.again x s.front s.behind s.spelled

pub joined : {A : Type 0} (Spells : A → List ℕ → Type 0) (Follows : List ℕ → Type 0) (bytes : List ℕ) (x : A)
    (rest : List ℕ) → TakesFront Spells bytes x rest → Follows rest → Joined (Spells x) Follows bytes
joined Spells Follows bytes x rest t f = record {
  front = t.text;
  behind = rest;
  parts = t.parts;
  first
      = t.spelled;
  second = f;
}

pub joined_again : {A : Type 0} (Spells : A → List ℕ → Type 0) (read : List ℕ → Reading A LdapFault)
    → IsReaderOf Spells read → (x : A) (Follows : List ℕ → Type 0) (text : List ℕ)
    (s : Joined (Spells x) Follows text) → read text ≡ Ok (x, s.behind)
joined_again Spells read reader x Follows text s = ap read s.parts ∙ reader.again x s.front s.behind s.first

-- what is made of a value that was read
abbrev pub made : {A B : Type 0} → (A → B) → A × List ℕ → Reading B LdapFault
made make x = Ok (make x.0, x.1)

pub none_left : (bytes : List ℕ) → eqb (length bytes) 0 ≡ true → IsEmpty bytes
none_left bytes e = nil_from_length bytes (eqb-true _ _ e)

pub at_end : (end : ℕ) (bytes : List ℕ) → IsEmpty bytes → ended end bytes ≡ Ok tt
at_end end bytes none = rw none refl

-- ---- the body of an element

-- an element begins with its tag
element_begins : (e : Element) (text : List ℕ) → SpellsElement e text → (rest : List ℕ) × (text ≡ e.tag ∷ rest)
element_begins e text s =
    let t = s.text_is in
    (t.behind, t.parts ∙ ap (λ (f : List ℕ). f ++ t.behind) t.spelled.1)

-- and its body are bytes
body_fits : (e : Element) (bytes text rest : List ℕ) → IsBytes bytes → bytes ≡ text ++ rest → SpellsElement e text
    → IsBytes e.body
body_fits e bytes text rest fits parts s =
    let t = s.text_is in
    let u = t.follows in
    let of_text : IsBytes text = IsBytes-front text rest (subst IsBytes parts fits) in
    let behind : IsBytes t.behind = IsBytes-back t.front t.behind (subst IsBytes t.parts of_text) in
    subst IsBytes u.follows.1 (IsBytes-back u.front u.behind (subst IsBytes u.parts behind))

begins_is : (tag b : ℕ) (bytes : List ℕ) → b ≡ tag → begins tag (b ∷ bytes) ≡ true
begins_is tag b bytes e = eq-eqb b tag e

-- an encoded element begins with its tag
pub begins_so : (e : Element) (text rest : List ℕ) → SpellsElement e text → begins e.tag (text ++ rest) ≡ true
begins_so e text rest s =
    let b = element_begins e text s in
    ap (λ (t : List ℕ). begins e.tag (t ++ rest)) b.1 ∙ begins_is e.tag e.tag (b.0 ++ rest) refl

begun_by : (tag : ℕ) (bytes : List ℕ) (e : Element) (text rest : List ℕ) → begins tag bytes ≡ true → bytes ≡ text
    ++ rest → SpellsElement e text → e.tag ≡ tag
begun_by tag [] e text rest here parts s = absurd cc
begun_by tag (b ∷ bytes) e text rest here parts s =
    let first = element_begins e text s in
    let same : b ∷ bytes ≡ e.tag ∷ (first.0 ++ rest) = parts ∙ ap (λ (t : List ℕ). t ++ rest) first.1 in
    let head : b ≡ e.tag = cc in
    sym head ∙ eqb-true b tag here

body_takes : (tag end : ℕ) (bytes body rest : List ℕ) → IsBytes bytes → body_at tag end bytes ≡ Ok (body, rest)
    → TakesFront (SpellsOctets tag) bytes body rest
unfolding body_at
body_takes tag end bytes body rest fits h =
    from_need (begins tag bytes) (form end bytes) _ (body, rest) h (λ (here : begins tag bytes ≡ true) h2.
    from_bind (fault_as fault.Ber (element_at bytes)) _ (body, rest) h2
    (λ (e : Element × List ℕ) (e1 : fault_as fault.Ber (element_at bytes) ≡ Ok e)
    (e2 : Ok (e.0.body, e.1) ≡ Ok (body, rest)).
    let t = element_reader.takes bytes e.0 e.1 fits (from_fault_as fault.Ber (element_at bytes) e e1) in
    let is_tag : e.0.tag ≡ tag = begun_by tag bytes e.0 t.text e.1 here t.parts t.spelled in
    let named : SpellsElement (record { tag = tag; body = e.0.body }) t.text
    = subst (λ (n : ℕ). SpellsElement (record { tag = n; body = e.0.body }) t.text) is_tag t.spelled in
    subst (λ (p : List ℕ × List ℕ). TakesFront (SpellsOctets tag) bytes p.0 p.1)
    (from_ok {E = LdapFault} (e.0.body, e.1) (body, rest) e2)
    (record { text = t.text; parts = t.parts; spelled = record { body = e.0.body; element = named; inside = refl } })))

body_there : (tag end : ℕ) (body text rest : List ℕ) → SpellsElement (record { tag = tag; body = body }) text
    → body_at tag end (text ++ rest) ≡ Ok (body, rest)
unfolding body_at
body_there tag end body text rest s =
    rw (
      begins_so (record { tag = tag; body = body }) text rest s,
      element_reader.again
          (record { tag = tag; body = body }) text rest s,
    ) refl

element_some : (e : Element) (text : List ℕ) → SpellsElement e text → 0 < length text
element_some e text s =
    let b = element_begins e text s in
    let n : length text ≡ suc (length b.0) = ap length b.1 in
    omega arith

pub octets_part : (tag : ℕ) → IsPartOf (SpellsOctets tag) (body_at tag)
octets_part tag = record {
  reader = λ end. record {
    takes = body_takes tag end;
    again = λ x text rest s. body_there tag end s.body text rest s.element ∙ ap (λ (b : List ℕ). Ok (b, rest)) s.inside;
  };
  some = λ x text s. element_some (record { tag = tag; body = s.body }) text s.element;
}

pub tagged_first : (tag : ℕ) (Body : List ℕ → Type 0) (text : List ℕ) → Tagged tag Body text → (rest : List ℕ)
    × (text ≡ tag ∷ rest)
tagged_first tag Body text t = element_begins (record { tag = tag; body = t.body }) text t.element

pub tagged_some : (tag : ℕ) (Body : List ℕ → Type 0) (text : List ℕ) → Tagged tag Body text → 0 < length text
tagged_some tag Body text t = element_some (record { tag = tag; body = t.body }) text t.element

pub begins_tagged : (tag : ℕ) (Body : List ℕ → Type 0) (text rest : List ℕ) → Tagged tag Body text
    → begins tag (text ++ rest) ≡ true
begins_tagged tag Body text rest t = begins_so (record { tag = tag; body = t.body }) text rest t.element

-- what begins with another tag doesn't begin with this one
pub begins_other : (tag other : ℕ) (Body : List ℕ → Type 0) (text rest : List ℕ) → (other ≡ tag → ⊥)
    → Tagged other Body text → begins tag (text ++ rest) ≡ false
begins_other tag other Body text rest differ t =
    let first = tagged_first other Body text t in
    ap (λ (x : List ℕ). begins tag (x ++ rest)) first.1 ∙ ne_eqb other tag differ

-- ---- an element whose body is read

inside_takes : {A : Type 0} (tag : ℕ) (Spells : A → List ℕ → Type 0) (whole : ℕ → List ℕ → Result A LdapFault)
    → IsWholeOf Spells whole → (end : ℕ) (bytes : List ℕ) (x : A) (rest : List ℕ) → IsBytes bytes
    → inside_at tag whole end bytes ≡ Ok (x, rest) → TakesFront (λ (y : A). Tagged tag (Spells y)) bytes x rest
unfolding inside_at
inside_takes {A = A} tag Spells whole law end bytes x rest fits h =
    from_bind (body_at tag end bytes) _ (x, rest) h
    (λ (body : List ℕ × List ℕ) (e1 : body_at tag end bytes ≡ Ok body) h2.
    from_bind (whole (end - length body.1) body.0) _ (x, rest) h2
    (λ (v : A) (e2 : whole (end - length body.1) body.0 ≡ Ok v) (e3 : Ok (v, body.1) ≡ Ok (x, rest)).
    let t = body_takes tag end bytes body.0 body.1 fits e1 in
    let inner : IsBytes body.0 = subst IsBytes t.spelled.inside
    (body_fits (record { tag = tag; body = t.spelled.body }) bytes t.text body.1 fits t.parts t.spelled.element)
    in
    let spelled : Spells v t.spelled.body = subst (Spells v) (sym t.spelled.inside)
    (law.takes (end - length body.1) body.0 v inner e2) in
    subst (λ (p : A × List ℕ). TakesFront (λ (y : A). Tagged tag (Spells y)) bytes p.0 p.1)
    (from_ok {E = LdapFault} (v, body.1) (x, rest) e3)
    (record {
      text = t.text;
      parts = t.parts;
      spelled
          = record { body = t.spelled.body; element = t.spelled.element; inside = spelled };
    })))

inside_again : {A : Type 0} (tag : ℕ) (Spells : A → List ℕ → Type 0) (whole : ℕ → List ℕ → Result A LdapFault)
    → IsWholeOf Spells whole → (end : ℕ) (x : A) (text rest : List ℕ) → Tagged tag (Spells x) text
    → inside_at tag whole end (text ++ rest) ≡ Ok (x, rest)
unfolding inside_at
inside_again tag Spells whole law end x text rest s =
    rw (body_there tag end s.body text rest s.element, law.again (end - length rest) x s.body s.inside) refl

pub inside_part : {A : Type 0} (tag : ℕ) (Spells : A → List ℕ → Type 0) (whole : ℕ → List ℕ → Result A LdapFault)
    → IsWholeOf Spells whole → IsPartOf (λ (x : A). Tagged tag (Spells x)) (inside_at tag whole)
inside_part tag Spells whole law = record {
  reader = λ end. record {
    takes = inside_takes tag Spells whole law end;
    again = inside_again tag Spells whole law
        end;
  };
  some = λ x text s. element_some (record { tag = tag; body = s.body }) text s.element;
}

-- ---- numbers and truth values

from_within : (most : ℕ) (d : LdapFault) (z : ℤ) (n : ℕ) → within most d z ≡ Ok n → (z ≡ pos n) × (n ≤ most)
from_within most d (pos k) n e =
    elim (cases_Bool (leb k most)) [
      | inl low ↦ let same : k ≡ n = from_ok {E = LdapFault} k n (sym (rw low refl) ∙ e)
          in (ap pos same, subst (λ (m : ℕ). m ≤ most) same (leb-true _ _ low))
      | inr high ↦ let clash : Err d ≡ Ok n = sym (rw high refl) ∙ e in absurd cc
    ]
from_within most d (negsuc k) n e = absurd cc

within_again : (most : ℕ) (d : LdapFault) (n : ℕ) → n ≤ most → within most d (pos n) ≡ Ok n
within_again most d n le =
    let low : leb n most ≡ true = le-leb _ _ le in
    rw low refl

number_takes : (tag most end : ℕ) (bytes : List ℕ) (n : ℕ) (rest : List ℕ) → IsBytes bytes
    → number_at tag most end bytes ≡ Ok (n, rest) → TakesFront (SpellsNumber tag most) bytes n rest
unfolding number_at
number_takes tag most end bytes n rest fits h =
    from_bind (body_at tag end bytes) _ (n, rest) h
    (λ (body : List ℕ × List ℕ) (e1 : body_at tag end bytes ≡ Ok body) h2.
    from_bind (fault_as fault.Ber (integer_of body.0)) _ (n, rest) h2
    (λ (z : ℤ) (e2 : fault_as fault.Ber (integer_of body.0) ≡ Ok z) h3.
    from_bind (within most (form end bytes) z) _ (n, rest) h3
    (λ (k : ℕ) (e3 : within most (form end bytes) z ≡ Ok k) (e4 : Ok (k, body.1) ≡ Ok (n, rest)).
    let t = body_takes tag end bytes body.0 body.1 fits e1 in
    let w = from_within most (form end bytes) z k e3 in
    let number : integer_of t.spelled.body ≡ Ok (pos k) = ap integer_of t.spelled.inside ∙ from_fault_as fault.Ber
    (integer_of body.0) z e2 ∙ ap (λ (i : ℤ). Ok i) w.0 in
    subst (λ (p : ℕ × List ℕ). TakesFront (SpellsNumber tag most) bytes p.0 p.1)
    (from_ok {E = LdapFault} (k, body.1) (n, rest) e4)
    (record {
      text = t.text;
      parts = t.parts;
      spelled
          = (w.1, record { body = t.spelled.body; element = t.spelled.element; inside = number });
    }))))

number_again : (tag most end n : ℕ) (text rest : List ℕ) → SpellsNumber tag most n text
    → number_at tag most end (text ++ rest) ≡ Ok (n, rest)
unfolding number_at
number_again tag most end n text rest s =
    rw (
      body_there tag end s.1.body text rest s.1.element,
      s.1.inside,
      within_again most (form end (text ++ rest)) n
          s.0,
    ) refl

pub number_part : (tag most : ℕ) → IsPartOf (SpellsNumber tag most) (number_at tag most)
number_part tag most = record {
  reader = λ end. record { takes = number_takes tag most end; again = number_again tag most end };
  some = λ n text s. element_some (record { tag = tag; body = s.1.body }) text s.1.element;
}

one_byte : (body : List ℕ) → length body ≡ 1 → body ≡ get_or body 0 0 ∷ []
one_byte [] e = absurd (omega arith)
one_byte (b ∷ []) e = refl
one_byte (b ∷ c ∷ body) e = absurd (omega arith)

boolean_takes : (tag end : ℕ) (bytes : List ℕ) (b : Bool) (rest : List ℕ) → IsBytes bytes → boolean_at tag end bytes
    ≡ Ok (b, rest) → TakesFront (SpellsBoolean tag) bytes b rest
unfolding boolean_at
boolean_takes tag end bytes b rest fits h =
    from_bind (body_at tag end bytes) _ (b, rest) h
    (λ (body : List ℕ × List ℕ) (e1 : body_at tag end bytes ≡ Ok body) h2.
    from_need (eqb (length body.0) 1) (form end bytes) _ (b, rest) h2
    (λ (one : eqb (length body.0) 1 ≡ true) (e2 : Ok (not (eqb (get_or body.0 0 0) 0), body.1) ≡ Ok (b, rest)).
    let t = body_takes tag end bytes body.0 body.1 fits e1 in
    let x = get_or body.0 0 0 in
    let whole : t.spelled.body ≡ x ∷ [] = t.spelled.inside ∙ one_byte body.0 (eqb-true _ _ one) in
    subst (λ (p : Bool × List ℕ). TakesFront (SpellsBoolean tag) bytes p.0 p.1)
    (from_ok {E = LdapFault} (not (eqb x 0), body.1) (b, rest) e2)
    (record {
      text = t.text;
      parts = t.parts;
      spelled
          = record { body = t.spelled.body; element = t.spelled.element; inside = (x, whole, refl) };
    })))

boolean_again : (tag end : ℕ) (b : Bool) (text rest : List ℕ) → SpellsBoolean tag b text
    → boolean_at tag end (text ++ rest) ≡ Ok (b, rest)
unfolding boolean_at
boolean_again tag end b text rest s =
    rw (body_there tag end s.body text rest s.element, s.inside.1, s.inside.2) refl

pub boolean_part : (tag : ℕ) → IsPartOf (SpellsBoolean tag) (boolean_at tag)
boolean_part tag = record {
  reader = λ end. record { takes = boolean_takes tag end; again = boolean_again tag end };
  some = λ b text s. element_some (record { tag = tag; body = s.body }) text s.element;
}

-- ---- what may be left out

pub option_takes : (tag end : ℕ) (bytes : List ℕ) (o : Option (List ℕ)) (rest : List ℕ) → IsBytes bytes
    → option_at tag end bytes ≡ Ok (o, rest) → TakesFront (SpellsOption tag) bytes o rest
unfolding option_at
option_takes tag end bytes o rest fits h =
    elim (cases_Bool (begins tag bytes)) [
      | inl here ↦
          from_bind (body_at tag end bytes) (λ body. Ok (Some body.0, body.1)) (o, rest) (sym (rw here refl) ∙ h)
          (λ (body : List ℕ × List ℕ)
          (e1 : body_at tag end bytes ≡ Ok body) (e2 : Ok (Some body.0, body.1) ≡ Ok (o, rest)).
          let t = body_takes tag end bytes body.0 body.1 fits e1 in
          subst (λ (p : Option (List ℕ) × List ℕ). TakesFront (SpellsOption tag) bytes p.0 p.1)
          (from_ok {E = LdapFault} (Some body.0, body.1) (o, rest) e2)
          (record { text = t.text; parts = t.parts; spelled = t.spelled }))
      | inr away ↦
          subst (λ (p : Option (List ℕ) × List ℕ). TakesFront (SpellsOption tag) bytes p.0 p.1)
          (from_ok {E = LdapFault} (None, bytes) (o, rest) (sym (rw away refl) ∙ h))
          (record { text = []; parts = refl; spelled = refl })
    ]

-- what is left out is read so where what follows doesn't begin with the tag
pub option_again : (tag end : ℕ) (o : Option (List ℕ)) (text rest : List ℕ) → begins tag rest ≡ false
    → SpellsOption tag o text → option_at tag end (text ++ rest) ≡ Ok (o, rest)
unfolding option_at
option_again tag end None text rest away s = rw (s, away) refl
option_again tag end (Some octets) text rest away s =
    rw (
      begins_so (record { tag = tag; body = s.body }) text rest s.element,
      body_there tag end s.body text rest
          s.element,
      s.inside,
    ) refl

pub default_takes : (tag end : ℕ) (bytes : List ℕ) (b : Bool) (rest : List ℕ) → IsBytes bytes
    → default_at tag end bytes ≡ Ok (b, rest) → TakesFront (SpellsDefault tag) bytes b rest
unfolding default_at
default_takes tag end bytes b rest fits h =
    elim (cases_Bool (begins tag bytes)) [
      | inl here ↦
          let t = boolean_takes tag end bytes b rest fits (sym (rw here refl) ∙ h) in
          record { text = t.text; parts = t.parts; spelled = inl t.spelled }
      | inr away ↦
          subst (λ (p : Bool × List ℕ). TakesFront (SpellsDefault tag) bytes p.0 p.1)
          (from_ok {E = LdapFault} (false, bytes) (b, rest) (sym (rw away refl) ∙ h))
          (record { text = []; parts = refl; spelled = inr (refl, refl) })
    ]

pub default_again : (tag end : ℕ) (b : Bool) (text rest : List ℕ) → begins tag rest ≡ false → SpellsDefault tag b text
    → default_at tag end (text ++ rest) ≡ Ok (b, rest)
unfolding default_at
default_again tag end b text rest away (inl s) =
    rw (begins_so (record { tag = tag; body = s.body }) text rest s.element) (boolean_again tag end b text rest s)
default_again tag end b text rest away (inr s) = rw (s.0, s.1, away) refl

-- ---- parts up to the end

each_within_takes : {A : Type 0} (Spells : A → List ℕ → Type 0) (read : List ℕ → Reading A LdapFault)
    → IsReaderOf Spells read → ((x : A) (text : List ℕ) → Spells x text → 0 < length text)
    → (n : ℕ) (bytes : List ℕ) (xs : List A) → IsBytes bytes → length bytes ≤ n → each_within n read bytes ≡ Ok xs
    → SpellsEach Spells xs bytes
unfolding each_within
each_within_takes Spells read reader some zero [] xs fits enough h = subst (λ (ys : List _). SpellsEach Spells ys [])
    (from_ok {E = LdapFault} [] xs h) refl
each_within_takes Spells read reader some (suc n) [] xs fits enough h
    = subst (λ (ys : List _). SpellsEach Spells ys []) (from_ok {E = LdapFault} [] xs h) refl
each_within_takes Spells read reader some zero (b ∷ bytes) xs fits enough h = absurd (omega arith)
each_within_takes {A = A} Spells read reader some (suc n) (b ∷ bytes) xs fits enough h =
    from_bind (read (b ∷ bytes)) _ xs h (λ (first : A × List ℕ) (e1 : read (b ∷ bytes) ≡ Ok first) h2.
    from_bind (each_within n read first.1) _ xs h2
    (λ (others : List A) (e2 : each_within n read first.1 ≡ Ok others) (e3 : Ok (first.0 ∷ others) ≡ Ok xs).
    let t = reader.takes (b ∷ bytes) first.0 first.1 fits e1 in
    let len : length (b ∷ bytes) ≡ length t.text + length first.1 = ap length t.parts ∙ length-append t.text first.1 in
    let one : 0 < length t.text = some first.0 t.text t.spelled in
    let last = each_within_takes Spells read reader some n first.1 others
    (rest_fits Spells (b ∷ bytes) first.0 first.1 fits t) (omega arith) e2 in
    subst (λ (ys : List A). SpellsEach Spells ys (b ∷ bytes)) (from_ok {E = LdapFault} (first.0 ∷ others) xs e3)
    (record { front = t.text; behind = first.1; parts = t.parts; spelled = t.spelled; follows = last })))

one_of : (text : List ℕ) → 0 < length text → (b : ℕ) × (rest : List ℕ) × (text ≡ b ∷ rest)
one_of [] some = absurd (omega arith)
one_of (b ∷ rest) some = (b, rest, refl)

each_step : {A : Type 0} (read : List ℕ → Reading A LdapFault) (n : ℕ) (text : List ℕ) → 0 < length text
    → each_within (suc n) read text ≡ (read text >>= λ first. each_within n read first.1 >>= λ others.
    Ok (first.0 ∷ others))
unfolding each_within
each_step read n [] some = absurd (omega arith)
each_step read n (b ∷ text) some = refl

each_nil : {A : Type 0} (read : List ℕ → Reading A LdapFault) (n : ℕ) → each_within n read [] ≡ Ok []
unfolding each_within
each_nil read zero = refl
each_nil read (suc n) = refl

each_within_again : {A : Type 0} (Spells : A → List ℕ → Type 0) (read : List ℕ → Reading A LdapFault)
    → IsReaderOf Spells read → ((x : A) (text : List ℕ) → Spells x text → 0 < length text)
    → (xs : List A) (n : ℕ) (text : List ℕ) → length text ≤ n → SpellsEach Spells xs text → each_within n read text
    ≡ Ok xs
each_within_again Spells read reader some [] n text enough s = rw s (each_nil read n)
each_within_again Spells read reader some (x ∷ xs) zero text enough s =
    let one : 0 < length s.front = some x s.front s.spelled in
    absurd (omega (arith, ap length s.parts, length-append s.front s.behind))
each_within_again {A = A} Spells read reader some (x ∷ xs) (suc n) text enough s =
    let one : 0 < length s.front = some x s.front s.spelled in
    let len : length text ≡ length s.front + length s.behind = ap length s.parts ∙ length-append s.front s.behind in
    let first : read text ≡ Ok (x, s.behind) = first_again Spells read reader x (SpellsEach Spells xs) text s in
    each_step read n text (omega arith) ∙ rw
    (first, each_within_again Spells read reader some xs n s.behind (omega arith) s.follows) refl

pub each_whole : {A : Type 0} (Spells : A → List ℕ → Type 0) (read : ℕ → List ℕ → Reading A LdapFault)
    → IsPartOf Spells read → IsWholeOf (SpellsEach Spells) (each_of read)
each_whole Spells read part = record {
  takes = λ end bytes xs fits h. each_within_takes Spells (read end) (part.reader end) part.some (length bytes) bytes
      xs fits (omega arith) h;
  again = λ end xs text s. each_within_again Spells (read end) (part.reader end) part.some xs (length text) text
      (omega arith) s;
}

pub values_whole : IsWholeOf SpellsValues values_of
unfolding values_of
values_whole = each_whole (SpellsOctets 4) (body_at 4) (octets_part 4)
