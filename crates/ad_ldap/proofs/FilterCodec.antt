-- The reader of filters is that of their encodings.
use Rattle.std.proofs.Common.{◌≡◌, ℕ, zero, suc, max, ◌+◌, ◌-◌, ◌<◌, ◌≤◌, Bool, true, false, eqb, List, [], ◌∷◌, ◌++◌}
use Rattle.std.proofs.Common.{length, map, Option, None, Some, Result, Ok, Err, refl, sym, ap, subst, ◌∙◌}
use Rattle.std.proofs.Common.{append_assoc, length-append, arith, inl, inr, ◌⊎◌}
use Rattle.std.specs.Prelude.{not}
use Rattle.std.proofs.lemmas.Bool.{cases_Bool, eqb-false, ne_eqb, not-true}
use Rattle.std.proofs.lemmas.List.{append-nil}
use Rattle.ad_bytes.specs.Reading.{IsBytes, Reading, ◌>>=◌, need, TakesFront, StartsWith, IsReaderOf, SpellsEach}
use Rattle.ad_bytes.proofs.Steps.{from_bind, from_need, from_ok}
use Rattle.ad_bytes.proofs.Codec.{rest_fits}
use Rattle.ad_value.specs.declared.pattern.Pattern.{Pattern}
use Rattle.ad_ldap.specs.declared.fault.LdapFault.{LdapFault}
use Rattle.ad_ldap.specs.declared.fault.LdapFault.TheVariants as fault
use Rattle.ad_ldap.specs.declared.filter_reading.FilterKind.{FilterKind}
use Rattle.ad_ldap.specs.declared.filter_reading.FilterKind.TheVariants as kind
use Rattle.ad_ldap.specs.FilterValue.{FilterValue, FilterList, filters_of, depth, depth_of_all, And, Or, Not, Equal}
use Rattle.ad_ldap.specs.FilterValue.{Pieces, AtLeast, AtMost, Present, Like, Extensible, none, more}
use Rattle.ad_ldap.specs.Elements.{IsEmpty, Tagged, SpellsOctets, SpellsOption, SpellsDefault}
use Rattle.ad_ldap.specs.Filters.{Joined, SpellsAssertion, HasPieces, SpellsPieces, SpellsSubstrings}
use Rattle.ad_ldap.specs.Filters.{SpellsExtensible, SpellsFilter, SpellsFilters, SpellsWithin}
use Rattle.ad_ldap.specs.Reading.{form, begins, ok_or, body_at, ended, some, option_at, default_at, inside_at, each_of}
use Rattle.ad_ldap.specs.FilterReading.{assertion_of, middle_within, middle_of, pieces_of, substrings_of, passed_at}
use Rattle.ad_ldap.specs.FilterReading.{extensible_of, kind_by_tag, kind_at, alone_of, item_of, filter_of, filter_at}
use Rattle.ad_ldap.proofs.Codec.{IsWholeOf, IsPartOf, starts, first_again, joined, joined_again, made, none_left}
use Rattle.ad_ldap.proofs.Codec.{begins_tagged, begins_other, tagged_first, tagged_some, octets_part, inside_part}
use Rattle.ad_ldap.proofs.Codec.{option_takes, option_again, default_takes, default_again, each_whole}

-- ---- an attribute's name and a value

assertion_takes : (end : ℕ) (bytes : List ℕ) (x : List ℕ × List ℕ) → IsBytes bytes → assertion_of end bytes ≡ Ok x
    → SpellsAssertion x.0 x.1 bytes
unfolding assertion_of
assertion_takes end bytes x fits h =
    from_bind (body_at 4 end bytes) _ x h (λ (attr : List ℕ × List ℕ) (e1 : body_at 4 end bytes ≡ Ok attr) h2.
    from_bind (body_at 4 end attr.1) _ x h2 (λ (value : List ℕ × List ℕ) (e2 : body_at 4 end attr.1 ≡ Ok value) h3.
    from_need (eqb (length value.1) 0) (form end value.1) _ x h3
    (λ (last : eqb (length value.1) 0 ≡ true) (e3 : Ok (attr.0, value.0) ≡ Ok x).
    let t1 = ((octets_part 4).reader end).takes bytes attr.0 attr.1 fits e1 in
    let t2 = ((octets_part 4).reader end).takes attr.1 value.0 value.1
    (rest_fits (SpellsOctets 4) bytes attr.0 attr.1 fits t1) e2 in
    subst (λ (y : List ℕ × List ℕ). SpellsAssertion y.0 y.1 bytes) (from_ok {E = LdapFault} (attr.0, value.0) x e3)
    (starts (SpellsOctets 4) (StartsWith (SpellsOctets 4) value.0 IsEmpty) bytes attr.0 attr.1 t1
    (starts (SpellsOctets 4) IsEmpty attr.1 value.0 value.1 t2 (none_left value.1 last))))))

assertion_again : (end : ℕ) (x : List ℕ × List ℕ) (text : List ℕ) → SpellsAssertion x.0 x.1 text
    → assertion_of end text ≡ Ok x
unfolding assertion_of
assertion_again end x text s =
    rw (
      first_again (SpellsOctets 4) (body_at 4 end) ((octets_part 4).reader end) x.0
          (StartsWith (SpellsOctets 4) x.1 IsEmpty) text s,
      first_again (SpellsOctets 4) (body_at 4 end) ((octets_part 4).reader end) x.1 IsEmpty s.behind s.follows,
      s.follows.follows,
    ) refl

pub assertion_whole : IsWholeOf (λ (x : List ℕ × List ℕ). SpellsAssertion x.0 x.1) assertion_of
assertion_whole = record { takes = assertion_takes; again = assertion_again }

-- ---- pieces

middle_takes : (n end : ℕ) (bytes : List ℕ) (xs : List (List ℕ)) (rest : List ℕ) → IsBytes bytes
    → middle_within n end bytes ≡ Ok (xs, rest) → TakesFront (SpellsEach (SpellsOctets 129)) bytes xs rest
unfolding middle_within
middle_takes zero end bytes xs rest fits h =
    subst (λ (p : List (List ℕ) × List ℕ). TakesFront (SpellsEach (SpellsOctets 129)) bytes p.0 p.1)
    (from_ok {E = LdapFault} ([], bytes) (xs, rest) h) (record { text = []; parts = refl; spelled = refl })
middle_takes (suc n) end bytes xs rest fits h =
    elim (cases_Bool (begins 129 bytes)) [
      | inl here ↦
          from_bind (body_at 129 end bytes) (λ first. middle_within n end first.1 >>= λ others.
          Ok (first.0 ∷ others.0, others.1)) (xs, rest) (sym (rw here refl) ∙ h)
          (λ (first : List ℕ × List ℕ) (e1 : body_at 129 end bytes ≡ Ok first) h2.
          from_bind (middle_within n end first.1) (λ others. Ok (first.0 ∷ others.0, others.1)) (xs, rest) h2
          (λ (others : List (List ℕ) × List ℕ) (e2 : middle_within n end first.1 ≡ Ok others)
          (e3 : Ok (first.0 ∷ others.0, others.1) ≡ Ok (xs, rest)).
          let t = ((octets_part 129).reader end).takes bytes first.0 first.1 fits e1 in
          let u = middle_takes n end first.1 others.0 others.1
          (rest_fits (SpellsOctets 129) bytes first.0 first.1 fits t) e2 in
          subst (λ (p : List (List ℕ) × List ℕ). TakesFront (SpellsEach (SpellsOctets 129)) bytes p.0 p.1)
          (from_ok {E = LdapFault} (first.0 ∷ others.0, others.1) (xs, rest) e3)
          (record {
            text = t.text ++ u.text;
            parts = t.parts ∙ ap (λ (r : List ℕ). t.text ++ r) u.parts ∙ sym (append_assoc t.text u.text others.1);
            spelled = record {
              front = t.text;
              behind = u.text;
              parts = refl;
              spelled = t.spelled;
              follows
                  = u.spelled;
            };
          })))
      | inr away ↦
          subst (λ (p : List (List ℕ) × List ℕ). TakesFront (SpellsEach (SpellsOctets 129)) bytes p.0 p.1)
          (from_ok {E = LdapFault} ([], bytes) (xs, rest) (sym (rw away refl) ∙ h))
          (record { text = []; parts = refl; spelled = refl })
    ]

middle_again : (xs : List (List ℕ)) (n end : ℕ) (text rest : List ℕ) → length text ≤ n → begins 129 rest ≡ false
    → SpellsEach (SpellsOctets 129) xs text → middle_within n end (text ++ rest) ≡ Ok (xs, rest)
unfolding middle_within
middle_again [] zero end text rest enough away s = rw s refl
middle_again [] (suc n) end text rest enough away s = rw (s, away) refl
middle_again (x ∷ xs) zero end text rest enough away s =
    let one : 0 < length s.front = (octets_part 129).some x s.front s.spelled in
    absurd (omega (arith, ap length s.parts, length-append s.front s.behind))
middle_again (x ∷ xs) (suc n) end text rest enough away s =
    let one : 0 < length s.front = (octets_part 129).some x s.front s.spelled in
    let len : length text ≡ length s.front + length s.behind = ap length s.parts ∙ length-append s.front s.behind in
    let whole : text ++ rest ≡ s.front ++ (s.behind ++ rest) = ap (λ (t : List ℕ). t ++ rest) s.parts
    ∙ append_assoc s.front s.behind rest in
    let here : begins 129 (s.front ++ (s.behind ++ rest)) ≡ true = begins_tagged 129 (λ body. body ≡ x) s.front
    (s.behind ++ rest) s.spelled in
    ap (middle_within (suc n) end) whole ∙ rw (
      here,
      ((octets_part 129).reader end).again x s.front (s.behind ++ rest)
          s.spelled,
      middle_again xs n end s.behind rest (omega arith) away s.follows,
    ) refl

-- a text that begins with none of these
begins_last : (tag : ℕ) (o : Option (List ℕ)) (text : List ℕ) → (130 ≡ tag → ⊥) → SpellsOption 130 o text
    → begins tag text ≡ false
begins_last tag None text differ s = rw s refl
begins_last tag (Some x) text differ s = ap (begins tag) (sym (append-nil text))
    ∙ begins_other tag 130 (λ body. body ≡ x) text [] differ s

begins_middle : (tag : ℕ) (xs : List (List ℕ)) (o : Option (List ℕ)) (text behind : List ℕ) → (129 ≡ tag → ⊥)
    → (130 ≡ tag → ⊥) → SpellsEach (SpellsOctets 129) xs text → SpellsOption 130 o behind
    → begins tag (text ++ behind) ≡ false
begins_middle tag [] o text behind d1 d2 s last = rw s (begins_last tag o behind d2 last)
begins_middle tag (x ∷ xs) o text behind d1 d2 s last =
    ap (λ (t : List ℕ). begins tag (t ++ behind)) s.parts ∙ ap (begins tag) (append_assoc s.front s.behind behind)
    ∙ begins_other tag 129 (λ body. body ≡ x) s.front (s.behind ++ behind) d1 s.spelled

-- pieces without bytes are none
no_first : (tag : ℕ) (o : Option (List ℕ)) (text : List ℕ) → length text ≡ 0 → SpellsOption tag o text → o ≡ None
no_first tag None text empty s = refl
no_first tag (Some x) text empty s = absurd (omega (arith, (octets_part tag).some x text s))

no_middle : (xs : List (List ℕ)) (text : List ℕ) → length text ≡ 0 → SpellsEach (SpellsOctets 129) xs text → xs ≡ []
no_middle [] text empty s = refl
no_middle (x ∷ xs) text empty s = absurd (omega
    (arith, (octets_part 129).some x s.front s.spelled, ap length s.parts, length-append s.front s.behind))

has_bytes : (p : Pattern) (text : List ℕ) → SpellsPieces p text → length text ≡ 0 → ⊥
has_bytes p text s empty =
    let w = s.text_is in
    let v = w.follows in
    let l1 : length text ≡ length w.front + length w.behind = ap length w.parts ∙ length-append w.front w.behind in
    let l2 : length w.behind ≡ length v.front + length v.behind = ap length v.parts ∙ length-append v.front v.behind in
    s.some (
      no_first 128 p.first w.front (omega arith) w.spelled,
      no_middle p.middle v.front (omega arith) v.spelled,
      no_first 130 p.last v.behind (omega arith) v.follows,
    )

-- what was read of some bytes has a piece
some_pieces : (p : Pattern) (bytes b1 b2 t1 t2 : List ℕ) → (length bytes ≡ 0 → ⊥) → bytes ≡ t1 ++ b1 → b1 ≡ t2 ++ b2
    → SpellsOption 128 p.first t1 → SpellsEach (SpellsOctets 129) p.middle t2 → SpellsOption 130 p.last b2
    → HasPieces p
some_pieces p bytes b1 b2 t1 t2 there e1 e2 s1 s2 s3 h =
    let n1 : t1 ≡ [] = subst (λ (o : Option (List ℕ)). SpellsOption 128 o t1) h.0 s1 in
    let n2 : t2 ≡ [] = subst (λ (xs : List (List ℕ)). SpellsEach (SpellsOctets 129) xs t2) h.1 s2 in
    let n3 : b2 ≡ [] = subst (λ (o : Option (List ℕ)). SpellsOption 130 o b2) h.2 s3 in
    there (omega (
      arith,
      ap length e1,
      length-append t1 b1,
      ap length e2,
      length-append t2 b2,
      ap length n1,
      ap length
          n2,
      ap length n3,
    ))

pieces_takes : (end : ℕ) (bytes : List ℕ) (p : Pattern) → IsBytes bytes → pieces_of end bytes ≡ Ok p
    → SpellsPieces p bytes
unfolding pieces_of middle_of
pieces_takes end bytes p fits h =
    from_need (not (eqb (length bytes) 0)) (form end bytes) _ p h (λ (there : not (eqb (length bytes) 0) ≡ true) h1.
    from_bind (option_at 128 end bytes) _ p h1
    (λ (first : Option (List ℕ) × List ℕ) (e1 : option_at 128 end bytes ≡ Ok first) h2.
    from_bind (middle_within (length first.1) end first.1) _ p h2
    (λ (middle : List (List ℕ) × List ℕ) (e2 : middle_within (length first.1) end first.1 ≡ Ok middle) h3.
    from_bind (option_at 130 end middle.1) _ p h3
    (λ (last : Option (List ℕ) × List ℕ) (e3 : option_at 130 end middle.1 ≡ Ok last) h4.
    from_need (eqb (length last.1) 0) (form end last.1) _ p h4
    (λ (over : eqb (length last.1) 0 ≡ true)
    (e4 : Ok (record { first = first.0; middle = middle.0; last = last.0 }) ≡ Ok p).
    let t1 = option_takes 128 end bytes first.0 first.1 fits e1 in
    let f1 = rest_fits (SpellsOption 128) bytes first.0 first.1 fits t1 in
    let t2 = middle_takes (length first.1) end first.1 middle.0 middle.1 f1 e2 in
    let f2 = rest_fits (SpellsEach (SpellsOctets 129)) first.1 middle.0 middle.1 f1 t2 in
    let t3 = option_takes 130 end middle.1 last.0 last.1 f2 e3 in
    let all : SpellsOption 130 last.0 middle.1 = subst (SpellsOption 130 last.0)
    (sym (t3.parts ∙ ap (λ (r : List ℕ). t3.text ++ r) (none_left last.1 over) ∙ append-nil t3.text)) t3.spelled
    in
    let value : Pattern = record { first = first.0; middle = middle.0; last = last.0 } in
    subst (λ (q : Pattern). SpellsPieces q bytes) (from_ok {E = LdapFault} value p e4)
    (record {
      some = some_pieces value bytes first.1 middle.1 t1.text t2.text (eqb-false _ _ (not-true _ there)) t1.parts
          t2.parts t1.spelled t2.spelled all;
      text_is = starts (SpellsOption 128)
          (StartsWith (SpellsEach (SpellsOctets 129)) middle.0 (SpellsOption 130 last.0)) bytes first.0 first.1 t1
          (starts (SpellsEach (SpellsOctets 129)) (SpellsOption 130 last.0) first.1 middle.0 middle.1 t2 all);
    }))))))

pieces_again : (end : ℕ) (p : Pattern) (text : List ℕ) → SpellsPieces p text → pieces_of end text ≡ Ok p
unfolding pieces_of middle_of
pieces_again end p text s =
    let w = s.text_is in
    let v = w.follows in
    let there : eqb (length text) 0 ≡ false = ne_eqb (length text) 0 (has_bytes p text s) in
    let away128 : begins 128 w.behind ≡ false = ap (begins 128) v.parts ∙ begins_middle 128 p.middle p.last v.front
    v.behind (λ e. omega (arith, e)) (λ e. omega (arith, e)) v.spelled v.follows in
    let away129 : begins 129 v.behind ≡ false = begins_last 129 p.last v.behind (λ e. omega (arith, e)) v.follows in
    let first : option_at 128 end text ≡ Ok (p.first, w.behind) = ap (option_at 128 end) w.parts
    ∙ option_again 128 end p.first w.front w.behind away128 w.spelled in
    let len : length w.behind ≡ length v.front + length v.behind = ap length v.parts ∙ length-append v.front v.behind in
    let middle : middle_within (length w.behind) end w.behind ≡ Ok (p.middle, v.behind)
    = ap (middle_within (length w.behind) end) v.parts ∙ middle_again p.middle (length w.behind) end v.front
    v.behind (omega arith) away129 v.spelled in
    let last : option_at 130 end v.behind ≡ Ok (p.last, []) = ap (option_at 130 end) (sym (append-nil v.behind))
    ∙ option_again 130 end p.last v.behind [] refl v.follows in
    rw (there, first, middle, last) refl

pub pieces_whole : IsWholeOf SpellsPieces pieces_of
pieces_whole = record { takes = pieces_takes; again = pieces_again }

substrings_takes : (end : ℕ) (bytes : List ℕ) (x : List ℕ × Pattern) → IsBytes bytes → substrings_of end bytes ≡ Ok x
    → SpellsSubstrings x.0 x.1 bytes
unfolding substrings_of
substrings_takes end bytes x fits h =
    from_bind (body_at 4 end bytes) _ x h (λ (attr : List ℕ × List ℕ) (e1 : body_at 4 end bytes ≡ Ok attr) h2.
    from_bind (inside_at 48 pieces_of end attr.1) _ x h2
    (λ (p : Pattern × List ℕ) (e2 : inside_at 48 pieces_of end attr.1 ≡ Ok p) h3.
    from_need (eqb (length p.1) 0) (form end p.1) _ x h3
    (λ (last : eqb (length p.1) 0 ≡ true) (e3 : Ok (attr.0, p.0) ≡ Ok x).
    let part = inside_part 48 SpellsPieces pieces_of pieces_whole in
    let t1 = ((octets_part 4).reader end).takes bytes attr.0 attr.1 fits e1 in
    let t2 = (part.reader end).takes attr.1 p.0 p.1 (rest_fits (SpellsOctets 4) bytes attr.0 attr.1 fits t1) e2 in
    subst (λ (y : List ℕ × Pattern). SpellsSubstrings y.0 y.1 bytes) (from_ok {E = LdapFault} (attr.0, p.0) x e3)
    (starts (SpellsOctets 4) (λ (rest : List ℕ). Joined (Tagged 48 (SpellsPieces p.0)) IsEmpty rest) bytes attr.0
    attr.1 t1 (joined (λ (q : Pattern). Tagged 48 (SpellsPieces q)) IsEmpty attr.1 p.0 p.1 t2
    (none_left p.1 last))))))

substrings_again : (end : ℕ) (x : List ℕ × Pattern) (text : List ℕ) → SpellsSubstrings x.0 x.1 text
    → substrings_of end text ≡ Ok x
unfolding substrings_of
substrings_again end x text s =
    let part = inside_part 48 SpellsPieces pieces_of pieces_whole in
    rw (
      first_again (SpellsOctets 4) (body_at 4 end) ((octets_part 4).reader end) x.0
          (λ (rest : List ℕ). Joined (Tagged 48 (SpellsPieces x.1)) IsEmpty rest) text s,
      joined_again (λ (q : Pattern). Tagged 48 (SpellsPieces q)) (inside_at 48 pieces_of end) (part.reader end) x.1
          IsEmpty s.behind s.follows,
      s.follows.second,
    ) refl

pub substrings_whole : IsWholeOf (λ (x : List ℕ × Pattern). SpellsSubstrings x.0 x.1) substrings_of
substrings_whole = record { takes = substrings_takes; again = substrings_again }

-- ---- an extensible match

passed_takes : (tag end : ℕ) (bytes rest : List ℕ) (u : Unit {0}) → IsBytes bytes → passed_at tag end bytes
    ≡ Ok (u, rest) → (o : Option (List ℕ)) × TakesFront (SpellsOption tag) bytes o rest
unfolding passed_at
passed_takes tag end bytes rest u fits h =
    elim (cases_Bool (begins tag bytes)) [
      | inl here ↦
          from_bind (body_at tag end bytes) (λ body. Ok (tt, body.1)) (u, rest) (sym (rw here refl) ∙ h)
          (λ (body : List ℕ × List ℕ)
          (e1 : body_at tag end bytes ≡ Ok body) (e2 : Ok (tt, body.1) ≡ Ok (u, rest)).
          let t = ((octets_part tag).reader end).takes bytes body.0 body.1 fits e1 in
          let left : body.1 ≡ rest = ap (λ (p : Unit {0} × List ℕ). p.1)
          (from_ok {E = LdapFault} (tt, body.1) (u, rest) e2) in (
            Some body.0,
            record {
              text = t.text;
              parts = t.parts ∙ ap (λ (r : List ℕ). t.text ++ r) left;
              spelled
                  = t.spelled;
            },
          ))
      | inr away ↦
          let left : bytes ≡ rest = ap (λ (p : Unit {0} × List ℕ). p.1)
          (from_ok {E = LdapFault} (tt, bytes) (u, rest) (sym (rw away refl) ∙ h)) in
          (None, record { text = []; parts = left; spelled = refl })
    ]

passed_again : (tag end : ℕ) (o : Option (List ℕ)) (text rest : List ℕ) → begins tag rest ≡ false
    → SpellsOption tag o text → passed_at tag end (text ++ rest) ≡ Ok (tt, rest)
unfolding passed_at
passed_again tag end None text rest away s = rw (s, away) refl
passed_again tag end (Some octets) text rest away s =
    rw (
      begins_tagged tag (λ body. body ≡ octets) text rest s,
      ((octets_part tag).reader end).again octets text rest
          s,
    ) refl

from_ended : (b : Bool) (d : LdapFault) (u : Unit {0}) → need b d ≡ Ok u → b ≡ true
from_ended true d u e = refl
from_ended false d u e = absurd cc

extensible_takes : (end : ℕ) (bytes : List ℕ) (u : Unit {0}) → IsBytes bytes → extensible_of end bytes ≡ Ok u
    → SpellsExtensible bytes
unfolding extensible_of
extensible_takes end bytes u fits h =
    from_bind (passed_at 129 end bytes) _ u h (λ (rule : Unit {0} × List ℕ) (e1 : passed_at 129 end bytes ≡ Ok rule) h1.
    from_bind (passed_at 130 end rule.1) _ u h1
    (λ (type : Unit {0} × List ℕ) (e2 : passed_at 130 end rule.1 ≡ Ok type) h2.
    from_bind (body_at 131 end type.1) _ u h2 (λ (value : List ℕ × List ℕ) (e3 : body_at 131 end type.1 ≡ Ok value) h3.
    from_bind (default_at 132 end value.1) _ u h3
    (λ (names : Bool × List ℕ) (e4 : default_at 132 end value.1 ≡ Ok names)
    (e5 : need (eqb (length names.1) 0) (form end names.1) ≡ Ok u).
    let t1 = passed_takes 129 end bytes rule.1 rule.0 fits e1 in
    let f1 = rest_fits (SpellsOption 129) bytes t1.0 rule.1 fits t1.1 in
    let t2 = passed_takes 130 end rule.1 type.1 type.0 f1 e2 in
    let f2 = rest_fits (SpellsOption 130) rule.1 t2.0 type.1 f1 t2.1 in
    let t3 = ((octets_part 131).reader end).takes type.1 value.0 value.1 f2 e3 in
    let f3 = rest_fits (SpellsOctets 131) type.1 value.0 value.1 f2 t3 in
    let t4 = default_takes 132 end value.1 names.0 names.1 f3 e4 in
    let over : IsEmpty names.1 = none_left names.1 (from_ended _ _ _ e5) in
    let all : SpellsDefault 132 names.0 value.1 = subst (SpellsDefault 132 names.0)
    (sym (t4.parts ∙ ap (λ (r : List ℕ). t4.text ++ r) over ∙ append-nil t4.text)) t4.spelled in
    record {
      rule = t1.0;
      type = t2.0;
      value = value.0;
      in_names = names.0;
      text_is = starts (SpellsOption 129)
          (StartsWith (SpellsOption 130) t2.0 (StartsWith (SpellsOctets 131) value.0 (SpellsDefault 132 names.0)))
          bytes t1.0 rule.1 t1.1
          (starts (SpellsOption 130) (StartsWith (SpellsOctets 131) value.0 (SpellsDefault 132 names.0)) rule.1 t2.0
          type.1 t2.1
          (starts (SpellsOctets 131) (SpellsDefault 132 names.0) type.1 value.0 value.1 t3 all));
    }))))

begins_value : (tag : ℕ) (value : List ℕ) (text behind : List ℕ) → (131 ≡ tag → ⊥) → SpellsOctets 131 value text
    → begins tag (text ++ behind) ≡ false
begins_value tag value text behind differ s = begins_other tag 131 (λ body. body ≡ value) text behind differ s

begins_type : (tag : ℕ) (o : Option (List ℕ)) (value text middle behind : List ℕ) → (130 ≡ tag → ⊥) → (131 ≡ tag → ⊥)
    → SpellsOption 130 o text → SpellsOctets 131 value middle → begins tag (text ++ (middle ++ behind)) ≡ false
begins_type tag None value text middle behind d1 d2 s v = rw s (begins_value tag value middle behind d2 v)
begins_type tag (Some type) value text middle behind d1 d2 s v = begins_other tag 130 (λ body. body ≡ type) text
    (middle ++ behind) d1 s

extensible_again : (end : ℕ) (u : Unit {0}) (text : List ℕ) → SpellsExtensible text → extensible_of end text ≡ Ok u
unfolding extensible_of
extensible_again end u text s =
    let w1 = s.text_is in
    let w2 = w1.follows in
    let w3 = w2.follows in
    let behind : w1.behind ≡ w2.front ++ (w3.front ++ w3.behind) = w2.parts ∙ ap (λ (r : List ℕ). w2.front ++ r)
    w3.parts in
    let away129 : begins 129 w1.behind ≡ false = ap (begins 129) behind ∙ begins_type 129 s.type s.value w2.front
    w3.front w3.behind (λ e. omega (arith, e)) (λ e. omega (arith, e)) w2.spelled w3.spelled in
    let away130 : begins 130 w2.behind ≡ false = ap (begins 130) w3.parts ∙ begins_value 130 s.value w3.front
    w3.behind (λ e. omega (arith, e)) w3.spelled in
    let rule : passed_at 129 end text ≡ Ok (tt, w1.behind) = ap (passed_at 129 end) w1.parts
    ∙ passed_again 129 end s.rule w1.front w1.behind away129 w1.spelled in
    let type : passed_at 130 end w1.behind ≡ Ok (tt, w2.behind) = ap (passed_at 130 end) w2.parts
    ∙ passed_again 130 end s.type w2.front w2.behind away130 w2.spelled in
    let value : body_at 131 end w2.behind ≡ Ok (s.value, w3.behind) = first_again (SpellsOctets 131) (body_at 131 end)
    ((octets_part 131).reader end) s.value (SpellsDefault 132 s.in_names) w2.behind w3 in
    let names : default_at 132 end w3.behind ≡ Ok (s.in_names, []) = ap (default_at 132 end)
    (sym (append-nil w3.behind)) ∙ default_again 132 end s.in_names w3.behind [] refl w3.follows in
    rw (rule, type, value, names) refl

pub extensible_whole : IsWholeOf (λ (u : Unit {0}). SpellsExtensible) extensible_of
extensible_whole = record { takes = extensible_takes; again = extensible_again }

-- ---- filters without inner filters

abbrev FilterTaken : ℕ → List ℕ → FilterValue → List ℕ → Type 0
FilterTaken n bytes f rest = TakesFront (SpellsWithin (suc n)) bytes f rest

leaf : (n : ℕ) (bytes : List ℕ) (f : FilterValue) (text rest : List ℕ) → bytes ≡ text ++ rest → depth f ≡ 1
    → SpellsFilter f text → FilterTaken n bytes f rest
leaf n bytes f text rest parts one s = record { text = text; parts = parts; spelled = (omega arith, s) }

-- what is read of an element with this tag, as a filter
through : {A : Type 0} (tag : ℕ) (Spells : A → List ℕ → Type 0) (whole : ℕ → List ℕ → Result A LdapFault)
    → IsWholeOf Spells whole → (make : A → FilterValue) → ((x : A) → depth (make x) ≡ 1)
    → ((x : A) (text : List ℕ) → Tagged tag (Spells x) text → SpellsFilter (make x) text)
    → (n end : ℕ) (bytes : List ℕ) (f : FilterValue) (rest : List ℕ) → IsBytes bytes
    → (inside_at tag whole end bytes >>= made make) ≡ Ok (f, rest) → FilterTaken n bytes f rest
through {A = A} tag Spells whole law make one so n end bytes f rest fits h =
    from_bind (inside_at tag whole end bytes) (made make) (f, rest) h
    (λ (x : A × List ℕ) (e1 : inside_at tag whole end bytes ≡ Ok x) (e2 : Ok (make x.0, x.1) ≡ Ok (f, rest)).
    let t = ((inside_part tag Spells whole law).reader end).takes bytes x.0 x.1 fits e1 in
    subst (λ (p : FilterValue × List ℕ). FilterTaken n bytes p.0 p.1)
    (from_ok {E = LdapFault} (make x.0, x.1) (f, rest) e2)
    (leaf n bytes (make x.0) t.text x.1 t.parts (one x.0) (so x.0 t.text t.spelled)))

item_takes : (k : FilterKind) (n end : ℕ) (bytes : List ℕ) (f : FilterValue) (rest : List ℕ) → IsBytes bytes
    → item_of k end bytes ≡ Ok (f, rest) → FilterTaken n bytes f rest
unfolding item_of
item_takes kind.Equal n end bytes f rest fits h = through 163 (λ x. SpellsAssertion x.0 x.1) assertion_of
    assertion_whole (λ x. Equal x.0 x.1) (λ x. refl) (λ x text s. s) n end bytes f rest fits h
item_takes kind.Pieces n end bytes f rest fits h = through 164 (λ x. SpellsSubstrings x.0 x.1) substrings_of
    substrings_whole (λ x. Pieces x.0 x.1) (λ x. refl) (λ x text s. s) n end bytes f rest fits h
item_takes kind.AtLeast n end bytes f rest fits h = through 165 (λ x. SpellsAssertion x.0 x.1) assertion_of
    assertion_whole (λ x. AtLeast x.0 x.1) (λ x. refl) (λ x text s. s) n end bytes f rest fits h
item_takes kind.AtMost n end bytes f rest fits h = through 166 (λ x. SpellsAssertion x.0 x.1) assertion_of
    assertion_whole (λ x. AtMost x.0 x.1) (λ x. refl) (λ x text s. s) n end bytes f rest fits h
item_takes kind.Like n end bytes f rest fits h = through 168 (λ x. SpellsAssertion x.0 x.1) assertion_of
    assertion_whole (λ x. Like x.0 x.1) (λ x. refl) (λ x text s. s) n end bytes f rest fits h
item_takes kind.Present n end bytes f rest fits h =
    from_bind (body_at 135 end bytes) (made Present) (f, rest) h
    (λ (x : List ℕ × List ℕ) (e1 : body_at 135 end bytes ≡ Ok x) (e2 : Ok (Present x.0, x.1) ≡ Ok (f, rest)).
    let t = ((octets_part 135).reader end).takes bytes x.0 x.1 fits e1 in
    subst (λ (p : FilterValue × List ℕ). FilterTaken n bytes p.0 p.1)
    (from_ok {E = LdapFault} (Present x.0, x.1) (f, rest) e2)
    (leaf n bytes (Present x.0) t.text x.1 t.parts refl t.spelled))
item_takes _ n end bytes f rest fits h = through 169 (λ u. SpellsExtensible) extensible_of extensible_whole
    (λ u. Extensible) (λ u. refl) (λ u text s. s) n end bytes f rest fits h

-- ---- filters with inner filters

list_of : FilterList → List FilterValue
list_of none = []
list_of (more f fs) = f ∷ list_of fs

of_list : (fs : FilterList) → filters_of (list_of fs) ≡ fs
unfolding list_of
of_list none = refl
of_list (more f fs) = ap (more f) (of_list fs)

filters_spelled : (n : ℕ) (fs : List FilterValue) (text : List ℕ) → SpellsEach (SpellsWithin n) fs text
    → (depth_of_all (filters_of fs) ≤ n) × SpellsFilters (filters_of fs) text
filters_spelled n [] text s = (omega arith, s)
filters_spelled n (f ∷ fs) text s =
    let others = filters_spelled n fs s.behind s.follows in
    let first = s.spelled.0 in (
      omega (arith, first, others.0),
      record {
        front = s.front;
        behind = s.behind;
        parts = s.parts;
        first
            = s.spelled.1;
        second = others.1;
      },
    )

each_spelled : (n : ℕ) (fs : FilterList) (text : List ℕ) → depth_of_all fs ≤ n → SpellsFilters fs text
    → SpellsEach (SpellsWithin n) (list_of fs) text
unfolding list_of
each_spelled n none text le s = s
each_spelled n (more f fs) text le s =
    record {
      front = s.front;
      behind = s.behind;
      parts = s.parts;
      spelled = (omega arith, s.first);
      follows
          = each_spelled n fs s.behind (omega arith) s.second;
    }

alone_takes : (n end : ℕ) (bytes : List ℕ) (f : FilterValue) → IsPartOf (SpellsWithin n) (filter_at n) → IsBytes bytes
    → alone_of (filter_at n) end bytes ≡ Ok f → SpellsWithin n f bytes
unfolding alone_of
alone_takes n end bytes f part fits h =
    from_bind (filter_at n end bytes) _ f h (λ (x : FilterValue × List ℕ) (e1 : filter_at n end bytes ≡ Ok x) h1.
    from_need (eqb (length x.1) 0) (form end x.1) _ f h1 (λ (last : eqb (length x.1) 0 ≡ true) (e2 : Ok x.0 ≡ Ok f).
    let t = (part.reader end).takes bytes x.0 x.1 fits e1 in
    let whole : bytes ≡ t.text = t.parts ∙ ap (λ (r : List ℕ). t.text ++ r) (none_left x.1 last) ∙ append-nil t.text in
    subst (λ (g : FilterValue). SpellsWithin n g bytes) (from_ok {E = LdapFault} x.0 f e2)
    (subst (SpellsWithin n x.0) (sym whole) t.spelled)))

alone_again : (n end : ℕ) (f : FilterValue) (text : List ℕ) → IsPartOf (SpellsWithin n) (filter_at n)
    → SpellsWithin n f text → alone_of (filter_at n) end text ≡ Ok f
unfolding alone_of
alone_again n end f text part s =
    let read : filter_at n end text ≡ Ok (f, []) = ap (filter_at n end) (sym (append-nil text))
    ∙ (part.reader end).again f text [] s in
    rw read refl

alone_whole : (n : ℕ) → IsPartOf (SpellsWithin n) (filter_at n) → IsWholeOf (SpellsWithin n) (alone_of (filter_at n))
alone_whole n part = record {
  takes = λ end bytes f fits h. alone_takes n end bytes f part fits h;
  again
      = λ end f text s. alone_again n end f text part s;
}

-- what is read of an and or an or
several : (tag : ℕ) (make : FilterList → FilterValue) → ((fs : FilterList) → depth (make fs) ≡ suc (depth_of_all fs))
    → ((fs : FilterList) (text : List ℕ) → Tagged tag (SpellsFilters fs) text → SpellsFilter (make fs) text)
    → (n end : ℕ) (bytes : List ℕ) (f : FilterValue) (rest : List ℕ) → IsPartOf (SpellsWithin n) (filter_at n)
    → IsBytes bytes → (inside_at tag (each_of (filter_at n)) end bytes
    >>= made (λ (gs : List FilterValue). make (filters_of gs))) ≡ Ok (f, rest) → FilterTaken n bytes f rest
several tag make deep so n end bytes f rest part fits h =
    from_bind (inside_at tag (each_of (filter_at n)) end bytes) (made (λ (gs : List FilterValue). make (filters_of gs)))
    (f, rest) h
    (λ (fs : List FilterValue × List ℕ)
    (e1 : inside_at tag (each_of (filter_at n)) end bytes ≡ Ok fs)
    (e2 : Ok (make (filters_of fs.0), fs.1) ≡ Ok (f, rest)).
    let t = ((inside_part tag (SpellsEach (SpellsWithin n)) (each_of (filter_at n))
    (each_whole (SpellsWithin n) (filter_at n) part)).reader end).takes bytes fs.0 fs.1 fits e1 in
    let all = filters_spelled n fs.0 t.spelled.body t.spelled.inside in
    let low : depth_of_all (filters_of fs.0) ≤ n = all.0 in
    let is_deep : depth (make (filters_of fs.0)) ≡ suc (depth_of_all (filters_of fs.0)) = deep (filters_of fs.0) in
    subst (λ (p : FilterValue × List ℕ). FilterTaken n bytes p.0 p.1)
    (from_ok {E = LdapFault} (make (filters_of fs.0), fs.1) (f, rest) e2)
    (record {
      text = t.text;
      parts = t.parts;
      spelled
          = (
            omega arith,
            so (filters_of fs.0) t.text
                (record { body = t.spelled.body; element = t.spelled.element; inside = all.1 }),
          );
    }))

filter_of_takes : (k : FilterKind) (n end : ℕ) (bytes : List ℕ) (f : FilterValue) (rest : List ℕ)
    → IsPartOf (SpellsWithin n) (filter_at n) → IsBytes bytes → filter_of (filter_at n) k end bytes ≡ Ok (f, rest)
    → FilterTaken n bytes f rest
unfolding filter_of
filter_of_takes kind.And n end bytes f rest part fits h = several 160 And (λ fs. refl) (λ fs text s. s) n end bytes f
    rest part fits h
filter_of_takes kind.Or n end bytes f rest part fits h = several 161 Or (λ fs. refl) (λ fs text s. s) n end bytes f
    rest part fits h
filter_of_takes kind.Not n end bytes f rest part fits h =
    from_bind (inside_at 162 (alone_of (filter_at n)) end bytes) (made Not) (f, rest) h
    (λ (x : FilterValue × List ℕ)
    (e1 : inside_at 162 (alone_of (filter_at n)) end bytes ≡ Ok x) (e2 : Ok (Not x.0, x.1) ≡ Ok (f, rest)).
    let t = ((inside_part 162 (SpellsWithin n) (alone_of (filter_at n)) (alone_whole n part)).reader end).takes bytes
    x.0 x.1 fits e1 in
    let low : depth x.0 ≤ n = t.spelled.inside.0 in
    subst (λ (p : FilterValue × List ℕ). FilterTaken n bytes p.0 p.1)
    (from_ok {E = LdapFault} (Not x.0, x.1) (f, rest) e2)
    (record {
      text = t.text;
      parts = t.parts;
      spelled
          = (omega arith, record { body = t.spelled.body; element = t.spelled.element; inside = t.spelled.inside.1 });
    }))
filter_of_takes kind.Equal n end bytes f rest part fits h = item_takes kind.Equal n end bytes f rest fits h
filter_of_takes kind.Pieces n end bytes f rest part fits h = item_takes kind.Pieces n end bytes f rest fits h
filter_of_takes kind.AtLeast n end bytes f rest part fits h = item_takes kind.AtLeast n end bytes f rest fits h
filter_of_takes kind.AtMost n end bytes f rest part fits h = item_takes kind.AtMost n end bytes f rest fits h
filter_of_takes kind.Present n end bytes f rest part fits h = item_takes kind.Present n end bytes f rest fits h
filter_of_takes kind.Like n end bytes f rest part fits h = item_takes kind.Like n end bytes f rest fits h
filter_of_takes kind.Extensible n end bytes f rest part fits h = item_takes kind.Extensible n end bytes f rest fits h

-- ---- what is encoded is read

-- an encoded element begins with its tag, which tells the kind
kind_there : (tag end : ℕ) (Body : List ℕ → Type 0) (text rest : List ℕ) (k : FilterKind) → kind_by_tag tag ≡ Some k
    → Tagged tag Body text → kind_at end (text ++ rest) ≡ Ok k
unfolding kind_at
kind_there tag end Body text rest k is s =
    let first = tagged_first tag Body text s in
    ap (λ (t : List ℕ). kind_at end (t ++ rest)) first.1 ∙ rw is refl

-- after the tag
filter_there : (tag n end : ℕ) (Body : List ℕ → Type 0) (text rest : List ℕ) (k : FilterKind) (f : FilterValue)
    → kind_by_tag tag ≡ Some k → Tagged tag Body text → filter_of (filter_at n) k end (text ++ rest) ≡ Ok (f, rest)
    → filter_at (suc n) end (text ++ rest) ≡ Ok (f, rest)
unfolding filter_at
filter_there tag n end Body text rest k f is s h = rw (kind_there tag end Body text rest k is s) h

in_tag : {A : Type 0} (tag : ℕ) (Spells : A → List ℕ → Type 0) (whole : ℕ → List ℕ → Result A LdapFault)
    → IsWholeOf Spells whole → (make : A → FilterValue) (x : A) (end : ℕ) (text rest : List ℕ)
    → Tagged tag (Spells x) text → (inside_at tag whole end (text ++ rest) >>= made make) ≡ Ok (make x, rest)
in_tag tag Spells whole law make x end text rest s
    = rw (((inside_part tag Spells whole law).reader end).again x text rest s) refl

filter_again : (n : ℕ) → IsPartOf (SpellsWithin n) (filter_at n) → (end : ℕ) (f : FilterValue) (text rest : List ℕ)
    → SpellsWithin (suc n) f text → filter_at (suc n) end (text ++ rest) ≡ Ok (f, rest)
unfolding filter_of item_of
filter_again n part end (And fs) text rest (low, s) =
    let u : Tagged 160 (SpellsEach (SpellsWithin n) (list_of fs)) text
    = record { body = s.body; element = s.element; inside = each_spelled n fs s.body (omega arith) s.inside } in
    filter_there 160 n end (SpellsFilters fs) text rest kind.And (And fs) refl s
    (in_tag 160 (SpellsEach (SpellsWithin n)) (each_of (filter_at n)) (each_whole (SpellsWithin n) (filter_at n) part)
    (λ gs. And (filters_of gs)) (list_of fs) end text rest u ∙ ap (λ (gs : FilterList). Ok (And gs, rest))
    (of_list fs))
filter_again n part end (Or fs) text rest (low, s) =
    let u : Tagged 161 (SpellsEach (SpellsWithin n) (list_of fs)) text
    = record { body = s.body; element = s.element; inside = each_spelled n fs s.body (omega arith) s.inside } in
    filter_there 161 n end (SpellsFilters fs) text rest kind.Or (Or fs) refl s
    (in_tag 161 (SpellsEach (SpellsWithin n)) (each_of (filter_at n)) (each_whole (SpellsWithin n) (filter_at n) part)
    (λ gs. Or (filters_of gs)) (list_of fs) end text rest u ∙ ap (λ (gs : FilterList). Ok (Or gs, rest))
    (of_list fs))
filter_again n part end (Not f) text rest (low, s) =
    let u : Tagged 162 (SpellsWithin n f) text
    = record { body = s.body; element = s.element; inside = (omega arith, s.inside) } in
    filter_there 162 n end (SpellsFilter f) text rest kind.Not (Not f) refl s
    (in_tag 162 (SpellsWithin n) (alone_of (filter_at n)) (alone_whole n part) Not f end text rest u)
filter_again n part end (Equal a v) text rest (low, s) =
    filter_there 163 n end (SpellsAssertion a v) text rest kind.Equal (Equal a v) refl s
    (in_tag 163 (λ x. SpellsAssertion x.0 x.1) assertion_of assertion_whole (λ x. Equal x.0 x.1) (a, v) end text
    rest s)
filter_again n part end (Pieces a p) text rest (low, s) =
    filter_there 164 n end (SpellsSubstrings a p) text rest kind.Pieces (Pieces a p) refl s
    (in_tag 164 (λ x. SpellsSubstrings x.0 x.1) substrings_of substrings_whole (λ x. Pieces x.0 x.1) (a, p) end
    text rest s)
filter_again n part end (AtLeast a v) text rest (low, s) =
    filter_there 165 n end (SpellsAssertion a v) text rest kind.AtLeast (AtLeast a v) refl s
    (in_tag 165 (λ x. SpellsAssertion x.0 x.1) assertion_of assertion_whole (λ x. AtLeast x.0 x.1) (a, v) end text
    rest s)
filter_again n part end (AtMost a v) text rest (low, s) =
    filter_there 166 n end (SpellsAssertion a v) text rest kind.AtMost (AtMost a v) refl s
    (in_tag 166 (λ x. SpellsAssertion x.0 x.1) assertion_of assertion_whole (λ x. AtMost x.0 x.1) (a, v) end text
    rest s)
filter_again n part end (Present a) text rest (low, s) =
    filter_there 135 n end (λ body. body ≡ a) text rest kind.Present (Present a) refl s
    (rw (((octets_part 135).reader end).again a text rest s) refl)
filter_again n part end (Like a v) text rest (low, s) =
    filter_there 168 n end (SpellsAssertion a v) text rest kind.Like (Like a v) refl s
    (in_tag 168 (λ x. SpellsAssertion x.0 x.1) assertion_of assertion_whole (λ x. Like x.0 x.1) (a, v) end text
    rest s)
filter_again n part end Extensible text rest (low, s) =
    filter_there 169 n end SpellsExtensible text rest kind.Extensible Extensible refl s
    (in_tag 169 (λ u. SpellsExtensible) extensible_of extensible_whole (λ u. Extensible) tt end text rest s)

-- ---- all filters

filter_some : (f : FilterValue) (text : List ℕ) → SpellsFilter f text → 0 < length text
filter_some (And fs) text s = tagged_some 160 (SpellsFilters fs) text s
filter_some (Or fs) text s = tagged_some 161 (SpellsFilters fs) text s
filter_some (Not f) text s = tagged_some 162 (SpellsFilter f) text s
filter_some (Equal a v) text s = tagged_some 163 (SpellsAssertion a v) text s
filter_some (Pieces a p) text s = tagged_some 164 (SpellsSubstrings a p) text s
filter_some (AtLeast a v) text s = tagged_some 165 (SpellsAssertion a v) text s
filter_some (AtMost a v) text s = tagged_some 166 (SpellsAssertion a v) text s
filter_some (Present a) text s = tagged_some 135 (λ body. body ≡ a) text s
filter_some (Like a v) text s = tagged_some 168 (SpellsAssertion a v) text s
filter_some Extensible text s = tagged_some 169 SpellsExtensible text s

-- a filter has a level
some_levels : (f : FilterValue) → 1 ≤ depth f
some_levels (And fs) = omega arith
some_levels (Or fs) = omega arith
some_levels (Not f) = omega arith
some_levels (Equal a v) = omega arith
some_levels (Pieces a p) = omega arith
some_levels (AtLeast a v) = omega arith
some_levels (AtMost a v) = omega arith
some_levels (Present a) = omega arith
some_levels (Like a v) = omega arith
some_levels Extensible = omega arith

none_takes : (end : ℕ) (bytes : List ℕ) (f : FilterValue) (rest : List ℕ) → IsBytes bytes → filter_at 0 end bytes
    ≡ Ok (f, rest) → TakesFront (SpellsWithin 0) bytes f rest
unfolding filter_at
none_takes end bytes f rest fits h =
    from_bind (kind_at end bytes) _ (f, rest) h
    (λ (k : FilterKind) (e1 : kind_at end bytes ≡ Ok k) (e2 : Err fault.Deep ≡ Ok (f, rest)). absurd cc)

more_takes : (n : ℕ) → IsPartOf (SpellsWithin n) (filter_at n) → (end : ℕ) (bytes : List ℕ) (f : FilterValue)
    (rest : List ℕ) → IsBytes bytes → filter_at (suc n) end bytes ≡ Ok (f, rest) → TakesFront (SpellsWithin (suc n))
    bytes f rest
unfolding filter_at
more_takes n part end bytes f rest fits h =
    from_bind (kind_at end bytes) _ (f, rest) h
    (λ (k : FilterKind) (e1 : kind_at end bytes ≡ Ok k) (e2 : filter_of (filter_at n) k end bytes ≡ Ok (f, rest)).
    filter_of_takes k n end bytes f rest part fits e2)

pub filter_part : (n : ℕ) → IsPartOf (SpellsWithin n) (filter_at n)
filter_part zero = record {
  reader = λ end. record {
    takes = none_takes end;
    again = λ f text rest s.
        absurd (omega (arith, some_levels f, s.0));
  };
  some = λ f text s. filter_some f text s.1;
}
filter_part (suc n) =
    let part = filter_part n in
    record {
      reader = λ end. record { takes = more_takes n part end; again = filter_again n part end };
      some = λ f text s. filter_some f text s.1;
    }
