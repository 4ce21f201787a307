-- One attribute's line more.
use Rattle.std.proofs.Common.{◌≡◌, List, [], ◌∷◌, ◌++◌, map, Result, Ok, Err, refl, sym, ap, append_assoc}
use Rattle.std.proofs.lemmas.List.{append-nil, map_push}
use Rattle.ad_bytes.specs.Reading.{◌>>=◌}
use Rattle.ad_ldif.specs.declared.record.LdifLine.{LdifLine}
use Rattle.ad_ldif.specs.declared.fault.LdifFault.{LdifFault}
use Rattle.ad_ldif.specs.Lines.{Line}
use Rattle.ad_ldif.specs.Records.{Field, Fault, field_of, field_at, fields_of, fields_behind, opening_of, body_of}
use Rattle.ad_ldif.specs.Story.{Fails}
use Rattle.ad_ldif.proofs.ResultLemmas.{fails_first}

regroup : (front : List Field) (x : Field) (read : Result (List Field) Fault)
    → ((read >>= λ fields. Ok (x ∷ fields)) >>= λ fields. Ok (front ++ fields))
    ≡ (read >>= λ fields. Ok ((front ++ x ∷ []) ++ fields))
regroup front x (Ok fields) = ap Ok (sym (append_assoc front (x ∷ []) fields))
regroup front x (Err e) = refl

-- one line more is read
pub one_field : (front : List LdifLine) (lines others : List Line) (line : Line) (field : LdifLine) → lines ≡ line
    ∷ others → field_at line ≡ Ok (field_of field)
    → fields_behind (map field_of front) lines ≡ fields_behind (map field_of (front ++ field ∷ [])) others
unfolding fields_of fields_behind
one_field front lines others line field is read =
    rw (is, read, map_push) (regroup (map field_of front) (field_of field) (fields_of others))

-- none is left
pub no_field : (front : List Field) (lines : List Line) → lines ≡ [] → fields_behind front lines ≡ Ok front
unfolding fields_of fields_behind
no_field front lines is = rw is (ap Ok (append-nil front))

-- one is none
pub bad_field : (front : List Field) (lines others : List Line) (line : Line) (e : LdifFault) → lines ≡ line ∷ others
    → Fails e (field_at line) → Fails e (fields_behind front lines)
unfolding fields_of fields_behind
bad_field front lines others line e is h = rw is (fails_first e _ _ (fails_first e _ _ h))

-- ---- what stands after `dn`

pub no_body : (lines : List Line) (fields : List LdifLine) → lines ≡ [] → fields ≡ [] → body_of lines
    ≡ Ok (map field_of fields)
unfolding body_of
no_body lines fields is none = rw (is, none) refl

pub body_behind : (lines others : List Line) (line : Line) (front : List Field) → lines ≡ line ∷ others
    → opening_of line ≡ Ok front → body_of lines ≡ fields_behind front others
unfolding body_of
body_behind lines others line front is read = rw (is, read) refl

pub bad_opening : (lines others : List Line) (line : Line) (e : LdifFault) → lines ≡ line ∷ others
    → Fails e (opening_of line) → Fails e (body_of lines)
unfolding body_of
bad_opening lines others line e is h = rw is (fails_first e _ _ h)
