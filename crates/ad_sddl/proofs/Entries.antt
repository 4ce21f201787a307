-- Types and entries: what is read is encoded so, and what is encoded so is read.
use Rattle.std.proofs.Common.{Bool, true, false, ◌≡◌, ℕ, zero, suc, ◌+◌, ◌≤◌, List, [], ◌∷◌, ◌++◌, length, drop}
use Rattle.std.proofs.Common.{Option, if◌then◌else◌, Result, Ok, Err, codes, refl, sym, ap, subst, ◌∙◌, append_assoc}
use Rattle.std.proofs.Common.{arith}
use Rattle.std.specs.Str.{str_to_ascii_lowercase}
use Rattle.std.proofs.lemmas.List.{length-append}
use Rattle.ad_bytes.specs.Reading.{Reading, ◌>>=◌, TakesFront, SpellsEach}
use Rattle.ad_bytes.proofs.Steps.{from_bind, from_ok}
use Rattle.ad_ids.specs.declared.guid.Guid.{Guid}
use Rattle.ad_ids.specs.SidValue.{SidValue}
use Rattle.ad_ids.proofs.SidFront.{Ends}
use Rattle.ad_acl.specs.declared.kind.AceKind.{AceKind}
use Rattle.ad_acl.specs.declared.kind.AceKind.TheVariants.{Allow, Deny, Audit}
use Rattle.ad_acl.specs.Entry.{Entry}
use Rattle.ad_sddl.specs.declared.fault.SddlKind.TheVariants as kind
use Rattle.ad_sddl.specs.declared.fault.ParseError.{ParseError}
use Rattle.ad_sddl.specs.declared.entry.Shape.{Shape}
use Rattle.ad_sddl.specs.Words.{begins}
use Rattle.ad_acl.specs.Codes.{flag_codes}
use Rattle.ad_sddl.specs.Grammar.{SpellsEntry, type_text, entry_of}
use Rattle.ad_sddl.specs.Reading.{stop, end_at, field_at, rights_at, guid_at, sid_at, shape, type_at, entry_at}
use Rattle.ad_sddl.specs.Reading.{entries_at}
use Rattle.ad_sddl.proofs.Beginnings.{begins_one, begins_two, end_takes, end_again}
use Rattle.ad_sddl.proofs.Fields.{flags_takes, flags_again, rights_takes, rights_again, guid_takes, guid_again}
use Rattle.ad_sddl.proofs.Sids.{sid_takes, sid_before}

-- ---- types

chosen : {A : Type 0} (is : Bool) (x y : A) (others : Result A ParseError) (P : Type 0) → (is ≡ true → x ≡ y → P)
    → (others ≡ Ok y → P) → (if is then Ok x else others) ≡ Ok y → P
chosen true x y others P here there e = here refl (from_ok {E = ParseError} x y e)
chosen false x y others P here there e = there e

abbrev word : Shape → List ℕ
word s = str_to_ascii_lowercase (type_text s.is_object s.kind)

typed : (bytes : List ℕ) (s : Shape) (behind : List ℕ) (v : Shape) (rest : List ℕ) → bytes ≡ word s ++ behind
    → ◌≡◌ {A = Shape × List ℕ} (s, behind) (v, rest) → bytes ≡ word v ++ rest
typed bytes s behind v rest parts same = parts ∙ ap (λ (p : Shape × List ℕ). word p.0 ++ p.1) same

pub type_takes : (bytes : List ℕ) (v : Shape) (rest : List ℕ) → type_at bytes ≡ Ok (v, rest) → bytes ≡ word v ++ rest
unfolding type_at
type_takes bytes v rest e =
    chosen (begins (codes "au") bytes) (shape Audit false, drop 2 bytes) (v, rest) _ (bytes ≡ word v ++ rest)
    (λ is same. typed bytes (shape Audit false) (drop 2 bytes) v rest (begins_two 97 117 bytes is) same) (λ e1.
    chosen (begins (codes "oa") bytes) (shape Allow true, drop 2 bytes) (v, rest) _ (bytes ≡ word v ++ rest)
    (λ is same. typed bytes (shape Allow true) (drop 2 bytes) v rest (begins_two 111 97 bytes is) same) (λ e2.
    chosen (begins (codes "od") bytes) (shape Deny true, drop 2 bytes) (v, rest) _ (bytes ≡ word v ++ rest)
    (λ is same. typed bytes (shape Deny true) (drop 2 bytes) v rest (begins_two 111 100 bytes is) same) (λ e3.
    chosen (begins (codes "ou") bytes) (shape Audit true, drop 2 bytes) (v, rest) _ (bytes ≡ word v ++ rest)
    (λ is same. typed bytes (shape Audit true) (drop 2 bytes) v rest (begins_two 111 117 bytes is) same) (λ e4.
    chosen (begins (codes "a") bytes) (shape Allow false, drop 1 bytes) (v, rest) _ (bytes ≡ word v ++ rest)
    (λ is same. typed bytes (shape Allow false) (drop 1 bytes) v rest (begins_one 97 bytes is) same) (λ e5.
    chosen (begins (codes "d") bytes) (shape Deny false, drop 1 bytes) (v, rest) (Err (stop kind.AceKind bytes))
    (bytes ≡ word v ++ rest) (λ is same. typed bytes (shape Deny false) (drop 1 bytes) v rest
    (begins_one 100 bytes is) same) (λ e6. absurd (no_type bytes v rest e6)) e5) e4) e3) e2) e1) e
  where
    no_type : (bytes : List ℕ) (v : Shape) (rest : List ℕ) → ◌≡◌ {A = Reading Shape ParseError}
        (Err (stop kind.AceKind bytes)) (Ok (v, rest)) → ⊥
    no_type bytes v rest e = absurd cc

pub type_again : (kind : AceKind) (is_object : Bool) (rest : List ℕ)
    → type_at (word (shape kind is_object) ++ 59 ∷ rest) ≡ Ok (shape kind is_object, 59 ∷ rest)
unfolding type_at begins
type_again Allow false rest = refl
type_again Deny false rest = refl
type_again Audit false rest = refl
type_again Allow true rest = refl
type_again Deny true rest = refl
type_again Audit true rest = refl

-- ---- entries

-- a list before a rest, as it is grouped in an entry
whole : (kind flags rights object inherited sid rest : List ℕ)
    → 40 ∷ (kind ++ 59 ∷ (flags ++ 59 ∷ (rights ++ 59 ∷ (object ++ 59 ∷ (inherited ++ 59 ∷ (sid ++ 41 ∷ rest))))))
    ≡ entry_of kind flags rights object inherited sid ++ rest
whole kind flags rights object inherited sid rest = simp append_assoc

closes : Ends 41
closes = record { no_digit = refl; no_hyphen = refl }

pub entry_takes : (domain : Option SidValue) (bytes : List ℕ) (v : Entry) (rest : List ℕ) → entry_at domain bytes
    ≡ Ok (v, rest) → TakesFront (SpellsEntry domain) (40 ∷ bytes) v rest
unfolding entry_at
entry_takes domain bytes v rest e =
    from_bind (type_at bytes) _ (v, rest) e (λ (t : Shape × List ℕ) (e1 : type_at bytes ≡ Ok t) f1.
    from_bind (end_at 59 t.1) _ (v, rest) f1 (λ (end : Unit {0} × List ℕ) (e2 : end_at 59 t.1 ≡ Ok end) f2.
    from_bind (field_at flag_codes kind.Flag end.1) _ (v, rest) f2
    (λ (flags : ℕ × List ℕ) (e3 : field_at flag_codes kind.Flag end.1 ≡ Ok flags) f3.
    from_bind (rights_at flags.1) _ (v, rest) f3 (λ (rights : ℕ × List ℕ) (e4 : rights_at flags.1 ≡ Ok rights) f4.
    from_bind (guid_at t.0.is_object rights.1) _ (v, rest) f4
    (λ (object : Option Guid × List ℕ) (e5 : guid_at t.0.is_object rights.1 ≡ Ok object) f5.
    from_bind (guid_at t.0.is_object object.1) _ (v, rest) f5
    (λ (inherited : Option Guid × List ℕ) (e6 : guid_at t.0.is_object object.1 ≡ Ok inherited) f6.
    from_bind (sid_at domain inherited.1) _ (v, rest) f6
    (λ (sid : SidValue × List ℕ) (e7 : sid_at domain inherited.1 ≡ Ok sid) f7.
    from_bind (end_at 41 sid.1) _ (v, rest) f7 (λ (close : Unit {0} × List ℕ) (e8 : end_at 41 sid.1 ≡ Ok close) f8.
    let a = flags_takes end.1 flags.0 flags.1 e3 in
    let b = rights_takes flags.1 rights.0 rights.1 e4 in
    let c = guid_takes t.0.is_object rights.1 object.0 object.1 e5 in
    let d = guid_takes t.0.is_object object.1 inherited.0 inherited.1 e6 in
    let s = sid_takes domain inherited.1 sid.0 sid.1 e7 in
    let entry : Entry = record {
      kind = t.0.kind;
      flags = flags.0;
      mask = rights.0;
      object = object.0;
      inherited
          = inherited.0;
      sid = sid.0;
    } in
    let same : (entry, close.1) ≡ (v, rest) = from_ok {E = ParseError} (entry, close.1) (v, rest) f8 in
    subst (λ (p : Entry × List ℕ). TakesFront (SpellsEntry domain) (40 ∷ bytes) p.0 p.1) same
    (record {
      text = entry_of (word t.0) a.text b.text c.text d.text s.text;
      parts =
          ap (λ (r : List ℕ). 40 ∷ r) (type_takes bytes t.0 t.1 e1
          ∙ ap (λ (r : List ℕ). word t.0 ++ r) (end_takes 59 t.1 end.0 end.1 e2
          ∙ ap (λ (r : List ℕ). 59 ∷ r) (a.parts
          ∙ ap (λ (r : List ℕ). a.text ++ 59 ∷ r) (b.parts
          ∙ ap (λ (r : List ℕ). b.text ++ 59 ∷ r) (c.parts
          ∙ ap (λ (r : List ℕ). c.text ++ 59 ∷ r) (d.parts
          ∙ ap (λ (r : List ℕ). d.text ++ 59 ∷ r) (s.parts
          ∙ ap (λ (r : List ℕ). s.text ++ r) (end_takes 41 sid.1 close.0 close.1 e8))))))))
          ∙ whole (word t.0) a.text b.text c.text d.text s.text close.1;
      spelled = record {
        is_object = t.0.is_object;
        flags = a.text;
        rights = b.text;
        object = c.text;
        inherited
            = d.text;
        sid = s.text;
        flags_are = a.spelled;
        rights_are = b.spelled;
        object_is = c.spelled;
        inherited_is
            = d.spelled;
        sid_is = s.spelled;
        parts = refl;
      };
    })))))))))

-- an entry's text, and what is read after its parenthesis
pub record Again (domain : Option SidValue) (v : Entry) (text rest : List ℕ) : Type 0 where
  pub behind : List ℕ
  pub parts : text ++ rest ≡ 40 ∷ behind
  pub read : entry_at domain behind ≡ Ok (v, rest)

pub entry_again : (domain : Option SidValue) (v : Entry) (text rest : List ℕ) → SpellsEntry domain v text
    → Again domain v text rest
unfolding entry_at
entry_again domain v text rest s =
    let kind = word (shape v.kind s.is_object) in
    let r6 = s.sid ++ 41 ∷ rest in
    let r5 = s.inherited ++ 59 ∷ r6 in
    let r4 = s.object ++ 59 ∷ r5 in
    let r3 = s.rights ++ 59 ∷ r4 in
    let r2 = s.flags ++ 59 ∷ r3 in
    record {
      behind = kind ++ 59 ∷ r2;
      parts = ap (λ (t : List ℕ). t ++ rest) s.parts
          ∙ sym (whole kind s.flags s.rights s.object s.inherited s.sid rest);
      read = rw (
        type_again v.kind s.is_object r2,
        end_again 59 r2,
        flags_again v.flags s.flags r3 s.flags_are,
        rights_again v.mask s.rights r4 s.rights_are,
        guid_again s.is_object v.object s.object r5 s.object_is,
        guid_again s.is_object v.inherited s.inherited r6 s.inherited_is,
        sid_before domain v.sid s.sid 41 rest
            s.sid_is closes,
        end_again 41 rest,
      ) refl;
    }

-- ---- entries one after the other

entries_if : (domain : Option SidValue) (is : Bool) (n : ℕ) (bytes : List ℕ) (es : List Entry) (rest : List ℕ)
    → begins (codes "(") bytes ≡ is
    → ((es : List Entry) (bytes rest : List ℕ) → entries_at domain n bytes ≡ Ok (es, rest)
    → TakesFront (SpellsEach (SpellsEntry domain)) bytes es rest)
    → (if is then (entry_at domain (drop 1 bytes) >>= λ first. ◌>>=◌ {B = List Entry × List ℕ}
    (entries_at domain n first.1) (λ others. Ok (first.0 ∷ others.0, others.1))) else Ok ([], bytes))
    ≡ Ok (es, rest)
    → TakesFront (SpellsEach (SpellsEntry domain)) bytes es rest
entries_if domain false n bytes es rest begun others e =
    subst (λ (p : List Entry × List ℕ). TakesFront (SpellsEach (SpellsEntry domain)) bytes p.0 p.1)
    (from_ok {E = ParseError} ([], bytes) (es, rest) e) (record { text = []; parts = refl; spelled = refl })
entries_if domain true n bytes es rest begun others e =
    from_bind (entry_at domain (drop 1 bytes)) _ (es, rest) e
    (λ (first : Entry × List ℕ) (e1 : entry_at domain (drop 1 bytes) ≡ Ok first) f1.
    from_bind (entries_at domain n first.1) _ (es, rest) f1
    (λ (more : List Entry × List ℕ) (e2 : entries_at domain n first.1 ≡ Ok more)
    (f2 : Ok (first.0 ∷ more.0, more.1) ≡ Ok (es, rest)).
    let t = entry_takes domain (drop 1 bytes) first.0 first.1 e1 in
    let u = others more.0 first.1 more.1 e2 in
    subst (λ (p : List Entry × List ℕ). TakesFront (SpellsEach (SpellsEntry domain)) bytes p.0 p.1)
    (from_ok {E = ParseError} (first.0 ∷ more.0, more.1) (es, rest) f2)
    (record {
      text = t.text ++ u.text;
      parts = begins_one 40 bytes begun ∙ t.parts ∙ ap (λ (r : List ℕ). t.text ++ r) u.parts
          ∙ sym (append_assoc t.text u.text more.1);
      spelled = record { front = t.text; behind = u.text; parts = refl; spelled = t.spelled; follows = u.spelled };
    })))

pub entries_take : (domain : Option SidValue) (n : ℕ) (es : List Entry) (bytes rest : List ℕ)
    → entries_at domain n bytes ≡ Ok (es, rest) → TakesFront (SpellsEach (SpellsEntry domain)) bytes es rest
unfolding entries_at
entries_take domain zero es bytes rest e = subst
    (λ (p : List Entry × List ℕ). TakesFront (SpellsEach (SpellsEntry domain)) bytes p.0 p.1)
    (from_ok {E = ParseError} ([], bytes) (es, rest) e) (record { text = []; parts = refl; spelled = refl })
entries_take domain (suc n) es bytes rest e = entries_if domain (begins (codes "(") bytes) n bytes es rest refl
    (entries_take domain n) e

starts : (r : List ℕ) → begins (codes "(") (40 ∷ r) ≡ true
unfolding begins
starts r = refl

pub entries_again : (domain : Option SidValue) (n : ℕ) (es : List Entry) (text rest : List ℕ)
    → SpellsEach (SpellsEntry domain) es text → begins (codes "(") rest ≡ false → length (text ++ rest) ≤ n
    → entries_at domain n (text ++ rest) ≡ Ok (es, rest)
unfolding entries_at
entries_again domain zero [] text rest s other le = ap (λ (t : List ℕ). Ok ([], t ++ rest)) s
entries_again domain (suc n) [] text rest s other le = ap (λ (t : List ℕ). entries_at domain (suc n) (t ++ rest)) s
    ∙ rw other refl
entries_again domain zero (x ∷ es) text rest s other le =
    let a = entry_again domain x s.front (s.behind ++ rest) s.spelled in
    absurd (omega (
      arith,
      le,
      ap length (ap (λ (t : List ℕ). t ++ rest) s.parts ∙ append_assoc s.front s.behind rest
          ∙ a.parts),
    ))
entries_again domain (suc n) (x ∷ es) text rest s other le =
    let a = entry_again domain x s.front (s.behind ++ rest) s.spelled in
    let parts : text ++ rest ≡ 40 ∷ a.behind = ap (λ (t : List ℕ). t ++ rest) s.parts ∙ append_assoc s.front s.behind
    rest ∙ a.parts in
    let begun : begins (codes "(") (40 ∷ a.behind) ≡ true = starts a.behind in
    let front : 1 ≤ length s.front = omega (arith, ap length s.spelled.parts) in
    let lengths : length (text ++ rest) ≡ length s.front + length (s.behind ++ rest)
    = ap length (ap (λ (t : List ℕ). t ++ rest) s.parts ∙ append_assoc s.front s.behind rest)
    ∙ length-append s.front (s.behind ++ rest) in
    let shorter : length (s.behind ++ rest) ≤ n = omega (arith, le, front, lengths) in
    ap (entries_at domain (suc n)) parts ∙ rw (
      begun,
      a.read,
      entries_again domain n es s.behind rest s.follows other
          shorter,
    ) refl
