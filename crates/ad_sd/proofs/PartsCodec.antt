-- The header and the parts of a descriptor are read as they are encoded.
use Rattle.std.proofs.Common.{◌≡◌, inl, inr, ℕ, zero, suc, ◌^◌, ◌<◌, Bool, true, false, not, cond, eqb, ltb, Option}
use Rattle.std.proofs.Common.{None, Some, List, ◌∷◌, ◌++◌, length, take, drop, Result, Ok, Err, refl, sym, ap, subst}
use Rattle.std.proofs.Common.{◌∙◌, arith}
use Rattle.std.specs.Prelude.{◌||◌}
use Rattle.std.proofs.lemmas.Bool.{eqb-true, eqb-false, ne_eqb, ltb-true, lt-ltb}
use Rattle.std.proofs.lemmas.List.{length-append, length-take, take-append-drop, drop_at}
use Rattle.ad_bytes.specs.Reading.{IsBytes, Reading, fault_as, TakesFront, IsReaderOf}
use Rattle.ad_bytes.specs.Numbers.{byte_at, le_at, le_bytes}
use Rattle.ad_bytes.proofs.Steps.{from_bind, from_need, from_fault_as, from_ok}
use Rattle.ad_bytes.proofs.Codec.{byte_parts, le_reader}
use Rattle.ad_bytes.proofs.NumberBytes.{IsBytes-rest, IsBytes-drop}
use Rattle.ad_ids.specs.declared.sid.SidFault.{SidFault}
use Rattle.ad_ids.specs.SidValue.{SidValue}
use Rattle.ad_ids.specs.Sid.{SpellsSid}
use Rattle.ad_ids.specs.SidReading.{sid_at}
use Rattle.ad_ids.proofs.SidCodec.{sid_reader}
use Rattle.ad_ids.proofs.SidWriting.{length-sid_bytes}
use Rattle.ad_acl.specs.declared.fault.AclFault.{AclFault}
use Rattle.ad_acl.specs.Entry.{Entry, says}
use Rattle.ad_acl.specs.Acl.{SpellsList}
use Rattle.ad_acl.specs.Reading.{list_at}
use Rattle.ad_acl.proofs.KeptFlags.{or_true}
use Rattle.ad_acl.proofs.EntryFields.{Number, number_parts}
use Rattle.ad_acl.proofs.AclCodec.{acl_reader}
use Rattle.ad_sd.specs.declared.fault.SdFault.{SdFault}
use Rattle.ad_sd.specs.declared.fault.SdFault.TheVariants.{Offset, Sacl, NullDacl, Dacl}
use Rattle.ad_sd.specs.declared.parts.AceList.{AceList}
use Rattle.ad_sd.specs.declared.reading.Header.{Header}
use Rattle.ad_sd.specs.Sd.{dacl_present, sacl_present, dacl_protected, sacl_protected, StandsAt, SpellsSidAt}
use Rattle.ad_sd.specs.Sd.{SpellsListAt, SpellsSacl, SpellsDacl, headed}
use Rattle.ad_sd.specs.Reading.{header_at, from_offset, present_sid, sid_of, present_list, sacl_of, dacl_of}

-- ---- the header

abbrev pub header : ℕ → ℕ → ℕ → ℕ → ℕ → ℕ → Header
header revision control owner group sacl dacl = record {
  revision = revision;
  control = control;
  owner = owner;
  group
      = group;
  sacl = sacl;
  dacl = dacl;
}

-- the header that was read, and what stands after it
pub record Headed (bytes : List ℕ) (h : Header) (rest : List ℕ) : Type 0 where
  pub free : ℕ
  pub control : h.control < 2 ^ 16
  pub owner : h.owner < 2 ^ 32
  pub group : h.group < 2 ^ 32
  pub sacl : h.sacl < 2 ^ 32
  pub dacl : h.dacl < 2 ^ 32
  pub parts : bytes ≡ headed h.revision free h.control h.owner h.group h.sacl h.dacl rest

pub header_takes : (bytes : List ℕ) (h : Header) (rest : List ℕ) → IsBytes bytes → header_at bytes ≡ Ok (h, rest)
    → Headed bytes h rest
unfolding header_at
header_takes bytes h rest fits e =
    from_bind (byte_at bytes) _ (h, rest) e (λ (r : ℕ × List ℕ) (e1 : byte_at bytes ≡ Ok r) e2.
    let p1 : bytes ≡ r.0 ∷ r.1 = byte_parts bytes r.0 r.1 fits e1 in
    let f1 : IsBytes r.1 = IsBytes-rest r.0 r.1 (subst IsBytes p1 fits) in
    from_bind (byte_at r.1) _ (h, rest) e2 (λ (f : ℕ × List ℕ) (e3 : byte_at r.1 ≡ Ok f) e4.
    let p2 : r.1 ≡ f.0 ∷ f.1 = byte_parts r.1 f.0 f.1 f1 e3 in
    let f2 : IsBytes f.1 = IsBytes-rest f.0 f.1 (subst IsBytes p2 f1) in
    from_bind (le_at 2 f.1) _ (h, rest) e4 (λ (c : ℕ × List ℕ) (e5 : le_at 2 f.1 ≡ Ok c) e6.
    let control : Number 2 f.1 c.0 c.1 = number_parts 2 f.1 c.0 c.1 f2 e5 in
    from_bind (le_at 4 c.1) _ (h, rest) e6 (λ (o : ℕ × List ℕ) (e7 : le_at 4 c.1 ≡ Ok o) e8.
    let owner : Number 4 c.1 o.0 o.1 = number_parts 4 c.1 o.0 o.1 control.fits e7 in
    from_bind (le_at 4 o.1) _ (h, rest) e8 (λ (g : ℕ × List ℕ) (e9 : le_at 4 o.1 ≡ Ok g) e10.
    let group : Number 4 o.1 g.0 g.1 = number_parts 4 o.1 g.0 g.1 owner.fits e9 in
    from_bind (le_at 4 g.1) _ (h, rest) e10 (λ (s : ℕ × List ℕ) (e11 : le_at 4 g.1 ≡ Ok s) e12.
    let sacl : Number 4 g.1 s.0 s.1 = number_parts 4 g.1 s.0 s.1 group.fits e11 in
    from_bind (le_at 4 s.1) _ (h, rest) e12
    (λ (d : ℕ × List ℕ) (e13 : le_at 4 s.1 ≡ Ok d) (e14 : Ok (header r.0 c.0 o.0 g.0 s.0 d.0, d.1)
    ≡ Ok (h, rest)).
    let dacl : Number 4 s.1 d.0 d.1 = number_parts 4 s.1 d.0 d.1 sacl.fits e13 in
    let same : (header r.0 c.0 o.0 g.0 s.0 d.0, d.1) ≡ (h, rest) = from_ok (header r.0 c.0 o.0 g.0 s.0 d.0, d.1)
    (h, rest) e14 in
    let offsets : c.1 ≡ le_bytes 4 o.0 ++ (le_bytes 4 g.0 ++ (le_bytes 4 s.0 ++ (le_bytes 4 d.0 ++ d.1)))
    = owner.parts ∙ ap (λ (t : List ℕ). le_bytes 4 o.0 ++ t)
    (group.parts ∙ ap (λ (t : List ℕ). le_bytes 4 g.0 ++ t)
    (sacl.parts ∙ ap (λ (t : List ℕ). le_bytes 4 s.0 ++ t) dacl.parts)) in
    subst (λ (p : Header × List ℕ). Headed bytes p.0 p.1) same
    (record {
      free = f.0;
      control = control.below;
      owner = owner.below;
      group = group.below;
      sacl = sacl.below;
      dacl = dacl.below;
      parts = p1 ∙ ap (λ (t : List ℕ). r.0 ∷ t) p2 ∙ ap (λ (t : List ℕ). r.0 ∷ f.0 ∷ t)
          (control.parts ∙ ap (λ (t : List ℕ). le_bytes 2 c.0 ++ t) offsets);
    }))))))))

number_again : (n x : ℕ) (rest : List ℕ) → x < 256 ^ n → le_at n (le_bytes n x ++ rest) ≡ Ok (x, rest)
number_again n x rest lt = (le_reader n).again x (le_bytes n x) rest (lt, refl)

pub header_again : (revision free control owner group sacl dacl : ℕ) (rest : List ℕ) → control < 2 ^ 16 → owner
    < 2 ^ 32 → group < 2 ^ 32 → sacl < 2 ^ 32 → dacl < 2 ^ 32
    → header_at (headed revision free control owner group sacl dacl rest)
    ≡ Ok (header revision control owner group sacl dacl, rest)
unfolding header_at byte_at
header_again revision free control owner group sacl dacl rest c o g s d =
    let behind_sacl : List ℕ = le_bytes 4 dacl ++ rest in
    let behind_group : List ℕ = le_bytes 4 sacl ++ behind_sacl in
    let behind_owner : List ℕ = le_bytes 4 group ++ behind_group in
    let behind_control : List ℕ = le_bytes 4 owner ++ behind_owner in
    let one : le_at 2 (le_bytes 2 control ++ behind_control) ≡ Ok (control, behind_control)
    = number_again 2 control behind_control c in
    let two : le_at 4 (le_bytes 4 owner ++ behind_owner) ≡ Ok (owner, behind_owner)
    = number_again 4 owner behind_owner o in
    let three : le_at 4 (le_bytes 4 group ++ behind_group) ≡ Ok (group, behind_group)
    = number_again 4 group behind_group g in
    let four : le_at 4 (le_bytes 4 sacl ++ behind_sacl) ≡ Ok (sacl, behind_sacl) = number_again 4 sacl behind_sacl s in
    let five : le_at 4 (le_bytes 4 dacl ++ rest) ≡ Ok (dacl, rest) = number_again 4 dacl rest d in
    rw (one, two, three, four, five) refl

-- ---- tests

pub by_if : {A E P : Type 0} (b : Bool) (x r : Result A E) (y : A) → cond b x r ≡ Ok y → (b ≡ true → x ≡ Ok y → P)
    → (b ≡ false → r ≡ Ok y → P) → P
by_if true x r y e k l = k refl e
by_if false x r y e k l = l refl e

not_true : (b : Bool) → not b ≡ true → b ≡ false
not_true true e = absurd cc
not_true false e = refl

not_false : (b : Bool) → not b ≡ false → b ≡ true
not_false true e = refl
not_false false e = absurd cc

or_false : (p q : Bool) → p || q ≡ false → (p ≡ false) × (q ≡ false)
or_false true q e = absurd cc
or_false false q e = (refl, e)

not_null : (n : ℕ) → eqb n 0 ≡ false → 0 < n
not_null n e = above n (eqb-false n 0 e)
  where
    above : (m : ℕ) → (m ≡ 0 → ⊥) → 0 < m
    above zero differ = absurd (differ refl)
    above (suc m) differ = omega arith

is_not_null : (n : ℕ) → 0 < n → eqb n 0 ≡ false
is_not_null n lt = ne_eqb n 0 (λ e. omega (arith, e, lt))

-- ---- a part at its offset

offset_takes : (part offset : ℕ) (bytes there : List ℕ) → from_offset part offset bytes ≡ Ok there
    → (offset < length bytes) × (drop offset bytes ≡ there)
unfolding from_offset
offset_takes part offset bytes there e =
    from_need (ltb offset (length bytes)) (Offset part) _ there e
    (λ (within : ltb offset (length bytes) ≡ true) (same : Ok (drop offset bytes) ≡ Ok there).
    (ltb-true _ _ within, from_ok (drop offset bytes) there same))

offset_again : (part offset : ℕ) (bytes : List ℕ) → offset < length bytes → from_offset part offset bytes
    ≡ Ok (drop offset bytes)
unfolding from_offset
offset_again part offset bytes lt =
    let within : ltb offset (length bytes) ≡ true = lt-ltb _ _ lt in
    rw within refl

-- what is read after an offset stands there
stands : {A E : Type 0} (Spells : A → List ℕ → Type 0) (read : List ℕ → Reading A E) → IsReaderOf Spells read
    → (offset : ℕ) (bytes : List ℕ) (x : A) (rest : List ℕ) → IsBytes bytes → offset < length bytes
    → read (drop offset bytes) ≡ Ok (x, rest) → StandsAt Spells bytes offset x
stands Spells read reader offset bytes x rest fits lt e =
    let t : TakesFront Spells (drop offset bytes) x rest = reader.takes (drop offset bytes) x rest
    (IsBytes-drop offset bytes fits) e in
    record {
      before = take offset bytes;
      text = t.text;
      behind = rest;
      place = omega (arith, length-take offset bytes);
      parts = sym (take-append-drop offset bytes) ∙ ap (λ (r : List ℕ). take offset bytes ++ r) t.parts;
      spelled = t.spelled;
    }

-- what stands after an offset is read, whatever follows
read_there : {A E : Type 0} (Spells : A → List ℕ → Type 0) (read : List ℕ → Reading A E) → IsReaderOf Spells read
    → (offset : ℕ) (bytes : List ℕ) (x : A) (s : StandsAt Spells bytes offset x) → read (drop offset bytes)
    ≡ Ok (x, s.behind)
read_there Spells read reader offset bytes x s =
    ap read (ap (drop offset) s.parts ∙ drop_at s.before (s.text ++ s.behind) offset s.place)
    ∙ reader.again x s.text s.behind s.spelled

-- what has bytes and stands at an offset stands before the end
before_end : {A : Type 0} (Spells : A → List ℕ → Type 0) (offset : ℕ) (bytes : List ℕ) (x : A)
    (s : StandsAt Spells bytes offset x) → 0 < length s.text → offset < length bytes
before_end Spells offset bytes x s some = omega
    (arith, ap length s.parts, length-append s.before (s.text ++ s.behind), length-append s.text s.behind, s.place)

-- ---- identifiers

sid_some : (sid : SidValue) (text : List ℕ) → SpellsSid sid text → 0 < length text
sid_some sid text s = omega (arith, ap length s.1, length-sid_bytes sid)

pub sid_takes : (part : ℕ) (name : SidFault → SdFault) (offset : ℕ) (bytes : List ℕ) (o : Option SidValue)
    → IsBytes bytes → sid_of part name offset bytes ≡ Ok o → SpellsSidAt bytes offset o
unfolding present_sid
sid_takes part name offset bytes o fits e =
    by_if (eqb offset 0) (Ok None) (present_sid part name offset bytes) o e
    (λ (null : eqb offset 0 ≡ true) (same : Ok None ≡ Ok o). subst (SpellsSidAt bytes offset)
    (from_ok {E = SdFault} None o same) (eqb-true offset 0 null))
    (λ (there : eqb offset 0 ≡ false) e1.
    from_bind (from_offset part offset bytes) _ o e1
    (λ (front : List ℕ) (e2 : from_offset part offset bytes ≡ Ok front) e3.
    let at = offset_takes part offset bytes front e2 in
    from_bind (fault_as name (sid_at front)) _ o e3
    (λ (sid : SidValue × List ℕ) (e4 : fault_as name (sid_at front) ≡ Ok sid) (e5 : Ok (Some sid.0) ≡ Ok o).
    let read : sid_at (drop offset bytes) ≡ Ok (sid.0, sid.1) = ap sid_at at.1 ∙ from_fault_as name (sid_at front) sid
    e4 in
    subst (SpellsSidAt bytes offset) (from_ok {E = SdFault} (Some sid.0) o e5)
    (not_null offset there, stands SpellsSid sid_at sid_reader offset bytes sid.0 sid.1 fits at.0 read))))

pub sid_again : (part : ℕ) (name : SidFault → SdFault) (offset : ℕ) (bytes : List ℕ) (o : Option SidValue)
    → SpellsSidAt bytes offset o → sid_of part name offset bytes ≡ Ok o
unfolding present_sid
sid_again part name offset bytes None s = rw s refl
sid_again part name offset bytes (Some sid) s =
    let there : eqb offset 0 ≡ false = is_not_null offset s.0 in
    let front : from_offset part offset bytes ≡ Ok (drop offset bytes) = offset_again part offset bytes
    (before_end SpellsSid offset bytes sid s.1 (sid_some sid s.1.text s.1.spelled)) in
    let read : sid_at (drop offset bytes) ≡ Ok (sid, s.1.behind) = read_there SpellsSid sid_at sid_reader offset bytes
    sid s.1 in
    rw (there, front, read) refl

-- ---- lists

list_some : (entries : List Entry) (text : List ℕ) → SpellsList entries text → 0 < length text
list_some entries text s = omega (arith, ap length s.parts)

abbrev ace_list : Bool → List Entry → AceList
ace_list protected entries = record { protected = protected; entries = entries }

list_takes : (part : ℕ) (name : AclFault → SdFault) (protected : Bool) (offset : ℕ) (bytes : List ℕ)
    (P : Option AceList → Type 0) (o : Option AceList) → IsBytes bytes → 0 < offset → present_list part name protected
    offset bytes ≡ Ok o
    → ((list : AceList) → SpellsListAt bytes offset protected list → P (Some list)) → P o
unfolding present_list
list_takes part name protected offset bytes P o fits pos e k =
    from_bind (from_offset part offset bytes) _ o e
    (λ (front : List ℕ) (e2 : from_offset part offset bytes ≡ Ok front) e3.
    let at = offset_takes part offset bytes front e2 in
    from_bind (fault_as name (list_at front)) _ o e3
    (λ (list : List Entry × List ℕ)
    (e4 : fault_as name (list_at front) ≡ Ok list) (e5 : Ok (Some (ace_list protected list.0)) ≡ Ok o).
    let read : list_at (drop offset bytes) ≡ Ok (list.0, list.1) = ap list_at at.1
    ∙ from_fault_as name (list_at front) list e4 in
    subst P (from_ok {E = SdFault} (Some (ace_list protected list.0)) o e5)
    (k (ace_list protected list.0) (record {
      not_null = pos;
      protected_is = refl;
      entries
          = stands SpellsList list_at acl_reader offset bytes list.0 list.1 fits at.0 read;
    }))))

list_again : (part : ℕ) (name : AclFault → SdFault) (protected : Bool) (offset : ℕ) (bytes : List ℕ) (list : AceList)
    → SpellsListAt bytes offset protected list → present_list part name protected offset bytes ≡ Ok (Some list)
unfolding present_list
list_again part name protected offset bytes list s =
    let front : from_offset part offset bytes ≡ Ok (drop offset bytes) = offset_again part offset bytes
    (before_end SpellsList offset bytes list.entries s.entries
    (list_some list.entries s.entries.text s.entries.spelled)) in
    let read : list_at (drop offset bytes) ≡ Ok (list.entries, s.entries.behind) = read_there SpellsList list_at
    acl_reader offset bytes list.entries s.entries in
    rw (front, read) (ap (λ (b : Bool). Ok (Some (ace_list b list.entries))) (sym s.protected_is))

pub sacl_takes : (control offset : ℕ) (bytes : List ℕ) (o : Option AceList) → IsBytes bytes
    → sacl_of control offset bytes ≡ Ok o → SpellsSacl bytes control offset o
sacl_takes control offset bytes o fits e =
    by_if (not (says control sacl_present) || eqb offset 0) (Ok None)
    (present_list 8 Sacl (says control sacl_protected) offset bytes) o e
    (λ (absent : not (says control sacl_present) || eqb offset 0 ≡ true) (same : Ok None ≡ Ok o).
    subst (SpellsSacl bytes control offset) (from_ok {E = SdFault} None o same)
    (elim (or_true (not (says control sacl_present)) (eqb offset 0) absent) [
      | inl without ↦ inl (not_true (says control sacl_present) without)
      | inr null ↦ inr (eqb-true offset 0 null)
    ]))
    (λ (there : not (says control sacl_present) || eqb offset 0 ≡ false) e1.
    let both = or_false (not (says control sacl_present)) (eqb offset 0) there in
    list_takes 8 Sacl (says control sacl_protected) offset bytes (SpellsSacl bytes control offset) o fits
    (not_null offset both.1) e1 (λ list s. (not_false (says control sacl_present) both.0, s)))

pub sacl_again : (control offset : ℕ) (bytes : List ℕ) (o : Option AceList) → SpellsSacl bytes control offset o
    → sacl_of control offset bytes ≡ Ok o
sacl_again control offset bytes None s =
    elim s [
      | inl without ↦ rw without refl
      | inr null ↦ absent (says control sacl_present) offset
          (present_list 8 Sacl (says control sacl_protected) offset bytes) null
    ]
  where
    absent : (b : Bool) (n : ℕ) (r : Result (Option AceList) SdFault) → n ≡ 0 → cond (not b || eqb n 0) (Ok None) r
        ≡ Ok None
    absent true n r e = rw e refl
    absent false n r e = refl
sacl_again control offset bytes (Some list) s =
    rw (s.0, is_not_null offset s.1.not_null) (list_again 8 Sacl (says control sacl_protected) offset bytes list s.1)

pub dacl_takes : (control offset : ℕ) (bytes : List ℕ) (o : Option AceList) → IsBytes bytes
    → dacl_of control offset bytes ≡ Ok o → SpellsDacl bytes control offset o
dacl_takes control offset bytes o fits e =
    by_if (not (says control dacl_present)) (Ok None)
    (cond (eqb offset 0) (Err NullDacl) (present_list 4 Dacl (says control dacl_protected) offset bytes)) o e
    (λ (absent : not (says control dacl_present) ≡ true) (same : Ok None ≡ Ok o). subst
    (SpellsDacl bytes control offset) (from_ok {E = SdFault} None o same)
    (not_true (says control dacl_present) absent))
    (λ (there : not (says control dacl_present) ≡ false) e1.
    by_if (eqb offset 0) (Err NullDacl) (present_list 4 Dacl (says control dacl_protected) offset bytes) o e1
    (λ (null : eqb offset 0 ≡ true) (same : Err NullDacl ≡ Ok o). absurd cc)
    (λ (given : eqb offset 0 ≡ false) e2.
    list_takes 4 Dacl (says control dacl_protected) offset bytes (SpellsDacl bytes control offset) o fits
    (not_null offset given) e2 (λ list s. (not_false (says control dacl_present) there, s))))

pub dacl_again : (control offset : ℕ) (bytes : List ℕ) (o : Option AceList) → SpellsDacl bytes control offset o
    → dacl_of control offset bytes ≡ Ok o
dacl_again control offset bytes None s = rw s refl
dacl_again control offset bytes (Some list) s =
    rw (s.0, is_not_null offset s.1.not_null) (list_again 4 Dacl (says control dacl_protected) offset bytes list s.1)
