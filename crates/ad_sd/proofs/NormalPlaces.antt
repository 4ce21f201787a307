-- Where the parts of a descriptor stand in its normal bytes, and which bytes are none.
use Rattle.std.proofs.Common.{◌≡◌, ℕ, ◌-◌, ◌<◌, ◌≤◌, Bool, true, false, ltb, eqb, List, [], ◌∷◌, length, drop, Ok}
use Rattle.std.proofs.Common.{Err, refl, sym, ap, subst, ◌∙◌, arith}
use Rattle.std.specs.Prelude.{slice_index}
use Rattle.std.proofs.lemmas.Bool.{lt-ltb, le-ltb, ltb-false}
use Rattle.byteorder.specs.Endian.{big_number}
use Rattle.ad_bytes.specs.Reading.{Reading, or_fault, many_at}
use Rattle.ad_bytes.specs.Numbers.{byte_at, be_at, short}
use Rattle.ad_bytes.proofs.Steps.{from_bind, from_need, from_or_fault, from_ok, from_guard}
use Rattle.ad_bytes.proofs.Many.{with_front, ends}
use Rattle.ad_ids.specs.declared.sid.SidFault.{SidFault}
use Rattle.ad_ids.specs.SidValue.{SidValue}
use Rattle.ad_ids.specs.SidReading.{sid_at}
use Rattle.ad_acl.specs.declared.fault.AclFault.{AclFault}
use Rattle.ad_acl.specs.Entry.{Entry, says}
use Rattle.ad_acl.specs.Reading.{entry_at}
use Rattle.ad_acl.specs.EntryIn.{begins_entry, is_given as is_entry_given}
use Rattle.ad_sd.specs.declared.exact.NotNormal.{NotNormal}
use Rattle.ad_sd.specs.declared.parts.Sd.{Sd}
use Rattle.ad_sd.specs.NormalReading.{not_normal, entry_exactly_at, entries_exactly_at, normal_at}
use Rattle.ad_sd.specs.SdIn.{sd_in, is_normal}
use Rattle.ad_sd.specs.SidHere.{is_read, sid_of, is_given as is_sid_given, given as sid_given}
use Rattle.ad_sd.specs.Entries.{entries_of, are_read, given as entries_given, is_given as are_given}
use Rattle.ad_sd.specs.Lists.{given, is_given, listed, begins_list, IsNotRead, IsReadTo, HasLists, HasParts}
use Rattle.ad_sd.proofs.ExactCodec.{loosely}
use Rattle.ad_sd.proofs.NormalReader.{normal_read}

-- ---- the parts

pub record Parted (bytes : List ℕ) (sd : Sd) : Type 0 where
  pub marks : ℕ
  pub after : List ℕ
  pub first : bytes ≡ marks ∷ after
  pub parts : HasParts sd after
  pub dacl_protected : sd.dacl.protected ≡ says marks 1
  pub sacl_protected : sd.sacl.protected ≡ says marks 2

abbrev sd : SidValue → SidValue → Bool → List Entry → Bool → List Entry → Sd
sd owner group p dacl q sacl = record {
  owner = owner;
  group = group;
  dacl = record { protected = p; entries = dacl };
  sacl = record { protected = q; entries = sacl };
}

byte_first : (bytes : List ℕ) (b : ℕ) (rest : List ℕ) → byte_at bytes ≡ Ok (b, rest) → bytes ≡ b ∷ rest
unfolding byte_at
byte_first [] b rest e = absurd cc
byte_first (a ∷ bytes) b rest e = ap (λ (p : ℕ × List ℕ). p.0 ∷ p.1) (from_ok (a, bytes) (b, rest) e)

parted : (bytes : List ℕ) (v : Sd) (rest : List ℕ) → rest ≡ [] → normal_at bytes ≡ Ok (v, rest) → Parted bytes v
unfolding normal_at
parted bytes v rest none e =
    from_bind (or_fault not_normal (byte_at bytes)) _ (v, rest) e
    (λ (m : ℕ × List ℕ) (e1 : or_fault not_normal (byte_at bytes) ≡ Ok m) e2.
    from_need (ltb m.0 4) not_normal _ (v, rest) e2 (λ (few : ltb m.0 4 ≡ true) e3.
    from_bind (or_fault not_normal (sid_at m.1)) _ (v, rest) e3
    (λ (o : SidValue × List ℕ) (e4 : or_fault not_normal (sid_at m.1) ≡ Ok o) e5.
    from_bind (or_fault not_normal (sid_at o.1)) _ (v, rest) e5
    (λ (g : SidValue × List ℕ) (e6 : or_fault not_normal (sid_at o.1) ≡ Ok g) e7.
    from_bind (entries_exactly_at g.1) _ (v, rest) e7
    (λ (d : List Entry × List ℕ) (e8 : entries_exactly_at g.1 ≡ Ok d) e9.
    from_bind (entries_exactly_at d.1) _ (v, rest) e9
    (λ (s : List Entry × List ℕ) (e10 : entries_exactly_at d.1 ≡ Ok s)
    (e11 : Ok (sd o.0 g.0 (says m.0 1) d.0 (says m.0 2) s.0, s.1) ≡ Ok (v, rest)).
    let value = sd o.0 g.0 (says m.0 1) d.0 (says m.0 2) s.0 in
    let same : (value, s.1) ≡ (v, rest) = from_ok {E = NotNormal} (value, s.1) (v, rest) e11 in
    let left : s.1 ≡ [] = ap (λ (p : Sd × List ℕ). p.1) same ∙ none in
    let all : Parted bytes value = record {
      marks = m.0;
      after = m.1;
      first = byte_first bytes m.0 m.1 (from_or_fault not_normal (byte_at bytes) m e1);
      parts = record {
        after_owner = o.1;
        after_group = g.1;
        owner = from_or_fault not_normal (sid_at m.1) o e4;
        group = from_or_fault not_normal (sid_at o.1) g e6;
        lists = record { after = d.1; dacl = e8; sacl = e10 ∙ ap (λ (l : List ℕ). Ok (s.0, l)) left };
      };
      dacl_protected = refl;
      sacl_protected = refl;
    } in
    subst (Parted bytes) (ap (λ (p : Sd × List ℕ). p.0) same) all))))))

pub normal_parted : (bytes : List ℕ) → is_normal bytes ≡ true → Parted bytes (sd_in bytes)
normal_parted bytes alone = parted bytes (sd_in bytes) [] refl (normal_read bytes alone)

pub some_bytes : (bytes : List ℕ) → is_normal bytes ≡ true → 1 ≤ length bytes
some_bytes bytes alone = omega (arith, ap length (normal_parted bytes alone).first)

pub parts_there : (bytes there : List ℕ) → is_normal bytes ≡ true → there ≡ drop 1 bytes → HasParts (sd_in bytes) there
parts_there bytes there alone is =
    let p = normal_parted bytes alone in
    subst (HasParts (sd_in bytes)) (sym (is ∙ ap (drop 1) p.first)) p.parts

pub dacl_mark : (bytes : List ℕ) → is_normal bytes ≡ true → says (slice_index bytes 0) 1 ≡ (sd_in bytes).dacl.protected
dacl_mark bytes alone =
    let p = normal_parted bytes alone in
    ap (λ (l : List ℕ). says (slice_index l 0) 1) p.first ∙ sym p.dacl_protected

pub sacl_mark : (bytes : List ℕ) → is_normal bytes ≡ true → says (slice_index bytes 0) 2 ≡ (sd_in bytes).sacl.protected
sacl_mark bytes alone =
    let p = normal_parted bytes alone in
    ap (λ (l : List ℕ). says (slice_index l 0) 2) p.first ∙ sym p.sacl_protected

-- ---- the identifiers

pub sid_read : (bytes : List ℕ) (sid : SidValue) (after : List ℕ) → sid_at bytes ≡ Ok (sid, after) → is_read bytes
    ≡ true
unfolding is_read
sid_read bytes sid after e = ap is_sid_given e

pub sid_is : (bytes : List ℕ) (sid : SidValue) (after : List ℕ) → sid_at bytes ≡ Ok (sid, after) → sid_of bytes ≡ sid
unfolding sid_of
sid_is bytes sid after e = ap sid_given e

pub after_is : (bytes : List ℕ) (sid : SidValue) (after left : List ℕ) → sid_at bytes ≡ Ok (sid, after) → sid_at bytes
    ≡ Ok (sid_of bytes, left) → after ≡ left
after_is bytes sid after left e f = ap (λ (p : SidValue × List ℕ). p.1)
    (from_ok {E = SidFault} (sid, after) (sid_of bytes, left) (sym e ∙ f))

-- ---- the lists

pub record Listed (bytes : List ℕ) : Type 0 where
  pub left : List ℕ
  pub eight : 8 ≤ length bytes
  pub read : entries_exactly_at bytes ≡ Ok (listed bytes, left)
  pub loose : many_at entry_at (big_number 8 bytes) (drop 8 bytes) ≡ Ok (listed bytes, left)

pub list_is : (bytes : List ℕ) (entries : List Entry) (left : List ℕ) → entries_exactly_at bytes ≡ Ok (entries, left)
    → listed bytes ≡ entries
unfolding listed
list_is bytes entries left e = ap given e

pub list_begins : (bytes : List ℕ) (entries : List Entry) (left : List ℕ) → entries_exactly_at bytes
    ≡ Ok (entries, left) → begins_list bytes ≡ true
unfolding begins_list
list_begins bytes entries left e = ap is_given e

was_given : (r : Reading (List Entry) NotNormal) → is_given r ≡ true → (x : List Entry × List ℕ) × (r ≡ Ok x)
was_given (Ok x) e = (x, refl)
was_given (Err f) e = absurd cc

eight_bytes : (bytes : List ℕ) (n : ℕ) (rest : List ℕ) → be_at 8 bytes ≡ Ok (n, rest) → (8 ≤ length bytes)
    × (n ≡ big_number 8 bytes) × (rest ≡ drop 8 bytes)
unfolding be_at
eight_bytes bytes n rest e =
    from_guard (ltb (length bytes) 8) short (big_number 8 bytes, drop 8 bytes) (n, rest) e
    (λ (long : ltb (length bytes) 8 ≡ false) (same : (big_number 8 bytes, drop 8 bytes) ≡ (n, rest)).
    (ltb-false _ _ long, ap (λ (p : ℕ × List ℕ). p.0) (sym same), ap (λ (p : ℕ × List ℕ). p.1) (sym same)))

pub list_there : (bytes : List ℕ) → begins_list bytes ≡ true → Listed bytes
unfolding begins_list listed entries_exactly_at
list_there bytes begins =
    let x = was_given (entries_exactly_at bytes) begins in
    from_bind (or_fault not_normal (be_at 8 bytes)) _ x.0 x.1
    (λ (n : ℕ × List ℕ)
    (e1 : or_fault not_normal (be_at 8 bytes) ≡ Ok n) (e2 : many_at entry_exactly_at n.0 n.1 ≡ Ok x.0).
    let count = eight_bytes bytes n.0 n.1 (from_or_fault not_normal (be_at 8 bytes) n e1) in
    let loose : many_at entry_at n.0 n.1 ≡ Ok (x.0.0, x.0.1) = loosely n.0 n.1 x.0.0 x.0.1 e2 in
    let value : x.0.0 ≡ given (entries_exactly_at bytes) = sym (ap given x.1) in
    let there : many_at entry_at (big_number 8 bytes) (drop 8 bytes) ≡ many_at entry_at n.0 n.1
    = rw (count.1, count.2) refl in
    record {
      left = x.0.1;
      eight = count.0;
      read = x.1 ∙ ap (λ (es : List Entry). Ok (es, x.0.1)) value;
      loose = there ∙ loose ∙ ap (λ (es : List Entry). Ok (es, x.0.1)) value;
    })

pub list_readable : (bytes there : List ℕ) (n : ℕ) → begins_list bytes ≡ true → n ≡ big_number 8 bytes → there
    ≡ drop 8 bytes → are_read n there ≡ true
unfolding are_read
list_readable bytes there n begins count is = rw (count, is) (ap are_given (list_there bytes begins).loose)

pub list_entries : (bytes there : List ℕ) (n : ℕ) → begins_list bytes ≡ true → n ≡ big_number 8 bytes → there
    ≡ drop 8 bytes → entries_of n there ≡ listed bytes
unfolding entries_of
list_entries bytes there n begins count is = rw (count, is) (ap entries_given (list_there bytes begins).loose)

pub list_after : (bytes there left : List ℕ) (n : ℕ) → begins_list bytes ≡ true → n ≡ big_number 8 bytes → there
    ≡ drop 8 bytes
    → many_at entry_at n there ≡ Ok (entries_of n there, left) → entries_exactly_at bytes ≡ Ok (listed bytes, left)
list_after bytes there left n begins count is read =
    let l = list_there bytes begins in
    let same : many_at entry_at n there ≡ Ok (listed bytes, l.left) = rw (count, is) l.loose in
    let after : l.left ≡ left = ap (λ (p : List Entry × List ℕ). p.1)
    (from_ok {E = AclFault} (listed bytes, l.left) (entries_of n there, left) (sym same ∙ read)) in
    l.read ∙ ap (λ (t : List ℕ). Ok (listed bytes, t)) after

-- ---- one entry after the other

pub next_begins : (front : List Entry) (count i : ℕ) (rest : List ℕ) (total : Reading (List Entry) AclFault) → i < count
    → with_front front (many_at entry_at (count - i) rest) ≡ total → are_given total ≡ true → begins_entry rest ≡ true
unfolding begins_entry
next_begins front count i rest total lt so_far read = go (entry_at rest) refl
  where
    go : (r : Reading Entry AclFault) → entry_at rest ≡ r → is_entry_given r ≡ true
    go (Ok x) e = refl
    go (Err f) e = let failed : are_given total ≡ false
        = ap are_given (ends entry_at f front count i rest total lt e so_far) in absurd cc

pub all_read : (count : ℕ) (bytes : List ℕ) (front : List Entry) (left : List ℕ) → many_at entry_at count bytes
    ≡ Ok (front, left) → many_at entry_at count bytes ≡ Ok (entries_of count bytes, left)
unfolding entries_of
all_read count bytes front left e = e ∙ ap (λ (es : List Entry). Ok (es, left)) (sym (ap entries_given e))

pub given_all : (count : ℕ) (bytes : List ℕ) → are_read count bytes ≡ true → are_given (many_at entry_at count bytes)
    ≡ true
unfolding are_read
given_all count bytes r = r

-- ---- each part after the one before it

pub group_there : (v : Sd) (bytes left : List ℕ) (p : HasParts v bytes) → sid_at bytes ≡ Ok (sid_of bytes, left)
    → sid_at left ≡ Ok (v.group, p.after_group)
group_there v bytes left p read = ap sid_at (sym (after_is bytes v.owner p.after_owner left p.owner read)) ∙ p.group

pub lists_there : (v : Sd) (bytes left after : List ℕ) → HasLists v after → sid_at bytes ≡ Ok (v.group, after)
    → sid_at bytes ≡ Ok (sid_of bytes, left) → HasLists v left
lists_there v bytes left after l there read = subst (HasLists v) (after_is bytes v.group after left there read) l

pub sacl_there : (v : Sd) (bytes left : List ℕ) → (l : HasLists v bytes) → entries_exactly_at bytes
    ≡ Ok (listed bytes, left) → entries_exactly_at left ≡ Ok (v.sacl.entries, [])
sacl_there v bytes left l read =
    let same : l.after ≡ left = ap (λ (p : List Entry × List ℕ). p.1)
    (from_ok {E = NotNormal} (v.dacl.entries, l.after) (listed bytes, left) (sym l.dacl ∙ read)) in
    ap entries_exactly_at (sym same) ∙ l.sacl

-- ---- which bytes are none

pub no_marks : (bytes : List ℕ) → length bytes ≡ 0 → false ≡ is_normal bytes
unfolding is_normal normal_at byte_at
no_marks [] e = refl
no_marks (a ∷ bytes) e = absurd (omega arith)

pub many_marks : (bytes after : List ℕ) (m : ℕ) → bytes ≡ m ∷ after → 4 ≤ m → false ≡ is_normal bytes
unfolding is_normal normal_at byte_at
many_marks bytes after m e many = let few : ltb m 4 ≡ false = le-ltb m 4 many in rw (e, few) refl

pub no_owner : (bytes after : List ℕ) (m : ℕ) → bytes ≡ m ∷ after → m < 4
    → IsNotRead (or_fault not_normal (sid_at after)) → false ≡ is_normal bytes
unfolding is_normal normal_at byte_at
no_owner bytes after m e lt f = let few : ltb m 4 ≡ true = lt-ltb m 4 lt in rw (e, few, f) refl

pub no_group : (bytes after o : List ℕ) (m : ℕ) → bytes ≡ m ∷ after → m < 4
    → IsReadTo (or_fault not_normal (sid_at after)) o → IsNotRead (or_fault not_normal (sid_at o)) → false
    ≡ is_normal bytes
unfolding is_normal normal_at byte_at
no_group bytes after o m e lt owner f = let few : ltb m 4 ≡ true = lt-ltb m 4 lt in rw (e, few, owner.1, f) refl

pub no_dacl : (bytes after o g : List ℕ) (m : ℕ) → bytes ≡ m ∷ after → m < 4
    → IsReadTo (or_fault not_normal (sid_at after)) o → IsReadTo (or_fault not_normal (sid_at o)) g
    → IsNotRead (entries_exactly_at g) → false ≡ is_normal bytes
unfolding is_normal normal_at byte_at
no_dacl bytes after o g m e lt owner group f = let few : ltb m 4 ≡ true = lt-ltb m 4 lt
    in rw (e, few, owner.1, group.1, f) refl

pub no_sacl : (bytes after o g d : List ℕ) (m : ℕ) → bytes ≡ m ∷ after → m < 4
    → IsReadTo (or_fault not_normal (sid_at after)) o → IsReadTo (or_fault not_normal (sid_at o)) g
    → IsReadTo (entries_exactly_at g) d → IsNotRead (entries_exactly_at d) → false ≡ is_normal bytes
unfolding is_normal normal_at byte_at
no_sacl bytes after o g d m e lt owner group dacl f = let few : ltb m 4 ≡ true = lt-ltb m 4 lt
    in rw (e, few, owner.1, group.1, dacl.1, f) refl

pub all_passed : (bytes after o g d s : List ℕ) (m : ℕ) (b : Bool) → bytes ≡ m ∷ after → m < 4
    → IsReadTo (or_fault not_normal (sid_at after)) o → IsReadTo (or_fault not_normal (sid_at o)) g
    → IsReadTo (entries_exactly_at g) d → IsReadTo (entries_exactly_at d) s → b ≡ eqb (length s) 0 → b ≡ is_normal bytes
unfolding is_normal normal_at byte_at
all_passed bytes after o g d s m b e lt owner group dacl sacl is = let few : ltb m 4 ≡ true = lt-ltb m 4 lt
    in rw (e, few, owner.1, group.1, dacl.1, sacl.1) is
