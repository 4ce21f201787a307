-- Where the fields of an entry stand in its bytes.
use Rattle.std.proofs.Common.{◌≡◌, ℕ, ◌+◌, ◌*◌, ◌^◌, ◌<◌, ◌≤◌, Bool, true, false, cond, not, eqb, Option, None, Some}
use Rattle.std.proofs.Common.{Ok, Err, List, [], ◌∷◌, ◌++◌, length, take, drop, refl, sym, ap, subst, ◌∙◌}
use Rattle.std.proofs.Common.{append_assoc, arith}
use Rattle.std.specs.Prelude.{slice_index, bit_and}
use Rattle.std.proofs.lemmas.List.{append-nil, length-append, length-drop, take_at, drop_at, drop-drop}
use Rattle.std.proofs.lemmas.Bool.{le-leb, eqb-true, ne_eqb}
use Rattle.byteorder.specs.Endian.{little_number}
use Rattle.byteorder.specs.Numbers.{little_number-reads_back}
use Rattle.ad_bytes.specs.Reading.{IsBytes, Reading, TakesFront}
use Rattle.ad_bytes.specs.Numbers.{le_bytes}
use Rattle.ad_bytes.proofs.Steps.{from_ok}
use Rattle.ad_bytes.proofs.Codec.{length-le_bytes}
use Rattle.ad_ids.specs.declared.guid.Guid.{Guid}
use Rattle.ad_ids.specs.declared.sid.SidFault.{SidFault}
use Rattle.ad_ids.specs.SidValue.{SidValue}
use Rattle.ad_ids.specs.Sid.{sid_bytes, SpellsSid}
use Rattle.ad_ids.specs.SidReading.{sid_at}
use Rattle.ad_ids.proofs.SidCodec.{sid_reader}
use Rattle.ad_ids.proofs.SidWriting.{length-sid_bytes}
use Rattle.ad_acl.specs.declared.fault.AclFault.{AclFault}
use Rattle.ad_acl.specs.declared.kind.AceKind.{AceKind}
use Rattle.ad_acl.specs.declared.kind.AceKind.TheVariants.{Allow, Deny, Audit}
use Rattle.ad_acl.specs.Entry.{Entry, type_code, says, SpellsFlags, SpellsGuidIf, SpellsWhich, SpellsEntry}
use Rattle.ad_acl.specs.Reading.{kept, entry_at}
use Rattle.ad_acl.specs.EntryIn.{given, is_given, is_alone, entry_in, is_entry, begins_entry}
use Rattle.ad_acl.proofs.KeptFlags.{spelled-kept}
use Rattle.ad_acl.proofs.EntryCodec.{entry_reader}
use Rattle.ad_acl.specs.Offsets.{kind_of, has_flags, which_in, guid_len, guids_offset, sid_offset}

-- ---- the pieces of an entry, one after the other

pub record Flat (e : Entry) (bytes : List ℕ) : Type 0 where
  pub is_object : Bool
  pub flags : ℕ
  pub size : ℕ
  pub which : ℕ
  pub which_text : List ℕ
  pub object_text : List ℕ
  pub inherited_text : List ℕ
  pub sid_text : List ℕ
  pub more : List ℕ
  pub flags_are : SpellsFlags e.flags flags
  pub size_fits : size < 2 ^ 16
  pub mask_fits : e.mask < 2 ^ 32
  pub which_is : SpellsWhich is_object which which_text
  pub object_is : SpellsGuidIf (says which 1) e.object object_text
  pub inherited_is : SpellsGuidIf (says which 2) e.inherited inherited_text
  pub sid_is : SpellsSid e.sid sid_text
  pub parts : bytes ≡ type_code is_object e.kind ∷ flags ∷ le_bytes 2 size
      ++ (le_bytes 4 e.mask ++ (which_text ++ (object_text ++ (inherited_text ++ (sid_text ++ more)))))

regroup : (m w o i s b more : List ℕ) → ((m ++ (w ++ (o ++ i))) ++ (s ++ b)) ++ more ≡ m
    ++ (w ++ (o ++ (i ++ (s ++ (b ++ more)))))
regroup m w o i s b more = simp append_assoc

-- an entry that the bytes begin with
pub flat_of : (e : Entry) (text more bytes : List ℕ) → SpellsEntry e text → bytes ≡ text ++ more → Flat e bytes
flat_of e text more bytes s parts =
    let x = s.fixed_is in
    let head : List ℕ = type_code s.is_object e.kind ∷ s.flags ∷ le_bytes 2 (length text) in
    let whole : text ≡ head ++ ((le_bytes 4 e.mask ++ (x.which_text ++ (x.object_text ++ x.inherited_text)))
    ++ (s.sid ++ s.behind)) = s.parts ∙ ap (λ (t : List ℕ). head ++ (t ++ (s.sid ++ s.behind))) x.parts in
    let inner = regroup (le_bytes 4 e.mask) x.which_text x.object_text x.inherited_text s.sid s.behind more in
    record {
      is_object = s.is_object;
      flags = s.flags;
      size = length text;
      which = x.which;
      which_text = x.which_text;
      object_text = x.object_text;
      inherited_text = x.inherited_text;
      sid_text = s.sid;
      more = s.behind ++ more;
      flags_are = s.flags_are;
      size_fits = s.size_fits;
      mask_fits = x.mask_fits;
      which_is = x.which_is;
      object_is = x.object_is;
      inherited_is = x.inherited_is;
      sid_is = s.sid_is;
      parts = parts ∙ ap (λ (t : List ℕ). t ++ more) whole ∙ append_assoc head _ more ∙ ap (λ (t : List ℕ). head ++ t)
          inner;
    }

-- the same of the bytes of one entry alone
pub flat_alone : (e : Entry) (bytes : List ℕ) → SpellsEntry e bytes → Flat e bytes
flat_alone e bytes s = flat_of e bytes [] bytes s (sym (append-nil bytes))

-- ---- the header

-- what stands after the mask
abbrev after_mask : (e : Entry) (bytes : List ℕ) → Flat e bytes → List ℕ
after_mask e bytes f = f.which_text ++ (f.object_text ++ (f.inherited_text ++ (f.sid_text ++ f.more)))

-- the size that the header says is that of the entry
said : (e : Entry) (text more bytes : List ℕ) → SpellsEntry e text → bytes ≡ text ++ more
    → little_number 2 (drop 2 bytes) ≡ length text
unfolding le_bytes
said e text more bytes s parts =
    ap (λ (t : List ℕ). little_number 2 (drop 2 t)) (parts ∙ ap (λ (t : List ℕ). t ++ more) s.parts)
    ∙ little_number-reads_back 2 (length text) ((s.fixed ++ (s.sid ++ s.behind)) ++ more) s.size_fits

pub code_at : (e : Entry) (bytes : List ℕ) (f : Flat e bytes) → slice_index bytes 0 ≡ type_code f.is_object e.kind
code_at e bytes f = ap (λ (t : List ℕ). slice_index t 0) f.parts

pub flags_at : (e : Entry) (bytes : List ℕ) (f : Flat e bytes) → slice_index bytes 1 ≡ f.flags
flags_at e bytes f = ap (λ (t : List ℕ). slice_index t 1) f.parts

pub size_at : (e : Entry) (bytes : List ℕ) (f : Flat e bytes) → little_number 2 (drop 2 bytes) ≡ f.size
unfolding le_bytes
size_at e bytes f = ap (λ (t : List ℕ). little_number 2 (drop 2 t)) f.parts ∙ little_number-reads_back 2 f.size
    (le_bytes 4 e.mask ++ after_mask e bytes f) f.size_fits

kind_is : (b : Bool) (k : AceKind) (code : ℕ) → code ≡ type_code b k → kind_of code ≡ k
kind_is false Allow code e = rw e refl
kind_is false Deny code e = rw e refl
kind_is false Audit code e = rw e refl
kind_is true Allow code e = rw e refl
kind_is true Deny code e = rw e refl
kind_is true Audit code e = rw e refl

pub kind_there : (e : Entry) (bytes : List ℕ) (f : Flat e bytes) → kind_of (slice_index bytes 0) ≡ e.kind
kind_there e bytes f = kind_is f.is_object e.kind (slice_index bytes 0) (code_at e bytes f)

pub flags_there : (e : Entry) (bytes : List ℕ) (f : Flat e bytes) → kept (slice_index bytes 1) ≡ e.flags
flags_there e bytes f = ap kept (flags_at e bytes f) ∙ spelled-kept e.flags f.flags f.flags_are

-- ---- the mask, and what stands after it

from_4 : (e : Entry) (bytes : List ℕ) (f : Flat e bytes) → drop 4 bytes ≡ le_bytes 4 e.mask ++ after_mask e bytes f
unfolding le_bytes
from_4 e bytes f = ap (drop 4) f.parts

pub mask_at : (e : Entry) (bytes : List ℕ) (f : Flat e bytes) → little_number 4 (drop 4 bytes) ≡ e.mask
unfolding le_bytes
mask_at e bytes f = ap (little_number 4) (from_4 e bytes f) ∙ little_number-reads_back 4 e.mask (after_mask e bytes f)
    f.mask_fits

from_8 : (e : Entry) (bytes : List ℕ) (f : Flat e bytes) → drop 8 bytes ≡ after_mask e bytes f
unfolding le_bytes
from_8 e bytes f = ap (drop 8) f.parts

-- ---- the object flags

flags_test : (b : Bool) (kind : AceKind) → has_flags (type_code b kind ∷ []) ≡ b
flags_test false Allow = refl
flags_test false Deny = refl
flags_test false Audit = refl
flags_test true Allow = refl
flags_test true Deny = refl
flags_test true Audit = refl

pub is_object_at : (e : Entry) (bytes : List ℕ) (f : Flat e bytes) → has_flags bytes ≡ f.is_object
is_object_at e bytes f = ap (λ (n : ℕ). has_flags (n ∷ [])) (code_at e bytes f) ∙ flags_test f.is_object e.kind

which_there : (b : Bool) (which : ℕ) (text after there : List ℕ) → SpellsWhich b which text → there ≡ text ++ after
    → cond b (little_number 4 there) 0 ≡ which
unfolding le_bytes
which_there false which text after there s e = sym s.0
which_there true which text after there s e = ap (little_number 4) (e ∙ ap (λ (t : List ℕ). t ++ after) s.1)
    ∙ little_number-reads_back 4 which after s.0

pub which_at : (e : Entry) (bytes : List ℕ) (f : Flat e bytes) → which_in bytes ≡ f.which
which_at e bytes f =
    ap (λ (b : Bool). cond b (little_number 4 (drop 8 bytes)) 0) (is_object_at e bytes f)
    ∙ which_there f.is_object f.which f.which_text (f.object_text ++ (f.inherited_text ++ (f.sid_text ++ f.more)))
    (drop 8 bytes) f.which_is (from_8 e bytes f)

-- what stands after the object flags
abbrev after_flags : (e : Entry) (bytes : List ℕ) → Flat e bytes → List ℕ
after_flags e bytes f = f.object_text ++ (f.inherited_text ++ (f.sid_text ++ f.more))

drop_which : (b : Bool) (which : ℕ) (text after bytes : List ℕ) → SpellsWhich b which text → drop 8 bytes ≡ text
    ++ after → drop (cond b 12 8) bytes ≡ after
unfolding le_bytes
drop_which false which text after bytes s e = e ∙ ap (λ (t : List ℕ). t ++ after) s.1
drop_which true which text after bytes s e = sym (drop-drop 4 8 bytes)
    ∙ ap (drop 4) (e ∙ ap (λ (t : List ℕ). t ++ after) s.1)

from_guids : (e : Entry) (bytes : List ℕ) (f : Flat e bytes) → drop (guids_offset bytes) bytes ≡ after_flags e bytes f
from_guids e bytes f =
    ap (λ (b : Bool). drop (cond b 12 8) bytes) (is_object_at e bytes f)
    ∙ drop_which f.is_object f.which f.which_text (after_flags e bytes f) bytes f.which_is (from_8 e bytes f)

-- ---- the GUIDs

guid_none : (b : Bool) (guid : Option Guid) (text : List ℕ) → SpellsGuidIf b guid text → b ≡ false → guid ≡ None
guid_none false None text s e = refl
guid_none false (Some g) text s e = absurd s
guid_none true guid text s e = absurd cc

guid_some : (b : Bool) (guid : Option Guid) (text after there : List ℕ) → SpellsGuidIf b guid text → b ≡ true → there
    ≡ text ++ after → guid ≡ Some (record { bytes = take 16 there })
guid_some false guid text after there s e at = absurd cc
guid_some true None text after there s e at = absurd s
guid_some true (Some g) text after there s e at =
    let sixteen : length text ≡ 16 = ap length s.1 ∙ s.0.sixteen in
    let taken : take 16 there ≡ g.bytes = ap (take 16) at ∙ take_at text after 16 sixteen ∙ s.1 in
    ap (λ (t : List ℕ). Some (record { bytes = t })) (sym taken)

length_guid : (b : Bool) (guid : Option Guid) (text : List ℕ) → SpellsGuidIf b guid text → length text ≡ guid_len b
length_guid false None text s = ap length s
length_guid false (Some g) text s = absurd s
length_guid true None text s = absurd s
length_guid true (Some g) text s = ap length s.1 ∙ s.0.sixteen

-- bytes that end somewhere after an offset reach so far
reaches : (n : ℕ) (bytes there : List ℕ) → drop n bytes ≡ there → 1 ≤ length there → n + length there ≡ length bytes
reaches n bytes there e some = omega (arith, length-drop n bytes, ap length e)

-- the pieces after the object flags, and the bytes that reach so far
record Lengths (e : Entry) (bytes : List ℕ) (f : Flat e bytes) : Type 0 where
  object : length f.object_text ≡ guid_len (says (which_in bytes) 1)
  inherited : length f.inherited_text ≡ guid_len (says (which_in bytes) 2)
  sid : length f.sid_text ≡ 8 + 4 * length e.sid.sub_authorities
  one : 1 ≤ length e.sid.sub_authorities
  whole : guids_offset bytes + (length f.object_text
      + (length f.inherited_text + (length f.sid_text + length f.more))) ≡ length bytes

lengths : (e : Entry) (bytes : List ℕ) (f : Flat e bytes) → Lengths e bytes f
lengths e bytes f =
    let sid : length f.sid_text ≡ 8 + 4 * length e.sid.sub_authorities = ap length f.sid_is.1 ∙ length-sid_bytes e.sid
    in
    let after : length (after_flags e bytes f) ≡ length f.object_text
    + (length f.inherited_text + (length f.sid_text + length f.more)) = simp length-append in
    record {
      object = length_guid (says f.which 1) e.object f.object_text f.object_is ∙ ap (λ (w : ℕ). guid_len (says w 1))
          (sym (which_at e bytes f));
      inherited = length_guid (says f.which 2) e.inherited f.inherited_text f.inherited_is
          ∙ ap (λ (w : ℕ). guid_len (says w 2)) (sym (which_at e bytes f));
      sid = sid;
      one = f.sid_is.0.at_least_one;
      whole = ap (λ (n : ℕ). guids_offset bytes + n) (sym after) ∙ reaches (guids_offset bytes) bytes
          (after_flags e bytes f) (from_guids e bytes f) (omega (arith, after, sid));
    }

-- the pieces reach so far
pub long : (e : Entry) (bytes : List ℕ) → Flat e bytes → guids_offset bytes
    + (guid_len (says (which_in bytes) 1) + (guid_len (says (which_in bytes) 2) + 12)) ≤ length bytes
long e bytes f = let l = lengths e bytes f in omega (arith, l.object, l.inherited, l.sid, l.one, l.whole)

eight_or_twelve : (b : Bool) → 8 ≤ cond b 12 8
eight_or_twelve true = omega arith
eight_or_twelve false = omega arith

pub long_20 : (e : Entry) (bytes : List ℕ) → Flat e bytes → 20 ≤ length bytes
long_20 e bytes f = omega (arith, long e bytes f, eight_or_twelve (has_flags bytes))

pub long_flags : (e : Entry) (bytes : List ℕ) → Flat e bytes → 5 ≤ slice_index bytes 0 → 24 ≤ length bytes
long_flags e bytes f object =
    let test : has_flags bytes ≡ true = le-leb 5 (slice_index bytes 0) object in
    let offset : guids_offset bytes ≡ 12 = ap (λ (b : Bool). cond b 12 8) test in
    omega (arith, long e bytes f)

pub says_false : (n which bit : ℕ) → n ≡ which → bit_and n bit ≡ 0 → says which bit ≡ false
says_false n which bit e zero = ap (λ (w : ℕ). says w bit) (sym e) ∙ ap (λ (x : ℕ). not (eqb x 0)) zero

pub says_true : (n which bit : ℕ) → n ≡ which → (bit_and n bit ≡ 0 → ⊥) → says which bit ≡ true
says_true n which bit e some = ap (λ (w : ℕ). says w bit) (sym e) ∙ ap not (ne_eqb (bit_and n bit) 0 some)

pub offset_is : (bytes : List ℕ) (n len : ℕ) → n ≡ which_in bytes → len ≡ guid_len (says n 1) → 12 + len ≡ 12
    + guid_len (says (which_in bytes) 1)
offset_is bytes n len e is = ap (λ (k : ℕ). 12 + k) (is ∙ ap (λ (w : ℕ). guid_len (says w 1)) e)

-- object flags that say something stand
says_nothing : (b : Bool) (n which bit : ℕ) → which ≡ cond b n 0 → says which bit ≡ true → (bit_and 0 bit ≡ 0) → b
    ≡ true
says_nothing true n which bit e s z = refl
says_nothing false n which bit e s z = absurd
    (no (sym s ∙ ap (λ (w : ℕ). says w bit) e ∙ ap (λ (x : ℕ). not (eqb x 0)) z))
  where
    no : true ≡ false → ⊥
    no e = absurd cc

pub offset_12 : (e : Entry) (bytes : List ℕ) (bit : ℕ) → Flat e bytes → bit_and 0 bit ≡ 0 → says (which_in bytes) bit
    ≡ true → guids_offset bytes ≡ 12
offset_12 e bytes bit f z s = ap (λ (b : Bool). cond b 12 8)
    (says_nothing (has_flags bytes) (little_number 4 (drop 8 bytes)) (which_in bytes) bit refl s z)

pub object_none : (e : Entry) (bytes : List ℕ) → Flat e bytes → says (which_in bytes) 1 ≡ false → None ≡ e.object
object_none e bytes f s = sym (guid_none (says f.which 1) e.object f.object_text f.object_is
    (ap (λ (w : ℕ). says w 1) (sym (which_at e bytes f)) ∙ s))

pub object_some : (e : Entry) (bytes : List ℕ) → Flat e bytes → says (which_in bytes) 1 ≡ true
    → Some (record { bytes = take 16 (drop 12 bytes) }) ≡ e.object
object_some e bytes f s =
    let at : drop 12 bytes ≡ after_flags e bytes f = ap (λ (n : ℕ). drop n bytes) (sym (offset_12 e bytes 1 f refl s))
    ∙ from_guids e bytes f in
    sym (guid_some (says f.which 1) e.object f.object_text _ (drop 12 bytes) f.object_is
    (ap (λ (w : ℕ). says w 1) (sym (which_at e bytes f)) ∙ s) at)

pub object_long : (e : Entry) (bytes : List ℕ) → Flat e bytes → says (which_in bytes) 1 ≡ true → 12 + 16 ≤ length bytes
object_long e bytes f s = omega (arith, long e bytes f, offset_12 e bytes 1 f refl s, ap guid_len s)

pub inherited_none : (e : Entry) (bytes : List ℕ) → Flat e bytes → says (which_in bytes) 2 ≡ false → None ≡ e.inherited
inherited_none e bytes f s = sym (guid_none (says f.which 2) e.inherited f.inherited_text f.inherited_is
    (ap (λ (w : ℕ). says w 2) (sym (which_at e bytes f)) ∙ s))

-- what stands after the object type
from_inherited : (e : Entry) (bytes : List ℕ) (f : Flat e bytes)
    → drop (guids_offset bytes + guid_len (says (which_in bytes) 1)) bytes ≡ f.inherited_text
    ++ (f.sid_text ++ f.more)
from_inherited e bytes f =
    sym (drop-drop (guid_len (says (which_in bytes) 1)) (guids_offset bytes) bytes)
    ∙ ap (drop (guid_len (says (which_in bytes) 1))) (from_guids e bytes f)
    ∙ drop_at f.object_text _ (guid_len (says (which_in bytes) 1)) (lengths e bytes f).object

pub inherited_some : (e : Entry) (bytes : List ℕ) (at : ℕ) → Flat e bytes → says (which_in bytes) 2 ≡ true → at ≡ 12
    + guid_len (says (which_in bytes) 1) → Some (record { bytes = take 16 (drop at bytes) }) ≡ e.inherited
inherited_some e bytes at f s is =
    let offset : at ≡ guids_offset bytes + guid_len (says (which_in bytes) 1)
    = omega (arith, offset_12 e bytes 2 f refl s) in
    let there : drop at bytes ≡ f.inherited_text ++ (f.sid_text ++ f.more) = ap (λ (n : ℕ). drop n bytes) offset
    ∙ from_inherited e bytes f in
    sym (guid_some (says f.which 2) e.inherited f.inherited_text _ (drop at bytes) f.inherited_is
    (ap (λ (w : ℕ). says w 2) (sym (which_at e bytes f)) ∙ s) there)

pub inherited_long : (e : Entry) (bytes : List ℕ) (at : ℕ) → Flat e bytes → says (which_in bytes) 2 ≡ true → at ≡ 12
    + guid_len (says (which_in bytes) 1) → at + 16 ≤ length bytes
inherited_long e bytes at f s is = omega (arith, long e bytes f, offset_12 e bytes 2 f refl s, ap guid_len s)

-- ---- the identifier

pub from_sid : (e : Entry) (bytes : List ℕ) (f : Flat e bytes) → drop (sid_offset bytes) bytes ≡ f.sid_text ++ f.more
from_sid e bytes f =
    sym (drop-drop (guid_len (says (which_in bytes) 2)) (guids_offset bytes + guid_len (says (which_in bytes) 1)) bytes)
    ∙ ap (drop (guid_len (says (which_in bytes) 2))) (from_inherited e bytes f)
    ∙ drop_at f.inherited_text _ (guid_len (says (which_in bytes) 2)) (lengths e bytes f).inherited

pub sid_long : (e : Entry) (bytes : List ℕ) → Flat e bytes → sid_offset bytes ≤ length bytes
sid_long e bytes f = omega (arith, long e bytes f)

-- it is read there
pub sid_there : (e : Entry) (bytes : List ℕ) (f : Flat e bytes) → sid_at (drop (sid_offset bytes) bytes)
    ≡ Ok (e.sid, f.more)
sid_there e bytes f = ap sid_at (from_sid e bytes f) ∙ sid_reader.again e.sid f.sid_text f.more f.sid_is

pub sid_is : (e : Entry) (bytes : List ℕ) → Flat e bytes → (at : ℕ) (there input left : List ℕ) (sid : SidValue) → at
    ≡ sid_offset bytes → there ≡ drop at bytes → input ≡ there → sid_at input ≡ Ok (sid, left) → sid ≡ e.sid
sid_is e bytes f at there input left sid at_is there_is input_is read =
    let same : (sid, left) ≡ (e.sid, f.more) = from_ok {E = SidFault} (sid, left) (e.sid, f.more)
    (sym read ∙ ap sid_at (input_is ∙ there_is ∙ ap (λ (n : ℕ). drop n bytes) at_is) ∙ sid_there e bytes f) in
    ap (λ (p : SidValue × List ℕ). p.0) same

pub sid_fault : (e : Entry) (bytes : List ℕ) → Flat e bytes → (at : ℕ) (there input : List ℕ) (fault : SidFault) → at
    ≡ sid_offset bytes → there ≡ drop at bytes → input ≡ there → sid_at input ≡ Err fault → ⊥
sid_fault e bytes f at there input fault at_is there_is input_is read =
    let again : sid_at input ≡ Ok (e.sid, f.more)
    = ap sid_at (input_is ∙ there_is ∙ ap (λ (n : ℕ). drop n bytes) at_is) ∙ sid_there e bytes f in
    not_both (sid_at input) fault (e.sid, f.more) read again
  where
    not_both : (r : Reading SidValue SidFault) (fault : SidFault) (x : SidValue × List ℕ) → r ≡ Err fault → r ≡ Ok x → ⊥
    not_both (Ok y) fault x p q = absurd cc
    not_both (Err y) fault x p q = absurd cc

-- ---- the bytes of one entry, and those that begin with one

was_given : (r : Reading Entry AclFault) → is_given r ≡ true → (x : Entry × List ℕ) × (r ≡ Ok x)
was_given (Ok x) e = (x, refl)
was_given (Err f) e = absurd cc

was_alone : (r : Reading Entry AclFault) → is_alone r ≡ true → (x : Entry × List ℕ) × (r ≡ Ok x) × (x.1 ≡ [])
was_alone (Ok x) e = (x, refl, none x.1 (eqb-true (length x.1) 0 e))
  where
    none : (l : List ℕ) → length l ≡ 0 → l ≡ []
    none [] e = refl
    none (a ∷ l) e = absurd (omega arith)
was_alone (Err f) e = absurd cc

pub flat : (bytes : List ℕ) → IsBytes bytes → is_entry bytes ≡ true → Flat (entry_in bytes) bytes
unfolding is_entry entry_in
flat bytes fits alone =
    let x = was_alone (entry_at bytes) alone in
    let t : TakesFront SpellsEntry bytes x.0.0 x.0.1 = entry_reader.takes bytes x.0.0 x.0.1 fits x.1 in
    subst (λ (e : Entry). Flat e bytes) (sym (ap given x.1)) (flat_of x.0.0 t.text x.0.1 bytes t.spelled t.parts)

pub record Cut (bytes : List ℕ) (size : ℕ) : Type 0 where
  pub within : size ≤ length bytes
  pub head : 4 ≤ length bytes
  pub alone : is_entry (take size bytes) ≡ true
  pub read : entry_at bytes ≡ Ok (entry_in (take size bytes), drop size bytes)

pub entry_cut : (bytes : List ℕ) → IsBytes bytes → begins_entry bytes ≡ true
    → Cut bytes (little_number 2 (drop 2 bytes))
unfolding begins_entry entry_in is_entry
entry_cut bytes fits begins =
    let x = was_given (entry_at bytes) begins in
    let e = x.0.0 in
    let rest = x.0.1 in
    let size = little_number 2 (drop 2 bytes) in
    let t : TakesFront SpellsEntry bytes e rest = entry_reader.takes bytes e rest fits x.1 in
    let n : size ≡ length t.text = said e t.text rest bytes t.spelled t.parts in
    let taken : take size bytes ≡ t.text = ap (λ (k : ℕ). take k bytes) n ∙ ap (take (length t.text)) t.parts
    ∙ take_at t.text rest (length t.text) refl in
    let dropped : drop size bytes ≡ rest = ap (λ (k : ℕ). drop k bytes) n ∙ ap (drop (length t.text)) t.parts
    ∙ drop_at t.text rest (length t.text) refl in
    let again : entry_at (take size bytes) ≡ Ok (e, []) = ap entry_at (taken ∙ sym (append-nil t.text))
    ∙ entry_reader.again e t.text [] t.spelled in
    let same : (e, rest) ≡ (given (entry_at (take size bytes)), drop size bytes) = rw (again, dropped) refl in
    let head : 20 ≤ length bytes = long_20 e bytes (flat_of e t.text rest bytes t.spelled t.parts) in
    record {
      within = omega (arith, n, ap length t.parts, length-append t.text rest);
      head = omega arith;
      alone = ap is_alone again;
      read = x.1 ∙ ap (λ (p : Entry × List ℕ). Ok p) same;
    }

pub split_read : (bytes : List ℕ) (size : ℕ) → Cut bytes size → (front back : List ℕ) (seen : Entry) → front
    ≡ take size bytes → back ≡ drop size bytes → seen ≡ entry_in front → entry_at bytes ≡ Ok (seen, back)
split_read bytes size cut front back seen f b s =
    let same : (entry_in (take size bytes), drop size bytes) ≡ (seen, back) = rw (b, s, f) refl in
    cut.read ∙ ap (λ (p : Entry × List ℕ). Ok p) same
