-- What tells of bytes that they begin with an entry as it is written.
use Rattle.std.proofs.Common.{◌≡◌, ℕ, zero, suc, ◌+◌, ◌*◌, ◌-◌, ◌^◌, ◌<◌, ◌≤◌, Bool, true, false, cond, leb, ltb, eqb}
use Rattle.std.proofs.Common.{Option, None, Some, Ok, Err, Result, List, [], ◌∷◌, ◌++◌, ◌⊎◌, inl, inr, length, take}
use Rattle.std.proofs.Common.{drop, refl, sym, ap, subst, ◌∙◌, append_assoc, arith}
use Rattle.std.specs.Prelude.{slice_index, bit_and, ◌&&◌, IfSome, IfNone}
use Rattle.std.proofs.lemmas.Bool.{leb-true, eqb-true, lt-ltb, le-ltb}
use Rattle.std.proofs.lemmas.List.{append-nil, length-append, length-drop, length-take, get_or-drop, take_at, drop_at}
use Rattle.std.proofs.lemmas.List.{drop-drop, take-append-drop}
use Rattle.byteorder.specs.Endian.{big_number, little_number}
use Rattle.byteorder.specs.Numbers.{little_from-lt, little_number-reads_back}
use Rattle.ad_bytes.specs.Reading.{IsBytes, Reading, ◌>>=◌, or_fault, many_at, TakesFront}
use Rattle.ad_bytes.specs.Numbers.{byte_at, be_at, le_at, le_bytes}
use Rattle.ad_bytes.specs.declared.input.Short.{Short as Absent}
use Rattle.ad_bytes.proofs.Steps.{both_true}
use Rattle.ad_bytes.proofs.NumberBytes.{IsBytes-take, IsBytes-drop, IsBytes-rest, low_again}
use Rattle.ad_bytes.proofs.Codec.{length-le_bytes}
use Rattle.ad_ids.specs.declared.guid.Guid.{Guid}
use Rattle.ad_ids.specs.declared.sid.SidFault.{SidFault}
use Rattle.ad_ids.specs.declared.sid.SidFault.TheVariants.{Short}
use Rattle.ad_ids.specs.Guid.{IsGuid}
use Rattle.ad_ids.specs.SidValue.{SidValue}
use Rattle.ad_ids.specs.Sid.{IsSid, SpellsSid, sid_bytes}
use Rattle.ad_ids.specs.SidReading.{header_at, sid_at}
use Rattle.ad_ids.proofs.SidCodec.{sid_reader}
use Rattle.ad_ids.proofs.SidWriting.{length-sid_bytes}
use Rattle.ad_acl.specs.declared.kind.AceKind.{AceKind}
use Rattle.ad_acl.specs.declared.kind.AceKind.TheVariants.{Allow, Deny, Audit}
use Rattle.ad_acl.specs.Entry.{Entry, type_code}
use Rattle.ad_acl.specs.Writing.{has_guid, which_of, which_bytes, guid_bytes, fixed_bytes, behind_header, entry_bytes}
use Rattle.ad_acl.specs.Writing.{IsGuidIf, IsEntry}
use Rattle.ad_acl.specs.Exact.{IsFront}
use Rattle.ad_acl.specs.Written.{BeginsWritten}
use Rattle.ad_acl.specs.Offsets.{offset_after_flags, written_offset, SaysSid, IsExact}
use Rattle.ad_acl.proofs.EntryWriting.{length-fixed_bytes, length-entry_bytes, entry_fits}

-- ---- an identifier whose header stands, and that ends within the bytes

four_read : (bytes : List ℕ) → 4 ≤ length bytes → le_at 4 bytes ≡ Ok (little_number 4 bytes, drop 4 bytes)
unfolding le_at
four_read bytes lt = rw (le-ltb (length bytes) 4 lt) refl

six_read : (bytes : List ℕ) → 6 ≤ length bytes → be_at 6 bytes ≡ Ok (big_number 6 bytes, drop 6 bytes)
unfolding be_at
six_read bytes lt = rw (le-ltb (length bytes) 6 lt) refl

numbers_read : (n : ℕ) (bytes : List ℕ) → 4 * n ≤ length bytes → (xs : List ℕ) × (rest : List ℕ)
    × (many_at (le_at 4) n bytes ≡ Ok (xs, rest))
unfolding many_at
numbers_read zero bytes lt = ([], bytes, refl)
numbers_read (suc n) bytes lt =
    let others = numbers_read n (drop 4 bytes) (omega (arith, length-drop 4 bytes)) in
    let first : le_at 4 bytes ≡ Ok (little_number 4 bytes, drop 4 bytes) = four_read bytes (omega arith) in
    (little_number 4 bytes ∷ others.0, others.1, rw (first, others.2) refl)

sid_read : (bytes : List ℕ) → slice_index bytes 0 ≡ 1 → 1 ≤ slice_index bytes 1 → slice_index bytes 1 ≤ 15 → 8
    + 4 * slice_index bytes 1 ≤ length bytes → (s : SidValue) × (rest : List ℕ) × (sid_at bytes ≡ Ok (s, rest))
unfolding sid_at header_at byte_at
sid_read [] one low high long = absurd (omega arith)
sid_read (a ∷ []) one low high long = absurd (omega arith)
sid_read (a ∷ k ∷ t) one low high long =
    let above : ltb 0 k ≡ true = lt-ltb 0 k low in
    let below : ltb k 16 ≡ true = lt-ltb k 16 (omega arith) in
    let authority : be_at 6 t ≡ Ok (big_number 6 t, drop 6 t) = six_read t (omega arith) in
    let others = numbers_read k (drop 6 t) (omega (arith, length-drop 6 t)) in (
      record { authority = big_number 6 t; sub_authorities = others.0 },
      others.1,
      rw
          (one, above, below, authority, others.2) refl,
    )

record SidStands (bytes : List ℕ) (at len : ℕ) : Type 0 where
  sid : SidValue
  is : IsSid sid
  parts : drop at bytes ≡ sid_bytes sid ++ drop (at + len) bytes

sid_stands : (bytes : List ℕ) (at len : ℕ) → IsBytes bytes → SaysSid bytes at len → at + len ≤ length bytes
    → SidStands bytes at len
unfolding sid_bytes
sid_stands bytes at len fits says long =
    let there = drop at bytes in
    let zero_at : slice_index there 0 ≡ slice_index bytes at = get_or-drop at bytes 0 0
    ∙ ap (slice_index bytes) (omega arith) in
    let one_at : slice_index there 1 ≡ slice_index bytes (at + 1) = get_or-drop at bytes 1 0 in
    let there_fits : IsBytes there = IsBytes-drop at bytes fits in
    let read = sid_read there (zero_at ∙ says.revision) (omega (arith, one_at, says.one_at_least))
    (omega (arith, one_at, says.at_most_15)) (omega (arith, one_at, says.len_is, length-drop at bytes)) in
    let t : TakesFront SpellsSid there read.0 read.1 = sid_reader.takes there read.0 read.1 there_fits read.2 in
    let parts : there ≡ sid_bytes read.0 ++ read.1 = t.parts ∙ ap (λ (x : List ℕ). x ++ read.1) t.spelled.1 in
    let count : slice_index there 1 ≡ length read.0.sub_authorities = ap (λ (x : List ℕ). slice_index x 1) parts in
    let size : length (sid_bytes read.0) ≡ len = length-sid_bytes read.0 ∙ omega (arith, count, one_at, says.len_is) in
    let rest : read.1 ≡ drop (at + len) bytes = sym (drop_at (sid_bytes read.0) read.1 len size)
    ∙ ap (drop len) (sym parts) ∙ drop-drop len at bytes in
    record { sid = read.0; is = t.spelled.0; parts = parts ∙ ap (λ (x : List ℕ). sid_bytes read.0 ++ x) rest }

-- ---- the type and the object flags

record Plain (c at : ℕ) : Type 0 where
  kind : AceKind
  code : c ≡ type_code false kind
  at_is : at ≡ 8

record Object (c w at : ℕ) : Type 0 where
  kind : AceKind
  code : c ≡ type_code true kind
  flags : ((w ≡ 1) × (at ≡ 28)) ⊎ (((w ≡ 2) × (at ≡ 28)) ⊎ ((w ≡ 3) × (at ≡ 44)))

plain_kind : (c : ℕ) → c ≤ 2 → (k : AceKind) × (c ≡ type_code false k)
plain_kind zero le = (Allow, refl)
plain_kind (suc zero) le = (Deny, refl)
plain_kind (suc (suc zero)) le = (Audit, refl)
plain_kind (suc (suc (suc c))) le = absurd (omega arith)

object_kind : (n : ℕ) → n ≤ 2 → (k : AceKind) × (5 + n ≡ type_code true k)
object_kind zero le = (Allow, refl)
object_kind (suc zero) le = (Deny, refl)
object_kind (suc (suc zero)) le = (Audit, refl)
object_kind (suc (suc (suc n))) le = absurd (omega arith)

some_same : (a b : ℕ) → Some a ≡ Some b → b ≡ a
some_same a b e = cc

none_some : {A : Type 0} (b : ℕ) → None ≡ Some b → A
none_some b e = absurd cc

flags_cases : (w at : ℕ) → offset_after_flags w ≡ Some at → ((w ≡ 1) × (at ≡ 28))
    ⊎ (((w ≡ 2) × (at ≡ 28)) ⊎ ((w ≡ 3) × (at ≡ 44)))
flags_cases w at e =
    on (eqb w 1) 28 _ e (λ t same. inl (eqb-true w 1 t, same)) (λ e1.
    on (eqb w 2) 28 _ e1 (λ t same. inr (inl (eqb-true w 2 t, same))) (λ e2.
    on (eqb w 3) 44 _ e2 (λ t same. inr (inr (eqb-true w 3 t, same))) (λ e3. none_some at e3)))
  where
    on : {P : Type 0} (b : Bool) (n : ℕ) (r : Option ℕ) → cond b (Some n) r ≡ Some at → (b ≡ true → at ≡ n → P)
        → (r ≡ Some at → P) → P
    on true n r e k l = k refl (some_same n at e)
    on false n r e k l = l e

offset_cases : (bytes : List ℕ) (at : ℕ) → written_offset bytes ≡ Some at → Plain (slice_index bytes 0) at
    ⊎ Object (slice_index bytes 0) (little_number 4 (drop 8 bytes)) at
offset_cases bytes at e = go (slice_index bytes 0) (little_number 4 (drop 8 bytes)) e
  where
    object : (c w : ℕ) (b : Bool) → leb 5 c && leb c 7 ≡ b → cond b (offset_after_flags w) None ≡ Some at
        → Object c w at
    object c w true t e =
        let both = both_true (leb 5 c) (leb c 7) t in
        let low : 5 ≤ c = leb-true 5 c both.0 in
        let high : c ≤ 7 = leb-true c 7 both.1 in
        let k = object_kind (c - 5) (omega arith) in
        let same : c ≡ 5 + (c - 5) = omega arith in
        record { kind = k.0; code = same ∙ k.1; flags = flags_cases w at e }
    object c w false t e = none_some at e

    plain : (c w : ℕ) (b : Bool) → leb c 2 ≡ b
        → cond b (Some 8) (cond (leb 5 c && leb c 7) (offset_after_flags w) None) ≡ Some at → Plain c at
        ⊎ Object c w at
    plain c w true t e = let k = plain_kind c (leb-true c 2 t)
        in inl (record { kind = k.0; code = k.1; at_is = some_same 8 at e })
    plain c w false t e = inr (object c w (leb 5 c && leb c 7) refl e)

    go : (c w : ℕ) → cond (leb c 2) (Some 8) (cond (leb 5 c && leb c 7) (offset_after_flags w) None) ≡ Some at
        → Plain c at ⊎ Object c w at
    go c w e = plain c w (leb c 2) refl e

-- ---- the pieces

header_parts : (bytes : List ℕ) → IsBytes bytes → 4 ≤ length bytes → bytes ≡ slice_index bytes 0 ∷ slice_index bytes 1
    ∷ le_bytes 2 (little_number 2 (drop 2 bytes)) ++ drop 4 bytes
unfolding le_bytes
header_parts [] fits long = absurd (omega arith)
header_parts (a ∷ []) fits long = absurd (omega arith)
header_parts (a ∷ b ∷ t) fits long =
    let two : le_bytes 2 (little_number 2 t) ≡ take 2 t = low_again 2 t (omega arith)
    (IsBytes-rest b t (IsBytes-rest a (b ∷ t) fits)) in
    ap (λ (x : List ℕ). a ∷ b ∷ x) (sym (take-append-drop 2 t) ∙ ap (λ (x : List ℕ). x ++ drop 2 t) (sym two))

word_parts : (bytes : List ℕ) (n m : ℕ) → IsBytes bytes → m ≡ n + 4 → m ≤ length bytes → drop n bytes
    ≡ le_bytes 4 (little_number 4 (drop n bytes)) ++ drop m bytes
unfolding le_bytes
word_parts bytes n m fits is long =
    let t = drop n bytes in
    let four : le_bytes 4 (little_number 4 t) ≡ take 4 t = low_again 4 t (omega (arith, length-drop n bytes))
    (IsBytes-drop n bytes fits) in
    sym (take-append-drop 4 t) ∙ ap (λ (x : List ℕ). x ++ drop 4 t) (sym four)
    ∙ ap (λ (x : List ℕ). le_bytes 4 (little_number 4 t) ++ x)
    (drop-drop 4 n bytes ∙ ap (λ (k : ℕ). drop k bytes) (sym is))

guid_parts : (bytes : List ℕ) (n m : ℕ) → m ≡ n + 16 → drop n bytes ≡ take 16 (drop n bytes) ++ drop m bytes
guid_parts bytes n m is = sym (take-append-drop 16 (drop n bytes)) ∙ ap (λ (x : List ℕ). take 16 (drop n bytes) ++ x)
    (drop-drop 16 n bytes ∙ ap (λ (k : ℕ). drop k bytes) (sym is))

abbrev guid_there : List ℕ → ℕ → Guid
guid_there bytes n = record { bytes = take 16 (drop n bytes) }

guid_is : (bytes : List ℕ) (n : ℕ) → IsBytes bytes → n + 16 ≤ length bytes → IsGuid (guid_there bytes n)
guid_is bytes n fits long = record {
  sixteen = omega (arith, length-take 16 (drop n bytes), length-drop n bytes);
  fits
      = IsBytes-take 16 (drop n bytes) (IsBytes-drop n bytes fits);
}

-- the fields of such bytes, by the GUIDs that stand
abbrev entry_of : AceKind → List ℕ → Option Guid → Option Guid → SidValue → Entry
entry_of kind bytes object inherited sid = record {
  kind = kind;
  flags = slice_index bytes 1;
  mask
      = little_number 4 (drop 4 bytes);
  object = object;
  inherited = inherited;
  sid = sid;
}

built : (bytes : List ℕ) (size : ℕ) (kind : AceKind) (object inherited : Option Guid) → IsBytes bytes
    → (x : IsExact bytes size) → (sid : SidStands bytes x.at x.len)
    → slice_index bytes 0 ≡ type_code (has_guid object inherited) kind → IsGuidIf object → IsGuidIf inherited
    → drop 4 bytes ≡ fixed_bytes (little_number 4 (drop 4 bytes)) object inherited ++ drop x.at bytes
    → BeginsWritten size bytes
unfolding entry_bytes behind_header
built bytes size kind object inherited fits x sid code o i fixed =
    let e = entry_of kind bytes object inherited sid.sid in
    let f = fixed_bytes e.mask object inherited in
    let s = sid_bytes sid.sid in
    let behind : drop 4 bytes ≡ (f ++ s) ++ drop size bytes = fixed ∙ ap (λ (t : List ℕ). f ++ t)
    (sid.parts ∙ ap (λ (n : ℕ). s ++ drop n bytes) (sym x.size_is)) ∙ sym (append_assoc f s (drop size bytes)) in
    let big : 8 ≤ size = omega (arith, x.size_is, x.sid.len_is) in
    let length_is : size ≡ 4 + length (f ++ s)
    = omega (
      arith,
      ap length behind,
      length-append (f ++ s) (drop size bytes),
      length-drop 4 bytes,
      length-drop
          size bytes,
      x.long,
    ) in
    let head = header_parts bytes fits (omega (arith, x.long)) in
    let word : little_number 4 (drop 4 bytes) < 2 ^ 32 = little_from-lt 0 4 (drop 4 bytes) (IsBytes-drop 4 bytes fits)
    in
    record {
      entry = e;
      is = record { flags = fits 1; clear = x.clear; mask = word; object = o; inherited = i; sid = sid.is };
      size_is = length_is ∙ sym (length-entry_bytes e);
      parts = head
          ∙ ap (λ (n : ℕ). n ∷ slice_index bytes 1 ∷ le_bytes 2 (little_number 2 (drop 2 bytes)) ++ drop 4 bytes) code
          ∙ ap (λ (n : ℕ). type_code (has_guid object inherited) kind ∷ slice_index bytes 1 ∷ le_bytes 2 n
          ++ drop 4 bytes) (x.said ∙ length_is)
          ∙ ap (λ (t : List ℕ). type_code (has_guid object inherited) kind ∷ slice_index bytes 1
          ∷ le_bytes 2 (4 + length (f ++ s)) ++ t) behind
          ∙ sym (append_assoc (type_code (has_guid object inherited) kind ∷ slice_index bytes 1
          ∷ le_bytes 2 (4 + length (f ++ s))) (f ++ s) (drop size bytes));
    }

-- the fields between header and identifier, in each of the four forms
plain_fixed : (bytes : List ℕ) (at : ℕ) → IsBytes bytes → 8 ≤ length bytes → at ≡ 8 → drop 4 bytes
    ≡ fixed_bytes (little_number 4 (drop 4 bytes)) None None ++ drop at bytes
unfolding fixed_bytes
plain_fixed bytes at fits long is =
    word_parts bytes 4 at fits is (omega arith) ∙ ap (λ (t : List ℕ). t ++ drop at bytes)
    (sym (append-nil (le_bytes 4 (little_number 4 (drop 4 bytes)))))

flags_fixed : (bytes : List ℕ) (w : ℕ) (after : List ℕ) → IsBytes bytes → 12 ≤ length bytes
    → little_number 4 (drop 8 bytes) ≡ w → drop 12 bytes ≡ after
    → drop 4 bytes ≡ le_bytes 4 (little_number 4 (drop 4 bytes)) ++ (le_bytes 4 w ++ after)
flags_fixed bytes w after fits long which is =
    word_parts bytes 4 8 fits refl (omega arith)
    ∙ ap (λ (t : List ℕ). le_bytes 4 (little_number 4 (drop 4 bytes)) ++ t)
    (word_parts bytes 8 12 fits refl long ∙ rw (which, is) refl)

object_fixed : (bytes : List ℕ) (at : ℕ) → IsBytes bytes → 28 ≤ length bytes → little_number 4 (drop 8 bytes) ≡ 1 → at
    ≡ 28
    → drop 4 bytes ≡ fixed_bytes (little_number 4 (drop 4 bytes)) (Some (guid_there bytes 12)) None ++ drop at bytes
unfolding fixed_bytes
object_fixed bytes at fits long which is =
    flags_fixed bytes 1 (take 16 (drop 12 bytes) ++ drop at bytes) fits (omega arith) which (guid_parts bytes 12 at is)
    ∙ regroup (le_bytes 4 (little_number 4 (drop 4 bytes))) (le_bytes 4 1) (take 16 (drop 12 bytes)) (drop at bytes)
  where
    regroup : (m w g r : List ℕ) → m ++ (w ++ (g ++ r)) ≡ (m ++ (w ++ (g ++ []))) ++ r
    regroup m w g r = simp (append-nil, append_assoc)

inherited_fixed : (bytes : List ℕ) (at : ℕ) → IsBytes bytes → 28 ≤ length bytes → little_number 4 (drop 8 bytes) ≡ 2
    → at ≡ 28
    → drop 4 bytes ≡ fixed_bytes (little_number 4 (drop 4 bytes)) None (Some (guid_there bytes 12)) ++ drop at bytes
unfolding fixed_bytes
inherited_fixed bytes at fits long which is =
    flags_fixed bytes 2 (take 16 (drop 12 bytes) ++ drop at bytes) fits (omega arith) which (guid_parts bytes 12 at is)
    ∙ regroup (le_bytes 4 (little_number 4 (drop 4 bytes))) (le_bytes 4 2) (take 16 (drop 12 bytes)) (drop at bytes)
  where
    regroup : (m w g r : List ℕ) → m ++ (w ++ (g ++ r)) ≡ (m ++ (w ++ g)) ++ r
    regroup m w g r = simp append_assoc

both_fixed : (bytes : List ℕ) (at : ℕ) → IsBytes bytes → 44 ≤ length bytes → little_number 4 (drop 8 bytes) ≡ 3 → at
    ≡ 44
    → drop 4 bytes ≡ fixed_bytes (little_number 4 (drop 4 bytes)) (Some (guid_there bytes 12))
    (Some (guid_there bytes 28)) ++ drop at bytes
unfolding fixed_bytes
both_fixed bytes at fits long which is =
    flags_fixed bytes 3 (take 16 (drop 12 bytes) ++ (take 16 (drop 28 bytes) ++ drop at bytes)) fits (omega arith) which
    (guid_parts bytes 12 28 refl ∙ ap (λ (t : List ℕ). take 16 (drop 12 bytes) ++ t) (guid_parts bytes 28 at is))
    ∙ regroup (le_bytes 4 (little_number 4 (drop 4 bytes))) (le_bytes 4 3) (take 16 (drop 12 bytes))
    (take 16 (drop 28 bytes)) (drop at bytes)
  where
    regroup : (m w g h r : List ℕ) → m ++ (w ++ (g ++ (h ++ r))) ≡ (m ++ (w ++ (g ++ h))) ++ r
    regroup m w g h r = simp append_assoc

-- bytes of which this tells begin with an entry as it is written
pub exact_written : (bytes : List ℕ) (size : ℕ) → IsBytes bytes → IsExact bytes size → BeginsWritten size bytes
exact_written bytes size fits x =
    let reach : x.at + 8 ≤ length bytes = omega (arith, x.long, x.size_is, x.sid.len_is) in
    let sid = sid_stands bytes x.at x.len fits x.sid (omega (arith, x.long, x.size_is)) in
    elim (offset_cases bytes x.at x.offset) [
      | inl p ↦ built bytes size p.kind None None fits x sid p.code tt tt
          (plain_fixed bytes x.at fits (omega (arith, p.at_is)) p.at_is)
      | inr o ↦ elim o.flags [
        | inl w ↦ built bytes size o.kind (Some (guid_there bytes 12)) None fits x sid o.code
            (guid_is bytes 12 fits (omega (arith, w.1))) tt
            (object_fixed bytes x.at fits (omega (arith, w.1)) w.0 w.1)
        | inr (inl w) ↦ built bytes size o.kind None (Some (guid_there bytes 12)) fits x sid o.code tt
            (guid_is bytes 12 fits (omega (arith, w.1)))
            (inherited_fixed bytes x.at fits (omega (arith, w.1)) w.0 w.1)
        | inr (inr w) ↦ built bytes size o.kind (Some (guid_there bytes 12)) (Some (guid_there bytes 28)) fits x sid
            o.code (guid_is bytes 12 fits (omega (arith, w.1))) (guid_is bytes 28 fits (omega (arith, w.1)))
            (both_fixed bytes x.at fits (omega (arith, w.1)) w.0 w.1)
      ]
    ]

-- ---- the other way

abbrev offset_of : Option Guid → Option Guid → ℕ
offset_of None None = 8
offset_of None (Some i) = 28
offset_of (Some o) None = 28
offset_of (Some o) (Some i) = 44

offset_is : (o i : Option Guid) (k : AceKind) (c w : ℕ) → c ≡ type_code (has_guid o i) k
    → (has_guid o i ≡ true → w ≡ which_of o i)
    → cond (leb c 2) (Some 8) (cond (leb 5 c && leb c 7) (offset_after_flags w) None) ≡ Some (offset_of o i)
offset_is None None Allow c w e f = rw e refl
offset_is None None Deny c w e f = rw e refl
offset_is None None Audit c w e f = rw e refl
offset_is None (Some i) Allow c w e f = let g : w ≡ 2 = f refl in rw (e, g) refl
offset_is None (Some i) Deny c w e f = let g : w ≡ 2 = f refl in rw (e, g) refl
offset_is None (Some i) Audit c w e f = let g : w ≡ 2 = f refl in rw (e, g) refl
offset_is (Some o) None Allow c w e f = let g : w ≡ 1 = f refl in rw (e, g) refl
offset_is (Some o) None Deny c w e f = let g : w ≡ 1 = f refl in rw (e, g) refl
offset_is (Some o) None Audit c w e f = let g : w ≡ 1 = f refl in rw (e, g) refl
offset_is (Some o) (Some i) Allow c w e f = let g : w ≡ 3 = f refl in rw (e, g) refl
offset_is (Some o) (Some i) Deny c w e f = let g : w ≡ 3 = f refl in rw (e, g) refl
offset_is (Some o) (Some i) Audit c w e f = let g : w ≡ 3 = f refl in rw (e, g) refl

offset_fixed : (mask : ℕ) (o i : Option Guid) → IsGuidIf o → IsGuidIf i → 4 + length (fixed_bytes mask o i)
    ≡ offset_of o i
offset_fixed mask None None x y = omega (arith, length-fixed_bytes mask None None)
offset_fixed mask None (Some i) x y = omega
    (arith, length-fixed_bytes mask None (Some i), length-le_bytes 4 2, y.sixteen)
offset_fixed mask (Some o) None x y = omega
    (arith, length-fixed_bytes mask (Some o) None, length-le_bytes 4 1, x.sixteen)
offset_fixed mask (Some o) (Some i) x y = omega
    (arith, length-fixed_bytes mask (Some o) (Some i), length-le_bytes 4 3, x.sixteen, y.sixteen)

which_number : (mask : ℕ) (o i : Option Guid) (rest : List ℕ) → has_guid o i ≡ true
    → little_number 4 (drop 4 (fixed_bytes mask o i ++ rest)) ≡ which_of o i
unfolding fixed_bytes le_bytes
which_number mask None None rest e = absurd cc
which_number mask None (Some i) rest e = refl
which_number mask (Some o) None rest e = refl
which_number mask (Some o) (Some i) rest e = refl

-- this tells of bytes that begin with an entry as it is written
pub written_exact : (bytes : List ℕ) (e : Entry) → IsEntry e → IsFront (entry_bytes e) bytes
    → IsExact bytes (length (entry_bytes e))
unfolding entry_bytes behind_header sid_bytes le_bytes
written_exact bytes e is front =
    let f = fixed_bytes e.mask e.object e.inherited in
    let s = sid_bytes e.sid in
    let at = offset_of e.object e.inherited in
    let len = 8 + 4 * length e.sid.sub_authorities in
    let n = 4 + length (f ++ s) in
    let code = type_code (has_guid e.object e.inherited) e.kind in
    let head : List ℕ = code ∷ e.flags ∷ le_bytes 2 n in
    let more = front.behind in
    let parts : bytes ≡ head ++ (f ++ (s ++ more)) = front.parts ∙ append_assoc head (f ++ s) more
    ∙ ap (λ (t : List ℕ). head ++ t) (append_assoc f s more) in
    let fixed : 4 + length f ≡ at = offset_fixed e.mask e.object e.inherited is.object is.inherited in
    let four : drop 4 bytes ≡ f ++ (s ++ more) = ap (drop 4) parts in
    let after : drop at bytes ≡ s ++ more = ap (λ (k : ℕ). drop k bytes) (sym fixed)
    ∙ sym (drop-drop (length f) 4 bytes) ∙ ap (drop (length f)) four ∙ drop_at f (s ++ more) (length f) refl in
    let size : n ≡ at + len = omega (arith, length-append f s, length-sid_bytes e.sid) in
    let same : length (entry_bytes e) ≡ n = length-entry_bytes e in
    let which : (has_guid e.object e.inherited ≡ true → little_number 4 (drop 8 bytes)
    ≡ which_of e.object e.inherited) = λ h. ap (little_number 4) (sym (drop-drop 4 4 bytes) ∙ ap (drop 4) four)
    ∙ which_number e.mask e.object e.inherited (s ++ more) h in
    let count : slice_index bytes (at + 1) ≡ length e.sid.sub_authorities = sym (get_or-drop at bytes 1 0)
    ∙ ap (λ (t : List ℕ). slice_index t 1) after in
    let zero_at : at ≡ at + 0 = omega arith in
    record {
      at = at;
      len = len;
      offset = offset_is e.object e.inherited e.kind (slice_index bytes 0) (little_number 4 (drop 8 bytes))
          (ap (λ (t : List ℕ). slice_index t 0) parts) which;
      sid = record {
        revision = ap (slice_index bytes) zero_at ∙ sym (get_or-drop at bytes 0 0)
            ∙ ap (λ (t : List ℕ). slice_index t 0) after;
        one_at_least = omega (arith, count, is.sid.at_least_one);
        at_most_15 = omega (arith, count, is.sid.at_most_15);
        len_is = omega (arith, count);
      };
      clear = ap (λ (t : List ℕ). bit_and (slice_index t 1) 32) parts ∙ is.clear;
      size_is = same ∙ size;
      said = ap (λ (t : List ℕ). little_number 2 (drop 2 t)) parts ∙ little_number-reads_back 2 n (f ++ (s ++ more))
          (omega (arith, same, entry_fits e is)) ∙ sym same;
      long = omega (arith, ap length front.parts, length-append (entry_bytes e) more);
    }

pub some_written : (bytes : List ℕ) → IsBytes bytes → (r : Option ℕ) → IfSome r (λ size. IsExact bytes size)
    → IfSome r (λ size. BeginsWritten size bytes)
some_written bytes fits None x = x
some_written bytes fits (Some size) x = exact_written bytes size fits x

pub none_written : (bytes : List ℕ) (r : Option ℕ) → IfNone r ((size : ℕ) → IsExact bytes size → ⊥)
    → IfNone r ((e : Entry) → IsEntry e → IsFront (entry_bytes e) bytes → ⊥)
none_written bytes None x = λ e is front. x (length (entry_bytes e)) (written_exact bytes e is front)
none_written bytes (Some size) x = x
