-- What is written of a descriptor is an encoding of it.
use Rattle.std.proofs.Common.{◌≡◌, inr, ℕ, ◌+◌, ◌^◌, ◌<◌, ◌≤◌, Bool, true, false, cond, Option, None, Some, List, []}
use Rattle.std.proofs.Common.{◌++◌, length, refl, sym, ◌∙◌, append_assoc, arith}
use Rattle.std.specs.Option.{is_some}
use Rattle.std.proofs.lemmas.List.{append-nil, length-append}
use Rattle.ad_bytes.specs.Numbers.{le_bytes}
use Rattle.ad_bytes.proofs.Codec.{length-le_bytes}
use Rattle.ad_ids.specs.SidValue.{SidValue}
use Rattle.ad_acl.specs.Entry.{says}
use Rattle.ad_sd.specs.declared.parts.AceList.{AceList}
use Rattle.ad_sd.specs.declared.parts.SdParts.{SdParts}
use Rattle.ad_sd.specs.Sd.{dacl_present, sacl_present, dacl_protected, sacl_protected, SpellsSidAt, SpellsSacl}
use Rattle.ad_sd.specs.Sd.{SpellsDacl, headed, SpellsParts}
use Rattle.ad_sd.specs.Writing.{sid_part, IsSidIf, SpellsListIf, dacl_bits, sacl_bits, offset_if, laid_out}

-- ---- the control bits

abbrev control : Option AceList → Option AceList → ℕ
control dacl sacl = 0x8000 + dacl_bits dacl + sacl_bits sacl

both_dacl : (d s : Bool) → (says (0x8000 + cond d 0x1404 0x404 + cond s 0x2810 0x810) 4 ≡ true)
    × (says (0x8000 + cond d 0x1404 0x404 + cond s 0x2810 0x810) 0x1000 ≡ d)
both_dacl true true = (refl, refl)
both_dacl true false = (refl, refl)
both_dacl false true = (refl, refl)
both_dacl false false = (refl, refl)

both_sacl : (d s : Bool) → (says (0x8000 + cond d 0x1404 0x404 + cond s 0x2810 0x810) 0x10 ≡ true)
    × (says (0x8000 + cond d 0x1404 0x404 + cond s 0x2810 0x810) 0x2000 ≡ s)
both_sacl true true = (refl, refl)
both_sacl true false = (refl, refl)
both_sacl false true = (refl, refl)
both_sacl false false = (refl, refl)

one_dacl : (d : Bool) → (says (0x8000 + cond d 0x1404 0x404 + 0) 4 ≡ true)
    × (says (0x8000 + cond d 0x1404 0x404 + 0) 0x1000 ≡ d) × (says (0x8000 + cond d 0x1404 0x404 + 0) 0x10 ≡ false)
one_dacl true = (refl, refl, refl)
one_dacl false = (refl, refl, refl)

one_sacl : (s : Bool) → (says (0x8000 + 0 + cond s 0x2810 0x810) 0x10 ≡ true)
    × (says (0x8000 + 0 + cond s 0x2810 0x810) 0x2000 ≡ s) × (says (0x8000 + 0 + cond s 0x2810 0x810) 4 ≡ false)
one_sacl true = (refl, refl, refl)
one_sacl false = (refl, refl, refl)

dacl_told : (list : AceList) (sacl : Option AceList) → (says (control (Some list) sacl) dacl_present ≡ true)
    × (says (control (Some list) sacl) dacl_protected ≡ list.protected)
dacl_told list None = ((one_dacl list.protected).0, (one_dacl list.protected).1)
dacl_told list (Some other) = both_dacl list.protected other.protected

dacl_absent : (sacl : Option AceList) → says (control None sacl) dacl_present ≡ false
dacl_absent None = refl
dacl_absent (Some list) = (one_sacl list.protected).2

sacl_told : (list : AceList) (dacl : Option AceList) → (says (control dacl (Some list)) sacl_present ≡ true)
    × (says (control dacl (Some list)) sacl_protected ≡ list.protected)
sacl_told list None = ((one_sacl list.protected).0, (one_sacl list.protected).1)
sacl_told list (Some other) = both_sacl other.protected list.protected

bits_fit : (b : Bool) (x y : ℕ) → x ≤ 0x3000 → y ≤ 0x3000 → cond b x y ≤ 0x3000
bits_fit true x y p q = p
bits_fit false x y p q = q

dacl_fits : (dacl : Option AceList) → dacl_bits dacl ≤ 0x3000
dacl_fits None = omega arith
dacl_fits (Some list) = bits_fit list.protected 0x1404 0x404 (omega arith) (omega arith)

sacl_fits : (sacl : Option AceList) → sacl_bits sacl ≤ 0x3000
sacl_fits None = omega arith
sacl_fits (Some list) = bits_fit list.protected 0x2810 0x810 (omega arith) (omega arith)

-- ---- the offsets

offset_fits : (b : Bool) (at : ℕ) → at < 2 ^ 32 → offset_if b at < 2 ^ 32
offset_fits true at lt = lt
offset_fits false at lt = omega arith

sid_stands : (o : Option SidValue) (bytes before behind : List ℕ) (at : ℕ) → IsSidIf o → bytes ≡ before
    ++ (sid_part o ++ behind) → length before ≡ at → 0 < at → SpellsSidAt bytes (offset_if (is_some o) at) o
sid_stands None bytes before behind at h parts place pos = refl
sid_stands (Some sid) bytes before behind at h parts place pos
    = (
      pos,
      record {
        before = before;
        text = sid_part (Some sid);
        behind = behind;
        place = place;
        parts
            = parts;
        spelled = (h, refl);
      },
    )

sacl_stands : (sacl dacl : Option AceList) (bytes before text behind : List ℕ) (at : ℕ) → SpellsListIf sacl text
    → bytes ≡ before ++ (text ++ behind) → length before ≡ at → 0 < at → SpellsSacl bytes (control dacl sacl)
    (offset_if (is_some sacl) at) sacl
sacl_stands None dacl bytes before text behind at h parts place pos = inr refl
sacl_stands (Some list) dacl bytes before text behind at h parts place pos =
    let told = sacl_told list dacl in (
      told.0,
      record {
        not_null = pos;
        protected_is = sym told.1;
        entries
            = record { before = before; text = text; behind = behind; place = place; parts = parts; spelled = h };
      },
    )

dacl_stands : (dacl sacl : Option AceList) (bytes before text behind : List ℕ) (at : ℕ) → SpellsListIf dacl text
    → bytes ≡ before ++ (text ++ behind) → length before ≡ at → 0 < at → SpellsDacl bytes (control dacl sacl)
    (offset_if (is_some dacl) at) dacl
dacl_stands None sacl bytes before text behind at h parts place pos = dacl_absent sacl
dacl_stands (Some list) sacl bytes before text behind at h parts place pos =
    let told = dacl_told list sacl in (
      told.0,
      record {
        not_null = pos;
        protected_is = sym told.1;
        entries
            = record { before = before; text = text; behind = behind; place = place; parts = parts; spelled = h };
      },
    )

-- ---- the whole

-- the bytes of a header
abbrev head : ℕ → ℕ → ℕ → ℕ → ℕ → List ℕ
head c o g s d = headed 1 0 c o g s d []

length-head : (c o g s d : ℕ) → length (head c o g s d) ≡ 20
length-head c o g s d =
    omega (
      arith,
      length-append (le_bytes 2 c)
          (le_bytes 4 o ++ (le_bytes 4 g ++ (le_bytes 4 s ++ (le_bytes 4 d ++ [])))),
      length-append (le_bytes 4 o)
          (le_bytes 4 g ++ (le_bytes 4 s ++ (le_bytes 4 d ++ []))),
      length-append (le_bytes 4 g)
          (le_bytes 4 s ++ (le_bytes 4 d ++ [])),
      length-append (le_bytes 4 s) (le_bytes 4 d ++ []),
      length-append
          (le_bytes 4 d) [],
      length-le_bytes 2 c,
      length-le_bytes 4 o,
      length-le_bytes 4 g,
      length-le_bytes 4 s,
      length-le_bytes 4 d,
    )

behind_head : (c o g s d : ℕ) (rest : List ℕ) → headed 1 0 c o g s d rest ≡ head c o g s d ++ rest
behind_head c o g s d rest = simp append_assoc

-- four pieces after a head, seen from each of them
second : (h a b r : List ℕ) → h ++ (a ++ (b ++ r)) ≡ (h ++ a) ++ (b ++ r)
second h a b r = sym (append_assoc h a (b ++ r))

third : (h a b c r : List ℕ) → h ++ (a ++ (b ++ (c ++ r))) ≡ ((h ++ a) ++ b) ++ (c ++ r)
third h a b c r = simp append_assoc

fourth : (h a b c d : List ℕ) → h ++ (a ++ (b ++ (c ++ d))) ≡ (((h ++ a) ++ b) ++ c) ++ (d ++ [])
fourth h a b c d = simp (append_assoc, append-nil)

pub laid_spelled : (p : SdParts) (sacl dacl : List ℕ) → IsSidIf p.owner → IsSidIf p.group → SpellsListIf p.sacl sacl
    → SpellsListIf p.dacl dacl
    → length (sid_part p.owner) ≤ 68 → length (sid_part p.group) ≤ 68 → length sacl ≤ 65535
    → SpellsParts p (laid_out p sacl dacl)
unfolding laid_out
laid_spelled p sacl dacl owner_is group_is sacl_is dacl_is owner_few group_few sacl_few =
    let owner = sid_part p.owner in
    let group = sid_part p.group in
    let c = control p.dacl p.sacl in
    let o = offset_if (is_some p.owner) 20 in
    let g = offset_if (is_some p.group) (20 + length owner) in
    let s = offset_if (is_some p.sacl) (20 + length owner + length group) in
    let d = offset_if (is_some p.dacl) (20 + length owner + length group + length sacl) in
    let h = head c o g s d in
    let rest = owner ++ (group ++ (sacl ++ dacl)) in
    let whole : laid_out p sacl dacl ≡ h ++ rest = behind_head c o g s d rest in
    let long : length h ≡ 20 = length-head c o g s d in
    record {
      free = 0;
      control = c;
      owner = o;
      group = g;
      sacl = s;
      dacl = d;
      behind = rest;
      control_fits = omega (arith, dacl_fits p.dacl, sacl_fits p.sacl);
      owner_fits = offset_fits (is_some p.owner) 20 (omega arith);
      group_fits = offset_fits (is_some p.group) (20 + length owner) (omega (arith, owner_few));
      sacl_fits = offset_fits (is_some p.sacl) (20 + length owner + length group) (omega (arith, owner_few, group_few));
      dacl_fits = offset_fits (is_some p.dacl) (20 + length owner + length group + length sacl)
          (omega (arith, owner_few, group_few, sacl_few));
      header = refl;
      owner_is = sid_stands p.owner (laid_out p sacl dacl) h (group ++ (sacl ++ dacl)) 20 owner_is whole long
          (omega arith);
      group_is = sid_stands p.group (laid_out p sacl dacl) (h ++ owner) (sacl ++ dacl) (20 + length owner) group_is
          (whole ∙ second h owner group (sacl ++ dacl)) (omega (arith, long, length-append h owner)) (omega arith);
      sacl_is = sacl_stands p.sacl p.dacl (laid_out p sacl dacl) ((h ++ owner) ++ group) sacl dacl
          (20 + length owner + length group) sacl_is (whole ∙ third h owner group sacl dacl)
          (omega (arith, long, length-append h owner, length-append (h ++ owner) group)) (omega arith);
      dacl_is = dacl_stands p.dacl p.sacl (laid_out p sacl dacl) (((h ++ owner) ++ group) ++ sacl) dacl []
          (20 + length owner + length group + length sacl) dacl_is (whole ∙ fourth h owner group sacl dacl)
          (omega (
            arith,
            long,
            length-append h owner,
            length-append (h ++ owner) group,
            length-append
                ((h ++ owner) ++ group) sacl,
          )) (omega arith);
    }
