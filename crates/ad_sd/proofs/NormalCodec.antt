-- Normal bytes, piece by piece: none begin others.
use Rattle.std.proofs.Common.{◌≡◌, ℕ, Bool, true, false, List, ◌∷◌, ◌++◌, length, refl, sym, ◌∙◌, append_assoc, arith}
use Rattle.std.specs.List.{flat_map}
use Rattle.ad_bytes.specs.Reading.{many_at, SpellsMany}
use Rattle.ad_bytes.specs.Numbers.{be_at, be_bytes, SpellsBe}
use Rattle.ad_bytes.proofs.Codec.{be_reader}
use Rattle.ad_bytes.proofs.Many.{many_reader, spellings_apart}
use Rattle.ad_ids.specs.SidValue.{SidValue}
use Rattle.ad_ids.specs.Sid.{SpellsSid, sid_bytes}
use Rattle.ad_ids.specs.SidReading.{sid_at}
use Rattle.ad_ids.proofs.SidCodec.{sid_reader}
use Rattle.ad_acl.specs.Entry.{Entry, SpellsEntry}
use Rattle.ad_acl.specs.Reading.{entry_at}
use Rattle.ad_acl.specs.Writing.{entry_bytes}
use Rattle.ad_acl.proofs.EntryCodec.{entry_reader}
use Rattle.ad_acl.proofs.ListWriting.{each_spelled}
use Rattle.ad_sd.specs.declared.parts.Sd.{Sd}
use Rattle.ad_sd.specs.Normal.{marks_of, entries_bytes, normal_bytes, AreEntries, IsSd}

-- the marks are those of one pair
pub marks_apart : (a b c d : Bool) → marks_of a b ≡ marks_of c d → (a ≡ c) × (b ≡ d)
marks_apart false false false false e = (refl, refl)
marks_apart false false true false e = absurd (omega (arith, e))
marks_apart false false false true e = absurd (omega (arith, e))
marks_apart false false true true e = absurd (omega (arith, e))
marks_apart true false false false e = absurd (omega (arith, e))
marks_apart true false true false e = (refl, refl)
marks_apart true false false true e = absurd (omega (arith, e))
marks_apart true false true true e = absurd (omega (arith, e))
marks_apart false true false false e = absurd (omega (arith, e))
marks_apart false true true false e = absurd (omega (arith, e))
marks_apart false true false true e = (refl, refl)
marks_apart false true true true e = absurd (omega (arith, e))
marks_apart true true false false e = absurd (omega (arith, e))
marks_apart true true true false e = absurd (omega (arith, e))
marks_apart true true false true e = absurd (omega (arith, e))
marks_apart true true true true e = (refl, refl)

-- the same entries, and the same after them
pub entries_apart : (a b : List Entry) (r s : List ℕ) → AreEntries a → AreEntries b → entries_bytes a ++ r
    ≡ entries_bytes b ++ s → (a ≡ b) × (r ≡ s)
unfolding entries_bytes
entries_apart a b r s ha hb e =
    let na = be_bytes 8 (length a) in
    let nb = be_bytes 8 (length b) in
    let ta = flat_map entry_bytes a in
    let tb = flat_map entry_bytes b in
    let parted : na ++ (ta ++ r) ≡ nb ++ (tb ++ s) = sym (append_assoc na ta r) ∙ e ∙ append_assoc nb tb s in
    let count = spellings_apart (SpellsBe 8) (be_at 8) (be_reader 8) (length a) (length b) na nb (ta ++ r) (tb ++ s)
    (ha.count, refl) (hb.count, refl) parted in
    let one : SpellsMany SpellsEntry (length b) a ta = (count.0, each_spelled a ha.each) in
    let two : SpellsMany SpellsEntry (length b) b tb = (refl, each_spelled b hb.each) in
    let each = spellings_apart (SpellsMany SpellsEntry (length b)) (many_at entry_at (length b))
    (many_reader SpellsEntry entry_at entry_reader (length b)) a b ta tb r s one two count.2 in
    (each.0, each.2)

cons_head : (a b : ℕ) (x y : List ℕ) → a ∷ x ≡ b ∷ y → a ≡ b
cons_head a b x y e = cc

cons_tail : (a b : ℕ) (x y : List ℕ) → a ∷ x ≡ b ∷ y → x ≡ y
cons_tail a b x y e = cc

abbrev sd : SidValue → SidValue → Bool → List Entry → Bool → List Entry → Sd
sd owner group p dacl q sacl = record {
  owner = owner;
  group = group;
  dacl = record { protected = p; entries = dacl };
  sacl = record { protected = q; entries = sacl };
}

regroup : (o g d s r : List ℕ) → (o ++ (g ++ (d ++ s))) ++ r ≡ o ++ (g ++ (d ++ (s ++ r)))
regroup o g d s r = simp append_assoc

-- what stands after each is the same too
pub normal_apart : (a b : Sd) (r s : List ℕ) → IsSd a → IsSd b → normal_bytes a ++ r ≡ normal_bytes b ++ s → a ≡ b
unfolding normal_bytes
normal_apart a b r s ha hb e =
    let ma = marks_of a.dacl.protected a.sacl.protected in
    let mb = marks_of b.dacl.protected b.sacl.protected in
    let oa = sid_bytes a.owner in
    let ob = sid_bytes b.owner in
    let ga = sid_bytes a.group in
    let gb = sid_bytes b.group in
    let da = entries_bytes a.dacl.entries in
    let db = entries_bytes b.dacl.entries in
    let ca = entries_bytes a.sacl.entries in
    let cb = entries_bytes b.sacl.entries in
    let marks = marks_apart a.dacl.protected a.sacl.protected b.dacl.protected b.sacl.protected
    (cons_head ma mb ((oa ++ (ga ++ (da ++ ca))) ++ r) ((ob ++ (gb ++ (db ++ cb))) ++ s) e) in
    let behind : oa ++ (ga ++ (da ++ (ca ++ r))) ≡ ob ++ (gb ++ (db ++ (cb ++ s))) =
    sym (regroup oa ga da ca r) ∙ cons_tail ma mb ((oa ++ (ga ++ (da ++ ca))) ++ r) ((ob ++ (gb ++ (db ++ cb))) ++ s)
    e ∙ regroup ob gb db cb s in
    let owner = spellings_apart SpellsSid sid_at sid_reader a.owner b.owner oa ob (ga ++ (da ++ (ca ++ r)))
    (gb ++ (db ++ (cb ++ s))) (ha.owner, refl) (hb.owner, refl) behind in
    let group = spellings_apart SpellsSid sid_at sid_reader a.group b.group ga gb (da ++ (ca ++ r)) (db ++ (cb ++ s))
    (ha.group, refl) (hb.group, refl) owner.2 in
    let dacl = entries_apart a.dacl.entries b.dacl.entries (ca ++ r) (cb ++ s) ha.dacl hb.dacl group.2 in
    let sacl = entries_apart a.sacl.entries b.sacl.entries r s ha.sacl hb.sacl dacl.1 in
    let same : sd a.owner a.group a.dacl.protected a.dacl.entries a.sacl.protected a.sacl.entries
    ≡ sd b.owner b.group b.dacl.protected b.dacl.entries b.sacl.protected b.sacl.entries =
    rw (owner.0, group.0, marks.0, dacl.0, marks.1, sacl.0) refl in
    same
