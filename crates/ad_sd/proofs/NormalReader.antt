-- Normal bytes are read exactly as they are written.
use Rattle.std.proofs.Common.{◌≡◌, ℕ, zero, suc, ◌^◌, ◌<◌, Bool, true, false, ltb, List, [], ◌∷◌, ◌++◌, length, Ok}
use Rattle.std.proofs.Common.{Err, refl, sym, ap, subst, ◌∙◌, append_assoc, arith}
use Rattle.std.specs.List.{flat_map, AllByRecursion}
use Rattle.std.proofs.lemmas.Bool.{eqb-true, ltb-true}
use Rattle.std.proofs.lemmas.List.{append-nil}
use Rattle.ad_bytes.specs.Reading.{IsBytes, Reading, or_fault, many_at, TakesFront, SpellsEach, SpellsMany}
use Rattle.ad_bytes.specs.Numbers.{byte_at, be_at, be_bytes, SpellsBe}
use Rattle.ad_bytes.proofs.Steps.{from_bind, from_need, from_or_fault, from_ok}
use Rattle.ad_bytes.proofs.Codec.{byte_parts, be_reader, rest_fits}
use Rattle.ad_bytes.proofs.NumberBytes.{IsBytes-rest}
use Rattle.ad_bytes.proofs.Many.{many_reader}
use Rattle.ad_ids.specs.SidValue.{SidValue}
use Rattle.ad_ids.specs.Sid.{SpellsSid, sid_bytes}
use Rattle.ad_ids.specs.SidReading.{sid_at}
use Rattle.ad_ids.proofs.SidCodec.{sid_reader}
use Rattle.ad_acl.specs.Entry.{Entry, says}
use Rattle.ad_acl.specs.Writing.{IsEntry, entry_bytes}
use Rattle.ad_sd.specs.declared.exact.NotNormal.{NotNormal}
use Rattle.ad_sd.specs.declared.parts.Sd.{Sd}
use Rattle.ad_sd.specs.Normal.{marks_of, entries_bytes, normal_bytes, AreEntries, SpellsNormal}
use Rattle.ad_sd.specs.SdIn.{given, is_alone, sd_in, is_normal}
use Rattle.ad_sd.specs.NormalReading.{not_normal, entry_exactly_at, entries_exactly_at, normal_at}
use Rattle.ad_sd.proofs.ExactCodec.{SpellsExactly, exactly_reader, counted}

-- ---- entries after their count

abbrev pub SpellsEntries : List Entry → List ℕ → Type 0
SpellsEntries es text = AreEntries es × (text ≡ entries_bytes es)

each_is : (es : List Entry) (text : List ℕ) → SpellsEach SpellsExactly es text → AllByRecursion IsEntry es
    × (text ≡ flat_map entry_bytes es)
each_is [] text s = (tt, s)
each_is (e ∷ es) text s =
    let others = each_is es s.behind s.follows in (
      (s.spelled.0, others.0),
      s.parts ∙ ap (λ (t : List ℕ). t ++ s.behind) s.spelled.1
          ∙ ap (λ (t : List ℕ). entry_bytes e ++ t) others.1,
    )

is_each : (es : List Entry) → AllByRecursion IsEntry es → SpellsEach SpellsExactly es (flat_map entry_bytes es)
is_each [] all = refl
is_each (e ∷ es) all = record {
  front = entry_bytes e;
  behind = flat_map entry_bytes es;
  parts = refl;
  spelled
      = (all.0, refl);
  follows = is_each es all.1;
}

entries_takes : (bytes : List ℕ) (v : List Entry) (rest : List ℕ) → IsBytes bytes → entries_exactly_at bytes
    ≡ Ok (v, rest) → TakesFront SpellsEntries bytes v rest
unfolding entries_exactly_at entries_bytes
entries_takes bytes v rest fits e =
    from_bind (or_fault not_normal (be_at 8 bytes)) _ (v, rest) e
    (λ (n : ℕ × List ℕ)
    (e1 : or_fault not_normal (be_at 8 bytes) ≡ Ok n) (e2 : many_at entry_exactly_at n.0 n.1 ≡ Ok (v, rest)).
    let t : TakesFront (SpellsBe 8) bytes n.0 n.1 = (be_reader 8).takes bytes n.0 n.1 fits
    (from_or_fault not_normal (be_at 8 bytes) n e1) in
    let u : TakesFront (SpellsMany SpellsExactly n.0) n.1 v rest
    = (many_reader SpellsExactly entry_exactly_at exactly_reader n.0).takes n.1 v rest
    (rest_fits (SpellsBe 8) bytes n.0 n.1 fits t) e2 in
    let each = each_is v u.text u.spelled.1 in
    let count : n.0 ≡ length v = sym u.spelled.0 in
    record {
      text = entries_bytes v;
      parts = t.parts ∙ ap (λ (r : List ℕ). r ++ n.1) (t.spelled.1 ∙ ap (be_bytes 8) count)
          ∙ ap (λ (r : List ℕ). be_bytes 8 (length v) ++ r) (u.parts ∙ ap (λ (r : List ℕ). r ++ rest) each.1)
          ∙ sym (append_assoc (be_bytes 8 (length v)) (flat_map entry_bytes v) rest);
      spelled = (record { count = subst (λ (k : ℕ). k < 256 ^ 8) count t.spelled.0; each = each.0 }, refl);
    })

entries_again : (v : List Entry) (text rest : List ℕ) → SpellsEntries v text → entries_exactly_at (text ++ rest)
    ≡ Ok (v, rest)
unfolding entries_bytes
entries_again v text rest s =
    let body = flat_map entry_bytes v in
    let parts : text ++ rest ≡ be_bytes 8 (length v) ++ (body ++ rest) = ap (λ (t : List ℕ). t ++ rest) s.1
    ∙ append_assoc (be_bytes 8 (length v)) body rest in
    ap entries_exactly_at parts
    ∙ counted (length v) (be_bytes 8 (length v) ++ (body ++ rest)) (body ++ rest) rest v
    ((be_reader 8).again (length v) (be_bytes 8 (length v)) (body ++ rest) (s.0.count, refl))
    ((many_reader SpellsExactly entry_exactly_at exactly_reader (length v)).again v body rest
    (refl, is_each v s.0.each))

-- ---- the marks

marks_is : (m : ℕ) → m < 4 → m ≡ marks_of (says m 1) (says m 2)
marks_is zero lt = refl
marks_is (suc zero) lt = refl
marks_is (suc (suc zero)) lt = refl
marks_is (suc (suc (suc zero))) lt = refl
marks_is (suc (suc (suc (suc n)))) lt = absurd (omega (arith, lt))

record Marked (m : ℕ) (d s : Bool) : Type 0 where
  few : ltb m 4 ≡ true
  dacl : says m 1 ≡ d
  sacl : says m 2 ≡ s

marked : (d s : Bool) → Marked (marks_of d s) d s
marked false false = record { few = refl; dacl = refl; sacl = refl }
marked true false = record { few = refl; dacl = refl; sacl = refl }
marked false true = record { few = refl; dacl = refl; sacl = refl }
marked true true = record { few = refl; dacl = refl; sacl = refl }

-- ---- the descriptor

abbrev sd : SidValue → SidValue → Bool → List Entry → Bool → List Entry → Sd
sd owner group p dacl q sacl = record {
  owner = owner;
  group = group;
  dacl = record { protected = p; entries = dacl };
  sacl = record { protected = q; entries = sacl };
}

regroup : (o g d s r : List ℕ) → o ++ (g ++ (d ++ (s ++ r))) ≡ (o ++ (g ++ (d ++ s))) ++ r
regroup o g d s r = simp append_assoc

normal_takes : (bytes : List ℕ) (v : Sd) (rest : List ℕ) → IsBytes bytes → normal_at bytes ≡ Ok (v, rest)
    → TakesFront SpellsNormal bytes v rest
unfolding normal_at normal_bytes
normal_takes bytes v rest fits e =
    from_bind (or_fault not_normal (byte_at bytes)) _ (v, rest) e
    (λ (m : ℕ × List ℕ) (e1 : or_fault not_normal (byte_at bytes) ≡ Ok m) e2.
    let first : bytes ≡ m.0 ∷ m.1 = byte_parts bytes m.0 m.1 fits (from_or_fault not_normal (byte_at bytes) m e1) in
    let f1 : IsBytes m.1 = IsBytes-rest m.0 m.1 (subst IsBytes first fits) in
    from_need (ltb m.0 4) not_normal _ (v, rest) e2 (λ (few : ltb m.0 4 ≡ true) e3.
    from_bind (or_fault not_normal (sid_at m.1)) _ (v, rest) e3
    (λ (o : SidValue × List ℕ) (e4 : or_fault not_normal (sid_at m.1) ≡ Ok o) e5.
    let t1 : TakesFront SpellsSid m.1 o.0 o.1 = sid_reader.takes m.1 o.0 o.1 f1
    (from_or_fault not_normal (sid_at m.1) o e4) in
    let f2 : IsBytes o.1 = rest_fits SpellsSid m.1 o.0 o.1 f1 t1 in
    from_bind (or_fault not_normal (sid_at o.1)) _ (v, rest) e5
    (λ (g : SidValue × List ℕ) (e6 : or_fault not_normal (sid_at o.1) ≡ Ok g) e7.
    let t2 : TakesFront SpellsSid o.1 g.0 g.1 = sid_reader.takes o.1 g.0 g.1 f2
    (from_or_fault not_normal (sid_at o.1) g e6) in
    let f3 : IsBytes g.1 = rest_fits SpellsSid o.1 g.0 g.1 f2 t2 in
    from_bind (entries_exactly_at g.1) _ (v, rest) e7
    (λ (d : List Entry × List ℕ) (e8 : entries_exactly_at g.1 ≡ Ok d) e9.
    let t3 : TakesFront SpellsEntries g.1 d.0 d.1 = entries_takes g.1 d.0 d.1 f3 e8 in
    let f4 : IsBytes d.1 = rest_fits SpellsEntries g.1 d.0 d.1 f3 t3 in
    from_bind (entries_exactly_at d.1) _ (v, rest) e9
    (λ (s : List Entry × List ℕ) (e10 : entries_exactly_at d.1 ≡ Ok s)
    (e11 : Ok (sd o.0 g.0 (says m.0 1) d.0 (says m.0 2) s.0, s.1) ≡ Ok (v, rest)).
    let t4 : TakesFront SpellsEntries d.1 s.0 s.1 = entries_takes d.1 s.0 s.1 f4 e10 in
    let p4 : d.1 ≡ entries_bytes s.0 ++ s.1 = t4.parts ∙ ap (λ (t : List ℕ). t ++ s.1) t4.spelled.1 in
    let p3 : g.1 ≡ entries_bytes d.0 ++ (entries_bytes s.0 ++ s.1) = t3.parts ∙ ap (λ (t : List ℕ). t ++ d.1)
    t3.spelled.1 ∙ ap (λ (t : List ℕ). entries_bytes d.0 ++ t) p4 in
    let p2 : o.1 ≡ sid_bytes g.0 ++ (entries_bytes d.0 ++ (entries_bytes s.0 ++ s.1)) = t2.parts
    ∙ ap (λ (t : List ℕ). t ++ g.1) t2.spelled.1 ∙ ap (λ (t : List ℕ). sid_bytes g.0 ++ t) p3 in
    let p1 : m.1 ≡ sid_bytes o.0 ++ (sid_bytes g.0 ++ (entries_bytes d.0 ++ (entries_bytes s.0 ++ s.1))) = t1.parts
    ∙ ap (λ (t : List ℕ). t ++ o.1) t1.spelled.1 ∙ ap (λ (t : List ℕ). sid_bytes o.0 ++ t) p2 in
    let whole = p1 ∙ regroup (sid_bytes o.0) (sid_bytes g.0) (entries_bytes d.0) (entries_bytes s.0) s.1 in
    let value = sd o.0 g.0 (says m.0 1) d.0 (says m.0 2) s.0 in
    subst (λ (p : Sd × List ℕ). TakesFront SpellsNormal bytes p.0 p.1)
    (from_ok {E = NotNormal} (value, s.1) (v, rest) e11)
    (record {
      text = normal_bytes value;
      parts = first ∙ ap (λ (k : ℕ). k ∷ m.1) (marks_is m.0 (ltb-true _ _ few))
          ∙ ap (λ (t : List ℕ). marks_of (says m.0 1) (says m.0 2) ∷ t) whole;
      spelled = (record { owner = t1.spelled.0; group = t2.spelled.0; dacl = t3.spelled.0; sacl = t4.spelled.0 }, refl);
    })))))))

normal_again : (v : Sd) (text rest : List ℕ) → SpellsNormal v text → normal_at (text ++ rest) ≡ Ok (v, rest)
unfolding normal_at normal_bytes byte_at
normal_again v text rest s =
    let o = sid_bytes v.owner in
    let g = sid_bytes v.group in
    let d = entries_bytes v.dacl.entries in
    let c = entries_bytes v.sacl.entries in
    let m = marks_of v.dacl.protected v.sacl.protected in
    let k = marked v.dacl.protected v.sacl.protected in
    let parts : text ++ rest ≡ m ∷ (o ++ (g ++ (d ++ (c ++ rest)))) = ap (λ (t : List ℕ). t ++ rest) s.1
    ∙ ap (λ (t : List ℕ). m ∷ t) (sym (regroup o g d c rest)) in
    let owner : sid_at (o ++ (g ++ (d ++ (c ++ rest)))) ≡ Ok (v.owner, g ++ (d ++ (c ++ rest)))
    = sid_reader.again v.owner o (g ++ (d ++ (c ++ rest))) (s.0.owner, refl) in
    let group : sid_at (g ++ (d ++ (c ++ rest))) ≡ Ok (v.group, d ++ (c ++ rest)) = sid_reader.again v.group g
    (d ++ (c ++ rest)) (s.0.group, refl) in
    let dacl : entries_exactly_at (d ++ (c ++ rest)) ≡ Ok (v.dacl.entries, c ++ rest) = entries_again v.dacl.entries d
    (c ++ rest) (s.0.dacl, refl) in
    let sacl : entries_exactly_at (c ++ rest) ≡ Ok (v.sacl.entries, rest) = entries_again v.sacl.entries c rest
    (s.0.sacl, refl) in
    ap normal_at parts ∙ rw (k.few, owner, group, dacl, sacl, k.dacl, k.sacl) refl

-- ---- what normal bytes are read as

was_alone : (r : Reading Sd NotNormal) → is_alone r ≡ true → r ≡ Ok (given r, [])
was_alone (Ok x) e = ap (λ (l : List ℕ). Ok (x.0, l)) (none x.1 (eqb-true (length x.1) 0 e))
  where
    none : (l : List ℕ) → length l ≡ 0 → l ≡ []
    none [] e = refl
    none (a ∷ l) e = absurd (omega arith)
was_alone (Err f) e = absurd cc

pub normal_read : (bytes : List ℕ) → is_normal bytes ≡ true → normal_at bytes ≡ Ok (sd_in bytes, [])
unfolding is_normal sd_in
normal_read bytes alone = was_alone (normal_at bytes) alone

pub normal_spelled : (bytes : List ℕ) → IsBytes bytes → is_normal bytes ≡ true → SpellsNormal (sd_in bytes) bytes
normal_spelled bytes fits alone =
    let t = normal_takes bytes (sd_in bytes) [] fits (normal_read bytes alone) in
    (t.spelled.0, t.parts ∙ append-nil t.text ∙ t.spelled.1)

pub spelled_read : (bytes : List ℕ) (sd : Sd) → SpellsNormal sd bytes → normal_at bytes ≡ Ok (sd, [])
spelled_read bytes sd s = ap normal_at (sym (append-nil bytes)) ∙ normal_again sd bytes [] s

pub spelled_normal : (bytes : List ℕ) (sd : Sd) → SpellsNormal sd bytes → is_normal bytes ≡ true
unfolding is_normal
spelled_normal bytes sd s = ap is_alone (spelled_read bytes sd s)

pub spelled_in : (bytes : List ℕ) (sd : Sd) → SpellsNormal sd bytes → sd_in bytes ≡ sd
unfolding sd_in
spelled_in bytes sd s = ap given (spelled_read bytes sd s)

pub over_none : (bytes : List ℕ) (b : Bool) (v : Sd) → b ≡ is_normal bytes → b ≡ false → SpellsNormal v bytes → ⊥
over_none bytes b v is fails s = not_both (sym (spelled_normal bytes v s) ∙ sym is ∙ fails)
  where
    not_both : true ≡ false → ⊥
    not_both e = absurd cc
