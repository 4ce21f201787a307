-- Entries that are read exactly as they are written.
use Rattle.std.proofs.Common.{◌≡◌, ℕ, zero, suc, ◌<◌, Bool, true, false, Option, None, Some, List, [], ◌∷◌, ◌++◌}
use Rattle.std.proofs.Common.{length, take, drop, Ok, Err, refl, sym, ap, subst, ◌∙◌, arith, inl, inr}
use Rattle.std.proofs.lemmas.Slice.Eq.{bytes_eq-Decides}
use Rattle.std.proofs.lemmas.List.{take_at, take-append-drop}
use Rattle.ad_bytes.specs.Reading.{IsBytes, Reading, or_fault, many_at, TakesFront, IsReaderOf}
use Rattle.std.specs.Prelude.{MatchOption}
use denote.Bor.{Bor}
use Rattle.ad_bytes.specs.declared.input.Short.{Short as Absent}
use Rattle.ad_ids.specs.declared.sid.SidFault.{SidFault}
use Rattle.ad_ids.specs.SidValue.{SidValue}
use Rattle.ad_ids.specs.SidReading.{sid_at}
use Rattle.ad_bytes.proofs.Steps.{from_bind, from_need, from_or_fault, from_ok}
use Rattle.ad_ids.specs.declared.guid.Guid.{Guid}
use Rattle.ad_acl.specs.declared.fault.AclFault.{AclFault}
use Rattle.ad_acl.specs.Entry.{Entry, SpellsGuidIf, SpellsEntry, SpellsFlags}
use Rattle.ad_acl.specs.Exact.{IsFront}
use Rattle.ad_acl.specs.Reading.{entry_at}
use Rattle.ad_acl.specs.Writing.{IsGuidIf, IsEntry, entry_bytes}
use Rattle.ad_acl.proofs.EntryCodec.{entry_reader}
use Rattle.ad_acl.proofs.EntryWriting.{entry_spelled}
use Rattle.ad_acl.specs.Written.{BeginsWritten}
use Rattle.ad_sd.specs.declared.exact.NotNormal.{NotNormal}
use Rattle.ad_bytes.specs.Numbers.{be_at}
use Rattle.ad_sd.specs.Entries.{entries_of, are_read}
use Rattle.ad_sd.specs.Lists.{IsNotRead, IsReadTo}
use Rattle.ad_sd.specs.NormalReading.{not_normal, stands, entry_exactly_at, entries_exactly_at}

-- ---- the test of the code is the test of the reading

test_front : (e : Entry) (bytes : List ℕ) → IsFront (entry_bytes e) bytes → stands e bytes ≡ true
test_front e bytes f = (bytes_eq-Decides (entry_bytes e) (take (length (entry_bytes e)) bytes)).1
    (sym (ap (take (length (entry_bytes e))) f.parts ∙ take_at (entry_bytes e) f.behind (length (entry_bytes e))
    refl))

front_test : (e : Entry) (bytes : List ℕ) → stands e bytes ≡ true → IsFront (entry_bytes e) bytes
front_test e bytes holds =
    let same : entry_bytes e ≡ take (length (entry_bytes e)) bytes
    = (bytes_eq-Decides (entry_bytes e) (take (length (entry_bytes e)) bytes)).0 holds in
    record {
      behind = drop (length (entry_bytes e)) bytes;
      parts
          = sym (take-append-drop (length (entry_bytes e)) bytes)
          ∙ ap (λ (t : List ℕ). t ++ drop (length (entry_bytes e)) bytes) (sym same);
    }

-- ---- the reader

guid_is : (b : Bool) (g : Option Guid) (text : List ℕ) → SpellsGuidIf b g text → IsGuidIf g
guid_is false None text s = tt
guid_is false (Some g) text s = absurd s
guid_is true None text s = absurd s
guid_is true (Some g) text s = s.0

flags_fit : (flags byte : ℕ) → SpellsFlags flags byte → flags < 256
flags_fit flags byte s = elim s.with_or_without [
  | inl same ↦ omega (arith, s.fits, same)
  | inr more
      ↦ omega (arith, s.fits, more)
]

spelled_is : (e : Entry) (text : List ℕ) → SpellsEntry e text → IsEntry e
spelled_is e text s = record {
  flags = flags_fit e.flags s.flags s.flags_are;
  clear = s.flags_are.clear;
  mask = s.fixed_is.mask_fits;
  object = guid_is _ e.object s.fixed_is.object_text s.fixed_is.object_is;
  inherited = guid_is _ e.inherited s.fixed_is.inherited_text s.fixed_is.inherited_is;
  sid = s.sid_is.0;
}

abbrev pub SpellsExactly : Entry → List ℕ → Type 0
SpellsExactly e text = IsEntry e × (text ≡ entry_bytes e)

front_taken : (bytes : List ℕ) (e : Entry) (rest : List ℕ) → IsEntry e → entry_at bytes ≡ Ok (e, rest)
    → IsFront (entry_bytes e) bytes → TakesFront SpellsExactly bytes e rest
front_taken bytes e rest is read f =
    let same : (e, f.behind) ≡ (e, rest) = from_ok {E = AclFault} (e, f.behind) (e, rest)
    (sym (entry_reader.again e (entry_bytes e) f.behind (entry_spelled e is)) ∙ ap entry_at (sym f.parts) ∙ read)
    in
    record {
      text = entry_bytes e;
      parts = f.parts ∙ ap (λ (p : Entry × List ℕ). entry_bytes e ++ p.1) same;
      spelled
          = (is, refl);
    }

exactly_takes : (bytes : List ℕ) (v : Entry) (rest : List ℕ) → IsBytes bytes → entry_exactly_at bytes ≡ Ok (v, rest)
    → TakesFront SpellsExactly bytes v rest
unfolding entry_exactly_at
exactly_takes bytes v rest fits e =
    from_bind (or_fault not_normal (entry_at bytes)) _ (v, rest) e
    (λ (x : Entry × List ℕ) (e1 : or_fault not_normal (entry_at bytes) ≡ Ok x) e2.
    from_need (stands x.0 bytes) not_normal _ (v, rest) e2
    (λ (test : stands x.0 bytes ≡ true) (e3 : Ok x ≡ Ok (v, rest)).
    let read : entry_at bytes ≡ Ok (x.0, x.1) = from_or_fault not_normal (entry_at bytes) x e1 in
    let t = entry_reader.takes bytes x.0 x.1 fits read in
    subst (λ (p : Entry × List ℕ). TakesFront SpellsExactly bytes p.0 p.1) (from_ok {E = NotNormal} x (v, rest) e3)
    (front_taken bytes x.0 x.1 (spelled_is x.0 t.text t.spelled) read (front_test x.0 bytes test))))

exactly_again : (v : Entry) (text rest : List ℕ) → SpellsExactly v text → entry_exactly_at (text ++ rest) ≡ Ok (v, rest)
unfolding entry_exactly_at
exactly_again v text rest s =
    let spelled : SpellsEntry v text = subst (SpellsEntry v) (sym s.1) (entry_spelled v s.0) in
    let test : stands v (text ++ rest) ≡ true = test_front v (text ++ rest)
    (record { behind = rest; parts = ap (λ (t : List ℕ). t ++ rest) s.1 }) in
    rw (entry_reader.again v text rest spelled, test) refl

pub exactly_reader : IsReaderOf SpellsExactly entry_exactly_at
exactly_reader = record { takes = exactly_takes; again = exactly_again }

-- ---- by the size of an entry as it is written

pub exactly_sized : (bytes : List ℕ) (size : ℕ) (left : List ℕ) → BeginsWritten size bytes → left ≡ drop size bytes
    → IsReadTo (entry_exactly_at bytes) left
exactly_sized bytes size left b l = (
  b.entry,
  ap entry_exactly_at b.parts
      ∙ exactly_again b.entry (entry_bytes b.entry) (drop size bytes) (b.is, refl)
      ∙ ap (λ (t : List ℕ). Ok (b.entry, t)) (sym l),
)

pub not_exactly : (bytes : List ℕ) → IsBytes bytes → ((e : Entry) → IsEntry e → IsFront (entry_bytes e) bytes → ⊥)
    → entry_exactly_at bytes ≡ Err not_normal
not_exactly bytes fits none = go (entry_exactly_at bytes) refl
  where
    go : (r : Reading Entry NotNormal) → entry_exactly_at bytes ≡ r → r ≡ Err not_normal
    go (Ok x) e = let t : TakesFront SpellsExactly bytes x.0 x.1 = exactly_takes bytes x.0 x.1 fits e in
        absurd (none x.0 t.spelled.0 (record
        { behind = x.1; parts = t.parts ∙ ap (λ (s : List ℕ). s ++ x.1) t.spelled.1 }))
    go (Err f) e = refl

-- ---- what is read exactly is read

pub loosely : (n : ℕ) (bytes : List ℕ) (xs : List Entry) (rest : List ℕ) → many_at entry_exactly_at n bytes
    ≡ Ok (xs, rest) → many_at entry_at n bytes ≡ Ok (xs, rest)
unfolding many_at entry_exactly_at
loosely zero bytes xs rest e = ap (λ (p : List Entry × List ℕ). Ok p) (from_ok {E = NotNormal} ([], bytes) (xs, rest) e)
loosely (suc n) bytes xs rest e =
    from_bind (entry_exactly_at bytes) _ (xs, rest) e (λ (x : Entry × List ℕ) (e1 : entry_exactly_at bytes ≡ Ok x) e2.
    from_bind (many_at entry_exactly_at n x.1) _ (xs, rest) e2
    (λ (o : List Entry × List ℕ) (e3 : many_at entry_exactly_at n x.1 ≡ Ok o)
    (e4 : Ok (x.0 ∷ o.0, o.1) ≡ Ok (xs, rest)).
    from_bind (or_fault not_normal (entry_at bytes)) _ x e1
    (λ (y : Entry × List ℕ) (e5 : or_fault not_normal (entry_at bytes) ≡ Ok y) e6.
    from_need (stands y.0 bytes) not_normal _ x e6 (λ (test : stands y.0 bytes ≡ true) (e7 : Ok y ≡ Ok x).
    let read : entry_at bytes ≡ Ok x = from_or_fault not_normal (entry_at bytes) y e5
    ∙ ap (λ (p : Entry × List ℕ). Ok p) (from_ok {E = NotNormal} y x e7) in
    let others : many_at entry_at n x.1 ≡ Ok o = loosely n x.1 o.0 o.1 e3 in
    rw (read, others) (ap (λ (p : List Entry × List ℕ). Ok p)
    (from_ok {E = NotNormal} (x.0 ∷ o.0, o.1) (xs, rest) e4))))))

-- ---- entries after their count

pub counted : (n : ℕ) (bytes rest left : List ℕ) (xs : List Entry) → be_at 8 bytes ≡ Ok (n, rest)
    → many_at entry_exactly_at n rest ≡ Ok (xs, left) → entries_exactly_at bytes ≡ Ok (xs, left)
unfolding entries_exactly_at
counted n bytes rest left xs count each = rw (count, each) refl

pub counted_not : (n : ℕ) (bytes rest : List ℕ) (f : NotNormal) → be_at 8 bytes ≡ Ok (n, rest)
    → many_at entry_exactly_at n rest ≡ Err f → entries_exactly_at bytes ≡ Err f
unfolding entries_exactly_at
counted_not n bytes rest f count each = rw (count, each) refl

pub list_passed : (bytes input left entries : List ℕ) (n : ℕ) (r : Option (Bor (List ℕ))) → input ≡ bytes
    → be_at 8 input ≡ Ok (n, left) → entries ≡ left
    → MatchOption r (IsNotRead (many_at entry_exactly_at n entries))
    (λ after. IsReadTo (many_at entry_exactly_at n entries) after.now)
    → MatchOption r (IsNotRead (entries_exactly_at bytes)) (λ after. IsReadTo (entries_exactly_at bytes) after.now)
list_passed bytes input left entries n None same count there each = counted_not n bytes left not_normal
    (ap (be_at 8) (sym same) ∙ count) (ap (many_at entry_exactly_at n) (sym there) ∙ each)
list_passed bytes input left entries n (Some after) same count there each
    = (
      each.0,
      counted n bytes left after.now each.0 (ap (be_at 8) (sym same) ∙ count)
          (ap (many_at entry_exactly_at n) (sym there) ∙ each.1),
    )

pub list_cut : (bytes input : List ℕ) (f : Absent) → input ≡ bytes → be_at 8 input ≡ Err f
    → IsNotRead (entries_exactly_at bytes)
unfolding entries_exactly_at
list_cut bytes input f same count = let e : be_at 8 bytes ≡ Err f = ap (be_at 8) (sym same) ∙ count in rw e refl

-- ---- an identifier

pub sid_passed : (bytes input left after : List ℕ) (sid : SidValue) → input ≡ bytes → sid_at input ≡ Ok (sid, left)
    → after ≡ left → IsReadTo (or_fault not_normal (sid_at bytes)) after
sid_passed bytes input left after sid same read is
    = (sid, ap (or_fault not_normal) (ap sid_at (sym same) ∙ read ∙ ap (λ (t : List ℕ). Ok (sid, t)) (sym is)))

pub sid_cut : (bytes input : List ℕ) (f : SidFault) → input ≡ bytes → sid_at input ≡ Err f
    → IsNotRead (or_fault not_normal (sid_at bytes))
sid_cut bytes input f same read = ap (or_fault not_normal) (ap sid_at (sym same) ∙ read)

pub readable : (n : ℕ) (bytes : List ℕ) (xs : List Entry) (left : List ℕ) → many_at entry_exactly_at n bytes
    ≡ Ok (xs, left) → are_read n bytes ≡ true
unfolding are_read
readable n bytes xs left e = rw (loosely n bytes xs left e) refl

pub readable_of : (n : ℕ) (bytes : List ℕ) (xs : List Entry) (left : List ℕ) → many_at entry_exactly_at n bytes
    ≡ Ok (xs, left) → entries_of n bytes ≡ xs
unfolding entries_of
readable_of n bytes xs left e = rw (loosely n bytes xs left e) refl
