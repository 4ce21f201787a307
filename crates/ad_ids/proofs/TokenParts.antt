-- The parts of a token are read as they are encoded.
use Rattle.std.proofs.Common.{◌≡◌, ℕ, zero, suc, ◌≤◌, true, leb, List, [], ◌++◌, length, Ok, refl, sym, ap, subst}
use Rattle.std.proofs.Common.{arith}
use Rattle.std.proofs.lemmas.Bool.{leb-true, le-leb}
use Rattle.ad_bytes.specs.Reading.{IsBytes, or_fault, fault_as, many_at, TakesFront, StartsWith, IsReaderOf}
use Rattle.ad_bytes.specs.Reading.{SpellsEach, SpellsMany}
use Rattle.ad_bytes.specs.Numbers.{byte_at, be_at, SpellsByte, SpellsBe}
use Rattle.ad_bytes.proofs.Steps.{from_bind, from_need, from_or_fault, from_fault_as, from_ok}
use Rattle.ad_bytes.proofs.Codec.{byte_reader, be_reader, rest_fits, front_then, again_first, fault_as_reader}
use Rattle.ad_bytes.proofs.Many.{many_reader}
use Rattle.ad_ids.specs.declared.token_fault.TokenFault.{TokenFault}
use Rattle.ad_ids.specs.declared.token_fault.TokenFault.TheVariants as fault
use Rattle.ad_ids.specs.declared.mark.Mark.{Mark}
use Rattle.ad_ids.specs.declared.mark.Mark.TheVariants.{Enabled, DenyOnly}
use Rattle.ad_ids.specs.SidValue.{SidValue}
use Rattle.ad_ids.specs.Sid.{SpellsSid}
use Rattle.ad_ids.specs.SidReading.{sid_at}
use Rattle.ad_ids.specs.Token.{mark_byte, SpellsMarked, Lists, SpellsSids, SpellsPlain}
use Rattle.ad_ids.specs.TokenReading.{mark_of, marked_at, sids_at, count_at, plain_lists_at}
use Rattle.ad_ids.proofs.SidCodec.{sid_reader}

-- ---- identifiers and groups

pub sids_reader : (n : ℕ) → IsReaderOf (SpellsMany SpellsSid n) (sids_at n)
unfolding sids_at
sids_reader n = fault_as_reader (SpellsMany SpellsSid n) (many_at sid_at n) fault.Sid
    (many_reader SpellsSid sid_at sid_reader n)

mark_is : (n : ℕ) (mark : Mark) → mark_of n ≡ Ok mark → n ≡ mark_byte mark
mark_is zero mark e = ap mark_byte (from_ok {E = TokenFault} Enabled mark e)
mark_is (suc zero) mark e = ap mark_byte (from_ok {E = TokenFault} DenyOnly mark e)
mark_is (suc (suc n)) mark e = absurd cc

mark_again : (mark : Mark) → mark_of (mark_byte mark) ≡ Ok mark
mark_again Enabled = refl
mark_again DenyOnly = refl

marked_takes : (bytes : List ℕ) (group : Mark × SidValue) (rest : List ℕ) → IsBytes bytes → marked_at bytes
    ≡ Ok (group, rest) → TakesFront SpellsMarked bytes group rest
unfolding marked_at
marked_takes bytes group rest fits e =
    from_bind (or_fault fault.Short (byte_at bytes)) _ (group, rest) e
    (λ (b : ℕ × List ℕ) (e1 : or_fault fault.Short (byte_at bytes) ≡ Ok b) e2.
    from_bind (mark_of b.0) _ (group, rest) e2 (λ (mark : Mark) (e3 : mark_of b.0 ≡ Ok mark) e4.
    from_bind (fault_as fault.Sid (sid_at b.1)) _ (group, rest) e4
    (λ (s : SidValue × List ℕ) (e5 : fault_as fault.Sid (sid_at b.1) ≡ Ok s)
    (e6 : Ok ((mark, s.0), s.1) ≡ Ok (group, rest)).
    let first = byte_reader.takes bytes b.0 b.1 fits (from_or_fault fault.Short (byte_at bytes) b e1) in
    let marked : TakesFront SpellsByte bytes (mark_byte mark) b.1
    = subst (λ (n : ℕ). TakesFront SpellsByte bytes n b.1) (mark_is b.0 mark e3) first in
    let sid = sid_reader.takes b.1 s.0 s.1 (rest_fits SpellsByte bytes b.0 b.1 fits first)
    (from_fault_as fault.Sid (sid_at b.1) s e5) in
    let whole = front_then SpellsByte SpellsSid bytes (mark_byte mark) b.1 s.0 s.1 marked sid in
    let same : ((mark, s.0), s.1) ≡ (group, rest) = from_ok {E = TokenFault} ((mark, s.0), s.1) (group, rest) e6 in
    subst (λ (p : (Mark × SidValue) × List ℕ). TakesFront SpellsMarked bytes p.0 p.1) same
    (record { text = whole.text; parts = whole.parts; spelled = whole.spelled }))))

marked_again : (group : Mark × SidValue) (text rest : List ℕ) → SpellsMarked group text → marked_at (text ++ rest)
    ≡ Ok (group, rest)
unfolding marked_at
marked_again group text rest s =
    rw (
      again_first SpellsByte byte_at byte_reader (mark_byte group.0) (SpellsSid group.1) text rest s,
      mark_again
          group.0,
      sid_reader.again group.1 s.behind rest s.follows,
    ) refl

pub marked_reader : IsReaderOf SpellsMarked marked_at
marked_reader = record { takes = marked_takes; again = marked_again }

-- ---- counted lists

pub count_takes : (too_many : ℕ → TokenFault) (bytes : List ℕ) (n : ℕ) (rest : List ℕ) → IsBytes bytes
    → count_at too_many bytes ≡ Ok (n, rest) → TakesFront (SpellsBe 2) bytes n rest × (n ≤ 1024)
unfolding count_at
count_takes too_many bytes n rest fits e =
    from_bind (or_fault fault.Short (be_at 2 bytes)) _ (n, rest) e
    (λ (k : ℕ × List ℕ) (e1 : or_fault fault.Short (be_at 2 bytes) ≡ Ok k) e2.
    from_need (leb k.0 1024) (too_many k.0) _ (n, rest) e2 (λ (few : leb k.0 1024 ≡ true) (e3 : Ok k ≡ Ok (n, rest)).
    let t = (be_reader 2).takes bytes k.0 k.1 fits (from_or_fault fault.Short (be_at 2 bytes) k e1) in
    subst (λ (p : ℕ × List ℕ). TakesFront (SpellsBe 2) bytes p.0 p.1 × (p.0 ≤ 1024))
    (from_ok {E = TokenFault} k (n, rest) e3) (t, leb-true _ _ few)))

pub count_again : (too_many : ℕ → TokenFault) (n : ℕ) (Follows : List ℕ → Type 0) (text rest : List ℕ)
    (s : StartsWith (SpellsBe 2) n Follows text) → n ≤ 1024 → count_at too_many (text ++ rest)
    ≡ Ok (n, s.behind ++ rest)
unfolding count_at
count_again too_many n Follows text rest s few =
    let test : leb n 1024 ≡ true = le-leb n 1024 few in
    rw (again_first (SpellsBe 2) (be_at 2) (be_reader 2) n Follows text rest s, test) refl

-- a count, and as many values
counted : {A : Type 0} (Spells : A → List ℕ → Type 0) (bytes : List ℕ) (n : ℕ) (middle : List ℕ) (xs : List A)
    (rest : List ℕ)
    → TakesFront (SpellsBe 2) bytes n middle → TakesFront (SpellsMany Spells n) middle xs rest
    → TakesFront (λ (ys : List A). StartsWith (SpellsBe 2) (length ys) (SpellsEach Spells ys)) bytes xs rest
counted {A = A} Spells bytes n middle xs rest t u =
    let first : TakesFront (SpellsBe 2) bytes (length xs) middle
    = subst (λ (k : ℕ). TakesFront (SpellsBe 2) bytes k middle) (sym u.spelled.0) t in
    let others : TakesFront (SpellsEach Spells) middle xs rest
    = record { text = u.text; parts = u.parts; spelled = u.spelled.1 } in
    let whole = front_then (SpellsBe 2) (SpellsEach Spells) bytes (length xs) middle xs rest first others in
    record { text = whole.text; parts = whole.parts; spelled = whole.spelled }

-- the identifiers after their count
pub sids_take : (bytes : List ℕ) (n : ℕ) (middle : List ℕ) (xs : List SidValue) (rest : List ℕ) → n ≤ 1024
    → TakesFront (SpellsBe 2) bytes n middle → TakesFront (SpellsMany SpellsSid n) middle xs rest
    → TakesFront SpellsSids bytes xs rest
sids_take bytes n middle xs rest few t u =
    let whole = counted SpellsSid bytes n middle xs rest t u in
    record {
      text = whole.text;
      parts = whole.parts;
      spelled
          = record { count = omega (arith, u.spelled.0); text_is = whole.spelled };
    }

-- ---- the lists of version 1

plain_takes : (bytes : List ℕ) (lists : Lists) (rest : List ℕ) → IsBytes bytes → plain_lists_at bytes
    ≡ Ok (lists, rest) → TakesFront SpellsPlain bytes lists rest
unfolding plain_lists_at
plain_takes bytes lists rest fits e =
    from_bind (count_at fault.Groups bytes) _ (lists, rest) e
    (λ (n : ℕ × List ℕ) (e1 : count_at fault.Groups bytes ≡ Ok n) e2.
    from_bind (sids_at n.0 n.1) _ (lists, rest) e2
    (λ (g : List SidValue × List ℕ) (e3 : sids_at n.0 n.1 ≡ Ok g)
    (e4 : Ok (record { groups = g.0; deny_only = []; restricting = [] }, g.1) ≡ Ok (lists, rest)).
    let count = count_takes fault.Groups bytes n.0 n.1 fits e1 in
    let groups = (sids_reader n.0).takes n.1 g.0 g.1 (rest_fits (SpellsBe 2) bytes n.0 n.1 fits count.0) e3 in
    let whole = sids_take bytes n.0 n.1 g.0 g.1 count.1 count.0 groups in
    let value : Lists = record { groups = g.0; deny_only = []; restricting = [] } in
    subst (λ (p : Lists × List ℕ). TakesFront SpellsPlain bytes p.0 p.1)
    (from_ok {E = TokenFault} (value, g.1) (lists, rest) e4)
    (record {
      text = whole.text;
      parts = whole.parts;
      spelled
          = record { groups = whole.spelled; deny_only = refl; restricting = refl };
    })))

plain_again : (lists : Lists) (text rest : List ℕ) → SpellsPlain lists text → plain_lists_at (text ++ rest)
    ≡ Ok (lists, rest)
unfolding plain_lists_at
plain_again lists text rest s =
    let t = s.groups.text_is in
    rw (
      count_again fault.Groups (length lists.groups) (SpellsEach SpellsSid lists.groups) text rest t s.groups.count,
      (sids_reader (length lists.groups)).again lists.groups t.behind rest (refl, t.follows),
      s.deny_only,
      s.restricting,
    ) refl

pub plain_reader : IsReaderOf SpellsPlain plain_lists_at
plain_reader = record { takes = plain_takes; again = plain_again }
