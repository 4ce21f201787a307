-- A list as it is written: its pieces, their lengths, and that they are an encoding.
use Rattle.std.proofs.Common.{◌≡◌, ℕ, ◌+◌, ◌<◌, ◌≤◌, Bool, true, false, ltb, cond, List, [], ◌∷◌, ◌++◌, length, take}
use Rattle.std.proofs.Common.{drop, get_or, Result, Vec, Global, Ok, Err, refl, sym, ap, subst, ◌∙◌, append_assoc}
use Rattle.std.proofs.Common.{arith, inl, inr, ◌⊎◌}
use Rattle.std.specs.List.{flat_map, list_any, AllByRecursion}
use Rattle.std.proofs.lemmas.Bool.{le-ltb, lt-ltb}
use Rattle.std.proofs.lemmas.List.{append-nil, length-append, take-append-drop, take_more}
use Rattle.std.proofs.lemmas.List.Concat.{flat_map-append}
use Rattle.std.specs.Prelude.{IfOk}
use Rattle.ad_bytes.specs.Reading.{SpellsEach, GivesUnless}
use Rattle.ad_bytes.proofs.Steps.{from_ok}
use Rattle.ad_bytes.specs.Numbers.{le_bytes}
use Rattle.ad_bytes.proofs.Codec.{length-le_bytes}
use Rattle.ad_acl.specs.declared.write_fault.AclWriteFault.{AclWriteFault}
use Rattle.ad_acl.specs.declared.write_fault.AclWriteFault.TheVariants.{TooLong, Memory}
use Rattle.ad_acl.specs.Entry.{Entry, SpellsEntry}
use Rattle.ad_acl.specs.Acl.{SpellsList}
use Rattle.ad_acl.specs.Writing.{IsEntry, entry_bytes, is_object_entry, revision_of, list_bytes, written, is_memory}
use Rattle.ad_acl.proofs.EntryWriting.{length-entry_bytes, entry_spelled}

-- ---- lengths

pub length-list_bytes : (entries : List Entry) → length (list_bytes entries) ≡ 8 + length (flat_map entry_bytes entries)
unfolding list_bytes
length-list_bytes entries =
    let body = flat_map entry_bytes entries in
    omega (
      arith,
      length-append (le_bytes 2 (8 + length body))
          (le_bytes 2 (length entries) ++ (le_bytes 2 0 ++ body)),
      length-append (le_bytes 2 (length entries))
          (le_bytes 2 0 ++ body),
      length-append (le_bytes 2 0) body,
      length-le_bytes 2 (8 + length body),
      length-le_bytes 2 (length entries),
      length-le_bytes 2 0,
    )

-- an entry takes a byte at least
pub few_entries : (entries : List Entry) → length entries ≤ length (flat_map entry_bytes entries)
few_entries [] = omega arith
few_entries (e ∷ entries) = omega (
  arith,
  length-append (entry_bytes e) (flat_map entry_bytes entries),
  length-entry_bytes e,
  few_entries entries,
)

-- the first entries take no more than all
pub front_le : (i : ℕ) (entries : List Entry) → length (flat_map entry_bytes (take i entries))
    ≤ length (flat_map entry_bytes entries)
front_le i entries =
    let parts : flat_map entry_bytes entries ≡ flat_map entry_bytes (take i entries)
    ++ flat_map entry_bytes (drop i entries) = ap (flat_map entry_bytes) (sym (take-append-drop i entries))
    ∙ flat_map-append entry_bytes (take i entries) (drop i entries) in
    omega (
      arith,
      ap length parts,
      length-append (flat_map entry_bytes (take i entries))
          (flat_map entry_bytes (drop i entries)),
    )

-- one more entry
pub entries_more : (i : ℕ) (entries : List Entry) (e : Entry) → i < length entries → e ≡ get_or entries i e
    → flat_map entry_bytes (take (i + 1) entries) ≡ flat_map entry_bytes (take i entries) ++ entry_bytes e
entries_more i entries e lt is =
    ap (flat_map entry_bytes) (take_more entries i e lt)
    ∙ flat_map-append entry_bytes (take i entries) (get_or entries i e ∷ [])
    ∙ ap (λ (t : List ℕ). flat_map entry_bytes (take i entries) ++ t) (append-nil (entry_bytes (get_or entries i e))
    ∙ ap entry_bytes (sym is))

all_push : (entries : List Entry) (e : Entry) → AllByRecursion IsEntry entries → IsEntry e
    → AllByRecursion IsEntry (entries ++ e ∷ [])
all_push [] e all one = (one, tt)
all_push (x ∷ xs) e all one = (all.0, all_push xs e all.1 one)

pub all_more : (i : ℕ) (entries : List Entry) (e : Entry) → i < length entries → e ≡ get_or entries i e
    → AllByRecursion IsEntry (take i entries) → IsEntry e → AllByRecursion IsEntry (take (i + 1) entries)
all_more i entries e lt is all one =
    subst (AllByRecursion IsEntry) (sym (take_more entries i e lt))
    (all_push (take i entries) (get_or entries i e) all (subst IsEntry is one))

-- ---- it is an encoding

pub each_spelled : (entries : List Entry) → AllByRecursion IsEntry entries → SpellsEach SpellsEntry entries
    (flat_map entry_bytes entries)
each_spelled [] all = refl
each_spelled (e ∷ entries) all = record {
  front = entry_bytes e;
  behind = flat_map entry_bytes entries;
  parts
      = refl;
  spelled = entry_spelled e all.0;
  follows = each_spelled entries all.1;
}

two_or_four : (b : Bool) (n : ℕ) → n ≡ cond b 4 2 → (n ≡ 2) ⊎ (n ≡ 4)
two_or_four true n e = inr e
two_or_four false n e = inl e

pub list_spelled : (entries : List Entry) → AllByRecursion IsEntry entries → 8 + length (flat_map entry_bytes entries)
    ≤ 65535 → SpellsList entries (list_bytes entries)
unfolding list_bytes
list_spelled entries all fits =
    let body = flat_map entry_bytes entries in
    let size : 8 + length body ≡ length (list_bytes entries) = sym (length-list_bytes entries) in
    record {
      revision = revision_of entries;
      free = 0;
      free_two = 0;
      body = body;
      behind = [];
      revision_is = two_or_four (list_any is_object_entry entries) (revision_of entries) refl;
      free_fits = omega arith;
      free_two_fits = omega arith;
      count_fits = omega (arith, few_entries entries);
      size_fits = omega (arith, length-list_bytes entries);
      spelled = each_spelled entries all;
      behind_fits = λ i. omega arith;
      parts = ap (λ (n : ℕ). revision_of entries ∷ 0 ∷ le_bytes 2 n
          ++ (le_bytes 2 (length entries) ++ (le_bytes 2 0 ++ body))) size
          ∙ ap (λ (t : List ℕ). revision_of entries ∷ 0 ∷ le_bytes 2 (length (list_bytes entries))
          ++ (le_bytes 2 (length entries) ++ (le_bytes 2 0 ++ t))) (sym (append-nil body));
    }

-- ---- when it is written

pub is_written : (entries : List Entry) → 8 + length (flat_map entry_bytes entries) ≤ 65535 → written entries
    ≡ Ok (list_bytes entries)
is_written entries fits =
    let short : ltb 65535 (length (list_bytes entries)) ≡ false
    = le-ltb _ _ (omega (arith, length-list_bytes entries)) in
    rw short refl

pub is_too_long : (entries : List Entry) → 65535 < 8 + length (flat_map entry_bytes entries) → written entries
    ≡ Err TooLong
is_too_long entries long =
    let over : ltb 65535 (length (list_bytes entries)) ≡ true = lt-ltb _ _ (omega (arith, length-list_bytes entries)) in
    rw over refl

-- which fault it is, where memory doesn't run out
pub fault_is : (fault : AclWriteFault) (entries : List Entry)
    → (fault ≡ TooLong → 65535 < 8 + length (flat_map entry_bytes entries)) → is_memory fault ≡ false
    → written entries ≡ Err fault
fault_is TooLong entries long other = is_too_long entries (long refl)
fault_is Memory entries long other = absurd cc

-- ---- how it is put

-- the pieces that were put are the list
pub list_put : (entries : List Entry) (now old body : List ℕ) (revision size count : ℕ)
    → old ≡ [] → revision ≡ revision_of entries → size ≡ 8 + length body → count ≡ length entries → body
    ≡ flat_map entry_bytes entries
    → now ≡ (old ++ revision ∷ 0 ∷ le_bytes 2 size ++ (le_bytes 2 count ++ le_bytes 2 0)) ++ body → now
    ≡ list_bytes entries
unfolding list_bytes
list_put entries now old body revision size count empty r s c b put =
    let whole : size ≡ 8 + length (flat_map entry_bytes entries) = omega (arith, ap length b) in
    let regroup : (old ++ revision ∷ 0 ∷ le_bytes 2 size ++ (le_bytes 2 count ++ le_bytes 2 0)) ++ body ≡ old
    ++ revision ∷ 0 ∷ le_bytes 2 size ++ (le_bytes 2 count ++ (le_bytes 2 0 ++ body)) = simp append_assoc in
    let pieces : old ++ revision ∷ 0 ∷ le_bytes 2 size ++ (le_bytes 2 count ++ (le_bytes 2 0 ++ body))
    ≡ list_bytes entries = rw (empty, r, whole, c, b) refl in
    put ∙ regroup ∙ pieces

-- a list that was written is an encoding
pub written_spelled : (entries : List Entry) (result : Result (Vec ℕ Global) AclWriteFault)
    → AllByRecursion IsEntry entries → 8 + length (flat_map entry_bytes entries) ≤ 65535
    → GivesUnless is_memory (λ v. v.items) result (written entries) → IfOk result (λ v. SpellsList entries v.items)
written_spelled entries (Ok v) each fits given =
    let same : list_bytes entries ≡ v.items = from_ok {E = AclWriteFault} (list_bytes entries) v.items
    (sym (is_written entries fits) ∙ given) in
    subst (SpellsList entries) same (list_spelled entries each fits)
written_spelled entries (Err f) each fits given = tt

-- the header takes eight bytes
pub few_bytes : (now old body : List ℕ) (revision size count : ℕ) → old ≡ []
    → now ≡ (old ++ revision ∷ 0 ∷ le_bytes 2 size ++ (le_bytes 2 count ++ le_bytes 2 0)) ++ body → length body
    ≤ 65527 → length now ≤ 65535
few_bytes now old body revision size count empty put few =
    let head : List ℕ = old ++ revision ∷ 0 ∷ le_bytes 2 size ++ (le_bytes 2 count ++ le_bytes 2 0) in
    let eight : length head ≡ 8 = rw empty
    (omega (
      arith,
      length-append (le_bytes 2 size) (le_bytes 2 count ++ le_bytes 2 0),
      length-append
          (le_bytes 2 count) (le_bytes 2 0),
      length-le_bytes 2 size,
      length-le_bytes 2 count,
      length-le_bytes 2 0,
    )) in
    omega (arith, ap length put, length-append head body, eight)
