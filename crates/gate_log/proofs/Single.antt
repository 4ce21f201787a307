-- Slots represent one list of bodies at most.
use Rattle.std.proofs.Common.{◌≡◌, ◌≢◌, ◌⊎◌, inl, inr, ℕ, ◌<◌, ◌^◌, List, [], ◌∷◌, ◌++◌, length, take, drop, get_or}
use Rattle.std.proofs.Common.{refl, sym, ◌∙◌, ap, subst, arith, append_assoc}
use Rattle.std.proofs.lemmas.List.{take_at, drop_at}
use Rattle.std.proofs.lemmas.Nat.{from_be_bytes-to_be_bytes_8}
use Rattle.std.specs.Int.{to_be_bytes, from_be_bytes, w64}
use Rattle.site_io.specs.Disk.{Images, at_slot}
use Rattle.site_io.specs.declared.slot.Slot.{Slot}
use Rattle.site_io.specs.declared.slot.Slot.TheVariants.{A, B}
use Rattle.gate_log.specs.Layout.{head, opened, AreRecords, HasRecords}
use Rattle.gate_log.specs.Reading.{BeginRecords}
use Rattle.gate_log.specs.Store.{other, IsClosed, IsOlder, IsOpen, IsOne, IsEmptyStore, HasBodies, HasBodiesTwo}

pub front_same : (x y r s : List ℕ) → length x ≡ length y → x ++ r ≡ y ++ s → (x ≡ y) × (r ≡ s)
front_same x y r s long is = (
  sym (take_at x r (length x) refl) ∙ ap (λ (l : List ℕ). take (length x) l) is ∙ take_at y s (length x) (sym long),
  sym (drop_at x r (length x) refl) ∙ ap (λ (l : List ℕ). drop (length x) l) is ∙ drop_at y s (length x) (sym long),
)

-- A record is read in one way.
one_record : (size body rest size' other rest' : List ℕ) → length size ≡ 8 → from_be_bytes w64 size ≡ length body
    → length size' ≡ 8 → from_be_bytes w64 size' ≡ length other → 1 ∷ size ++ body ++ rest ≡ 1 ∷ size' ++ other
    ++ rest'
    → (body ≡ other) × (rest ≡ rest')
one_record size body rest size' other rest' long value long' value' is =
    let inside : size ++ (body ++ rest) ≡ size' ++ (other ++ rest') = sym (append_assoc size body rest)
    ∙ ap (λ (l : List ℕ). drop 1 l) is ∙ append_assoc size' other rest' in
    let first = front_same size size' (body ++ rest) (other ++ rest') (long ∙ sym long') inside in
    let same : length body ≡ length other = sym value ∙ ap (λ (l : List ℕ). from_be_bytes w64 l) first.0 ∙ value' in
    front_same body other rest rest' same first.1

pub one_reading : (bodies others : List (List ℕ)) (bytes : List ℕ) → BeginRecords bodies bytes
    → BeginRecords others bytes → bodies ≡ others
one_reading [] [] bytes x y = refl
one_reading [] (c ∷ cs) bytes x y = absurd (x.2 (ap (λ (l : List ℕ). get_or l 0 0) (sym x.3 ∙ y.4)))
one_reading (b ∷ bs) [] bytes x y = absurd (y.2 (ap (λ (l : List ℕ). get_or l 0 0) (sym y.3 ∙ x.4)))
one_reading (b ∷ bs) (c ∷ cs) bytes x y =
    let same = one_record x.0 b x.1 y.0 c y.1 x.2 x.3 y.2 y.3 (sym x.4 ∙ y.4) in
    let rest = one_reading bs cs x.1 x.5 (subst (BeginRecords cs) (sym same.1) y.5) in
    (λ i. same.0 i ∷ rest i)

records_begin : (bodies : List (List ℕ)) (records : List ℕ) (gate : ℕ) (junk : List ℕ) → AreRecords bodies records
    → gate ≢ 1 → BeginRecords bodies (records ++ gate ∷ junk)
records_begin [] records gate junk are shut = (gate, junk, shut, ap (λ (l : List ℕ). l ++ gate ∷ junk) are)
records_begin (body ∷ bodies) records gate junk are shut = (
  are.0,
  are.1 ++ gate ∷ junk,
  are.2,
  are.3,
  ap (λ (l : List ℕ). l ++ gate ∷ junk) are.4
      ∙ append_assoc (1 ∷ are.0 ++ body) are.1 (gate ∷ junk),
  records_begin bodies are.1 gate junk are.5 shut,
)

-- Where what stands after some records can't be read, neither can the whole.
pub stuck : (done bodies : List (List ℕ)) (front rest : List ℕ) → AreRecords done front
    → ((more : List (List ℕ)) → BeginRecords more rest → ⊥) → BeginRecords bodies (front ++ rest) → ⊥
stuck [] bodies front rest are none begins
    = none bodies (subst (BeginRecords bodies) (ap (λ (l : List ℕ). l ++ rest) are) begins)
stuck (d ∷ ds) [] front rest are none begins
    = begins.2 (ap (λ (l : List ℕ). get_or l 0 0) (sym begins.3 ∙ ap (λ (l : List ℕ). l ++ rest) are.4))
stuck (d ∷ ds) (c ∷ cs) front rest are none begins =
    let whole : front ++ rest ≡ 1 ∷ are.0 ++ d ++ (are.1 ++ rest) = ap (λ (l : List ℕ). l ++ rest) are.4
    ∙ append_assoc (1 ∷ are.0 ++ d) are.1 rest in
    let same = one_record are.0 d (are.1 ++ rest) begins.0 c begins.1 are.2 are.3 begins.2 begins.3
    (sym whole ∙ begins.4) in
    stuck ds cs are.1 rest are.5 none (subst (BeginRecords cs) (sym same.1) begins.5)

pub has_begins : (bytes : List ℕ) (version generation end : ℕ) (bodies : List (List ℕ)) → HasRecords bytes version
    generation end bodies → BeginRecords bodies (drop 14 bytes)
has_begins bytes version generation end bodies has =
    subst (BeginRecords bodies) (sym (ap (λ (l : List ℕ). drop 14 l) has.layout))
    (records_begin bodies has.records has.gate has.junk has.are has.closed)

pub has_head : (bytes : List ℕ) (version generation end : ℕ) (bodies : List (List ℕ)) → HasRecords bytes version
    generation end bodies → (rest : List ℕ) × (bytes ≡ opened version generation rest)
has_head bytes version generation end bodies has = (
  has.records ++ has.gate ∷ has.junk,
  has.layout ∙ append_assoc (1 ∷ head version generation) has.records
      (has.gate ∷ has.junk),
)

-- A head is determined by its bytes.
pub one_version : (bytes rest rest' : List ℕ) (v w g h : ℕ) → bytes ≡ opened v g rest → bytes ≡ opened w h rest' → v ≡ w
one_version bytes rest rest' v w g h this that = ap (λ (l : List ℕ). get_or l 5 0) (sym this ∙ that)

pub one_generation : (bytes rest rest' : List ℕ) (v w g h : ℕ) → g < 2 ^ 64 → h < 2 ^ 64 → bytes ≡ opened v g rest
    → bytes ≡ opened w h rest' → g ≡ h
one_generation bytes rest rest' v w g h g_small h_small this that =
    let same : to_be_bytes w64 g ≡ to_be_bytes w64 h = ap (λ (l : List ℕ). take 8 (drop 6 l)) (sym this ∙ that) in
    sym (from_be_bytes-to_be_bytes_8 g g_small) ∙ ap (λ (l : List ℕ). from_be_bytes w64 l) same
    ∙ from_be_bytes-to_be_bytes_8 h h_small

pub closed_shut : (bytes : List ℕ) → IsClosed bytes → IsOpen bytes → ⊥
closed_shut bytes closed is_open = closed.2 (sym (ap (λ (l : List ℕ). get_or l 0 0) closed.3) ∙ is_open)

pub head_open : (bytes rest : List ℕ) (version generation : ℕ) → bytes ≡ opened version generation rest → IsOpen bytes
head_open bytes rest version generation is = ap (λ (l : List ℕ). get_or l 0 0) is

-- Slot A of version 1 belongs to no store of version 2.
pub not_two : (images : Images) (bodies : List (List ℕ)) → IsOne images.a → HasBodiesTwo images bodies → ⊥
not_two images bodies one two = at two.live two.generation two.end two.has two.rest
  where
    two_open : (rest : List ℕ) (generation : ℕ) → images.a ≡ opened 2 generation rest → ⊥
    two_open rest generation is = omega (arith, one.1, ap (λ (l : List ℕ). get_or l 5 0) is)

    at : (live : Slot) (generation end : ℕ) → HasRecords (at_slot live images) 2 generation end bodies
        → IsClosed (at_slot (other live) images) ⊎ IsOlder generation (at_slot (other live) images) → ⊥
    at A generation end has rest = let front = has_head images.a 2 generation end bodies has
        in two_open front.0 generation front.1
    at B generation end has rest = elim rest [
      | inl closed ↦ closed_shut images.a closed one.0
      | inr older ↦ two_open older.1 older.0 older.4
    ]

-- An open slot beside a live one is older.
pub ahead : (bytes rest : List ℕ) (generation found : ℕ) → generation < 2 ^ 64 → found < 2 ^ 64 → bytes
    ≡ opened 2 found rest → IsClosed bytes ⊎ IsOlder generation bytes → found < generation
ahead bytes rest generation found small found_small is beside = elim beside [
  | inl closed ↦ absurd (closed_shut bytes closed (head_open bytes rest 2 found is))
  | inr older ↦
      let same : found ≡ older.0 = one_generation bytes rest older.1 2 2 found older.0 found_small
      (omega (arith, older.3, small)) is older.4 in
      omega (arith, same, older.3)
]

one_two : (images : Images) (bodies others : List (List ℕ)) → HasBodiesTwo images bodies → HasBodiesTwo images others
    → others ≡ bodies
one_two images bodies others two also = at two.live also.live two.generation two.end also.generation also.end two.has
    also.has two.rest also.rest two.below also.below
  where
    at : (live live' : Slot) (g end h end' : ℕ) → HasRecords (at_slot live images) 2 g end bodies
        → HasRecords (at_slot live' images) 2 h end' others → IsClosed (at_slot (other live) images)
        ⊎ IsOlder g (at_slot (other live) images) → IsClosed (at_slot (other live') images)
        ⊎ IsOlder h (at_slot (other live') images) → g < 2 ^ 64 → h < 2 ^ 64 → others ≡ bodies
    at A A g end h end' x y beside beside' small small' = one_reading others bodies (drop 14 images.a)
        (has_begins images.a 2 h end' others y) (has_begins images.a 2 g end bodies x)
    at B B g end h end' x y beside beside' small small' = one_reading others bodies (drop 14 images.b)
        (has_begins images.b 2 h end' others y) (has_begins images.b 2 g end bodies x)
    at A B g end h end' x y beside beside' small small' =
        let in_a = has_head images.a 2 g end bodies x in
        let in_b = has_head images.b 2 h end' others y in
        absurd (omega (
          arith,
          ahead images.b in_b.0 g h small small' in_b.1 beside,
          ahead images.a in_a.0 h g small'
              small in_a.1 beside',
        ))
    at B A g end h end' x y beside beside' small small' =
        let in_b = has_head images.b 2 g end bodies x in
        let in_a = has_head images.a 2 h end' others y in
        absurd (omega (
          arith,
          ahead images.a in_a.0 g h small small' in_a.1 beside,
          ahead images.b in_b.0 h g small'
              small in_b.1 beside',
        ))

pub has_one : (bytes : List ℕ) (end : ℕ) (bodies : List (List ℕ)) → HasRecords bytes 1 1 end bodies → IsOne bytes
has_one bytes end bodies has =
    let front = has_head bytes 1 1 end bodies has in
    (head_open bytes front.0 1 1 front.1, ap (λ (l : List ℕ). get_or l 5 0) front.1)

pub one_list : (images : Images) (bodies others : List (List ℕ)) → HasBodies images bodies → HasBodies images others
    → others ≡ bodies
one_list images bodies others (inl x) (inl y) = one_reading others bodies (drop 14 images.a)
    (has_begins images.a 1 1 y.0 others y.1) (has_begins images.a 1 1 x.0 bodies x.1)
one_list images bodies others (inl x) (inr y) = absurd (not_two images others (has_one images.a x.0 bodies x.1) y)
one_list images bodies others (inr x) (inl y) = absurd (not_two images bodies (has_one images.a y.0 others y.1) x)
one_list images bodies others (inr x) (inr y) = one_two images bodies others x y

two_full : (images : Images) (bodies : List (List ℕ)) → IsEmptyStore images → HasBodiesTwo images bodies → ⊥
two_full images bodies empty two = at two.live two.generation two.end two.has
  where
    at : (live : Slot) (generation end : ℕ) → HasRecords (at_slot live images) 2 generation end bodies → ⊥
    at A generation end has = let front = has_head images.a 2 generation end bodies has
        in empty.0 (head_open images.a front.0 2 generation front.1)
    at B generation end has = let front = has_head images.b 2 generation end bodies has
        in empty.1 (head_open images.b front.0 2 generation front.1)

pub none_empty : (images : Images) (bodies : List (List ℕ)) → IsEmptyStore images → HasBodies images bodies → ⊥
none_empty images bodies empty (inl x) = empty.0 (has_one images.a x.0 bodies x.1).0
none_empty images bodies empty (inr x) = two_full images bodies empty x
