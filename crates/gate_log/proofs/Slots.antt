-- A slot that is closed, gets a snapshot, and is opened.
use Rattle.std.proofs.Common.{◌≡◌, ◌≢◌, ◌⊎◌, inl, inr, ℕ, ◌+◌, ◌<◌, ◌^◌, List, [], ◌∷◌, ◌++◌, length, drop, refl, sym}
use Rattle.std.proofs.Common.{◌∙◌, ap, subst, arith, append_assoc}
use Rattle.std.proofs.lemmas.List.{append-nil}
use Rattle.std.proofs.lemmas.Bool.{cases_eq}
use Rattle.std.specs.Int.{to_be_bytes, w64}
use Rattle.std.proofs.lemmas.Nat.{from_be_bytes-to_be_bytes_8}
use Rattle.site_io.specs.Disk.{Torn, put}
use Rattle.gate_log.specs.Layout.{head, opened, recorded, snapshot, snapshot_end, Fresh, HasRecords}
use Rattle.gate_log.specs.Store.{IsClosed, IsOlder}
use Rattle.gate_log.proofs.Bytes.{torn_behind, put_behind, torn_gate, put_gate}

zero_closed : ◌≢◌ {A = ℕ} 0 1
zero_closed = omega arith

-- a slot that was closed
pub put_closed : (bytes : List ℕ) → IsClosed (put 0 (0 ∷ []) bytes)
put_closed bytes = (0, drop 1 bytes, zero_closed, refl)

-- What a torn write of its gate leaves of a slot: another gate, the same bytes after it, and anything after those.
pub torn_first : (gate : ℕ) (rest new : List ℕ) → Torn 0 1 (gate ∷ rest) new → (g : ℕ) × (extra : List ℕ)
    × (new ≡ g ∷ rest ++ extra)
torn_first gate rest new torn = torn_gate [] rest new gate 0 refl torn

-- An older slot that is being closed is older or closed.
pub torn_older : (generation : ℕ) (old new : List ℕ) → IsOlder generation old → Torn 0 1 old new → IsClosed new
    ⊎ IsOlder generation new
torn_older generation old new older torn =
    let behind = head 2 older.0 ++ older.1 in
    let after = torn_first 1 behind new (subst (λ (l : List ℕ). Torn 0 1 l new) older.4 torn) in
    elim (cases_eq after.0 1) [
      | inl is_open ↦ inr (
        older.0,
        older.1 ++ after.1,
        older.2,
        older.3,
        after.2 ∙ ap (λ k. k ∷ behind ++ after.1)
            is_open ∙ append_assoc (1 ∷ head 2 older.0) older.1 after.1,
      )
      | inr shut ↦ inl (after.0, behind ++ after.1, shut, after.2)
    ]

-- What is written behind a closed gate leaves it closed.
pub torn_closed : (n : ℕ) (old new : List ℕ) → IsClosed old → Torn 1 n old new → IsClosed new
torn_closed n old new closed torn =
    let after = torn_behind (closed.0 ∷ []) closed.1 new 1 n refl
    (subst (λ (l : List ℕ). Torn 1 n l new) closed.3 torn) in
    (closed.0, after.0, closed.2, after.1)

pub put_fresh : (generation : ℕ) (body old : List ℕ) → IsClosed old → Fresh (put 1 (snapshot generation body) old)
    generation body
put_fresh generation body old closed =
    let after = put_behind (closed.0 ∷ []) (snapshot generation body) closed.1 1 refl in
    record {
      gate = closed.0;
      junk = after.0;
      layout = ap (λ (l : List ℕ). put 1 (snapshot generation body) l) closed.3 ∙ after.1;
      closed = closed.2;
    }

-- with the gate open it has the one body
fresh_has : (bytes body junk : List ℕ) (generation : ℕ) → length body < 2 ^ 64 → bytes ≡ 1
    ∷ (snapshot generation body ++ junk) → HasRecords bytes 2 generation (snapshot_end body) (body ∷ [])
fresh_has bytes body junk generation fits layout = record {
  records = 1 ∷ recorded body;
  gate = 0;
  junk = junk;
  layout = layout ∙ regroup (head 2 generation) (recorded body) junk;
  are = (
    to_be_bytes w64 (length body),
    [],
    refl,
    from_be_bytes-to_be_bytes_8 (length body) fits,
    sym
        (append-nil (1 ∷ recorded body)),
    refl,
  );
  closed = zero_closed;
  ends = omega arith;
}
  where
    regroup : (front middle junk : List ℕ) → 1 ∷ ((front ++ 1 ∷ middle ++ 0 ∷ []) ++ junk) ≡ (1 ∷ front ++ 1 ∷ middle)
        ++ 0 ∷ junk
    regroup front middle junk = ap (λ (l : List ℕ). 1 ∷ l) (append_assoc (front ++ 1 ∷ middle) (0 ∷ []) junk)

-- A torn write of the gate of a fresh slot leaves it closed, or open with the one body.
pub torn_fresh : (generation : ℕ) (body old new : List ℕ) → length body < 2 ^ 64 → Fresh old generation body
    → Torn 0 1 old new → IsClosed new ⊎ HasRecords new 2 generation (snapshot_end body) (body ∷ [])
torn_fresh generation body old new fits fresh torn =
    let behind = snapshot generation body ++ fresh.junk in
    let after = torn_first fresh.gate behind new (subst (λ (l : List ℕ). Torn 0 1 l new) fresh.layout torn) in
    elim (cases_eq after.0 1) [
      | inl is_open ↦ inr (fresh_has new body (fresh.junk ++ after.1) generation fits
          (after.2 ∙ ap (λ k. k ∷ behind ++ after.1) is_open ∙ ap (λ (l : List ℕ). 1 ∷ l)
          (append_assoc (snapshot generation body) fresh.junk after.1)))
      | inr shut ↦ inl (after.0, behind ++ after.1, shut, after.2)
    ]

pub put_opened : (generation : ℕ) (body old : List ℕ) → length body < 2 ^ 64 → Fresh old generation body
    → HasRecords (put 0 (1 ∷ []) old) 2 generation (snapshot_end body) (body ∷ [])
put_opened generation body old fits fresh =
    let behind = snapshot generation body ++ fresh.junk in
    fresh_has (put 0 (1 ∷ []) old) body fresh.junk generation fits
    (ap (λ (l : List ℕ). put 0 (1 ∷ []) l) fresh.layout ∙ put_gate [] behind fresh.gate 1 0 refl)

-- A torn write of the gate of a slot with records leaves it closed, or as it was.
pub torn_live : (version generation end : ℕ) (bodies : List (List ℕ)) (old new : List ℕ)
    → HasRecords old version generation end bodies → Torn 0 1 old new → IsClosed new
    ⊎ HasRecords new version generation end bodies
torn_live version generation end bodies old new has torn =
    let behind = head version generation ++ has.records ++ has.gate ∷ has.junk in
    let after = torn_first 1 behind new (subst (λ (l : List ℕ). Torn 0 1 l new) has.layout torn) in
    elim (cases_eq after.0 1) [
      | inl is_open ↦ inr (record {
        records = has.records;
        gate = has.gate;
        junk = has.junk ++ after.1;
        layout = after.2 ∙ ap (λ k. k ∷ behind ++ after.1) is_open
            ∙ append_assoc (opened version generation has.records) (has.gate ∷ has.junk) after.1;
        are = has.are;
        closed = has.closed;
        ends = has.ends;
      })
      | inr shut ↦ inl (after.0, behind ++ after.1, shut, after.2)
    ]

-- an open slot with records is older than the next generation
pub is_older : (generation end : ℕ) (bodies : List (List ℕ)) (bytes : List ℕ) → 0 < generation
    → HasRecords bytes 2 generation end bodies → IsOlder (generation + 1) bytes
is_older generation end bodies bytes above has = (
  generation,
  has.records ++ has.gate ∷ has.junk,
  above,
  omega arith,
  has.layout
      ∙ append_assoc (1 ∷ head 2 generation) has.records (has.gate ∷ has.junk),
)
