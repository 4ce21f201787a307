-- Records of a slot, through the two steps that add one.
use Rattle.std.proofs.Common.{◌≡◌, ◌≢◌, ◌⊎◌, inl, inr, ℕ, ◌+◌, ◌<◌, ◌^◌, List, [], ◌∷◌, ◌++◌, length, refl, sym, ◌∙◌}
use Rattle.std.proofs.Common.{ap, subst, arith, append_assoc, length-append}
use Rattle.std.proofs.lemmas.List.{append-nil}
use Rattle.std.proofs.lemmas.Bool.{cases_eq}
use Rattle.std.specs.Int.{to_be_bytes, from_be_bytes, w64}
use Rattle.std.proofs.lemmas.Nat.{from_be_bytes-to_be_bytes_8}
use Rattle.site_io.specs.Disk.{Torn, put}
use Rattle.gate_log.specs.Layout.{head, opened, recorded, AreRecords, HasRecords}
use Rattle.gate_log.proofs.Bytes.{torn_behind, put_behind, torn_gate, put_gate}

-- one record more
pub records_push : (bodies : List (List ℕ)) (records size body : List ℕ) → AreRecords bodies records → length size ≡ 8
    → from_be_bytes w64 size ≡ length body → AreRecords (bodies ++ body ∷ []) (records ++ 1 ∷ size ++ body)
records_push [] records size body are long value =
    (size, [], long, value, ap (λ (l : List ℕ). l ++ 1 ∷ size ++ body) are ∙ sym (append-nil (1 ∷ size ++ body)), refl)
records_push (first ∷ bodies) records size body are long value =
    let s = are.0 in
    let rest = are.1 in (
      s,
      rest ++ 1 ∷ size ++ body,
      are.2,
      are.3,
      ap (λ (l : List ℕ). l ++ 1 ∷ size ++ body) are.4
          ∙ append_assoc (1 ∷ s ++ first ++ rest) (1 ∷ size) body
          ∙ append_assoc (1 ∷ s ++ first) rest (1 ∷ size ++ body)
          ∙ ap (λ (l : List ℕ). 1 ∷ s ++ first ++ l) (sym (append_assoc rest (1 ∷ size) body)),
      records_push bodies rest size body are.5 long value,
    )

-- a slot with a record behind the closed gate
pub record Staged (bytes : List ℕ) (version generation end : ℕ) (bodies : List (List ℕ)) (body : List ℕ) : Type 0 where
  pub records : List ℕ
  pub gate : ℕ
  pub size : List ℕ
  pub junk : List ℕ
  pub layout : bytes ≡ opened version generation records ++ gate ∷ (size ++ body ++ 0 ∷ junk)
  pub are : AreRecords bodies records
  pub closed : gate ≢ 1
  pub ends : end ≡ length (opened version generation records)
  pub long : length size ≡ 8
  pub value : from_be_bytes w64 size ≡ length body

-- the bytes of a record and a closed gate after it
pub behind_gate : (body : List ℕ) → recorded body ++ 0 ∷ [] ≡ to_be_bytes w64 (length body) ++ body ++ 0 ∷ []
behind_gate body = refl

-- What stands up to the closed gate stays, whatever is written after it.
pub torn_stage : (bytes new : List ℕ) (version generation end n : ℕ) (bodies : List (List ℕ))
    → HasRecords bytes version generation end bodies → Torn (end + 1) n bytes new → HasRecords new version generation
    end bodies
torn_stage bytes new version generation end n bodies has torn =
    let front = opened version generation has.records in
    let regrouped : bytes ≡ (front ++ has.gate ∷ []) ++ has.junk = has.layout
    ∙ sym (append_assoc front (has.gate ∷ []) has.junk) in
    let after = torn_behind (front ++ has.gate ∷ []) has.junk new (end + 1) n
    (omega (arith, has.ends, length-append front (has.gate ∷ [])))
    (subst (λ (l : List ℕ). Torn (end + 1) n l new) regrouped torn) in
    record {
      records = has.records;
      gate = has.gate;
      junk = after.0;
      layout = after.1 ∙ append_assoc front (has.gate ∷ []) after.0;
      are = has.are;
      closed = has.closed;
      ends = has.ends;
    }

pub put_stage : (bytes body : List ℕ) (version generation end : ℕ) (bodies : List (List ℕ)) → length body < 2 ^ 64
    → HasRecords bytes version generation end bodies
    → Staged (put (end + 1) (recorded body ++ 0 ∷ []) bytes) version generation end bodies body
put_stage bytes body version generation end bodies fits has =
    let front = opened version generation has.records in
    let size = to_be_bytes w64 (length body) in
    let regrouped : bytes ≡ (front ++ has.gate ∷ []) ++ has.junk = has.layout
    ∙ sym (append_assoc front (has.gate ∷ []) has.junk) in
    let after = put_behind (front ++ has.gate ∷ []) (recorded body ++ 0 ∷ []) has.junk (end + 1)
    (omega (arith, has.ends, length-append front (has.gate ∷ []))) in
    record {
      records = has.records;
      gate = has.gate;
      size = size;
      junk = after.0;
      layout = ap (λ (l : List ℕ). put (end + 1) (recorded body ++ 0 ∷ []) l) regrouped ∙ after.1
          ∙ stage_layout front size body after.0 has.gate;
      are = has.are;
      closed = has.closed;
      ends = has.ends;
      long = refl;
      value = from_be_bytes-to_be_bytes_8 (length body) fits;
    }
  where
    stage_layout : (front size body rest : List ℕ) (gate : ℕ) → (front ++ gate ∷ []) ++ (size ++ body ++ 0 ∷ [])
        ++ rest ≡ front ++ gate ∷ (size ++ body ++ 0 ∷ rest)
    stage_layout front size body rest gate =
        append_assoc (front ++ gate ∷ []) (size ++ body ++ 0 ∷ []) rest
        ∙ append_assoc front (gate ∷ []) ((size ++ body ++ 0 ∷ []) ++ rest)
        ∙ ap (λ (l : List ℕ). front ++ gate ∷ l) (append_assoc (size ++ body) (0 ∷ []) rest)

-- with the gate open, the record counts
opened_stage : (bytes body : List ℕ) (version generation end : ℕ) (bodies : List (List ℕ))
    (records size junk : List ℕ) → bytes ≡ opened version generation records ++ 1 ∷ (size ++ body ++ 0 ∷ junk)
    → AreRecords bodies records
    → end ≡ length (opened version generation records) → length size ≡ 8 → from_be_bytes w64 size ≡ length body
    → HasRecords bytes version generation (end + 9 + length body) (bodies ++ body ∷ [])
opened_stage bytes body version generation end bodies records size junk layout are ends long value = record {
  records = records ++ 1 ∷ size ++ body;
  gate = 0;
  junk = junk;
  layout = layout ∙ regroup (opened version generation records) size body junk ∙ ap (λ (l : List ℕ). l ++ 0 ∷ junk)
      (inside version generation records (1 ∷ size) body);
  are = records_push bodies records size body are long value;
  closed = omega arith;
  ends = omega (
    arith,
    ends,
    long,
    length-append (opened version generation records ++ 1 ∷ size) body,
    length-append
        (opened version generation records) (1 ∷ size),
    ap length (inside version generation records (1 ∷ size) body),
  );
}
  where
    regroup : (front size body junk : List ℕ) → front ++ 1 ∷ (size ++ body ++ 0 ∷ junk) ≡ (front ++ 1 ∷ size ++ body)
        ++ 0 ∷ junk
    regroup front size body junk =
        sym (append_assoc front (1 ∷ size ++ body) (0 ∷ junk)) ∙ ap (λ (l : List ℕ). l ++ 0 ∷ junk)
        (sym (append_assoc front (1 ∷ size) body))

    inside : (version generation : ℕ) (records size body : List ℕ) → opened version generation records ++ size ++ body
        ≡ opened version generation (records ++ size ++ body)
    inside version generation records size body =
        append_assoc (opened version generation records) size body
        ∙ append_assoc (1 ∷ head version generation) records (size ++ body)
        ∙ ap (λ (l : List ℕ). 1 ∷ head version generation ++ l) (sym (append_assoc records size body))

-- A torn write of the gate leaves the record there, counted or not.
pub torn_opening : (bytes new body : List ℕ) (version generation end : ℕ) (bodies : List (List ℕ))
    → Staged bytes version generation end bodies body → Torn end 1 bytes new
    → HasRecords new version generation end bodies ⊎ HasRecords new version generation (end + 9 + length body)
    (bodies ++ body ∷ [])
torn_opening bytes new body version generation end bodies staged torn =
    let front = opened version generation staged.records in
    let behind = staged.size ++ body ++ 0 ∷ staged.junk in
    let after = torn_gate front behind new staged.gate end staged.ends
    (subst (λ (l : List ℕ). Torn end 1 l new) staged.layout torn) in
    elim (cases_eq after.0 1) [
      | inl is_open ↦ inr (opened_stage new body version generation end bodies staged.records staged.size
          (staged.junk ++ after.1)
          (after.2 ∙ ap (λ k. front ++ k ∷ behind ++ after.1) is_open ∙ append_assoc front (1 ∷ behind) after.1
          ∙ ap (λ (l : List ℕ). front ++ 1 ∷ l) (append_assoc (staged.size ++ body) (0 ∷ staged.junk) after.1))
          staged.are staged.ends staged.long staged.value)
      | inr shut ↦ inl (record {
        records = staged.records;
        gate = after.0;
        junk = behind ++ after.1;
        layout = after.2 ∙ append_assoc front (after.0 ∷ behind) after.1;
        are = staged.are;
        closed = shut;
        ends = staged.ends;
      })
    ]

pub put_opening : (bytes body : List ℕ) (version generation end : ℕ) (bodies : List (List ℕ))
    → Staged bytes version generation end bodies body → HasRecords (put end (1 ∷ []) bytes) version generation
    (end + 9 + length body) (bodies ++ body ∷ [])
put_opening bytes body version generation end bodies staged =
    let front = opened version generation staged.records in
    let behind = staged.size ++ body ++ 0 ∷ staged.junk in
    opened_stage (put end (1 ∷ []) bytes) body version generation end bodies staged.records staged.size staged.junk
    (ap (λ (l : List ℕ). put end (1 ∷ []) l) staged.layout ∙ put_gate front behind staged.gate 1 end staged.ends)
    staged.are staged.ends staged.long staged.value
