-- What reading finds.
use Rattle.std.proofs.Common.{◌≡◌, ℕ, ◌+◌, ◌<◌, ◌≤◌, List, [], ◌∷◌, ◌++◌, length, take, drop, get_or, Vec, Option}
use Rattle.std.proofs.Common.{Some, None, sym, ◌∙◌, ap, subst, arith, append_assoc, length-append, length-drop}
use Rattle.std.proofs.Common.{take-append-drop, ⊎_elim}
use Rattle.std.proofs.lemmas.List.{length-take-le, length-take, take_at, drop-drop, drop_more, get_or-drop}
use Rattle.std.proofs.lemmas.List.{get_or-take, get_or_past, map-append}
use Rattle.std.proofs.lemmas.Bool.{cases_lt}
use Rattle.std.proofs.lemmas.Nat.{be_bytes_8}
use Rattle.std.proofs.Math.Seq.{take-add}
use Rattle.std.specs.Option.{IfSome}
use Rattle.std.specs.declared.alloc.Global.{Global}
use Rattle.site_io.specs.Told.{StaysTold}
use Rattle.site_io.specs.Disk.{Images, at_slot, ReadsAt}
use Rattle.site_io.specs.declared.slot.Slot.{Slot}
use Rattle.gate_log.specs.Reading.{bodies_of}
use Rattle.std.specs.Int.{to_be_bytes, from_be_bytes, w64}
use Rattle.gate_log.specs.Layout.{opened, AreRecords}
use Rattle.gate_log.proofs.Records.{records_push}

-- a record at the start, of what was split off
pub record_found : (bytes tail size behind body : List ℕ) (gate n : ℕ) → bytes ≡ gate ∷ tail → gate ≡ 1 → size
    ≡ take 8 tail → behind ≡ drop 8 tail → 8 ≤ length tail → n ≡ from_be_bytes w64 size → n ≤ length behind → body
    ≡ take n behind
    → (size rest : List ℕ) × (length size ≡ 8) × (from_be_bytes w64 size ≡ length body)
    × (bytes ≡ 1 ∷ size ++ body ++ rest)
record_found bytes tail size behind body gate n is is_open size_is behind_is long value within body_is =
    let whole : tail ≡ size ++ body ++ drop n behind =
    sym (take-append-drop 8 tail) ∙ (λ i. size_is' i ++ behind_is' i) ∙ ap (λ (l : List ℕ). size ++ l)
    (sym (take-append-drop n behind) ∙ ap (λ (l : List ℕ). l ++ drop n behind) (sym body_is))
    ∙ sym (append_assoc size body (drop n behind)) in (
      size,
      drop n behind,
      ap length size_is ∙ length-take-le 8 tail long,
      sym value
          ∙ sym (ap length body_is ∙ length-take-le n behind within),
      is ∙ (λ i. is_open i ∷ whole i),
    )
  where
    size_is' : take 8 tail ≡ size
    size_is' = sym size_is

    behind_is' : drop 8 tail ≡ behind
    behind_is' = sym behind_is

-- one record more of those that were read
pub record_more : (bytes : List ℕ) (bodies : List (List ℕ)) (body size rest : List ℕ) (end : ℕ)
    → AreRecords bodies (take end bytes) → end ≤ length bytes → length size ≡ 8 → from_be_bytes w64 size ≡ length body
    → drop end bytes ≡ 1 ∷ size ++ body ++ rest
    → AreRecords (bodies ++ body ∷ []) (take (end + (9 + length body)) bytes) × (end + (9 + length body) ≤ length bytes)
record_more bytes bodies body size rest end are within long value begins =
    let front = take end bytes in
    let record_is = 1 ∷ size ++ body in
    let record_long : length record_is ≡ 9 + length body = omega (arith, long, length-append (1 ∷ size) body) in
    let front_long : length front ≡ end = length-take-le end bytes within in
    let whole : bytes ≡ (front ++ record_is) ++ rest = sym (take-append-drop end bytes)
    ∙ ap (λ (l : List ℕ). front ++ l) begins ∙ sym (append_assoc front record_is rest) in
    let taken : take (end + (9 + length body)) bytes ≡ front ++ record_is =
    ap (λ (l : List ℕ). take (end + (9 + length body)) l) whole ∙ take_at (front ++ record_is) rest
    (end + (9 + length body)) (omega (arith, length-append front record_is, front_long, record_long)) in (
      subst (λ (l : List ℕ). AreRecords (bodies ++ body ∷ []) l) (append_assoc front (1 ∷ size) body ∙ sym taken)
          (records_push bodies front size body are long value),
      omega (
        arith,
        ap length whole,
        length-append (front ++ record_is) rest,
        length-append front record_is,
        front_long,
        record_long,
      ),
    )

-- a head that was read, byte by byte
pub head_found : (bytes : List ℕ) (n : ℕ) → 14 ≤ length bytes → ((i : ℕ) → get_or bytes i 0 < 256) → get_or bytes 0 0
    ≡ 1 → get_or bytes 1 0 ≡ 65 → get_or bytes 2 0 ≡ 68 → get_or bytes 3 0 ≡ 83 → get_or bytes 4 0 ≡ 68 → n
    ≡ from_be_bytes w64 (take 8 (drop 6 bytes))
    → bytes ≡ opened (get_or bytes 5 0) n (drop 14 bytes)
head_found bytes n long small b0 b1 b2 b3 b4 value =
    let size = take 8 (drop 6 bytes) in
    let size_long : length size ≡ 8 = length-take-le 8 (drop 6 bytes) (omega (arith, length-drop 6 bytes)) in
    let size_small : (i : ℕ) → get_or size i 0 < 256 = λ i. small_take 8 (drop 6 bytes)
    (λ k. small_drop 6 bytes small k) i in
    let spelled : to_be_bytes w64 n ≡ size = be_bytes_8 size n size_long size_small value in
    let rest : drop 6 bytes ≡ to_be_bytes w64 n ++ drop 14 bytes =
    sym (take-append-drop 8 (drop 6 bytes)) ∙ (λ i. sym spelled i ++ drop-drop 8 6 bytes i) in
    drop_more bytes 0 0 (omega arith) ∙ (λ i. b0 i
    ∷ (drop_more bytes 1 0 (omega arith)
    ∙ (λ i. b1 i ∷ (drop_more bytes 2 0 (omega arith)
    ∙ (λ i. b2 i ∷ (drop_more bytes 3 0 (omega arith)
    ∙ (λ i. b3 i ∷ (drop_more bytes 4 0 (omega arith)
    ∙ (λ i. b4 i ∷ (drop_more bytes 5 0 (omega arith) ∙ (λ i. get_or bytes 5 0 ∷ rest i)) i)) i)) i)) i)) i)
  where
    small_drop : (n : ℕ) (bytes : List ℕ) → ((i : ℕ) → get_or bytes i 0 < 256) → (i : ℕ) → get_or (drop n bytes) i 0
        < 256
    small_drop n bytes small i = subst (λ k. k < 256) (sym (get_or-drop n bytes i 0)) (small (n + i))

    small_take : (n : ℕ) (bytes : List ℕ) → ((i : ℕ) → get_or bytes i 0 < 256) → (i : ℕ) → get_or (take n bytes) i 0
        < 256
    small_take n bytes small i = ⊎_elim
        (λ lt. subst (λ k. k < 256) (sym (get_or-take n bytes i 0 lt)) (small i))
        (λ ge. subst (λ k. k < 256) (sym (get_or_past (take n bytes) i 0 (omega (arith, ge, length-take n bytes))))
        (omega arith))
        (cases_lt i n)

-- the bodies read so far, with one more
pub bodies_push : (bodies : List (Vec ℕ Global)) (body : Vec ℕ Global) → bodies_of (bodies ++ body ∷ [])
    ≡ bodies_of bodies ++ body.items ∷ []
bodies_push bodies body = map-append (λ body. body.items) bodies (body ∷ [])

-- a part of a slot more
pub front_more : (slot : Slot) (r0 r1 : Option Images) (whole into new : List ℕ) (at n end : ℕ)
    → IfSome r0 (λ held. whole ≡ take at (at_slot slot held)) → StaysTold r0 r1
    → IfSome r1 (λ held. ReadsAt at n into (at_slot slot held)) → new ≡ whole ++ take n into → end ≡ at + n
    → IfSome r0 (λ held. new ≡ take end (at_slot slot held))
front_more slot None r1 whole into new at n end front told read grown ends = tt
front_more slot (Some held) None whole into new at n end front told read grown ends = absurd told
front_more slot (Some held) (Some after) whole into new at n end front told read grown ends =
    let part : take n into ≡ take n (drop at (at_slot slot held)) = read.0
    ∙ ap (λ i. take n (drop at (at_slot slot i))) told in
    grown ∙ (λ i. front i ++ part i) ∙ sym (take-add at n (at_slot slot held)) ∙ ap (λ k. take k (at_slot slot held))
    (sym ends)
