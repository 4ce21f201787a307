-- The identifier at the start of bytes is the one that is read there.
use Rattle.std.proofs.Common.{◌≡◌, ℕ, ◌+◌, ◌*◌, ◌≤◌, true, false, List, ◌++◌, length, drop, Ok, Err, refl, sym, ap}
use Rattle.std.proofs.Common.{◌∙◌, arith}
use Rattle.std.specs.Prelude.{slice_index}
use Rattle.std.proofs.lemmas.List.{length-append, drop_at}
use Rattle.ad_bytes.specs.Reading.{IsBytes, Reading, TakesFront}
use Rattle.ad_ids.specs.declared.sid.SidFault.{SidFault}
use Rattle.ad_ids.specs.SidReading.{sid_at}
use Rattle.ad_ids.specs.SidValue.{SidValue}
use Rattle.ad_ids.specs.Sid.{SpellsSid, sid_bytes}
use Rattle.ad_ids.proofs.SidCodec.{sid_reader}
use Rattle.ad_ids.proofs.SidWriting.{length-sid_bytes}
use Rattle.ad_sd.specs.SidHere.{given, is_given, is_read, sid_of}

pub read_here : (bytes input left : List ℕ) (sid : SidValue) → input ≡ bytes → sid_at input ≡ Ok (sid, left)
    → is_read bytes ≡ true
unfolding is_read
read_here bytes input left sid same read = ap is_given (ap sid_at (sym same) ∙ read)

pub sid_here : (bytes input left : List ℕ) (sid : SidValue) → input ≡ bytes → sid_at input ≡ Ok (sid, left)
    → sid_of bytes ≡ sid
unfolding sid_of
sid_here bytes input left sid same read = ap given (ap sid_at (sym same) ∙ read)

pub no_fault_here : (bytes input : List ℕ) (fault : SidFault) → input ≡ bytes → sid_at input ≡ Err fault
    → is_read bytes ≡ true → ⊥
unfolding is_read
no_fault_here bytes input fault same read there =
    let failed : is_given (sid_at bytes) ≡ false = ap is_given (ap sid_at (sym same) ∙ read) in
    absurd cc

-- ---- what stands after it

pub record Skipped (bytes : List ℕ) (len : ℕ) : Type 0 where
  pub two : 2 ≤ length bytes
  pub within : len ≤ length bytes
  pub read : sid_at bytes ≡ Ok (sid_of bytes, drop len bytes)

was_given : (r : Reading SidValue SidFault) → is_given r ≡ true → (x : SidValue × List ℕ) × (r ≡ Ok x)
was_given (Ok x) e = (x, refl)
was_given (Err f) e = absurd cc

pub skipped : (bytes : List ℕ) → IsBytes bytes → is_read bytes ≡ true → Skipped bytes (8 + 4 * slice_index bytes 1)
unfolding is_read sid_of sid_bytes
skipped bytes fits there =
    let x = was_given (sid_at bytes) there in
    let s = x.0.0 in
    let rest = x.0.1 in
    let t : TakesFront SpellsSid bytes s rest = sid_reader.takes bytes s rest fits x.1 in
    let parts : bytes ≡ sid_bytes s ++ rest = t.parts ∙ ap (λ (l : List ℕ). l ++ rest) t.spelled.1 in
    let count : slice_index bytes 1 ≡ length s.sub_authorities = ap (λ (l : List ℕ). slice_index l 1) parts in
    let size : length (sid_bytes s) ≡ 8 + 4 * slice_index bytes 1 = length-sid_bytes s ∙ ap (λ (n : ℕ). 8 + 4 * n)
    (sym count) in
    let after : drop (8 + 4 * slice_index bytes 1) bytes ≡ rest = ap (drop (8 + 4 * slice_index bytes 1)) parts
    ∙ drop_at (sid_bytes s) rest (8 + 4 * slice_index bytes 1) size in
    let value : s ≡ given (sid_at bytes) = sym (ap given x.1) in
    record {
      two = omega (arith, ap length parts, length-append (sid_bytes s) rest, size);
      within = omega (arith, ap length parts, length-append (sid_bytes s) rest, size);
      read = x.1 ∙ ap (λ (v : SidValue). Ok (v, rest)) value ∙ ap (λ (l : List ℕ). Ok (given (sid_at bytes), l))
          (sym after);
    }
