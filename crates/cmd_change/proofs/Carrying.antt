-- The answer to an input without a fault carries each record's message.
use Rattle.std.proofs.Common.{◌≡◌, ℕ, suc, ◌+◌, ◌^◌, ◌<◌, ◌≤◌, Bool, true, false, List, [], ◌∷◌, ◌++◌, length, Option}
use Rattle.std.proofs.Common.{Some, None, Result, Ok, Err, refl, sym, ap, ◌∙◌, arith}
use Rattle.std.specs.Prelude.{if◌then◌else◌, nat_lt, codes}
use Rattle.std.specs.List.{AllByRecursion}
use Rattle.std.proofs.lemmas.Bool.{cases_Bool, leb-true, ltb-false}
use Rattle.ad_bytes.specs.Reading.{StartsWith}
use Rattle.ad_bytes.specs.Numbers.{be_bytes, SpellsByte, SpellsBe, SpellsPart}
use Rattle.ad_frames.specs.Frame.{SpellsFrame}
use Rattle.ad_frames.specs.Limits.{max_body, max_connections}
use Rattle.ad_ldif.specs.Records.{Fault}
use Rattle.ad_ldif.specs.Change.{Change}
use Rattle.ad_ldif.specs.Changes.{changes}
use Rattle.ad_ldif.specs.Ranges.{HasItemOps}
use Rattle.ad_ldif.proofs.ChangeLaws.{changes_ops, changes_few}
use Rattle.ad_ldifmod_message.specs.Asked.{message_asked}
use Rattle.ad_ldifmod_message.proofs.Ranged.{asked_writable}
use Rattle.ad_ldifmod_message.proofs.Spelled.{message_spelled}
use Rattle.cmd_change.specs.Change.{limit, frame, body_of, fits, Refusal, refusal, behind, at_end, frames_from}
use Rattle.cmd_change.specs.Change.{answer_to, Asks}
use Rattle.cmd_change.specs.Carried.{frame_with, CarriesEach}

-- ---- one frame

framed : (body : List ℕ) → length body ≤ 1048576 → SpellsFrame (frame_with body) (frame body)
unfolding frame max_body max_connections be_bytes
framed body few = record {
  content = body;
  few = omega (arith, few);
  connection = omega arith;
  spelled = refl;
  text_is = record {
    front = 2 ∷ [];
    behind = (0 ∷ 0 ∷ []) ++ (be_bytes 4 (length body) ++ body);
    parts = refl;
    spelled = (omega arith, refl);
    follows = record {
      front = 0 ∷ 0 ∷ [];
      behind = be_bytes 4 (length body) ++ body;
      parts = refl;
      spelled = (omega arith, refl);
      follows = record {
        front = be_bytes 4 (length body);
        behind = body;
        parts = refl;
        spelled
            = (omega (arith, few), refl);
        follows = (refl, refl);
      };
    };
  };
}

-- ---- all frames

behind_ok : (front frames : List ℕ) (read : Result (List ℕ) Refusal) → behind front read ≡ Ok frames → (rest : List ℕ)
    × (read ≡ Ok rest) × (frames ≡ front ++ rest)
behind_ok front frames (Ok rest) e = (
  rest,
  refl,
  let same : ◌≡◌ {A = Result (List ℕ) Refusal} (Ok (front ++ rest))
      (Ok frames) = e in let parts : front ++ rest ≡ frames = cc in sym parts,
)
behind_ok front frames (Err r) e = absurd cc

by_room : (room : Bool) (front frames : List ℕ) (read : Result (List ℕ) Refusal) (r : Refusal)
    → (if room then behind front read else Err r) ≡ Ok frames → (room ≡ true) × (behind front read ≡ Ok frames)
by_room true front frames read r e = (refl, e)
by_room false front frames read r e = absurd cc

at_end_ok : (stop : Option Fault) (frames : List ℕ) → at_end stop ≡ Ok frames → (stop ≡ None) × (frames ≡ [])
at_end_ok None frames e = (
  refl,
  let same : ◌≡◌ {A = Result (List ℕ) Refusal} (Ok []) (Ok frames) = e in let none : []
      ≡ frames = cc in sym none,
)
at_end_ok (Some f) frames e = absurd cc

stops_not : (n : ℕ) (cs : List Change) (stop : Option Fault) (frames : List ℕ) → frames_from n cs stop ≡ Ok frames
    → stop ≡ None
unfolding frames_from
stops_not n [] stop frames e = (at_end_ok stop frames e).0
stops_not n (c ∷ cs) stop frames e =
    let more = by_room (fits (body_of c n)) (frame (body_of c n)) frames (frames_from (suc n) cs stop)
    (refusal c.line (codes "long")) e in
    let rest = behind_ok (frame (body_of c n)) frames (frames_from (suc n) cs stop) more.1 in
    stops_not (suc n) cs stop rest.0 rest.1

carries : (n : ℕ) (cs : List Change) (stop : Option Fault) (frames : List ℕ) → 0 < n → n + length cs ≤ 67108865
    → AllByRecursion HasItemOps cs → frames_from n cs stop ≡ Ok frames → CarriesEach n cs frames
unfolding frames_from
carries n [] stop frames some few ops e = (at_end_ok stop frames e).1
carries n (c ∷ cs) stop frames some few ops e =
    let more = by_room (fits (body_of c n)) (frame (body_of c n)) frames (frames_from (suc n) cs stop)
    (refusal c.line (codes "long")) e in
    let rest = behind_ok (frame (body_of c n)) frames (frames_from (suc n) cs stop) more.1 in
    let short : length (body_of c n) ≤ 1048576 = leb-true (length (body_of c n)) 1048576 more.0 in (
      body_of c n,
      message_spelled (message_asked c n) (asked_writable c n ops.0 some (omega (arith, few))) (omega (arith, short)),
      record {
        front = frame (body_of c n);
        behind = rest.0;
        parts = rest.2;
        spelled = framed (body_of c n) short;
        follows = carries (suc n) cs stop rest.0 (omega arith) (omega (arith, few)) ops.1 rest.1;
      },
    )

-- ---- an input

within : (above : Bool) (read : Result (List ℕ) Refusal) (r : Refusal) (frames : List ℕ)
    → (if above then Err r else read) ≡ Ok frames → (above ≡ false) × (read ≡ Ok frames)
within true read r frames e = absurd cc
within false read r frames e = (refl, e)

parts : (input frames : List ℕ) → Asks input frames → (length input ≤ limit)
    × (frames_from 1 (changes input).changes (changes input).stop ≡ Ok frames)
unfolding answer_to
parts input frames e =
    let both = within (nat_lt limit (length input)) (frames_from 1 (changes input).changes (changes input).stop)
    (refusal 0 (codes "too long")) frames e in
    (ltb-false limit (length input) both.0, both.1)

pub whole : (input frames : List ℕ) → Asks input frames → (changes input).stop ≡ None
whole input frames e = stops_not 1 (changes input).changes (changes input).stop frames (parts input frames e).1

pub carried : (input frames : List ℕ) → Asks input frames → CarriesEach 1 (changes input).changes frames
carried input frames e =
    let both = parts input frames e in
    let few : length (changes input).changes ≤ length input = changes_few input in
    carries 1 (changes input).changes (changes input).stop frames (omega arith) (omega (arith, few, both.0))
    (changes_ops input) both.1
