-- Each message that lines give can be written, and a frame has room for it.
use Rattle.std.proofs.Common.{◌≡◌, ℕ, suc, ◌+◌, ◌<◌, ◌≤◌, List, [], ◌∷◌, length, Result, Ok, Err, refl, subst, inl}
use Rattle.std.proofs.Common.{inr, arith}
use Rattle.std.specs.Prelude.{◌==◌, nat_le}
use Rattle.std.proofs.lemmas.Bool.{cases_Bool, leb-true}
use Rattle.ad_bytes.specs.Reading.{◌>>=◌, or_fault, fault_as}
use Rattle.ad_sd.specs.declared.parts.AceList.{AceList}
use Rattle.ad_sd.specs.Writing.{written}
use Rattle.ad_ldap.specs.Limits.{most_int}
use Rattle.ad_ldap.specs.declared.requests.Message.{Message}
use Rattle.ad_ldap.specs.MessageValue.{message_seen}
use Rattle.ad_ldifmod_message.specs.Written.{IsWritable, message_bytes}
use Rattle.ad_dir_model.specs.Directory.{Directory}
use Rattle.ad_ldifmod.specs.declared.fault.GrantFault.{GrantFault}
use Rattle.ad_ldifmod.specs.declared.fault.GrantKind.TheVariants as kind
use Rattle.ad_ldifmod.specs.declared.fault.Refusal.{Refusal}
use Rattle.ad_ldifmod.specs.declared.fault.Refusal.TheVariants as refusal
use Rattle.ad_ldifmod.specs.Lines.{in_front, lines_of, says_nothing}
use Rattle.ad_ldifmod.specs.Lists.{Lists, Step, stored_list, step_of, after_step, after_if}
use Rattle.ad_ldifmod.specs.Messages.{max_message, list_alone, modify, fits, message_of}
use Rattle.ad_ldifmod.specs.Grants.{at_line, message_by, messages_from, messages_of, IsOfFrame, AreFrames}

-- a modification of a descriptor can be written
pub writable : (id : ℕ) (name sd : List ℕ) → 1 ≤ id → id < 2147483648 → IsWritable (message_seen (modify id name sd))
unfolding most_int
writable id name sd from to = record { ranges = (from, omega (arith, to), (omega arith, tt)); change = tt }

fits_so : (message given : Message) → IsWritable (message_seen message) → (fits message >>= λ _. Ok message)
    ≡ Ok given → IsOfFrame given
fits_so message given is ok = elim (cases_Bool (nat_le (length (message_bytes (message_seen message))) max_message)) [
  | inl few ↦ (let same : message ≡ given = cc (rw few at ok) in
      subst IsOfFrame same (record {
        written = is;
        fits = leb-true (length (message_bytes (message_seen message)))
            max_message few;
      }))
  | inr many ↦ absurd (no_error (rw many at ok))
]
  where
    no_error : {E : Refusal} → Err E ≡ Ok given → ⊥
    no_error e = cc

of_written : (id : ℕ) (name : List ℕ) (sd : Result (List ℕ) Refusal) (given : Message) → 1 ≤ id → id < 2147483648
    → (sd >>= λ bytes. fits (modify id name bytes) >>= λ _. Ok (modify id name bytes)) ≡ Ok given → IsOfFrame given
of_written id name (Ok bytes) given from to is = fits_so (modify id name bytes) given (writable id name bytes from to)
    is
of_written id name (Err e) given from to is = absurd cc

of_message : (id : ℕ) (name : List ℕ) (list : AceList) (given : Message) → 1 ≤ id → id < 2147483648
    → message_of id name list ≡ Ok given → IsOfFrame given
unfolding message_of
of_message id name list given from to is = of_written id name
    (or_fault (refusal.Bad kind.TooLong) (written (list_alone list))) given from to is

of_line : (lists : Lists) (id : ℕ) (step : Result Step Refusal) (given : Message) → 1 ≤ id → id < 2147483648
    → (step >>= λ s. message_of id s.name (after_step s lists s.number)) ≡ Ok given → IsOfFrame given
of_line lists id (Ok s) given from to is = of_message id s.name (after_step s lists s.number) given from to is
of_line lists id (Err e) given from to is = absurd cc

pub framed_line : (dir : Directory) (lists : Lists) (id : ℕ) (line : List ℕ) (given : Message) → 1 ≤ id
    → id < 2147483648 → message_by dir lists id line ≡ Ok given → IsOfFrame given
unfolding message_by
framed_line dir lists id line given from to is = of_line lists id (step_of dir line) given from to is

-- a message, and those after it
of_both : (lists : Lists) (id n : ℕ) (step : Result Step Refusal) (others : Result (List Message) GrantFault)
    (given : List Message) → 1 ≤ id → id < 2147483648
    → ((rest : List Message) → others ≡ Ok rest → AreFrames rest)
    → (fault_as (at_line n) (step >>= λ s. message_of id s.name (after_step s lists s.number)) >>= λ message. others
    >>= λ rest. Ok (message ∷ rest)) ≡ Ok given
    → AreFrames given
of_both lists id n step others given from to behind is =
    by (step >>= λ s. message_of id s.name (after_step s lists s.number)) (of_line lists id step) others behind is
  where
    by : (first : Result Message Refusal) → ((m : Message) → 1 ≤ id → id < 2147483648 → first ≡ Ok m → IsOfFrame m)
        → (others' : Result (List Message) GrantFault) → ((rest : List Message) → others' ≡ Ok rest → AreFrames rest)
        → (fault_as (at_line n) first >>= λ message. others' >>= λ rest. Ok (message ∷ rest)) ≡ Ok given
        → AreFrames given
    by (Err e) one others' behind' is' = absurd cc
    by (Ok m) one (Err e) behind' is' = absurd cc
    by (Ok m) one (Ok rest) behind' is' = let same : (m ∷ rest) ≡ given = cc
        in subst AreFrames same (one m from to refl, behind' rest refl)

framed_from : (dir : Directory) (lists : Lists) (n id : ℕ) (lines : List (List ℕ)) (given : List Message) → 1 ≤ id
    → id + length lines < 2147483648
    → messages_from dir lists n id lines ≡ Ok given → AreFrames given
unfolding messages_from message_by
framed_from dir lists n id [] given from to is = let same : [] ≡ given = cc in subst AreFrames same tt
framed_from dir lists n id (line ∷ lines) given from to is = elim (cases_Bool (says_nothing line)) [
  | inl nothing ↦ framed_from dir lists (suc n) id lines given from (omega (arith, to)) (rw nothing at is)
  | inr something ↦ of_both lists id n (step_of dir line)
      (messages_from dir (after_if (step_of dir line) lists) (suc n) (suc id) lines) given from (omega (arith, to))
      (λ rest there. framed_from dir (after_if (step_of dir line) lists) (suc n) (suc id) lines rest (omega arith)
      (omega (arith, to)) there) (rw something at is)
]

in_front_few : (b : ℕ) (lines : List (List ℕ)) → length (in_front b lines) ≤ suc (length lines)
in_front_few b [] = omega arith
in_front_few b (line ∷ lines) = omega arith

lines_few : (text : List ℕ) → length (lines_of text) ≤ length text
unfolding lines_of
lines_few [] = omega arith
lines_few (b ∷ text) = elim (cases_Bool (b == 10)) [
  | inl ended ↦ rw ended (omega (arith, lines_few text))
  | inr not ↦ rw not (omega (arith, in_front_few b (lines_of text), lines_few text))
]

pub framed : (dir : Directory) (text : List ℕ) (given : List Message) → length text ≤ 1048576 → messages_of dir text
    ≡ Ok given → AreFrames given
unfolding messages_of
framed dir text given few is = framed_from dir (stored_list dir) 1 1 (lines_of text) given (omega arith)
    (omega (arith, lines_few text, few)) is
