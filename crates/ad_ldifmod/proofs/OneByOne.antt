-- One line after the other: what all lines give stays.
use Rattle.std.proofs.Common.{◌≡◌, ℕ, suc, ◌+◌, ◌<◌, ◌≤◌, true, false, List, [], ◌∷◌, ◌++◌, length, Option, Some}
use Rattle.std.proofs.Common.{None, Result, Ok, Err, refl, sym, subst, ap, ◌∙◌, append_assoc, arith}
use Rattle.std.specs.Prelude.{nat_eq, unwrap_or}
use Rattle.std.specs.HashMap.{get}
use Rattle.std.proofs.lemmas.List.{append-nil}
use Rattle.ad_bytes.specs.Reading.{◌>>=◌}
use Rattle.ad_ldap.specs.declared.requests.Message.{Message}
use Rattle.ad_dir_model.specs.Directory.{Directory}
use Rattle.ad_ldifmod.specs.declared.fault.GrantKind.{GrantKind}
use Rattle.ad_ldifmod.specs.declared.fault.GrantFault.{GrantFault}
use Rattle.ad_ldifmod.specs.declared.fault.GrantFault.TheVariants as fault
use Rattle.ad_ldifmod.specs.declared.fault.Refusal.TheVariants as refusal
use Rattle.ad_ldifmod.specs.declared.next.Taken.{Taken}
use Rattle.ad_ldifmod.specs.Lines.{lines_of, says_nothing}
use Rattle.ad_ldifmod.specs.Lists.{Lists, stored_list, step_of, after_if}
use Rattle.ad_ldifmod.specs.Grants.{message_by, messages_from, messages_of}
use Rattle.ad_ldifmod.specs.Taken.{lists_in, Begins, left, before, joined, HasRoom, IsNext, with_next, from, IsTaken}
use Rattle.ad_ldifmod.specs.Steps.{IsFirstLine}
use Rattle.ad_ldifmod.proofs.Framing.{framed_line}

-- ---- a line

same_from : (dir : Directory) (l m : Lists) (n k id other : ℕ) (lines : List (List ℕ)) → l ≡ m → n ≡ k → id ≡ other
    → messages_from dir l n id lines ≡ messages_from dir m k other lines
same_from dir l m n k id other lines lists numbers ids =
    ap (λ (x : Lists). messages_from dir x n id lines) lists
    ∙ ap (λ (x : ℕ). messages_from dir m x id lines) numbers
    ∙ ap (λ (x : ℕ). messages_from dir m k x lines) ids

pub nothing_taken : (dir : Directory) (old new : Taken) (line : List ℕ) → says_nothing line ≡ true
    → lists_in dir new.cache ≡ lists_in dir old.cache → new.lines ≡ suc old.lines → new.messages ≡ old.messages
    → IsTaken dir old new line None
unfolding messages_from
nothing_taken dir old new line is lists number same = record {
  goes_on = λ lines. rw is
      (same_from dir (lists_in dir old.cache) (lists_in dir new.cache) (suc (suc old.lines)) (suc new.lines)
      (suc old.messages) (suc new.messages) lines (sym lists) (ap suc (sym number)) (ap suc (sym same)));
  frame = tt;
  one_line = number;
  few = omega (arith, same);
}

-- a message before others
put_before : (message : Message) (others : Result (List Message) GrantFault)
    → (others >>= λ rest. Ok (message ∷ rest)) ≡ before (Some message) others
put_before message (Ok rest) = refl
put_before message (Err e) = refl

pub one_taken : (dir : Directory) (old new : Taken) (line : List ℕ) (message : Message) (id : ℕ)
    → says_nothing line ≡ false → id ≡ suc old.messages → id < 2147483648
    → message_by dir (lists_in dir old.cache) id line ≡ Ok message
    → lists_in dir new.cache ≡ after_if (step_of dir line) (lists_in dir old.cache) → new.lines ≡ suc old.lines
    → new.messages ≡ id → IsTaken dir old new line (Some message)
unfolding messages_from
one_taken dir old new line message id not is few gives lists number more =
    let given : message_by dir (lists_in dir old.cache) (suc old.messages) line ≡ Ok message
    = subst (λ (k : ℕ). message_by dir (lists_in dir old.cache) k line ≡ Ok message) is gives in
    record {
      goes_on = λ lines. rw not (rw given
          (put_before message (messages_from dir (after_if (step_of dir line) (lists_in dir old.cache))
          (suc (suc old.lines)) (suc (suc old.messages)) lines)
          ∙ ap (before (Some message))
          (same_from dir (after_if (step_of dir line) (lists_in dir old.cache)) (lists_in dir new.cache)
          (suc (suc old.lines)) (suc new.lines) (suc (suc old.messages)) (suc new.messages) lines (sym lists)
          (ap suc (sym number)) (ap suc (sym (more ∙ is))))));
      frame = framed_line dir (lists_in dir old.cache) id line message (omega (arith, is)) few gives;
      one_line = number;
      few = omega (arith, more, is);
    }

pub one_faulty : (dir : Directory) (taken : Taken) (n id : ℕ) (line : List ℕ) (kind : GrantKind)
    → says_nothing line ≡ false → n ≡ suc taken.lines → id ≡ suc taken.messages
    → message_by dir (lists_in dir taken.cache) id line ≡ Err (refusal.Bad kind)
    → (lines : List (List ℕ)) → from dir taken (line ∷ lines) ≡ Err (fault.Bad n kind)
unfolding messages_from
one_faulty dir taken n id line kind not number is gives lines =
    let given : message_by dir (lists_in dir taken.cache) (suc taken.messages) line ≡ Err (refusal.Bad kind)
    = subst (λ (k : ℕ). message_by dir (lists_in dir taken.cache) k line ≡ Err (refusal.Bad kind)) is gives in
    rw not (rw given (ap (λ (k : ℕ). Err (fault.Bad k kind)) (sym number)))

-- ---- the first line of a text

pub next_taken : (dir : Directory) (old new : Taken) (text line behind : List ℕ) (message : Option Message)
    → IsFirstLine text line behind → HasRoom old text → IsTaken dir old new line message
    → IsNext dir old new text message behind
next_taken dir old new text line behind message first room taken = record {
  given = ap (from dir old) first.lines ∙ taken.goes_on (lines_of behind);
  frame = taken.frame;
  room = record {
    bytes = omega (arith, taken.one_line, first.shorter, room.bytes);
    fewer = omega (arith, taken.one_line, taken.few, room.fewer);
  };
  shorter = first.shorter;
}

-- ---- from the first line to the last

-- a message more before the others, or after those before
pub more_joined : (messages : List Message) (message : Option Message) (others : Result (List Message) GrantFault)
    → joined messages (before message others) ≡ joined (with_next messages message) others
more_joined messages None others = refl
more_joined messages (Some message) (Ok rest) = ap Ok (sym (append_assoc messages (message ∷ []) rest))
more_joined messages (Some message) (Err e) = refl

pub all_taken : (dir : Directory) (taken : Taken) (messages : List Message) (rest : List ℕ) → length rest ≡ 0
    → joined messages (left dir taken rest) ≡ Ok messages
unfolding messages_from lines_of
all_taken dir taken messages [] none = ap Ok (append-nil messages)
all_taken dir taken messages (b ∷ rest) none = absurd (omega (arith, none))

-- no line was taken yet
pub begun : (dir : Directory) (taken : Taken) (text : List ℕ) → Begins taken
    → messages_of dir text ≡ joined [] (left dir taken text)
unfolding messages_of
begun dir taken text is =
    let lists : lists_in dir taken.cache ≡ stored_list dir = λ i n. unwrap_or (is.cache n i) (stored_list dir n) in
    sym (whole (left dir taken text)
    ∙ same_from dir (lists_in dir taken.cache) (stored_list dir) (suc taken.lines) 1 (suc taken.messages) 1
    (lines_of text) lists (ap suc is.lines) (ap suc is.messages))
  where
    whole : (r : Result (List Message) GrantFault) → joined [] r ≡ r
    whole (Ok messages) = refl
    whole (Err e) = refl

pub room_at_first : (taken : Taken) (text : List ℕ) → Begins taken → length text ≤ 1048576 → HasRoom taken text
room_at_first taken text is few = record { bytes = omega (arith, is.lines, few); fewer = omega (arith, is.messages) }
