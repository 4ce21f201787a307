-- Frames that are emitted as they come: what was emitted so far, and what is held.
use Rattle.std.proofs.Common.{◌≡◌, ◌∙◌, ◌⊎◌, inl, inr, ⊎_elim, ℕ, ◌≤◌, List, [], ◌∷◌, ◌++◌, length, Option, Some, None}
use Rattle.std.proofs.Common.{Result, Ok, Err, refl, sym, ap, subst, append_assoc, arith}
use Rattle.std.specs.Prelude.{IfErr, OnOk}
use Rattle.std.proofs.lemmas.Bool.{cases_lt}
use Rattle.std.proofs.lemmas.List.{append-nil}
use Rattle.site_io.specs.Counts.{HasRisen}
use Rattle.site_io.specs.Told.{StaysTold}
use Rattle.site_io.specs.Disk.{GoesOn, LeavesEmitted}
use Rattle.site_io.specs.declared.site.Site.{Ghosts as SiteGhosts}
use Rattle.ad_ldap.specs.declared.requests.Message.{Message}
use Rattle.ad_dir_model.specs.Directory.{Directory}
use Rattle.ad_ldifmod.specs.declared.fault.GrantFault.{GrantFault}
use Rattle.ad_ldifmod.specs.declared.next.Taken.{Taken}
use Rattle.ad_ldifmod.specs.Grants.{messages_of}
use Rattle.ad_ldifmod.specs.Taken.{Begins, left, joined, IsNext, with_next, GivesSome}
use Rattle.ad_ldifmod.proofs.OneByOne.{more_joined, all_taken, begun}
use Rattle.cmd_call.specs.Store.{Emits, EmitsPart, Says}
use Rattle.cmd_call.specs.declared.outcome.Outcome.{Outcome}
use Rattle.cmd_call.specs.declared.outcome.Outcome.TheVariants.{SiteFailed, NoMemory}
use Rattle.cmd_call.proofs.Moments.{IsLawful, stays_on, stays_same, keeps_not, goes_not, goes_on_on, rises_from}
use Rattle.cmd_store_open.proofs.Parts.{part_none}
use Rattle.cmd_store_open.proofs.Parts.{part_longer, part_more}
use Rattle.cmd_grants.specs.Frames.{frame_of, frames_of}
use Rattle.cmd_grants.specs.Sending.{frame_if, GivesRest, OnlyEmits, IsCut, Sends, HoldsRest, Holds, IsSending}
use Rattle.cmd_grants.specs.Sending.{StepsTo, StopsAt, SendsFrames, Gives}

-- ---- texts

emits_none : (r0 r1 : Option (List ℕ)) → StaysTold r0 r1 → Emits r0 r1 []
emits_none None None same = tt
emits_none (Some a) (Some b) same = same ∙ sym (append-nil a)
emits_none None (Some b) same = absurd same
emits_none (Some a) None same = absurd same

emits_then : (r0 r1 r2 : Option (List ℕ)) (first second : List ℕ) → Emits r0 r1 first → Emits r1 r2 second
    → Emits r0 r2 (first ++ second)
emits_then None None None first second p q = tt
emits_then (Some a) (Some b) (Some c) first second p q = q ∙ ap (λ (l : List ℕ). l ++ second) p
    ∙ append_assoc a first second
emits_then None None (Some c) first second p q = absurd q
emits_then None (Some b) r2 first second p q = absurd p
emits_then (Some a) None r2 first second p q = absurd p
emits_then (Some a) (Some b) None first second p q = absurd q

frames_then : (xs ys : List Message) → frames_of (xs ++ ys) ≡ frames_of xs ++ frames_of ys
frames_then [] ys = refl
frames_then (x ∷ xs) ys = ap (λ (l : List ℕ). frame_of x ++ l) (frames_then xs ys)
    ∙ sym (append_assoc (frame_of x) (frames_of xs) (frames_of ys))

frames_next : (messages : List Message) (message : Option Message)
    → frames_of (with_next messages message) ≡ frames_of messages ++ frame_if message
frames_next messages None = sym (append-nil (frames_of messages))
frames_next messages (Some message) = frames_then messages (message ∷ [])
    ∙ ap (λ (l : List ℕ). frames_of messages ++ l) (append-nil (frame_of message))

module _ {S : Type 0} (s : SiteGhosts S) where
  -- ---- calls that only emit

  pub only_none : IsLawful s → (x : S) → OnlyEmits s x x
  only_none law x = record { slots = keeps_not s law x; moments = goes_not s x; never_falls = omega arith }

  pub only_said : (x z : S) (bytes : List ℕ) → StaysTold (s.reads x) (s.reads z) → LeavesEmitted bytes (s.now x)
      (s.left x) (s.left z)
      → GoesOn (s.now x) (s.now z) (s.left x) (s.left z) → s.out_faults x ≤ s.out_faults z → OnlyEmits s x z
  only_said x z bytes held emits moments never_falls = record {
    slots = record {
      held = held;
      images = λ t images out le left. let so_far = emits t images out le left in (so_far.0, so_far.2);
    };
    moments = moments;
    never_falls = never_falls;
  }

  only_then : (x y z : S) → OnlyEmits s x y → OnlyEmits s y z → OnlyEmits s x z
  only_then x y z first second = record {
    slots = record {
      held = stays_on (s.reads x) (s.reads y) (s.reads z) first.slots.held second.slots.held;
      images = λ t images out le left. ⊎_elim
          (λ lt. first.slots.images t images out le ((second.moments.earlier t images out lt).0 left))
          (λ ge. let began = second.slots.images t images out ge left
          in first.slots.images (s.now y) images began.0 first.moments.later began.1)
          (cases_lt t (s.now y));
    };
    moments = goes_on_on (s.now x) (s.now y) (s.now z) (s.left x) (s.left y) (s.left z) first.moments second.moments;
    never_falls = omega (arith, first.never_falls, second.never_falls);
  }

  cut_after : (x y z : S) (outcome : Outcome) → OnlyEmits s x y → IsCut s y z outcome → IsCut s x z outcome
  cut_after x y z outcome first (inl failed) = inl
      (failed.0, rises_from (s.out_faults x) (s.out_faults y) (s.out_faults z) first.never_falls failed.1)
  cut_after x y z outcome first (inr memory) = inr memory

  -- a text that was said
  pub gives_by : (x z : S) (text : List ℕ) (next outcome : Outcome) → Says s x z text next outcome
      → Gives s text next x z outcome
  gives_by x z text next outcome says = record {
    ended = by says.ended;
    emits = only_said x z text says.held says.images says.moments says.never_falls;
  }
    where
      by : ((outcome ≡ next) × Emits (s.emitted x) (s.emitted z) text)
          ⊎ ((outcome ≡ SiteFailed) × EmitsPart (s.emitted x) (s.emitted z) text
          × HasRisen (s.out_faults x) (s.out_faults z))
          → ((outcome ≡ next) × Emits (s.emitted x) (s.emitted z) text)
          ⊎ (EmitsPart (s.emitted x) (s.emitted z) text × IsCut s x z outcome)
      by (inl done) = inl done
      by (inr cut) = inr (cut.1, inl (cut.0, cut.2))

  -- ---- what is held

  -- nothing was emitted yet
  pub holds_all : IsLawful s → (x : S) (held after bytes : List ℕ) → after ≡ held ++ bytes
      → Holds s held after x x (Ok tt) bytes
  holds_all law x held after bytes is = record {
    whole = ([], is, emits_none (s.emitted x) (s.emitted x) (stays_same (s.emitted x)));
    part = part_none (s.emitted x) (s.emitted x) (held ++ bytes) (stays_same (s.emitted x));
    emits = only_none law x;
    cut = tt;
  }

  -- all that was held was emitted, and nothing is held then
  pub holds_none : (x z : S) (held after : List ℕ) → after ≡ [] → Sends s held x z (Ok tt)
      → Holds s held after x z (Ok tt) []
  holds_none x z held after none sent = record {
    whole = (held, ap (λ (l : List ℕ). held ++ l) none, sent.whole);
    part = part_longer (s.emitted x) (s.emitted z) held [] (held ++ []) refl sent.part;
    emits = sent.emits;
    cut = tt;
  }

  -- a part of it was
  pub holds_part : (x z : S) (held after : List ℕ) (outcome : Outcome) → Sends s held x z (Err outcome)
      → Holds s held after x z (Err outcome) []
  holds_part x z held after outcome sent = record {
    whole = tt;
    part = part_longer (s.emitted x) (s.emitted z) held [] (held ++ []) refl sent.part;
    emits = sent.emits;
    cut = sent.cut;
  }

  -- nothing was, for want of memory
  pub holds_not : IsLawful s → (x : S) (held after bytes : List ℕ) → Holds s held after x x (Err NoMemory) bytes
  holds_not law x held after bytes = record {
    whole = tt;
    part = part_none (s.emitted x) (s.emitted x) (held ++ bytes) (stays_same (s.emitted x));
    emits = only_none law x;
    cut = inr refl;
  }

  -- bytes were put after what was held before
  pub holds_put : (x z : S) (held put after bytes : List ℕ) (result : Result (Unit {0}) Outcome)
      → put ≡ held ++ bytes → Holds s put after x z result [] → Holds s held after x z result bytes
  holds_put x z held put after bytes result is holds =
      let same : put ++ [] ≡ held ++ bytes = append-nil put ∙ is in
      record {
        whole = by result holds.whole;
        part = subst (EmitsPart (s.emitted x) (s.emitted z)) same holds.part;
        emits = holds.emits;
        cut = holds.cut;
      }
    where
      by : (r : Result (Unit {0}) Outcome) → OnOk r (HoldsRest s put after x z [])
          → OnOk r (HoldsRest s held after x z bytes)
      by (Ok done) whole = (whole.0, whole.1 ∙ append-nil put ∙ is, whole.2)
      by (Err outcome) whole = tt

  -- ---- the lines, one after the other

  -- before the first one
  pub sending_none : IsLawful s → (x : S) (dir : Directory) (text held : List ℕ) (taken : Taken) → Begins taken
      → held ≡ [] → IsSending s dir text taken text held x x
  sending_none law x dir text held taken begins none = record {
    messages = [];
    said = [];
    given = begun dir taken text begins;
    split = none;
    emitted = emits_none (s.emitted x) (s.emitted x) (stays_same (s.emitted x));
    emits = only_none law x;
  }

  -- one more
  pub sending_next : (x y z : S) (dir : Directory) (text rest behind held after : List ℕ) (taken next : Taken)
      → IsSending s dir text taken rest held x y → StepsTo s dir taken next rest behind held after y z
      → IsSending s dir text next behind after x z
  sending_next x y z dir text rest behind held after taken next so_far steps =
      let message = steps.message in
      let more = steps.holds in
      record {
        messages = with_next so_far.messages message;
        said = so_far.said ++ more.0;
        given = so_far.given ∙ ap (joined so_far.messages) steps.given
            ∙ more_joined so_far.messages message (left dir next behind);
        split = append_assoc so_far.said more.0 after ∙ ap (λ (l : List ℕ). so_far.said ++ l) more.1
            ∙ sym (append_assoc so_far.said held (frame_if message))
            ∙ ap (λ (l : List ℕ). l ++ frame_if message) so_far.split
            ∙ sym (frames_next so_far.messages message);
        emitted = emits_then (s.emitted x) (s.emitted y) (s.emitted z) so_far.said more.0 so_far.emitted more.2;
        emits = only_then x y z so_far.emits steps.emits;
      }

  -- what is left gives messages, where the whole text does
  pub rest_gives : (x y : S) (dir : Directory) (text rest held : List ℕ) (taken : Taken)
      → IsSending s dir text taken rest held x y → GivesSome dir text → GivesRest dir taken rest
  rest_gives x y dir text rest held taken so_far some =
      by (left dir taken rest) (sym some.1 ∙ so_far.given)
    where
      by : (r : Result (List Message) GrantFault) → Ok some.0 ≡ joined so_far.messages r
          → (others : List Message) × (r ≡ Ok others)
      by (Ok others) is = (others, refl)
      by (Err fault) is = absurd cc

  -- ---- how it ends

  -- messages that were taken are the first of all
  first_of_all : (messages all : List Message) (rest : Result (List Message) GrantFault) → Ok all
      ≡ joined messages rest → (others : List Message) × (all ≡ messages ++ others)
  first_of_all messages all (Ok others) is = (others, cc)
  first_of_all messages all (Err fault) is = absurd cc

  -- amid a line
  pub sent_amid : (x y z : S) (dir : Directory) (text rest held : List ℕ) (taken : Taken) (outcome : Outcome)
      → GivesSome dir text → IsSending s dir text taken rest held x y → StopsAt s dir taken rest held y z outcome
      → SendsFrames s dir text x z (Err outcome)
  sent_amid x y z dir text rest held taken outcome some so_far stops =
      let message = stops.message in
      let all = some.0 in
      let messages = with_next so_far.messages message in
      let rests = first_of_all messages all stops.others (sym some.1 ∙ so_far.given
      ∙ ap (joined so_far.messages) stops.given ∙ more_joined so_far.messages message stops.others) in
      let whole : frames_of all ≡ so_far.said ++ ((held ++ frame_if message) ++ frames_of rests.0) =
      ap frames_of rests.1 ∙ frames_then messages rests.0
      ∙ ap (λ (l : List ℕ). l ++ frames_of rests.0) (frames_next so_far.messages message
      ∙ ap (λ (l : List ℕ). l ++ frame_if message) (sym so_far.split)
      ∙ append_assoc so_far.said held (frame_if message))
      ∙ append_assoc so_far.said (held ++ frame_if message) (frames_of rests.0) in (
        all,
        some.1,
        record {
          whole = tt;
          part = part_more (s.emitted x) (s.emitted y) (s.emitted z) so_far.said
              ((held ++ frame_if message) ++ frames_of rests.0) (frames_of all) whole so_far.emitted
              (part_longer (s.emitted y) (s.emitted z) (held ++ frame_if message) (frames_of rests.0)
              ((held ++ frame_if message) ++ frames_of rests.0) refl stops.part);
          emits = only_then x y z so_far.emits stops.emits;
          cut = cut_after x y z outcome so_far.emits stops.cut;
        },
      )

  -- no line is left, and what is held goes out
  pub sent_all : (x y z : S) (dir : Directory) (text rest held : List ℕ) (taken : Taken)
      (result : Result (Unit {0}) Outcome) → length rest ≡ 0 → IsSending s dir text taken rest held x y
      → Sends s held y z result → SendsFrames s dir text x z result
  sent_all x y z dir text rest held taken result none so_far sends =
      let is : messages_of dir text ≡ Ok so_far.messages = so_far.given
      ∙ all_taken dir taken so_far.messages rest none in (
        so_far.messages,
        is,
        record {
          whole = by result sends.whole;
          part = part_more (s.emitted x) (s.emitted y) (s.emitted z) so_far.said held (frames_of so_far.messages)
              (sym so_far.split) so_far.emitted sends.part;
          emits = only_then x y z so_far.emits sends.emits;
          cut = ends result sends.cut;
        },
      )
    where
      by : (r : Result (Unit {0}) Outcome) → OnOk r (Emits (s.emitted y) (s.emitted z) held)
          → OnOk r (Emits (s.emitted x) (s.emitted z) (frames_of so_far.messages))
      by (Ok done) whole = subst (Emits (s.emitted x) (s.emitted z)) so_far.split
          (emits_then (s.emitted x) (s.emitted y) (s.emitted z) so_far.said held so_far.emitted whole)
      by (Err outcome) whole = tt

      ends : (r : Result (Unit {0}) Outcome) → IfErr r (IsCut s y z) → IfErr r (IsCut s x z)
      ends (Ok done) cut = tt
      ends (Err outcome) cut = cut_after x y z outcome so_far.emits cut

-- ---- a line that is taken

-- no text of which the rest gives messages goes wrong
pub never_wrong : (dir : Directory) (taken : Taken) (rest : List ℕ) (fault : GrantFault) → GivesRest dir taken rest
    → left dir taken rest ≡ Err fault → ⊥
never_wrong dir taken rest fault good wrong = by (left dir taken rest) good.1 wrong
  where
    by : (r : Result (List Message) GrantFault) → r ≡ Ok good.0 → r ≡ Err fault → ⊥
    by (Ok others) is none = cc
    by (Err e) is none = cc

module _ {S : Type 0} (s : SiteGhosts S) where
  pub stepped : (dir : Directory) (from to : Taken) (rest behind held after : List ℕ) (message : Option Message) (x z : S)
      → IsNext dir from to rest message behind → Holds s held after x z (Ok tt) (frame_if message)
      → StepsTo s dir from to rest behind held after x z
  stepped dir from to rest behind held after message x z next holds = record {
    message = message;
    given = next.given;
    room = next.room;
    shorter = next.shorter;
    holds = holds.whole;
    emits = holds.emits;
  }

  pub stopped_amid : (dir : Directory) (from to : Taken) (rest behind held after : List ℕ) (message : Option Message)
      (x z : S) (outcome : Outcome) → IsNext dir from to rest message behind
      → Holds s held after x z (Err outcome) (frame_if message) → StopsAt s dir from rest held x z outcome
  stopped_amid dir from to rest behind held after message x z outcome next holds = record {
    message = message;
    others = left dir to behind;
    given = next.given;
    part = holds.part;
    emits = holds.emits;
    cut = holds.cut;
  }

  -- for want of memory
  pub stopped_before : IsLawful s → (dir : Directory) (from : Taken) (rest held : List ℕ) (x : S)
      → StopsAt s dir from rest held x x NoMemory
  stopped_before law dir from rest held x = record {
    message = None;
    others = left dir from rest;
    given = refl;
    part = part_none (s.emitted x) (s.emitted x) (held ++ []) (stays_same (s.emitted x));
    emits = only_none s law x;
    cut = inr refl;
  }
