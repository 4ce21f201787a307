-- What a record of calls says of each moment, once one more call is in it.
use Rattle.std.proofs.Common.{◌≡◌, ◌⊎◌, inl, inr, ⊎_elim, ℕ, ◌+◌, ◌<◌, ◌≤◌, List, [], ◌∷◌, ◌++◌, length, take, get_or}
use Rattle.std.proofs.Common.{Vec, Bool, true, false, if◌then◌else◌, refl, sym, ◌∙◌, ap, subst, arith, append_assoc}
use Rattle.std.proofs.Common.{length-append}
use Rattle.std.proofs.lemmas.List.{take_all, take-append-le, append-nil, take_more}
use Rattle.std.proofs.lemmas.Bool.{cases_eq}
use Rattle.std.specs.declared.alloc.Global.{Global}
use Rattle.std.specs.Bool.{MatchBool, IsTrue}
use Rattle.site_io.specs.Replay.{held_left, torn_same}
use Rattle.site_io.specs.Disk.{Images, images_of, at_slot, with_slot, Torn, put, GoesOn, LeavesSame, LeavesAll}
use Rattle.site_io.specs.Disk.{LeavesTorn, LeavesEmitted}
use Rattle.site_io.specs.Calls.{held_after, held_by, said_by, said_in, MayLeaveAfter, MayLeave, LeftAt}
use Rattle.site_io.specs.TornBy.{TornBy}
use Rattle.site_io.specs.declared.slot.Slot.{Slot}
use Rattle.site_io.specs.declared.slot.Slot.TheVariants.{A, B}
use Rattle.site_io.specs.declared.call.Call.{Call}
use Rattle.site_io.specs.declared.call.Call.TheVariants.{Write, Sync, Emit, Other}

pub held_push : (slot : Slot) (held : List ℕ) (calls : List Call) (call : Call)
    → held_by slot held (calls ++ call ∷ []) ≡ held_after slot (held_by slot held calls) call
held_push slot held [] call = refl
held_push slot held (first ∷ calls) call = held_push slot (held_after slot held first) calls call

pub said_push : (calls : List Call) (call : Call) → said_by (calls ++ call ∷ []) ≡ said_by calls ++ said_in call
said_push [] call = append-nil (said_in call)
said_push (first ∷ calls) call = ap (λ (l : List ℕ). said_in first ++ l) (said_push calls call)
    ∙ sym (append_assoc (said_in first) (said_by calls) (said_in call))

pub may_push : (slot : Slot) (held : List ℕ) (P : List ℕ → Type 0) (calls : List Call) (call : Call) (image : List ℕ)
    → MayLeave slot held P (calls ++ call ∷ []) image
    → MayLeaveAfter slot (held_by slot held calls) (MayLeave slot held P calls) call image
may_push slot held P [] call image may = may
may_push slot held P (first ∷ calls) call image may = may_push slot (held_after slot held first)
    (MayLeaveAfter slot held P first) calls call image may

pub may_grow : (slot : Slot) (held : List ℕ) (P : List ℕ → Type 0) (calls : List Call) (call : Call) (image : List ℕ)
    → MayLeaveAfter slot (held_by slot held calls) (MayLeave slot held P calls) call image
    → MayLeave slot held P (calls ++ call ∷ []) image
may_grow slot held P [] call image may = may
may_grow slot held P (first ∷ calls) call image may = may_grow slot (held_after slot held first)
    (MayLeaveAfter slot held P first) calls call image may

may_after : (slot : Slot) (held : List ℕ) (P : List ℕ → Type 0) (call : Call) (old new : List ℕ) → P old
    → TornBy slot held call old new → MayLeaveAfter slot held P call new
may_after A held P (Write A at bytes) old new was torn = (old, was, torn)
may_after B held P (Write B at bytes) old new was torn = (old, was, torn)
may_after A held P (Sync A) old new was torn = torn
may_after B held P (Sync B) old new was torn = torn
may_after A held P (Write B at bytes) old new was torn = subst P (sym torn) was
may_after B held P (Write A at bytes) old new was torn = subst P (sym torn) was
may_after A held P (Sync B) old new was torn = subst P (sym torn) was
may_after B held P (Sync A) old new was torn = subst P (sym torn) was
may_after A held P (Emit bytes) old new was torn = subst P (sym torn) was
may_after B held P (Emit bytes) old new was torn = subst P (sym torn) was
may_after A held P Other old new was torn = subst P (sym torn) was
may_after B held P Other old new was torn = subst P (sym torn) was

-- one call more
pub may_more : (slot : Slot) (held : List ℕ) (P : List ℕ → Type 0) (calls : List Call) (call : Call)
    (old new : List ℕ) → MayLeave slot held P calls old → TornBy slot (held_by slot held calls) call old new
    → MayLeave slot held P (calls ++ call ∷ []) new
may_more slot held P calls call old new may torn = may_grow slot held P calls call new
    (may_after slot (held_by slot held calls) (MayLeave slot held P calls) call old new may torn)

-- what a crash leaves right after calls
record Behind (a b : List ℕ) (calls : List Call) (call : Call) (images : Images) (out : List ℕ) : Type 0 where
  in_a : MayLeaveAfter A (held_by A a calls) (MayLeave A a (λ image. image ≡ a) calls) call images.a
  in_b : MayLeaveAfter B (held_by B b calls) (MayLeave B b (λ image. image ≡ b) calls) call images.b
  said : out ≡ said_by calls ++ said_in call

module _ (a b : List ℕ) (calls : List Call) where
  -- a moment at the end of the record
  at_end : (images : Images) (out : List ℕ) → MayLeave A a (λ image. image ≡ a) calls images.a
      → MayLeave B b (λ image. image ≡ b) calls images.b → out ≡ said_by calls → LeftAt a b calls (length calls)
      images out
  at_end images out in_a in_b said =
      let all : calls ≡ take (length calls) calls = sym (take_all (length calls) calls (omega arith)) in
      record {
        so_many = omega arith;
        in_a = subst (λ (cs : List Call). MayLeave A a (λ image. image ≡ a) cs images.a) all in_a;
        in_b = subst (λ (cs : List Call). MayLeave B b (λ image. image ≡ b) cs images.b) all in_b;
        said = said ∙ ap said_by all;
      }

  long : (call : Call) → length (calls ++ call ∷ []) ≡ length calls + 1
  long call = length-append calls (call ∷ [])

  -- a moment before the last call
  before_last : (call : Call) (t : ℕ) (images : Images) (out : List ℕ) → t ≤ length calls
      → LeftAt a b (calls ++ call ∷ []) t images out → LeftAt a b calls t images out
  before_last call t images out le left =
      let same : take t (calls ++ call ∷ []) ≡ take t calls = take-append-le t calls (call ∷ []) le in
      record {
        so_many = le;
        in_a = subst (λ (cs : List Call). MayLeave A a (λ image. image ≡ a) cs images.a) same left.in_a;
        in_b = subst (λ (cs : List Call). MayLeave B b (λ image. image ≡ b) cs images.b) same left.in_b;
        said = left.said ∙ ap said_by same;
      }

  still_before : (call : Call) (t : ℕ) (images : Images) (out : List ℕ) → t ≤ length calls → LeftAt a b calls t images
      out → LeftAt a b (calls ++ call ∷ []) t images out
  still_before call t images out le left =
      let same : take t calls ≡ take t (calls ++ call ∷ []) = sym (take-append-le t calls (call ∷ []) le) in
      record {
        so_many = omega (arith, le, long call);
        in_a = subst (λ (cs : List Call). MayLeave A a (λ image. image ≡ a) cs images.a) same left.in_a;
        in_b = subst (λ (cs : List Call). MayLeave B b (λ image. image ≡ b) cs images.b) same left.in_b;
        said = left.said ∙ ap said_by same;
      }

  pub goes_on : (call : Call) → GoesOn (length calls) (length (calls ++ call ∷ [])) (LeftAt a b calls)
      (LeftAt a b (calls ++ call ∷ []))
  goes_on call = record {
    later = omega (arith, long call);
    earlier = λ t images out lt. (
      before_last call t images out (omega arith),
      still_before call t images out
          (omega arith),
    );
  }

  pub goes_nowhere : GoesOn (length calls) (length calls) (LeftAt a b calls) (LeftAt a b calls)
  goes_nowhere = record { later = omega arith; earlier = λ t images out lt. (λ x. x, λ x. x) }

  -- a moment from the last call on: just before it, or after it
  last : (call : Call) (t : ℕ) (images : Images) (out : List ℕ) → length calls ≤ t → LeftAt a b (calls ++ call ∷ []) t
      images out → LeftAt a b calls (length calls) images out ⊎ Behind a b calls call images out
  last call t images out le left = elim (cases_eq t (length calls)) [
    | inl same ↦ inl (before_last call (length calls) images out (omega arith)
        (subst (λ k. LeftAt a b (calls ++ call ∷ []) k images out) same left))
    | inr other ↦
        let all : take t (calls ++ call ∷ []) ≡ calls ++ call ∷ [] = take_all t (calls ++ call ∷ [])
        (omega (arith, long call)) in
        inr (record {
          in_a = may_push A a (λ image. image ≡ a) calls call images.a
              (subst (λ (cs : List Call). MayLeave A a (λ image. image ≡ a) cs images.a) all left.in_a);
          in_b = may_push B b (λ image. image ≡ b) calls call images.b
              (subst (λ (cs : List Call). MayLeave B b (λ image. image ≡ b) cs images.b) all left.in_b);
          said = left.said ∙ ap said_by all ∙ said_push calls call;
        })
  ]

  pub leaves_other : LeavesSame (length calls) (LeftAt a b calls) (LeftAt a b (calls ++ Other ∷ []))
  leaves_other t images out le left = ⊎_elim (λ same. same)
      (λ behind. at_end images out behind.in_a behind.in_b (behind.said ∙ append-nil (said_by calls)))
      (last Other t images out le left)

  all_other : (t : ℕ) (images : Images) (out : List ℕ) → length calls ≤ t → t ≤ length (calls ++ Other ∷ [])
      → LeftAt a b calls (length calls) images out → LeftAt a b (calls ++ Other ∷ []) t images out
  all_other t images out le within left =
      let all : take (length calls) calls ≡ calls = take_all (length calls) calls (omega arith) in
      elim (cases_eq t (length calls)) [
        | inl same ↦ subst (λ k. LeftAt a b (calls ++ Other ∷ []) k images out) (sym same)
            (still_before Other (length calls) images out (omega arith) left)
        | inr other ↦
            let more : calls ++ Other ∷ [] ≡ take t (calls ++ Other ∷ [])
            = sym (take_all t (calls ++ Other ∷ []) (omega (arith, long Other))) in
            record {
              so_many = within;
              in_a = subst (λ (cs : List Call). MayLeave A a (λ image. image ≡ a) cs images.a) more
                  (may_grow A a (λ image. image ≡ a) calls Other images.a
                  (subst (λ (cs : List Call). MayLeave A a (λ image. image ≡ a) cs images.a) all left.in_a));
              in_b = subst (λ (cs : List Call). MayLeave B b (λ image. image ≡ b) cs images.b) more
                  (may_grow B b (λ image. image ≡ b) calls Other images.b
                  (subst (λ (cs : List Call). MayLeave B b (λ image. image ≡ b) cs images.b) all left.in_b));
              said = left.said ∙ ap said_by all ∙ sym (append-nil (said_by calls)) ∙ sym (said_push calls Other)
                  ∙ ap said_by more;
            }
      ]

  pub passed_all : (noted : Bool) (new : List Call) → MatchBool noted (new ≡ calls ++ Other ∷ []) (new ≡ calls)
      → LeavesAll (length calls) (length new) (LeftAt a b calls) (LeftAt a b new)
  passed_all true new is = subst (λ (cs : List Call). LeavesAll (length calls) (length cs) (LeftAt a b calls)
      (LeftAt a b cs)) (sym is) all_other
  passed_all false new is = subst (λ (cs : List Call). LeavesAll (length calls) (length cs) (LeftAt a b calls)
      (LeftAt a b cs)) (sym is)
      (λ t images out le within left. let same : t ≡ length calls = omega arith
      in subst (λ k. LeftAt a b calls k images out) (sym same) left)

  sync_after : (slot : Slot) (images : Images) (out : List ℕ) → Behind a b calls (Sync slot) images out
      → LeftAt a b calls (length calls) images out
  sync_after A images out behind =
      at_end images out (subst (λ (i : List ℕ). MayLeave A a (λ image. image ≡ a) calls i) (sym behind.in_a)
      (held_left A a (λ image. image ≡ a) calls refl)) behind.in_b (behind.said ∙ append-nil (said_by calls))
  sync_after B images out behind =
      at_end images out behind.in_a (subst (λ (i : List ℕ). MayLeave B b (λ image. image ≡ b) calls i)
      (sym behind.in_b) (held_left B b (λ image. image ≡ b) calls refl))
      (behind.said ∙ append-nil (said_by calls))

  pub leaves_sync : (slot : Slot) → LeavesSame (length calls) (LeftAt a b calls) (LeftAt a b (calls ++ Sync slot ∷ []))
  leaves_sync slot t images out le left = ⊎_elim (λ same. same) (sync_after slot images out)
      (last (Sync slot) t images out le left)

  behind_sync : (slot : Slot) (images : Images) (out : List ℕ) → Behind a b calls (Sync slot) images out
      → at_slot slot images ≡ at_slot slot (images_of (held_by A a calls) (held_by B b calls))
  behind_sync A images out behind = behind.in_a
  behind_sync B images out behind = behind.in_b

  all_behind : (call : Call) (images : Images) (out : List ℕ) → LeftAt a b (calls ++ call ∷ [])
      (length (calls ++ call ∷ [])) images out → Behind a b calls call images out
  all_behind call images out left =
      let all : take (length (calls ++ call ∷ [])) (calls ++ call ∷ []) ≡ calls ++ call ∷ []
      = take_all (length (calls ++ call ∷ [])) (calls ++ call ∷ []) (omega arith) in
      record {
        in_a = may_push A a (λ image. image ≡ a) calls call images.a
            (subst (λ (cs : List Call). MayLeave A a (λ image. image ≡ a) cs images.a) all left.in_a);
        in_b = may_push B b (λ image. image ≡ b) calls call images.b
            (subst (λ (cs : List Call). MayLeave B b (λ image. image ≡ b) cs images.b) all left.in_b);
        said = left.said ∙ ap said_by all ∙ said_push calls call;
      }

  -- a slot that was synced
  pub lasts_sync : (slot : Slot) (images : Images) (out : List ℕ) → LeftAt a b (calls ++ Sync slot ∷ [])
      (length (calls ++ Sync slot ∷ [])) images out
      → at_slot slot images ≡ at_slot slot (images_of (held_by A a calls) (held_by B b calls))
  lasts_sync slot images out left = behind_sync slot images out (all_behind (Sync slot) images out left)

  write_after : (slot : Slot) (at : ℕ) (bytes : Vec ℕ Global) (images : Images) (out : List ℕ)
      → Behind a b calls (Write slot at bytes) images out
      → (held : List ℕ) × LeftAt a b calls (length calls) (with_slot slot images held) out
      × Torn at (length bytes.items) held (at_slot slot images)
  write_after A at bytes images out behind =
      let old = behind.in_a in
      (old.0, at_end (with_slot A images old.0) out old.1 behind.in_b (behind.said ∙ append-nil (said_by calls)), old.2)
  write_after B at bytes images out behind =
      let old = behind.in_b in
      (old.0, at_end (with_slot B images old.0) out behind.in_a old.1 (behind.said ∙ append-nil (said_by calls)), old.2)

  write_before : (slot : Slot) (at n : ℕ) (images : Images) (out : List ℕ) → LeftAt a b calls (length calls) images out
      → (held : List ℕ) × LeftAt a b calls (length calls) (with_slot slot images held) out
      × Torn at n held (at_slot slot images)
  write_before A at n images out same = (images.a, same, torn_same at n images.a)
  write_before B at n images out same = (images.b, same, torn_same at n images.b)

  pub leaves_write : (slot : Slot) (at : ℕ) (bytes : Vec ℕ Global) → LeavesTorn slot at (length bytes.items)
      (length calls) (LeftAt a b calls) (LeftAt a b (calls ++ Write slot at bytes ∷ []))
  leaves_write slot at bytes t images out le left = ⊎_elim (write_before slot at (length bytes.items) images out)
      (write_after slot at bytes images out) (last (Write slot at bytes) t images out le left)

  pub leaves_emit : (bytes : Vec ℕ Global) → LeavesEmitted bytes.items (length calls) (LeftAt a b calls)
      (LeftAt a b (calls ++ Emit bytes ∷ []))
  leaves_emit bytes t images out le left =
      ⊎_elim (none_emitted bytes.items images out)
      (λ behind. (
        said_by calls,
        length bytes.items,
        at_end images (said_by calls) behind.in_a behind.in_b refl,
        behind.said ∙ ap (λ (l : List ℕ). said_by calls ++ l)
            (sym (take_all (length bytes.items) bytes.items (omega arith))),
      ))
      (last (Emit bytes) t images out le left)
    where
      none_emitted : (bytes : List ℕ) (images : Images) (out : List ℕ) → LeftAt a b calls (length calls) images out
          → (so_far : List ℕ) × (n : ℕ) × LeftAt a b calls (length calls) images so_far
          × (out ≡ so_far ++ take n bytes)
      none_emitted bytes images out same = (out, 0, same, sym (append-nil out))

  leaves_same : LeavesSame (length calls) (LeftAt a b calls) (LeftAt a b calls)
  leaves_same t images out le left =
      let last_one : t ≡ length calls = omega (arith, left.so_many) in
      subst (λ k. LeftAt a b calls k images out) last_one left

  -- what holds where a call is in the record, and where it isn't
  either : (noted : Bool) (new : List Call) (call : Call) (P : List Call → Type 0)
      → MatchBool noted (new ≡ calls ++ call ∷ []) (new ≡ calls) → P (calls ++ call ∷ []) → P calls → P new
  either true new call P is noted_so not_noted = subst P (sym is) noted_so
  either false new call P is noted_so not_noted = subst P (sym is) not_noted

  pub passed : (noted : Bool) (new : List Call) → MatchBool noted (new ≡ calls ++ Other ∷ []) (new ≡ calls)
      → LeavesSame (length calls) (LeftAt a b calls) (LeftAt a b new)
  passed noted new is = either noted new Other (λ cs. LeavesSame (length calls) (LeftAt a b calls) (LeftAt a b cs)) is
      leaves_other leaves_same

  pub synced : (noted : Bool) (new : List Call) (slot : Slot) → MatchBool noted (new ≡ calls ++ Sync slot ∷ [])
      (new ≡ calls) → LeavesSame (length calls) (LeftAt a b calls) (LeftAt a b new)
  synced noted new slot is = either noted new (Sync slot)
      (λ cs. LeavesSame (length calls) (LeftAt a b calls) (LeftAt a b cs)) is (leaves_sync slot) leaves_same

  leaves_torn : (slot : Slot) (at n : ℕ) → LeavesTorn slot at n (length calls) (LeftAt a b calls) (LeftAt a b calls)
  leaves_torn slot at n t images out le left = write_before slot at n images out (leaves_same t images out le left)

  leaves_unemitted : (bytes : List ℕ) → LeavesEmitted bytes (length calls) (LeftAt a b calls) (LeftAt a b calls)
  leaves_unemitted bytes t images out le left = (out, 0, leaves_same t images out le left, sym (append-nil out))

  -- a write that is in the record, or isn't
  pub wrote : (noted : Bool) (new : List Call) (slot : Slot) (at : ℕ) (bytes : List ℕ)
      → MatchBool noted ((call : Vec ℕ Global) × (call.items ≡ bytes) × (new ≡ calls ++ Write slot at call ∷ []))
      (new ≡ calls)
      → LeavesTorn slot at (length bytes) (length calls) (LeftAt a b calls) (LeftAt a b new)
  wrote true new slot at bytes is =
      subst (λ (cs : List Call). LeavesTorn slot at (length bytes) (length calls) (LeftAt a b calls) (LeftAt a b cs))
      (sym is.2)
      (subst (λ (l : List ℕ). LeavesTorn slot at (length l) (length calls) (LeftAt a b calls)
      (LeftAt a b (calls ++ Write slot at is.0 ∷ []))) is.1 (leaves_write slot at is.0))
  wrote false new slot at bytes is =
      subst (λ (cs : List Call). LeavesTorn slot at (length bytes) (length calls) (LeftAt a b calls) (LeftAt a b cs))
      (sym is) (leaves_torn slot at (length bytes))

  pub emitted : (noted : Bool) (new : List Call) (bytes : List ℕ)
      → MatchBool noted ((call : Vec ℕ Global) × (call.items ≡ bytes) × (new ≡ calls ++ Emit call ∷ [])) (new ≡ calls)
      → LeavesEmitted bytes (length calls) (LeftAt a b calls) (LeftAt a b new)
  emitted true new bytes is =
      subst (λ (cs : List Call). LeavesEmitted bytes (length calls) (LeftAt a b calls) (LeftAt a b cs)) (sym is.2)
      (subst (λ (l : List ℕ). LeavesEmitted l (length calls) (LeftAt a b calls)
      (LeftAt a b (calls ++ Emit is.0 ∷ []))) is.1 (leaves_emit is.0))
  emitted false new bytes is =
      subst (λ (cs : List Call). LeavesEmitted bytes (length calls) (LeftAt a b calls) (LeftAt a b cs)) (sym is)
      (leaves_unemitted bytes)

-- What calls hold, once one more is in the record or isn't.
pub same_held : (noted : Bool) (slot : Slot) (first held : List ℕ) (calls new : List Call) (call : Call)
    → ((image : List ℕ) → held_after slot image call ≡ image) → held ≡ held_by slot first calls
    → MatchBool noted (new ≡ calls ++ call ∷ []) (new ≡ calls) → held ≡ held_by slot first new
same_held true slot first held calls new call same so_far is = so_far ∙ sym (same (held_by slot first calls))
    ∙ sym (held_push slot first calls call) ∙ ap (held_by slot first) (sym is)
same_held false slot first held calls new call same so_far is = so_far ∙ ap (held_by slot first) (sym is)

pub same_said : (noted : Bool) (out : List ℕ) (calls new : List Call) (call : Call) → said_in call ≡ [] → out
    ≡ said_by calls
    → MatchBool noted (new ≡ calls ++ call ∷ []) (new ≡ calls) → out ≡ said_by new
same_said true out calls new call none so_far is = so_far ∙ sym (append-nil (said_by calls))
    ∙ ap (λ (l : List ℕ). said_by calls ++ l) (sym none) ∙ sym (said_push calls call) ∙ ap said_by (sym is)
same_said false out calls new call none so_far is = so_far ∙ ap said_by (sym is)

pub sync_holds : (slot synced : Slot) (image : List ℕ) → held_after slot image (Sync synced) ≡ image
sync_holds A A image = refl
sync_holds A B image = refl
sync_holds B A image = refl
sync_holds B B image = refl

pub other_holds : (slot : Slot) (image : List ℕ) → held_after slot image Other ≡ image
other_holds A image = refl
other_holds B image = refl

-- a slot that was synced, where the call is in the record
pub lasts : (noted : Bool) (a b now_a now_b : List ℕ) (calls new : List Call) (slot : Slot)
    → MatchBool noted (new ≡ calls ++ Sync slot ∷ []) (new ≡ calls) → IsTrue noted → now_a ≡ held_by A a calls → now_b
    ≡ held_by B b calls
    → (images : Images) (out : List ℕ) → LeftAt a b new (length new) images out → at_slot slot images
    ≡ at_slot slot (images_of now_a now_b)
lasts true a b now_a now_b calls new slot is so in_a in_b images out left =
    lasts_sync a b calls slot images out (subst (λ (cs : List Call). LeftAt a b cs (length cs) images out) is left)
    ∙ (λ i. at_slot slot (images_of (sym in_a i) (sym in_b i)))
lasts false a b now_a now_b calls new slot is so in_a in_b images out left = cc so

-- a call with bytes that is in the record, or isn't
abbrev pub Adds : Bool → (Vec ℕ Global → Call) → List ℕ → List Call → List Call → Type 0
Adds noted call bytes calls new = MatchBool noted ((kept : Vec ℕ Global) × (kept.items ≡ bytes)
    × (new ≡ calls ++ call kept ∷ [])) (new ≡ calls)

pub keeps_held : (noted : Bool) (slot : Slot) (first held bytes : List ℕ) (calls new : List Call)
    (call : Vec ℕ Global → Call) → ((kept : Vec ℕ Global) (image : List ℕ) → held_after slot image (call kept)
    ≡ image) → held ≡ held_by slot first calls
    → Adds noted call bytes calls new → held ≡ held_by slot first new
keeps_held true slot first held bytes calls new call same so_far is = same_held true slot first held calls new
    (call is.0) (same is.0) so_far is.2
keeps_held false slot first held bytes calls new call same so_far is = so_far ∙ ap (held_by slot first) (sym is)

pub keeps_said : (noted : Bool) (out bytes : List ℕ) (calls new : List Call) (call : Vec ℕ Global → Call)
    → ((kept : Vec ℕ Global) → said_in (call kept) ≡ []) → out ≡ said_by calls
    → Adds noted call bytes calls new → out ≡ said_by new
keeps_said true out bytes calls new call none so_far is = same_said true out calls new (call is.0) (none is.0) so_far
    is.2
keeps_said false out bytes calls new call none so_far is = so_far ∙ ap said_by (sym is)

pub puts_held : (noted : Bool) (slot : Slot) (first held now bytes : List ℕ) (at : ℕ) (calls new : List Call)
    → ((kept : Vec ℕ Global) (image : List ℕ) → held_after slot image (Write slot at kept) ≡ put at kept.items image)
    → held ≡ held_by slot first calls
    → Adds noted (Write slot at) bytes calls new → now ≡ (if noted then put at bytes held else held) → now
    ≡ held_by slot first new
puts_held true slot first held now bytes at calls new puts so_far is now_is =
    now_is ∙ (λ i. put at (sym is.1 i) (so_far i)) ∙ sym (puts is.0 (held_by slot first calls))
    ∙ sym (held_push slot first calls (Write slot at is.0)) ∙ ap (held_by slot first) (sym is.2)
puts_held false slot first held now bytes at calls new puts so_far is now_is = now_is ∙ so_far
    ∙ ap (held_by slot first) (sym is)

pub adds_said : (noted : Bool) (out now bytes : List ℕ) (calls new : List Call) → out ≡ said_by calls
    → Adds noted Emit bytes calls new → now ≡ (if noted then out ++ bytes else out) → now ≡ said_by new
adds_said true out now bytes calls new so_far is now_is = now_is ∙ (λ i. so_far i ++ sym is.1 i)
    ∙ sym (said_push calls (Emit is.0)) ∙ ap said_by (sym is.2)
adds_said false out now bytes calls new so_far is now_is = now_is ∙ so_far ∙ ap said_by (sym is)

pub emit_holds : (slot : Slot) (kept : Vec ℕ Global) (image : List ℕ) → held_after slot image (Emit kept) ≡ image
emit_holds A kept image = refl
emit_holds B kept image = refl

-- A call that does nothing is a write of which nothing came, and an emit of which nothing came.
pub passes_as_write : (slot : Slot) (at n before : ℕ) (old new : ℕ → Images → List ℕ → Type 0)
    → LeavesSame before old new → LeavesTorn slot at n before old new
passes_as_write A at n before old new same t images out le left
    = (images.a, same t images out le left, torn_same at n images.a)
passes_as_write B at n before old new same t images out le left
    = (images.b, same t images out le left, torn_same at n images.b)

pub passes_as_emit : (bytes : List ℕ) (before : ℕ) (old new : ℕ → Images → List ℕ → Type 0)
    → LeavesSame before old new → LeavesEmitted bytes before old new
passes_as_emit bytes before old new same t images out le left
    = (out, 0, same t images out le left, sym (append-nil out))

-- one call more of a list
pub one_more : (calls : List Call) (i : ℕ) (call : Call) → i < length calls → call ≡ get_or calls i call
    → take i calls ++ call ∷ [] ≡ take (i + 1) calls
one_more calls i call within is = ap (λ (x : Call). take i calls ++ x ∷ []) is ∙ sym (take_more calls i call within)
