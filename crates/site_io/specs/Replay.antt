-- What a read gives is an outcome of a crash.
use Rattle.std.specs.Prelude.{◌≡◌, ◌⊎◌, ℕ, ◌+◌, ◌-◌, ◌<◌, ◌≤◌, List, [], ◌∷◌, ◌++◌, length, take, drop, Some, refl}
use Rattle.std.proofs.Common.{inl, inr, sym, ◌∙◌, ap, subst, arith, get_or, length-append, length-drop}
use Rattle.std.proofs.lemmas.List.{take_all, length-take, get_or-append_right, get_or_append_left, get_or-take}
use Rattle.std.proofs.lemmas.List.{get_or-drop}
use Rattle.site_io.specs.Disk.{Images, images_of, Torn, put}
use Rattle.site_io.specs.Calls.{held_after, held_by, said_by, MayLeaveAfter, MayLeave, LeftAt}
use Rattle.site_io.specs.declared.slot.Slot.{Slot}
use Rattle.site_io.specs.declared.slot.Slot.TheVariants.{A, B}
use Rattle.site_io.specs.declared.call.Call.{Call}
use Rattle.site_io.specs.declared.call.Call.TheVariants.{Write, Sync, Emit, Other}

-- what a write leaves elsewhere
put_stays : (at i : ℕ) (bytes old : List ℕ) → i < length old → (i < at) ⊎ (at + length bytes ≤ i)
    → get_or (put at bytes old) i 0 ≡ get_or old i 0
put_stays at i bytes old within (inl before) =
    let front : i < length (take at old) = omega (arith, length-take at old) in
    get_or_append_left (take at old ++ bytes) (drop (at + length bytes) old) 0 i
    (omega (arith, length-append (take at old) bytes))
    ∙ get_or_append_left (take at old) bytes 0 i front
    ∙ get_or-take at old i 0 before
put_stays at i bytes old within (inr behind) =
    let long : length (take at old ++ bytes) ≡ at + length bytes
    = omega (arith, length-append (take at old) bytes, length-take at old) in
    get_or-append_right (take at old ++ bytes) (drop (at + length bytes) old) (at + length bytes) i 0 long behind
    ∙ get_or-drop (at + length bytes) old (i - (at + length bytes)) 0
    ∙ ap (λ k. get_or old k 0) (omega arith)

-- A write that isn't cut short is one of the outcomes of a torn one.
pub torn_put : (at : ℕ) (bytes old : List ℕ) → Torn at (length bytes) old (put at bytes old)
torn_put at bytes old = record {
  stays = λ i. put_stays at i bytes old;
  no_shorter = omega (
    arith,
    length-append (take at old ++ bytes) (drop (at + length bytes) old),
    length-append
        (take at old) bytes,
    length-take at old,
    length-drop (at + length bytes) old,
  );
}

pub torn_same : (at n : ℕ) (old : List ℕ) → Torn at n old old
torn_same at n old = record { stays = λ i within outside. refl; no_shorter = omega arith }

held_left_after : (slot : Slot) (held : List ℕ) (P : List ℕ → Type 0) (call : Call) → P held → MayLeaveAfter slot held
    P call (held_after slot held call)
held_left_after A held P (Write A at bytes) may = (held, may, torn_put at bytes.items held)
held_left_after B held P (Write B at bytes) may = (held, may, torn_put at bytes.items held)
held_left_after A held P (Write B at bytes) may = may
held_left_after B held P (Write A at bytes) may = may
held_left_after A held P (Sync A) may = refl
held_left_after B held P (Sync B) may = refl
held_left_after A held P (Sync B) may = may
held_left_after B held P (Sync A) may = may
held_left_after A held P (Emit bytes) may = may
held_left_after B held P (Emit bytes) may = may
held_left_after A held P Other may = may
held_left_after B held P Other may = may

pub held_left : (slot : Slot) (held : List ℕ) (P : List ℕ → Type 0) (calls : List Call) → P held
    → MayLeave slot held P calls (held_by slot held calls)
held_left slot held P [] may = may
held_left slot held P (call ∷ calls) may = held_left slot (held_after slot held call)
    (MayLeaveAfter slot held P call) calls (held_left_after slot held P call may)

-- what a read gives after all calls, with all that they emitted
pub left_by_all : (a b : List ℕ) (calls : List Call) (images : Images) (out : List ℕ) → images.a ≡ held_by A a calls
    → images.b ≡ held_by B b calls → out ≡ said_by calls
    → LeftAt a b calls (length calls) images out
left_by_all a b calls images out is_a is_b is_out =
    let all : take (length calls) calls ≡ calls = take_all (length calls) calls (omega arith) in
    record {
      so_many = omega arith;
      in_a = subst (λ (cs : List Call). MayLeave A a (λ image. image ≡ a) cs images.a) (sym all)
          (subst (λ (image : List ℕ). MayLeave A a (λ image. image ≡ a) calls image) (sym is_a)
          (held_left A a (λ image. image ≡ a) calls refl));
      in_b = subst (λ (cs : List Call). MayLeave B b (λ image. image ≡ b) cs images.b) (sym all)
          (subst (λ (image : List ℕ). MayLeave B b (λ image. image ≡ b) calls image) (sym is_b)
          (held_left B b (λ image. image ≡ b) calls refl));
      said = is_out ∙ ap said_by (sym all);
    }

-- the same, from what the site tells
pub left_by_told : (a b : List ℕ) (calls : List Call) (now_a now_b now_out : List ℕ) (images : Images)
    (out : List ℕ) → now_a ≡ held_by A a calls → now_b ≡ held_by B b calls → now_out ≡ said_by calls
    → Some (images_of now_a now_b) ≡ Some images → Some now_out ≡ Some out → LeftAt a b calls (length calls) images out
left_by_told a b calls now_a now_b now_out images out is_a is_b is_out told said =
    let same : images_of now_a now_b ≡ images = some_is (images_of now_a now_b) images told in
    let same_out : now_out ≡ out = some_is now_out out said in
    left_by_all a b calls images out (ap (λ (i : Images). i.a) (sym same) ∙ is_a)
    (ap (λ (i : Images). i.b) (sym same) ∙ is_b) (sym same_out ∙ is_out)
  where
    some_is : {X : Type 0} (x y : X) → Some x ≡ Some y → x ≡ y
    some_is x y is = cc is
