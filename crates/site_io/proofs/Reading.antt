-- How reading goes on, take by take.
use Rattle.std.proofs.Common.{◌≡◌, ℕ, ◌+◌, ◌<◌, ◌≤◌, List, [], ◌++◌, length, take, drop, Option, None, Some, refl}
use Rattle.std.proofs.Common.{sym, ◌∙◌, ap, subst, arith, append_assoc, length-append}
use Rattle.std.proofs.lemmas.List.{append-nil, take-append-drop, take-append-le, length-take-le, drop-drop}
use borrow.Rule.Slice.PartMut.{put_mid}
use Rattle.std.proofs.lemmas.Slice.{take-put_mid}
use Rattle.std.proofs.Math.Seq.{take-append-add, take-add}
use Rattle.std.specs.Option.{IfSome}
use Rattle.site_io.specs.Disk.{Images, at_slot, ReadsAt}
use Rattle.site_io.specs.declared.slot.Slot.{Slot}
use Rattle.site_io.specs.Told.{BothTold, StaysTold, Took}
use Rattle.site_io.specs.Whole.{LeavesAnEnd}

-- the bytes that came, and what is left
abbrev pub Reads : Option (List ℕ) → Option (List ℕ) → List ℕ → Type 0
Reads old new got = BothTold old new (λ before after. before ≡ got ++ after)

pub none_read : (old : Option (List ℕ)) → Reads old old []
none_read None = tt
none_read (Some before) = refl

-- one take more
pub reads_on : (old mid new : Option (List ℕ)) (got into : List ℕ) (n : ℕ) → Reads old mid got → Took mid new n into
    → Reads old new (got ++ take n into)
reads_on None None None got into n so_far next = tt
reads_on (Some before) (Some between) (Some after) got into n so_far next =
    so_far ∙ ap (λ (l : List ℕ). got ++ l) next.0 ∙ sym (append_assoc got (take n into) after)
reads_on None None (Some after) got into n so_far next = absurd next
reads_on None (Some between) new got into n so_far next = absurd so_far
reads_on (Some before) None new got into n so_far next = absurd so_far
reads_on (Some before) (Some between) None got into n so_far next = absurd next

-- a take of nothing into a place for some: the end
pub reads_all : (old mid new : Option (List ℕ)) (got into : List ℕ) (n : ℕ) → n ≡ 0 → 0 < length into
    → Reads old mid got → Took mid new n into
    → BothTold old new (λ before after. (before ≡ got) × (after ≡ []))
reads_all None None None got into n none room so_far next = tt
reads_all (Some before) (Some between) (Some after) got into n none room so_far next =
    let ends : after ≡ [] = next.1 none room in
    let nothing : take n into ≡ [] = ap (λ k. take k into) none in (
      so_far ∙ ap (λ (l : List ℕ). got ++ l) (next.0 ∙ ap (λ (l : List ℕ). l ++ after) nothing ∙ ends)
          ∙ append-nil got,
      ends,
    )
reads_all None None (Some after) got into n none room so_far next = absurd next
reads_all None (Some between) new got into n none room so_far next = absurd so_far
reads_all (Some before) None new got into n none room so_far next = absurd so_far
reads_all (Some before) (Some between) None got into n none room so_far next = absurd next

-- what came is no more than there was
pub reads_more : (old new : Option (List ℕ)) (got : List ℕ) (limit : ℕ) → limit < length got → Reads old new got
    → BothTold old new (λ before after. limit < length before)
reads_more None None got limit more so_far = tt
reads_more (Some before) (Some after) got limit more so_far = omega (arith, ap length so_far, length-append got after)
reads_more None (Some after) got limit more so_far = absurd so_far
reads_more (Some before) None got limit more so_far = absurd so_far

pub leaves_an_end : (old new : Option (List ℕ)) (got : List ℕ) → Reads old new got → LeavesAnEnd old new
leaves_an_end None None got so_far = tt
leaves_an_end (Some before) (Some after) got so_far = (got, so_far)
leaves_an_end None (Some after) got so_far = absurd so_far
leaves_an_end (Some before) None got so_far = absurd so_far

-- a take that fails
pub stays_read : (old mid new : Option (List ℕ)) (got : List ℕ) → Reads old mid got → StaysTold mid new
    → Reads old new got
stays_read None None None got so_far same = tt
stays_read (Some before) (Some between) (Some after) got so_far same = so_far ∙ ap (λ (l : List ℕ). got ++ l) (sym same)
stays_read None None (Some after) got so_far same = absurd same
stays_read None (Some between) new got so_far same = absurd so_far
stays_read (Some before) None new got so_far same = absurd so_far
stays_read (Some before) (Some between) None got so_far same = absurd same

-- a buffer that is full up to n, once more bytes were taken into the rest of it
pub filled : (n k more : ℕ) (into part : List ℕ) → n ≤ length into → more ≤ length part
    → take (n + more) (put_mid n k into part) ≡ take n into ++ take more part
filled n k more into part within few =
    let whole : take (n + length part) (put_mid n k into part) ≡ take n into ++ part = take-put_mid n k into part
    (n + length part) refl within in
    let front : length (take n into) ≡ n = length-take-le n into within in
    ap (take (n + more)) (sym (take-append-drop (n + length part) (put_mid n k into part))
    ∙ ap (λ (l : List ℕ). l ++ drop (n + length part) (put_mid n k into part)) whole)
    ∙ take-append-le (n + more) (take n into ++ part) (drop (n + length part) (put_mid n k into part))
    (omega (arith, length-append (take n into) part, front, few))
    ∙ subst (λ m. take (m + more) (take n into ++ part) ≡ take n into ++ take more part) front
    (take-append-add (take n into) part more)

-- the same of what a slot holds from an offset on
pub full_more : (slot : Slot) (r0 r1 : Option Images) (at n k more : ℕ) (into part : List ℕ)
    → IfSome r0 (λ held. take n into ≡ take n (drop at (at_slot slot held))) → StaysTold r0 r1
    → IfSome r1 (λ held. ReadsAt (at + n) more part (at_slot slot held)) → n ≤ length into → more ≤ length part
    → IfSome r0 (λ held. take (n + more) (put_mid n k into part) ≡ take (n + more) (drop at (at_slot slot held)))
full_more slot None r1 at n k more into part came told read within few = tt
full_more slot (Some held) None at n k more into part came told read within few = absurd told
full_more slot (Some held) (Some after) at n k more into part came told read within few =
    let next : take more part ≡ take more (drop n (drop at (at_slot slot held))) =
    read.0 ∙ ap (λ i. take more (drop (at + n) (at_slot slot i))) told
    ∙ ap (take more) (sym (drop-drop n at (at_slot slot held))) in
    filled n k more into part within few ∙ (λ i. came i ++ next i) ∙ sym (take-add n more (drop at (at_slot slot held)))
