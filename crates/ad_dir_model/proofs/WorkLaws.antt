-- Each step lowers the work, and how much work there is at most.
use Rattle.std.proofs.Common.{◌≡◌, ℕ, zero, suc, ◌+◌, ◌*◌, ◌^◌, ◌<◌, ◌≤◌, Bool, true, List, [], ◌∷◌, length, Option}
use Rattle.std.proofs.Common.{Some, None, ◌⊎◌, inl, inr, refl, sym, subst, ap, arith, ◌∙◌}
use Rattle.std.specs.Prelude.{nat_eq, nat_lt, ◌&&◌}
use Rattle.std.proofs.lemmas.Bool.{eqb-true, eqb-false, cases_Bool, cases_order}
use Rattle.std.proofs.lemmas.List.{length-map}
use Rattle.ad_sd.specs.declared.parts.Sd.{Sd}
use Rattle.prop_queue.specs.declared.pending.Pending.{Pending}
use Rattle.prop_queue.specs.Pending.{from_the_start, marked, advanced, AreDistinct}
use Rattle.ad_dir_model.specs.Limits.{max_depth, max_objects}
use Rattle.ad_dir_model.specs.Object.{Object}
use Rattle.ad_dir_model.specs.Objects.{numbers, is_live, object_at, sd_at, next_child, parent_at}
use Rattle.ad_dir_model.specs.Tree.{root, IsAtDepth, IsPlaced, is_reached_within, is_reached}
use Rattle.ad_dir_model.specs.SameSd.{same_sd}
use Rattle.ad_dir_model.specs.Directory.{Directory, parents, with_pending}
use Rattle.ad_dir_model.specs.Inheritance.{marked_if_changed, stored, settled, written}
use Rattle.ad_dir_model.specs.Steps.{child_stepped, head_stepped, stepped, step, steps, EmptiesAfter, count, reach}
use Rattle.ad_dir_model.specs.Steps.{work_of, work}
use Rattle.ad_dir_model.specs.Soundness.{IsSound, EachIsSound}
use Rattle.ad_dir_model.proofs.Finding.{at_number, of-live, at-not_live, numbers-put, live_above}
use Rattle.ad_dir_model.proofs.TreeLaws.{bit, reach_enough, reach_step, IsNextChild, bit_or, bit_and}
use Rattle.ad_dir_model.proofs.Counting.{all_numbers, count_within, count_live, sum_numbers, sum_entries, exchange}
use Rattle.ad_dir_model.proofs.Counting.{sum_bounded, sum_entries_le, sum_entries_add, sum_add, all_of, no_entries}
use Rattle.ad_dir_model.proofs.Counting.{count_is, pending_once}
use Rattle.ad_dir_model.proofs.PendingLaws.{AreLive}
use Rattle.ad_dir_model.proofs.Inheriting.{placed}
use Rattle.ad_dir_model.proofs.ScratchLaws.{below_at}
use Rattle.ad_dir_model.proofs.Standing.{parents_put}
use Rattle.ad_dir_model.proofs.StepSound.{IsNext, next_is, child_below, step_sound}

-- ---- each live object stands in the tree

pub placed_at : (dir : Directory) → EachIsSound dir → (n : ℕ) → is_live dir.objects n ≡ true → IsPlaced (parents dir) n
placed_at dir each n live =
    elim (cases_Bool (nat_eq n root)) [
      | inl same ↦ record { depth = 0; within = omega arith; chain = eqb-true n root same }
      | inr differ ↦ subst (IsPlaced (parents dir)) (at_number dir.objects n live)
          (below_at dir each n live (eqb-false n root differ)).placed
    ]

-- ---- the reach of the entries

-- one object, whatever its depth
reached_once : (dir : Directory) (p k c n : ℕ) → IsNextChild (parents dir) p k c → IsPlaced (parents dir) n
    → bit (is_reached (parents dir) p c n) + (bit (nat_eq n c) + bit (is_reached (parents dir) c 0 n))
    ≤ bit (is_reached (parents dir) p k n)
unfolding is_reached
reached_once dir p k c n next placed =
    rw (
      reach_enough (parents dir) placed.depth max_depth p c n placed.chain placed.within,
      reach_enough (parents dir) placed.depth max_depth c 0 n placed.chain placed.within,
      reach_enough (parents dir) placed.depth max_depth p k n placed.chain placed.within,
    )
    (reach_step (parents dir) p k c next placed.depth n placed.chain)

next_in_tree : (dir : Directory) (head : Pending) (child : ℕ) → IsSound dir → is_live dir.objects head.parent ≡ true
    → IsNext dir head child → IsNextChild (parents dir) head.parent head.cursor child
next_in_tree dir head child sound live next =
    let parent : IsPlaced (parents dir) head.parent = placed_at dir sound.each head.parent live in
    record {
      depth = parent.depth;
      parent_at = parent.chain;
      child_at = (
        child_below dir head child sound live next,
        subst (IsAtDepth (parents dir) parent.depth)
            (sym next.parent) parent.chain,
      );
      is_child = next.parent;
      above = next.above;
      least = λ n d at not_root is above. least n not_root is above;
    }
  where
    least : (n : ℕ) → (n ≡ root → ⊥) → parents dir n ≡ head.parent → head.cursor < n → child ≤ n
    least n not_root is above =
        elim (cases_Bool (is_live dir.objects n)) [
          | inl live_n ↦ next.least n (object_at dir.objects n) (of-live dir.objects n live_n) is above
          | inr not_live ↦
              let none : parents dir n ≡ 0 = ap (λ (x : Object). x.parent) (at-not_live dir.objects n not_live) in
              let positive : 0 < head.parent = live_above 0 dir.objects head.parent sound.rise live in
              absurd (omega arith)
        ]

-- the child's turn: what is left to reach
reach_falls : (dir : Directory) (head : Pending) (child : ℕ) → IsSound dir → is_live dir.objects head.parent ≡ true
    → IsNext dir head child
    → reach dir (record { parent = head.parent; cursor = child }) + (1 + reach dir (from_the_start child))
    ≤ reach dir head
unfolding reach
reach_falls dir head child sound live next =
    let tree : IsNextChild (parents dir) head.parent head.cursor child = next_in_tree dir head child sound live next in
    let some : 1 ≤ count (λ (n : ℕ). nat_eq n child) (numbers dir.objects) = count_live child dir.objects next.live in
    let within = count_within
    (is_reached (parents dir) head.parent child) (λ (n : ℕ). nat_eq n child) (is_reached (parents dir) child 0)
    (is_reached (parents dir) head.parent head.cursor)
    (numbers dir.objects)
    (all_numbers (λ (n : ℕ). bit (is_reached (parents dir) head.parent child n)
    + (bit (nat_eq n child) + bit (is_reached (parents dir) child 0 n))
    ≤ bit (is_reached (parents dir) head.parent head.cursor n))
    dir.objects (λ n live_n. reached_once dir head.parent head.cursor child n tree
    (placed_at dir sound.each n live_n))) in
    omega (arith, within, some)

-- ---- the work of a list

same_work : (dir after : Directory) (pending : List Pending) → parents after ≡ parents dir → numbers after.objects
    ≡ numbers dir.objects → work_of after pending ≡ work_of dir pending
unfolding work_of reach
same_work dir after [] parent number = refl
same_work dir after (e ∷ es) parent number =
    let rest : work_of after es ≡ work_of dir es = same_work dir after es parent number in
    rw (parent, number, rest) refl

work_marked : (dir : Directory) (n : ℕ) (pending : List Pending) → work_of dir (marked n pending)
    ≤ work_of dir pending + (1 + 2 * reach dir (from_the_start n))
unfolding work_of
work_marked dir n [] = omega arith
work_marked dir n (e ∷ es) =
    elim (cases_Bool (nat_eq e.parent n)) [
      | inl same ↦ rw same (omega arith)
      | inr differ ↦ let rest : work_of dir (marked n es) ≤ work_of dir es + (1 + 2 * reach dir (from_the_start n))
          = work_marked dir n es in rw differ (omega arith)
    ]

work_marked_if : (dir : Directory) (before : Sd) (o : Object) (pending : List Pending)
    → work_of dir (marked_if_changed before o pending) ≤ work_of dir pending
    + (1 + 2 * reach dir (from_the_start o.number))
unfolding marked_if_changed
work_marked_if dir before o pending =
    elim (cases_Bool (same_sd before o.sd)) [
      | inl same ↦ rw same (omega arith)
      | inr differ ↦ rw differ (work_marked dir o.number pending)
    ]

-- ---- a step

-- the definition at one entry more
work_first : (dir : Directory) (e : Pending) (es : List Pending) → work_of dir (e ∷ es) ≡ 1 + 2 * reach dir e
    + work_of dir es
unfolding work_of
work_first dir e es = refl

work_child : (dir : Directory) (head : Pending) (others : List Pending) (child : ℕ) → IsSound dir → dir.pending ≡ head
    ∷ others → IsNext dir head child → work (child_stepped dir child) < work_of dir (head ∷ others)
unfolding work written stored
work_child dir head others child sound pending next =
    let same : work_of (placed dir (settled before o) after) after ≡ work_of dir after
    = same_work dir (placed dir (settled before o) after) after
    (parents_put (settled before o) dir.objects parent)
    (numbers-put 0 (settled before o) dir.objects sound.rise live) in
    let marks : work_of dir after ≤ work_of dir (advanced child dir.pending)
    + (1 + 2 * reach dir (from_the_start o.number)) = work_marked_if dir (sd_at dir.objects o.number)
    (settled before o) (advanced child dir.pending) in
    let start : reach dir (from_the_start o.number) ≡ reach dir (from_the_start child)
    = ap (λ (n : ℕ). reach dir (from_the_start n)) number in
    let moved : work_of dir (advanced child dir.pending) ≡ 1
    + 2 * reach dir (record { parent = head.parent; cursor = child }) + work_of dir others
    = ap (λ (list : List Pending). work_of dir (advanced child list)) pending
    ∙ work_first dir (record { parent = head.parent; cursor = child }) others in
    let whole : work_of dir (head ∷ others) ≡ 1 + 2 * reach dir head + work_of dir others = work_first dir head others
    in
    let falls : reach dir (record { parent = head.parent; cursor = child }) + (1 + reach dir (from_the_start child))
    ≤ reach dir head = reach_falls dir head child sound head_live next in
    rw same (omega arith)
  where
    o : Object
    o = object_at dir.objects child

    before : Directory
    before = with_pending (advanced child dir.pending) dir

    after : List Pending
    after = marked_if_changed (sd_at dir.objects o.number) (settled before o) (advanced child dir.pending)

    number : o.number ≡ child
    number = at_number dir.objects child next.live

    live : is_live dir.objects o.number ≡ true
    live = rw number next.live

    parent : o.parent ≡ parent_at dir.objects o.number
    parent = ap (λ (n : ℕ). (object_at dir.objects n).parent) (sym number)

    head_live : is_live dir.objects head.parent ≡ true
    head_live = (subst (AreLive dir.objects) pending sound.live).0

work_head : (dir : Directory) (head : Pending) (others : List Pending) → IsSound dir → dir.pending ≡ head ∷ others
    → (found : Option ℕ) → next_child dir.objects head.parent head.cursor ≡ found
    → work (head_stepped dir others found) < work_of dir (head ∷ others)
unfolding work
work_head dir head others sound pending None none =
    let same : work_of (with_pending others dir) others ≡ work_of dir others = same_work dir (with_pending others dir)
    others refl refl in
    let whole : work_of dir (head ∷ others) ≡ 1 + 2 * reach dir head + work_of dir others = work_first dir head others
    in
    rw same (omega arith)
work_head dir head others sound pending (Some child) is = work_child dir head others child sound pending
    (next_is dir head child sound.rise is)

work_from : (dir : Directory) → IsSound dir → (pending : List Pending) → dir.pending ≡ pending → (pending ≡ [] → ⊥)
    → work (stepped dir pending) < work_of dir pending
work_from dir sound [] is some = absurd (some refl)
work_from dir sound (head ∷ others) is some = work_head dir head others sound is
    (next_child dir.objects head.parent head.cursor) refl

pub work_falls : (dir : Directory) → IsSound dir → (dir.pending ≡ [] → ⊥) → work (step dir) < work dir
unfolding step work
work_falls dir sound some = work_from dir sound dir.pending refl some

-- ---- so many steps until nothing is pending

pub record Empties (dir : Directory) : Type 0 where
  pub after : ℕ
  pub within : after ≤ work dir
  pub empties : EmptiesAfter after dir

empties_now : (dir : Directory) → dir.pending ≡ [] → Empties dir
unfolding steps
empties_now dir empty = record {
  after = 0;
  within = omega arith;
  empties
      = record { empty = empty; not_before = λ m less. absurd (omega arith) };
}

empties_more : (dir : Directory) → (dir.pending ≡ [] → ⊥) → work (step dir) < work dir → Empties (step dir)
    → Empties dir
unfolding steps
empties_more dir some falls rest =
    let le : rest.after ≤ work (step dir) = rest.within in
    record {
      after = suc rest.after;
      within = omega arith;
      empties
          = record { empty = rest.empties.empty; not_before = not_before };
    }
  where
    not_before : (m : ℕ) → m < suc rest.after → (steps m dir).pending ≡ [] → ⊥
    not_before zero less empty = some empty
    not_before (suc m) less empty = let before : m < rest.after = omega arith in rest.empties.not_before m before empty

is_empty : (pending : List Pending) → (pending ≡ []) ⊎ (pending ≡ [] → ⊥)
is_empty [] = inl refl
is_empty (e ∷ es) = inr (λ (same : e ∷ es ≡ []). cc)

empties_within : (fuel : ℕ) (dir : Directory) → IsSound dir → work dir ≤ fuel → Empties dir
empties_within zero dir sound le =
    elim (is_empty dir.pending) [
      | inl empty ↦ empties_now dir empty
      | inr some ↦ let falls : work (step dir) < work dir = work_falls dir sound some in absurd (omega arith)
    ]
empties_within (suc fuel) dir sound le =
    elim (is_empty dir.pending) [
      | inl empty ↦ empties_now dir empty
      | inr some ↦
          let falls : work (step dir) < work dir = work_falls dir sound some in
          let less : work (step dir) ≤ fuel = omega arith in
          empties_more dir some falls (empties_within fuel (step dir) (step_sound dir sound) less)
    ]

pub empties : (dir : Directory) → IsSound dir → Empties dir
empties dir sound = empties_within (work dir) dir sound (omega arith)

pub empties_once : (dir : Directory) (n m : ℕ) → EmptiesAfter n dir → EmptiesAfter m dir → n ≡ m
empties_once dir n m first second =
    elim (cases_order n m) [
      | inl same ↦ same
      | inr apart ↦ elim apart [
        | inl less ↦ absurd (second.not_before n less first.empty)
        | inr more ↦ absurd (first.not_before m more second.empty)
      ]
    ]

-- ---- at most so much work

reached_more : (parent : ℕ → ℕ) (d p k n : ℕ) → bit (is_reached_within parent (suc d) p k n)
    ≤ bit (nat_eq (parent n) p) + bit (is_reached_within parent d p k (parent n))
unfolding is_reached_within
reached_more parent d p k n =
    elim (cases_Bool (nat_eq n root)) [
      | inl same ↦ rw same (omega arith)
      | inr differ ↦
          let or_le = bit_or (nat_eq (parent n) p && nat_lt k n) (is_reached_within parent d p k (parent n)) in
          let and_le = bit_and (nat_eq (parent n) p) (nat_lt k n) in
          rw differ (omega (arith, or_le, and_le))
    ]

-- at one object no more entries reach it than levels are looked up
reached_by : (parent : ℕ → ℕ) (d n : ℕ) (es : List Pending) → AreDistinct es
    → sum_entries (λ (e : Pending). bit (is_reached_within parent d e.parent e.cursor n)) es ≤ d
unfolding is_reached_within
reached_by parent zero n es distinct = rw (no_entries es) (omega arith)
reached_by parent (suc d) n es distinct =
    let le = sum_entries_le (λ (e : Pending). bit (is_reached_within parent (suc d) e.parent e.cursor n))
    (λ (e : Pending). bit (nat_eq (parent n) e.parent)
    + bit (is_reached_within parent d e.parent e.cursor (parent n))) es
    (λ e. reached_more parent d e.parent e.cursor n) in
    let parts = sum_entries_add (λ (e : Pending). bit (nat_eq (parent n) e.parent))
    (λ (e : Pending). bit (is_reached_within parent d e.parent e.cursor (parent n))) es in
    let once = pending_once (parent n) es distinct in
    let rest = reached_by parent d (parent n) es distinct in
    omega (arith, le, parts, once, rest)

-- what an entry adds at one object: 1 where it is its parent, and 2 where it reaches it
abbrev reaches : Directory → Pending → ℕ → Bool
reaches dir e n = is_reached (parents dir) e.parent e.cursor n

share : Directory → Pending → ℕ → ℕ
share dir e n = bit (nat_eq n e.parent) + (bit (reaches dir e n) + bit (reaches dir e n))

shares : (dir : Directory) (n : ℕ) (es : List Pending) → AreDistinct es → sum_entries (λ (e : Pending). share dir e n)
    es ≤ 1 + 2 * max_depth
unfolding share is_reached
shares dir n es distinct =
    let parts = sum_entries_add (λ (e : Pending). bit (nat_eq n e.parent))
    (λ (e : Pending). bit (reaches dir e n) + bit (reaches dir e n)) es in
    let more = sum_entries_add (λ (e : Pending). bit (reaches dir e n)) (λ (e : Pending). bit (reaches dir e n)) es in
    let once = pending_once n es distinct in
    let reached = reached_by (parents dir) max_depth n es distinct in
    omega (arith, parts, more, once, reached)

work_shared : (dir : Directory) (es : List Pending) → AreLive dir.objects es → work_of dir es
    ≤ sum_entries (λ (e : Pending). sum_numbers (share dir e) (numbers dir.objects)) es
unfolding work_of share reach sum_entries
work_shared dir [] live = omega arith
work_shared dir (e ∷ es) live =
    let parts = sum_add (λ (n : ℕ). bit (nat_eq n e.parent))
    (λ (n : ℕ). bit (reaches dir e n) + bit (reaches dir e n)) (numbers dir.objects) in
    let more = sum_add (λ (n : ℕ). bit (reaches dir e n)) (λ (n : ℕ). bit (reaches dir e n)) (numbers dir.objects) in
    let some = count_live e.parent dir.objects live.0 in
    let at_parent = count_is (λ (n : ℕ). nat_eq n e.parent) (numbers dir.objects) in
    let reached = count_is (reaches dir e) (numbers dir.objects) in
    let rest = work_shared dir es live.1 in
    omega (arith, parts, more, some, at_parent, reached, rest)

pub work_bounded : (dir : Directory) → IsSound dir → work dir < 2 ^ 24
unfolding work max_depth max_objects numbers
work_bounded dir sound =
    let shared = work_shared dir dir.pending sound.live in
    let order = exchange (share dir) (numbers dir.objects) dir.pending in
    let bounded = sum_bounded (λ (n : ℕ). sum_entries (λ (e : Pending). share dir e n) dir.pending)
    (1 + 2 * max_depth) (numbers dir.objects)
    (all_of (λ (n : ℕ). sum_entries (λ (e : Pending). share dir e n) dir.pending ≤ 1 + 2 * max_depth)
    (numbers dir.objects) (λ n. shares dir n dir.pending sound.distinct)) in
    let many : length (numbers dir.objects) ≡ length dir.objects = length-map dir.objects (λ (o : Object). o.number) in
    let objects = sound.frame.limits.objects in
    omega (arith, shared, order, bounded, many, objects)
