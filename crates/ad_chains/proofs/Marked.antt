-- Nodes are marked, one and then more.
use Rattle.std.proofs.Common.{◌≡◌, ◌∙◌, ℕ, zero, suc, ◌+◌, ◌<◌, ◌≤◌, ◌⊎◌, inl, inr, Bool, true, false}
use Rattle.std.proofs.Common.{Option, Some, None}
use Rattle.std.proofs.Common.{List, [], ◌∷◌, ◌++◌, length, set, take, drop, refl, sym, ap, subst, arith, length-append}
use Rattle.std.specs.Prelude.{is_some, slice_index}
use Rattle.std.proofs.Math.Bool.{beq}
use Rattle.std.proofs.Math.ListN.{length-set, get_or-append}
use Rattle.std.proofs.Math.Seq.{get_or-append_seam, take-append_seam}
use Rattle.std.proofs.lemmas.Bool.{cases_eq, cases_lt, false≢true}
use Rattle.std.proofs.lemmas.Option.{same_Some}
use Rattle.std.proofs.lemmas.List.{get_or-set_same, get_or-set_other}
use Rattle.ad_chains.specs.declared.link.Link.{Link}
use Rattle.ad_chains.specs.Chain.{link_at}
use Rattle.ad_chains.specs.Work.{free_count, Marks, IsThis}

-- ---- one node

pub marked_low : (links : List (Option Link)) (x : ℕ) (link : Link) → link_at links x ≡ Some link → x < length links
marked_low [] x link is = absurd cc
marked_low (y ∷ links) zero link is = omega arith
marked_low (y ∷ links) (suc x) link is = let lt = marked_low links x link is in omega (arith, lt)

free_fewer : (links : List (Option Link)) (k : ℕ) (mark : Link) → link_at links k ≡ None → k < length links
    → free_count (set links k (Some mark)) + 1 ≡ free_count links
unfolding free_count
free_fewer [] k mark is lt = absurd (omega (arith, lt))
free_fewer (None ∷ links) zero mark is lt = omega arith
free_fewer (Some x ∷ links) zero mark is lt = absurd cc
free_fewer (x ∷ links) (suc k) mark is lt =
    let less = free_fewer links k mark is (omega (arith, lt)) in omega (arith, less)

pub all_free : (links : List (Option Link)) → ((x : ℕ) → link_at links x ≡ None) → free_count links ≡ length links
unfolding free_count
all_free [] blank = refl
all_free (None ∷ links) blank = let rest = all_free links (λ x. blank (suc x)) in omega (arith, rest)
all_free (Some y ∷ links) blank = let no : Some y ≡ None = blank 0 in absurd cc

-- a node that wasn't marked is marked
pub mark_done : (links : List (Option Link)) (list longer : List ℕ) (node : ℕ) (mark : Link) → node < length links
    → link_at links node ≡ None → longer ≡ list ++ node ∷ []
    → Marks (IsThis node mark) links list (set links node (Some mark)) longer
mark_done links list longer node mark low free is = record {
  long = length-set links node (Some mark);
  kept = kept;
  fresh = λ x link at. fresh x link at (cases_eq x node);
  all = λ x link asked.
      (mark, subst (λ (n : ℕ). link_at (set links node (Some mark)) n ≡ Some mark) (sym asked.0) here);
  grows = omega (arith, long);
  same = λ at lt. ap (λ (l : List ℕ). slice_index l at) is ∙ get_or-append list (node ∷ []) 0 at lt;
  each = λ at ge lt.
      let last : at ≡ length list = omega (arith, ge, lt, long) in
      let node_at : slice_index longer at ≡ node = ap (slice_index longer) last ∙ seam in (
        mark,
        (node_at, refl),
        subst (λ (n : ℕ). link_at (set links node (Some mark)) n ≡ Some mark) (sym node_at) here,
      );
  fewer = let less = free_fewer links node mark free low in omega (arith, less, long);
}
  where
    long : length longer ≡ length list + 1
    long = ap (λ (l : List ℕ). length l) is ∙ length-append list (node ∷ [])

    seam : slice_index longer (length list) ≡ node
    seam = ap (λ (l : List ℕ). slice_index l (length list)) is ∙ get_or-append_seam list node [] 0

    here : link_at (set links node (Some mark)) node ≡ Some mark
    here = get_or-set_same links node (Some mark) None low

    kept : (x : ℕ) (link : Link) → link_at links x ≡ Some link → link_at (set links node (Some mark)) x ≡ Some link
    kept x link at = get_or-set_other links node x (Some mark) None
        (λ (e : x ≡ node). let no : Some link ≡ None = sym at ∙ ap (link_at links) e ∙ free in cc) ∙ at

    fresh : (x : ℕ) (link : Link) → link_at (set links node (Some mark)) x ≡ Some link → (x ≡ node) ⊎ (x ≡ node → ⊥)
        → (link_at links x ≡ Some link) ⊎ (IsThis node mark x link
        × ((at : ℕ) × (at < length longer) × (slice_index longer at ≡ x)))
    fresh x link at (inl e) =
        let same : mark ≡ link = same_Some mark link
        (sym here ∙ ap (link_at (set links node (Some mark))) (sym e) ∙ at) in
        inr ((e, sym same), (length list, omega (arith, long), seam ∙ sym e))
    fresh x link at (inr apart) = inl (sym (get_or-set_other links node x (Some mark) None apart) ∙ at)

-- a node that was marked before
pub mark_none : (links : List (Option Link)) (list : List ℕ) (node : ℕ) (mark found : Link)
    → link_at links node ≡ Some found → Marks (IsThis node mark) links list links list
mark_none links list node mark found is = record {
  long = refl;
  kept = λ x link at. at;
  fresh = λ x link at. inl at;
  all = λ x link asked. (found, ap (link_at links) asked.0 ∙ is);
  grows = omega arith;
  same = λ at lt. refl;
  each = λ at ge lt. absurd (omega (arith, ge, lt));
  fewer = refl;
}

-- ---- more

-- nobody is asked for
pub marks_none : (Asked : ℕ → Link → Type 0) (links : List (Option Link)) (list : List ℕ)
    → ((x : ℕ) (link : Link) → Asked x link → ⊥) → Marks Asked links list links list
marks_none Asked links list none = record {
  long = refl;
  kept = λ x link at. at;
  fresh = λ x link at. inl at;
  all = λ x link asked. absurd (none x link asked);
  grows = omega arith;
  same = λ at lt. refl;
  each = λ at ge lt. absurd (omega (arith, ge, lt));
  fewer = refl;
}

-- those who are asked for, said in another way
pub marks_as : (A C : ℕ → Link → Type 0) (a b : List (Option Link)) (l m : List ℕ)
    → ((x : ℕ) (link : Link) → A x link → C x link) → ((x : ℕ) (link : Link) → C x link → A x link)
    → Marks A a l b m → Marks C a l b m
marks_as A C a b l m more less marks = record {
  long = marks.long;
  kept = marks.kept;
  fresh = λ x link at. fresh x link (marks.fresh x link at);
  all = λ x link asked. marks.all x link (less x link asked);
  grows = marks.grows;
  same = marks.same;
  each = λ at ge lt. let e = marks.each at ge lt in (e.0, more (slice_index m at) e.0 e.1, e.2);
  fewer = marks.fewer;
}
  where
    fresh : (x : ℕ) (link : Link) → (link_at a x ≡ Some link) ⊎ (A x link
        × ((at : ℕ) × (at < length m) × (slice_index m at ≡ x))) → (link_at a x ≡ Some link) ⊎ (C x link
        × ((at : ℕ) × (at < length m) × (slice_index m at ≡ x)))
    fresh x link (inl old) = inl old
    fresh x link (inr new) = inr (more x link new.0, new.1)

-- first some, and then others
pub marks_both : (A B C : ℕ → Link → Type 0) (a b c : List (Option Link)) (l m n : List ℕ)
    → ((x : ℕ) (link : Link) → A x link → C x link) → ((x : ℕ) (link : Link) → B x link → C x link)
    → ((x : ℕ) (link : Link) → C x link → A x link ⊎ B x link)
    → Marks A a l b m → Marks B b m c n → Marks C a l c n
marks_both A B C a b c l m n first second either one two = record {
  long = two.long ∙ one.long;
  kept = λ x link at. two.kept x link (one.kept x link at);
  fresh = λ x link at. later x link (two.fresh x link at);
  all = λ x link asked. all x link (either x link asked);
  grows = omega (arith, one.grows, two.grows);
  same = λ at lt. two.same at (omega (arith, lt, one.grows)) ∙ one.same at lt;
  each = λ at ge lt. each at ge lt (cases_lt at (length m));
  fewer = omega (arith, one.fewer, two.fewer);
}
  where
    earlier : (x : ℕ) (link : Link) → (link_at a x ≡ Some link) ⊎ (A x link
        × ((at : ℕ) × (at < length m) × (slice_index m at ≡ x))) → (link_at a x ≡ Some link) ⊎ (C x link
        × ((at : ℕ) × (at < length n) × (slice_index n at ≡ x)))
    earlier x link (inl old) = inl old
    earlier x link (inr new) =
        let place : (at : ℕ) × (at < length m) × (slice_index m at ≡ x) = new.1 in
        inr (
          first x link new.0,
          (place.0, omega (arith, place.1, two.grows), two.same place.0 place.1 ∙ place.2),
        )

    later : (x : ℕ) (link : Link) → (link_at b x ≡ Some link) ⊎ (B x link
        × ((at : ℕ) × (at < length n) × (slice_index n at ≡ x))) → (link_at a x ≡ Some link) ⊎ (C x link
        × ((at : ℕ) × (at < length n) × (slice_index n at ≡ x)))
    later x link (inl old) = earlier x link (one.fresh x link old)
    later x link (inr new) = inr (second x link new.0, new.1)

    all : (x : ℕ) (link : Link) → A x link ⊎ B x link → (found : Link) × (link_at c x ≡ Some found)
    all x link (inl asked) = let e = one.all x link asked in (e.0, two.kept x e.0 e.1)
    all x link (inr asked) = two.all x link asked

    each : (at : ℕ) → length l ≤ at → at < length n → (at < length m) ⊎ (length m ≤ at) → (link : Link)
        × C (slice_index n at) link × (link_at c (slice_index n at) ≡ Some link)
    each at ge lt (inl low) =
        let e = one.each at ge low in
        let same : slice_index m at ≡ slice_index n at = sym (two.same at low) in
        subst (λ (k : ℕ). (link : Link) × C k link × (link_at c k ≡ Some link)) same
        (e.0, first (slice_index m at) e.0 e.1, two.kept (slice_index m at) e.0 e.2)
    each at ge lt (inr high) =
        let e = two.each at high lt in (e.0, second (slice_index n at) e.0 e.1, e.2)

-- ---- whether a node is marked

pub not_marked : (link : Option Link) → is_some link ≡ false → link ≡ None
not_marked None is = refl
not_marked (Some x) is = absurd (false≢true (sym is))

pub is_marked : (link : Option Link) → is_some link ≡ true → (found : Link) × (link ≡ Some found)
is_marked None is = absurd (false≢true is)
is_marked (Some x) is = (x, refl)

-- ---- whether an edge is meant

pub same_test : (a b : Bool) → beq a b ≡ true → a ≡ b
same_test true true is = refl
same_test false false is = refl
same_test true false is = absurd (false≢true is)
same_test false true is = absurd (false≢true is)

pub other_test : (a b : Bool) → beq a b ≡ false → a ≡ b → ⊥
other_test true true is e = false≢true (sym is)
other_test false false is e = false≢true (sym is)
other_test true false is e = false≢true (sym e)
other_test false true is e = false≢true e

-- ---- a slice that was written in place

pub written_back : {X : Type 0} (n : ℕ) (new old : List X) → length new ≡ n
    → take n (new ++ drop (length new) old) ≡ new
written_back n new old is =
    ap (λ (k : ℕ). take k (new ++ drop (length new) old)) (sym is) ∙ take-append_seam new (drop (length new) old)
