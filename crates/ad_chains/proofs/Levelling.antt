-- What the search knows stays true from mark to mark and from level to level.
use Rattle.std.proofs.Common.{◌≡◌, ◌∙◌, ℕ, ◌+◌, ◌<◌, ◌≤◌, ◌⊎◌, inl, inr, true, false, Option, Some, None, List, []}
use Rattle.std.proofs.Common.{◌∷◌, length, refl, sym, ap, arith}
use Rattle.std.specs.Prelude.{slice_get, slice_index}
use Rattle.std.proofs.lemmas.Bool.{cases_lt, cases_Bool}
use Rattle.ad_chains.specs.declared.edge.Edge.{Edge}
use Rattle.ad_chains.specs.declared.link.Link.{Link}
use Rattle.ad_chains.specs.Chain.{cost, length_of, IsChain, link_at, Follows, AreChainsTo}
use Rattle.ad_chains.specs.Work.{IsThis, IsInto, IsIntoOf, Marks}
use Rattle.ad_chains.specs.Levels.{IsMarked, IsLevel, IsClosedSoFar, IsClosed}
use Rattle.ad_chains.proofs.Following.{follows_on, follows_one, costs_none, costs_one}

-- a node is found in a list
abbrev Stands : List ℕ → ℕ → Type 0
Stands list x = (at : ℕ) × (at < length list) × (slice_index list at ≡ x)

-- a node is marked as before, or newly
abbrev OldOr : (ℕ → Link → Type 0) → List (Option Link) → List ℕ → ℕ → Link → Type 0
OldOr Asked links longer x link = (link_at links x ≡ Some link) ⊎ (Asked x link × Stands longer x)

-- ---- the first level

pub level_first : (edges : List Edge) (end : ℕ) (blank links : List (Option Link)) (list frontier : List ℕ)
    → ((x : ℕ) → link_at blank x ≡ None) → list ≡ []
    → Marks (IsThis end (record { length = 0; step = None })) blank list links frontier
    → IsLevel edges end links frontier 0
level_first edges end blank links list frontier none empty marks = record {
  sound = λ x link is. sound x link is (new x link is);
  ends = let e = marks.all end (record { length = 0; step = None }) (refl, refl) in
      e.1 ∙ ap Some ((new end e.0 e.1).0.1);
  low = λ x link is. let long : link.length ≡ 0 = ap (λ (l : Link). l.length) ((new x link is).0.1) in
      omega (arith, long);
  at_frontier = λ at lt.
      let e = marks.each at (omega (arith, nobody)) lt in (e.0, e.2, ap (λ (l : Link). l.length) e.1.1);
  all = λ x link is long. (new x link is).1;
  nearer = λ place edge link is at less. absurd (omega (arith, less));
}
  where
    nobody : length list ≡ 0
    nobody = ap (λ (l : List ℕ). length l) empty

    new_of : (x : ℕ) (link : Link) → OldOr (IsThis end (record { length = 0; step = None })) blank frontier x link
        → IsThis end (record { length = 0; step = None }) x link × Stands frontier x
    new_of x link (inl old) = let no : Some link ≡ None = sym old ∙ none x in absurd cc
    new_of x link (inr is) = is

    new : (x : ℕ) (link : Link) → link_at links x ≡ Some link
        → IsThis end (record { length = 0; step = None }) x link × Stands frontier x
    new x link is = new_of x link (marks.fresh x link is)

    sound : (x : ℕ) (link : Link) → link_at links x ≡ Some link
        → IsThis end (record { length = 0; step = None }) x link × Stands frontier x
        → (chain : List Edge) × Follows edges end links x chain
    sound x link is this = ([], (this.0.0, is ∙ ap Some this.0.1))

-- ---- the frontier grows

pub close_more : (edges : List Edge) (end : ℕ) (links new : List (Option Link)) (frontier longer : List ℕ) (level n : ℕ)
    → n < length frontier → IsLevel edges end links frontier level → IsClosedSoFar edges links frontier n
    → Marks (IsInto edges (slice_index frontier n) false level) links frontier new longer
    → IsLevel edges end new longer level × IsClosedSoFar edges new longer (n + 1)
close_more edges end links new frontier longer level n here l closed marks = (
  record {
    sound = λ x link is. sound x link is (marks.fresh x link is);
    ends = marks.kept end (record { length = 0; step = None }) l.ends;
    low = λ x link is. low x link (marks.fresh x link is);
    at_frontier = λ at lt. at_frontier at lt (cases_lt at (length frontier));
    all = λ x link is long. all x link long (marks.fresh x link is);
    nearer = λ place edge link is at less. nearer place edge link is less (marks.fresh edge.to link at);
  },
  λ place edge at is not lt there. closed_more place edge at is not lt there (cases_lt at n),
)
  where
    near : (link : Link) × (link_at links (slice_index frontier n) ≡ Some link) × (link.length ≡ level)
    near = l.at_frontier n here

    adds : (edge : Edge) → edge.counts ≡ false → cost edge + near.0.length ≡ level
    adds edge not = let none = costs_none edge not in let long = near.2 in omega (arith, none, long)

    mark_long : (x : ℕ) (link : Link) → IsInto edges (slice_index frontier n) false level x link → link.length ≡ level
    mark_long x link asked = ap (λ (k : Link). k.length) asked.mark

    sound : (x : ℕ) (link : Link) → link_at new x ≡ Some link
        → OldOr (IsInto edges (slice_index frontier n) false level) links longer x link
        → (chain : List Edge) × Follows edges end new x chain
    sound x link is (inl old) =
        let f = l.sound x link old in (f.0, follows_on edges end links new marks.kept x f.0 f.1)
    sound x link is (inr asked) =
        follows_one edges end (slice_index frontier n) false level near.0 links new x link near.1
        adds marks.kept l.sound asked.0 is

    low : (x : ℕ) (link : Link) → OldOr (IsInto edges (slice_index frontier n) false level) links longer x link
        → link.length ≤ level
    low x link (inl old) = l.low x link old
    low x link (inr asked) = let long = mark_long x link asked.0 in omega (arith, long)

    at_frontier : (at : ℕ) → at < length longer → (at < length frontier) ⊎ (length frontier ≤ at) → (link : Link)
        × (link_at new (slice_index longer at) ≡ Some link) × (link.length ≡ level)
    at_frontier at lt (inl old) =
        let e = l.at_frontier at old in
        (e.0, ap (link_at new) (marks.same at old) ∙ marks.kept (slice_index frontier at) e.0 e.1, e.2)
    at_frontier at lt (inr high) =
        let e = marks.each at high lt in (e.0, e.2, mark_long (slice_index longer at) e.0 e.1)

    all : (x : ℕ) (link : Link) → link.length ≡ level
        → OldOr (IsInto edges (slice_index frontier n) false level) links longer x link → Stands longer x
    all x link long (inl old) =
        let e = l.all x link old long in (e.0, omega (arith, e.1, marks.grows), marks.same e.0 e.1 ∙ e.2)
    all x link long (inr asked) = asked.1

    nearer : (place : ℕ) (edge : Edge) (link : Link) → slice_get edges place ≡ Some edge → link.length < level
        → OldOr (IsInto edges (slice_index frontier n) false level) links longer edge.to link
        → IsMarked new edge.from (cost edge + link.length)
    nearer place edge link is less (inl old) =
        let m = l.nearer place edge link is old less in (m.0, marks.kept edge.from m.0 m.1, m.2)
    nearer place edge link is less (inr asked) =
        let long = mark_long edge.to link asked.0 in absurd (omega (arith, long, less))

    closed_more : (place : ℕ) (edge : Edge) (at : ℕ) → slice_get edges place ≡ Some edge → edge.counts ≡ false
        → at < n + 1 → slice_index longer at ≡ edge.to → (at < n) ⊎ (n ≤ at) → (link : Link)
        × (link_at new edge.from ≡ Some link)
    closed_more place edge at is not lt there (inl low) =
        let e = closed place edge at is not low (sym (marks.same at (omega (arith, low, here))) ∙ there) in
        (e.0, marks.kept edge.from e.0 e.1)
    closed_more place edge at is not lt there (inr high) =
        let last : n ≡ at = omega (arith, lt, high) in
        let to : edge.to ≡ slice_index frontier n
        = sym there ∙ marks.same at (omega (arith, lt, here)) ∙ sym (ap (slice_index frontier) last) in
        marks.all edge.from (record { length = level; step = Some place }) (record {
          place = place;
          edge = edge;
          is = is;
          to = to;
          counted = not;
          from = refl;
          mark = refl;
        })

-- ---- the next level

pub level_next : (edges : List Edge) (end : ℕ) (links new : List (Option Link)) (frontier list next : List ℕ)
    (level before : ℕ) → before + 1 ≡ level → list ≡ [] → IsClosed edges end links frontier before
    → Marks (IsIntoOf edges frontier (length frontier) true level) links list new next
    → IsLevel edges end new next level
level_next edges end links new frontier list next level before one empty c marks = record {
  sound = λ x link is. sound x link is (marks.fresh x link is);
  ends = marks.kept end (record { length = 0; step = None }) c.level.ends;
  low = λ x link is. low x link (marks.fresh x link is);
  at_frontier = λ at lt.
      let e = marks.each at (omega (arith, nobody)) lt in (e.0, e.2, mark_long (slice_index next at) e.0 e.1);
  all = λ x link is long. all x link long (marks.fresh x link is);
  nearer = λ place edge link is at less. nearer place edge link is less (marks.fresh edge.to link at);
}
  where
    nobody : length list ≡ 0
    nobody = ap (λ (l : List ℕ). length l) empty

    mark_long : (x : ℕ) (link : Link) → IsIntoOf edges frontier (length frontier) true level x link
        → link.length ≡ level
    mark_long x link asked = ap (λ (k : Link). k.length) asked.2.mark

    old_low : (x : ℕ) (link : Link) → link_at links x ≡ Some link → link.length + 1 ≤ level
    old_low x link old = let low = c.level.low x link old in omega (arith, low, one)

    sound : (x : ℕ) (link : Link) → link_at new x ≡ Some link
        → OldOr (IsIntoOf edges frontier (length frontier) true level) links next x link
        → (chain : List Edge) × Follows edges end new x chain
    sound x link is (inl old) =
        let f = c.level.sound x link old in (f.0, follows_on edges end links new marks.kept x f.0 f.1)
    sound x link is (inr asked) =
        let near = c.level.at_frontier asked.0.0 asked.0.1 in
        follows_one edges end (slice_index frontier asked.0.0) true level near.0 links new x link near.1
        (λ edge counted. let cost_one = costs_one edge counted in let long = near.2 in
        omega (arith, cost_one, long, one)) marks.kept c.level.sound asked.0.2 is

    low : (x : ℕ) (link : Link) → OldOr (IsIntoOf edges frontier (length frontier) true level) links next x link
        → link.length ≤ level
    low x link (inl old) = let less = old_low x link old in omega (arith, less)
    low x link (inr asked) = let long = mark_long x link asked.0 in omega (arith, long)

    all : (x : ℕ) (link : Link) → link.length ≡ level
        → OldOr (IsIntoOf edges frontier (length frontier) true level) links next x link → Stands next x
    all x link long (inl old) = let less = old_low x link old in absurd (omega (arith, less, long))
    all x link long (inr asked) = asked.1

    -- an edge into the frontier of before
    beyond : (place : ℕ) (edge : Edge) (link : Link) → slice_get edges place ≡ Some edge
        → link_at links edge.to ≡ Some link → link.length ≡ before → (edge.counts ≡ true) ⊎ (edge.counts ≡ false)
        → IsMarked new edge.from (cost edge + link.length)
    beyond place edge link is old long (inl counted) =
        let at = c.level.all edge.to link old long in
        let m = marks.all edge.from (record { length = level; step = Some place }) (
          at.0,
          at.1,
          record {
            place = place;
            edge = edge;
            is = is;
            to = sym at.2;
            counted = counted;
            from = refl;
            mark = refl;
          },
        ) in
        let most : m.0.length ≤ level = low edge.from m.0 (marks.fresh edge.from m.0 m.1) in
        let cost_one = costs_one edge counted in
        (m.0, m.1, omega (arith, most, cost_one, long, one))
    beyond place edge link is old long (inr not) =
        let at = c.level.all edge.to link old long in
        let m = c.closed place edge at.0 is not at.1 at.2 in
        let most : m.0.length ≤ before = c.level.low edge.from m.0 m.1 in
        (m.0, marks.kept edge.from m.0 m.1, omega (arith, most, long))

    within : (place : ℕ) (edge : Edge) (link : Link) → slice_get edges place ≡ Some edge
        → link_at links edge.to ≡ Some link → (link.length < before) ⊎ (before ≤ link.length)
        → IsMarked new edge.from (cost edge + link.length)
    within place edge link is old (inl less) =
        let m = c.level.nearer place edge link is old less in (m.0, marks.kept edge.from m.0 m.1, m.2)
    within place edge link is old (inr more) =
        let most = c.level.low edge.to link old in
        beyond place edge link is old (omega (arith, more, most)) (cases_Bool edge.counts)

    nearer : (place : ℕ) (edge : Edge) (link : Link) → slice_get edges place ≡ Some edge → link.length < level
        → OldOr (IsIntoOf edges frontier (length frontier) true level) links next edge.to link
        → IsMarked new edge.from (cost edge + link.length)
    nearer place edge link is less (inl old) = within place edge link is old (cases_lt link.length before)
    nearer place edge link is less (inr asked) =
        let long = mark_long edge.to link asked.0 in absurd (omega (arith, long, less))

-- ---- the end

least_of : (edges : List Edge) (end : ℕ) (links : List (Option Link)) (frontier : List ℕ) (level : ℕ)
    → length frontier ≡ 0 → IsLevel edges end links frontier level → (x : ℕ) (chain : List Edge)
    → IsChain edges x chain end → IsMarked links x (length_of chain)
least_of edges end links frontier level none l x [] is =
    (record { length = 0; step = None }, ap (link_at links) is ∙ l.ends, omega arith)
least_of edges end links frontier level none l x (edge ∷ chain) is =
    let m = least_of edges end links frontier level none l edge.to chain is.2 in
    let n = l.nearer is.0.0 edge m.0 is.0.1 m.1 (less m.0 m.1 (cases_lt m.0.length level)) in
    let most : n.0.length ≤ cost edge + m.0.length = n.2 in
    let rest : m.0.length ≤ length_of chain = m.2 in
    (n.0, ap (link_at links) (sym is.1) ∙ n.1, omega (arith, most, rest))
  where
    less : (link : Link) → link_at links edge.to ≡ Some link → (link.length < level) ⊎ (level ≤ link.length)
        → link.length < level
    less link at (inl is_less) = is_less
    less link at (inr more) =
        let low = l.low edge.to link at in
        let e = l.all edge.to link at (omega (arith, low, more)) in absurd (omega (arith, e.1, none))

pub chains_are : (edges : List Edge) (end : ℕ) (links : List (Option Link)) (frontier : List ℕ) (level : ℕ)
    → length frontier ≡ 0 → IsLevel edges end links frontier level → AreChainsTo edges end links
chains_are edges end links frontier level none l = record {
  told = l.sound;
  least = least_of edges end links frontier level none l;
}
