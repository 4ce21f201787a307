-- Which marks the edges of a list, and those that lead to a node, ask for.
use Rattle.std.proofs.Common.{◌≡◌, ◌∙◌, ℕ, ◌+◌, ◌<◌, ◌≤◌, ◌⊎◌, inl, inr, Bool, Option, Some, List, length}
use Rattle.std.proofs.Common.{sym, ap, subst, arith}
use Rattle.std.specs.Prelude.{slice_get, slice_index}
use Rattle.std.specs.Global.{Vec}
use Rattle.std.proofs.lemmas.Bool.{cases_lt}
use Rattle.std.proofs.lemmas.Option.{same_Some, slice_get_within}
use Rattle.ad_chains.specs.declared.edge.Edge.{Edge}
use Rattle.ad_chains.specs.declared.link.Link.{Link}
use Rattle.ad_chains.specs.Work.{listed, IsIndexOf, IsThis, IsListed, IsInto, IsIntoOf, Marks}
use Rattle.ad_chains.proofs.Marked.{marks_none, marks_as, marks_both}

-- ---- the edges of a list

pub none_listed : (edges : List Edge) (places : List ℕ) (counts : Bool) (level : ℕ) (links : List (Option Link))
    (list : List ℕ) → Marks (IsListed edges places 0 counts level) links list links list
none_listed edges places counts level links list = marks_none (IsListed edges places 0 counts level) links list
    (λ x link asked. absurd (omega (arith, asked.1)))

listed_more : (edges : List Edge) (places : List ℕ) (i : ℕ) (counts : Bool) (level x : ℕ) (link : Link)
    → IsListed edges places i counts level x link → IsListed edges places (i + 1) counts level x link
listed_more edges places i counts level x link asked = (asked.0, omega (arith, asked.1), asked.2)

-- an edge that isn't meant
pub passed_listed : (edges : List Edge) (places : List ℕ) (i : ℕ) (counts : Bool) (level : ℕ) (edge : Edge)
    (a b : List (Option Link)) (l m : List ℕ) → slice_get edges (slice_index places i) ≡ Some edge
    → (edge.counts ≡ counts → ⊥) → Marks (IsListed edges places i counts level) a l b m
    → Marks (IsListed edges places (i + 1) counts level) a l b m
passed_listed edges places i counts level edge a b l m is not marks =
    marks_as (IsListed edges places i counts level) (IsListed edges places (i + 1) counts level) a b l m
    (listed_more edges places i counts level) (λ x link asked. less x link asked (cases_lt asked.0 i)) marks
  where
    less : (x : ℕ) (link : Link) → (asked : IsListed edges places (i + 1) counts level x link) → (asked.0 < i)
        ⊎ (i ≤ asked.0) → IsListed edges places i counts level x link
    less x link asked (inl low) = (asked.0, low, asked.2)
    less x link asked (inr high) =
        let last : i ≡ asked.0 = omega (arith, high, asked.1) in
        let same : edge ≡ asked.2.edge = same_Some edge asked.2.edge
        (sym is ∙ ap (λ (k : ℕ). slice_get edges (slice_index places k)) last ∙ asked.2.is) in
        absurd (not (ap (λ (e : Edge). e.counts) same ∙ asked.2.counted))

-- an edge that is
pub marked_listed : (edges : List Edge) (places : List ℕ) (i : ℕ) (counts : Bool) (level : ℕ) (edge : Edge)
    (a b c : List (Option Link)) (l m n : List ℕ) → slice_get edges (slice_index places i) ≡ Some edge
    → edge.counts ≡ counts → Marks (IsListed edges places i counts level) a l b m
    → Marks (IsThis edge.from (record { length = level; step = Some (slice_index places i) })) b m c n
    → Marks (IsListed edges places (i + 1) counts level) a l c n
marked_listed edges places i counts level edge a b c l m n is counted one two =
    marks_both (IsListed edges places i counts level)
    (IsThis edge.from (record { length = level; step = Some (slice_index places i) }))
    (IsListed edges places (i + 1) counts level) a b c l m n
    (listed_more edges places i counts level) this (λ x link asked. either x link asked (cases_lt asked.0 i)) one two
  where
    this : (x : ℕ) (link : Link) → IsThis edge.from (record { length = level; step = Some (slice_index places i) }) x
        link → IsListed edges places (i + 1) counts level x link
    this x link asked = (
      i,
      omega arith,
      record {
        edge = edge;
        is = is;
        counted = counted;
        from = sym asked.0;
        mark = asked.1;
      },
    )

    either : (x : ℕ) (link : Link) → (asked : IsListed edges places (i + 1) counts level x link) → (asked.0 < i)
        ⊎ (i ≤ asked.0) → IsListed edges places i counts level x link
        ⊎ IsThis edge.from (record { length = level; step = Some (slice_index places i) }) x link
    either x link asked (inl low) = inl (asked.0, low, asked.2)
    either x link asked (inr high) =
        let last : asked.0 ≡ i = omega (arith, high, asked.1) in
        let same : asked.2.edge ≡ edge = same_Some asked.2.edge edge
        (sym asked.2.is ∙ ap (λ (k : ℕ). slice_get edges (slice_index places k)) last ∙ is) in
        let mark : link ≡ record { length = level; step = Some (slice_index places i) }
        = asked.2.mark ∙ ap (λ (k : ℕ). record { length = level; step = Some (slice_index places k) }) last in
        inr (sym asked.2.from ∙ ap (λ (e : Edge). e.from) same, mark)

-- ---- those that lead to a node

pub marked_into : (edges : List Edge) (rows : List (Vec ℕ)) (node : ℕ) (counts : Bool) (level : ℕ)
    (a b : List (Option Link)) (l m places : List ℕ) → places ≡ listed rows node → IsIndexOf edges rows
    → Marks (IsListed edges places (length places) counts level) a l b m
    → Marks (IsInto edges node counts level) a l b m
marked_into edges rows node counts level a b l m places are index marks =
    marks_as (IsListed edges places (length places) counts level) (IsInto edges node counts level) a b l m into by marks
  where
    into : (x : ℕ) (link : Link) → IsListed edges places (length places) counts level x link → IsInto edges node counts
        level x link
    into x link asked =
        let low : asked.0 < length (listed rows node) = subst (λ (l : List ℕ). asked.0 < length l) are asked.1 in
        let e = index.only node asked.0 low in
        let there : slice_get edges (slice_index places asked.0) ≡ Some e.0
        = ap (λ (l : List ℕ). slice_get edges (slice_index l asked.0)) are ∙ e.1 in
        let same : e.0 ≡ asked.2.edge = same_Some e.0 asked.2.edge (sym there ∙ asked.2.is) in
        record {
          place = slice_index places asked.0;
          edge = asked.2.edge;
          is = asked.2.is;
          to = sym (ap (λ (x : Edge). x.to) same) ∙ e.2;
          counted = asked.2.counted;
          from = asked.2.from;
          mark = asked.2.mark;
        }

    by : (x : ℕ) (link : Link) → IsInto edges node counts level x link → IsListed edges places (length places) counts
        level x link
    by x link asked =
        let e = index.all asked.place asked.edge (slice_get_within edges asked.place asked.edge asked.is) asked.is in
        let row : listed rows asked.edge.to ≡ places = ap (listed rows) asked.to ∙ sym are in
        let low : e.0 < length places = subst (λ (l : List ℕ). e.0 < length l) row e.1 in
        let there : asked.place ≡ slice_index places e.0
        = sym e.2 ∙ ap (λ (l : List ℕ). slice_index l e.0) row in (
          e.0,
          low,
          record {
            edge = asked.edge;
            is = sym (ap (slice_get edges) there) ∙ asked.is;
            counted = asked.counted;
            from = asked.from;
            mark = asked.mark ∙ ap (λ (k : ℕ). record { length = level; step = Some k }) there;
          },
        )

-- ---- those that lead to the nodes of a frontier

pub none_into : (edges : List Edge) (frontier : List ℕ) (counts : Bool) (level : ℕ) (links : List (Option Link))
    (list : List ℕ) → Marks (IsIntoOf edges frontier 0 counts level) links list links list
none_into edges frontier counts level links list = marks_none (IsIntoOf edges frontier 0 counts level) links list
    (λ x link asked. absurd (omega (arith, asked.1)))

pub more_into : (edges : List Edge) (frontier : List ℕ) (i : ℕ) (counts : Bool) (level : ℕ)
    (a b c : List (Option Link)) (l m n : List ℕ) → Marks (IsIntoOf edges frontier i counts level) a l b m
    → Marks (IsInto edges (slice_index frontier i) counts level) b m c n
    → Marks (IsIntoOf edges frontier (i + 1) counts level) a l c n
more_into edges frontier i counts level a b c l m n one two =
    marks_both (IsIntoOf edges frontier i counts level) (IsInto edges (slice_index frontier i) counts level)
    (IsIntoOf edges frontier (i + 1) counts level) a b c l m n
    (λ x link asked. (asked.0, omega (arith, asked.1), asked.2)) (λ x link asked. (i, omega arith, asked))
    (λ x link asked. either x link asked (cases_lt asked.0 i)) one two
  where
    either : (x : ℕ) (link : Link) → (asked : IsIntoOf edges frontier (i + 1) counts level x link) → (asked.0 < i)
        ⊎ (i ≤ asked.0) → IsIntoOf edges frontier i counts level x link
        ⊎ IsInto edges (slice_index frontier i) counts level x link
    either x link asked (inl low) = inl (asked.0, low, asked.2)
    either x link asked (inr high) =
        let last : asked.0 ≡ i = omega (arith, high, asked.1) in
        inr (subst (λ (k : ℕ). IsInto edges (slice_index frontier k) counts level x link) last asked.2)
