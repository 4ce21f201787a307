-- What is counted of the values of one attribute after the other.
use Rattle.std.proofs.Common.{◌≡◌, ℕ, ◌+◌, ◌<◌, Bool, List, ◌∷◌, ◌++◌, map, length, drop, get_or, sym, ap, ◌∙◌}
use Rattle.std.proofs.Common.{append_assoc}
use Rattle.std.specs.Prelude.{filter_map}
use Rattle.std.proofs.lemmas.List.{drop_more}
use Rattle.ad_schema.specs.declared.info.AttrId.{AttrId}
use Rattle.ad_dir_objects.specs.declared.object.Stored.{Stored as StoredIn}
use Rattle.ad_dir_objects.specs.Seen.{stored_seen, held_seen}
use Rattle.ad_dir_links.specs.Marks.{tie, is_indexed, ties_in}

pub ties_next : (indexed : List Bool) (front after whole : List ℕ) (values : List (AttrId × List StoredIn)) (i : ℕ)
    (held : AttrId × List StoredIn) → i < length values → held ≡ get_or values i held
    → after ≡ front ++ filter_map (tie (is_indexed indexed held.0.0) held.0.0) (map stored_seen held.1)
    → front ++ ties_in indexed (map held_seen (drop i values)) ≡ whole → after
    ++ ties_in indexed (map held_seen (drop (i + 1) values)) ≡ whole
unfolding ties_in
ties_next indexed front after whole values i held within is made so_far =
    let rest : List ℕ = ties_in indexed (map held_seen (drop (i + 1) values)) in
    let here : List ℕ = filter_map (tie (is_indexed indexed held.0.0) held.0.0) (map stored_seen held.1) in
    let parts : drop i values ≡ held ∷ drop (i + 1) values = drop_more values i held within
    ∙ ap (λ (h : AttrId × List StoredIn). h ∷ drop (i + 1) values) (sym is) in
    ap (λ (ns : List ℕ). ns ++ rest) made
    ∙ append_assoc front here rest
    ∙ sym (ap (λ (vs : List (AttrId × List StoredIn)). front ++ ties_in indexed (map held_seen vs)) parts)
    ∙ so_far
