-- The first record of an object, from a place on.
use Rattle.std.proofs.Common.{◌≡◌, ℕ, ◌+◌, ◌<◌, ◌≤◌, Bool, true, false, List, [], ◌∷◌, length, map, get_or, drop}
use Rattle.std.proofs.Common.{refl, sym, ap, ◌∙◌}
use Rattle.std.specs.Prelude.{◌&&◌, if◌then◌else◌}
use Rattle.std.specs.List.{list_all}
use Rattle.std.proofs.lemmas.List.{drop_all}
use Rattle.ad_load_records.specs.declared.records.Record.{Record as Held}
use Rattle.ad_load_objects.specs.Objects.{is_object, is_no_root, has_root}
use Rattle.ad_load_records.specs.Seen.{seen}
use Rattle.ad_load_records.proofs.Lists.{cut}

pub all_seen : {X Y : Type 0} (test : Y → Bool) (seen : X → Y) (xs : List X) → list_all test (map seen xs)
    ≡ list_all (λ (x : X). test (seen x)) xs
all_seen test seen [] = refl
all_seen test seen (x ∷ xs) = ap (λ (b : Bool). test (seen x) && b) (all_seen test seen xs)

next_root : (records : List Held) (i : ℕ) (one : Held) → i < length records → get_or records i one ≡ one
    → has_root (map seen (drop i records)) ≡ (if is_object (seen one)
    then list_all (is_no_root (seen one)) (map seen (drop (i + 1) records))
    else has_root (map seen (drop (i + 1) records)))
unfolding has_root
next_root records i one lt is = ap (λ (rs : List Held). has_root (map seen rs)) (cut records i one lt is)

pub root_here : (records : List Held) (i : ℕ) (one : Held) → i < length records → get_or records i one ≡ one → true
    ≡ is_object (seen one)
    → has_root (map seen (drop i records)) ≡ list_all (λ (other : Held). is_no_root (seen one) (seen other))
    (drop (i + 1) records)
root_here records i one lt is e =
    next_root records i one lt is
    ∙ ap (λ (b : Bool). if b then list_all (is_no_root (seen one)) (map seen (drop (i + 1) records))
    else has_root (map seen (drop (i + 1) records))) (sym e)
    ∙ all_seen (is_no_root (seen one)) seen (drop (i + 1) records)

pub root_later : (records : List Held) (i : ℕ) (one : Held) → i < length records → get_or records i one ≡ one
    → false ≡ is_object (seen one) → has_root (map seen (drop i records))
    ≡ has_root (map seen (drop (i + 1) records))
root_later records i one lt is e =
    next_root records i one lt is
    ∙ ap (λ (b : Bool). if b then list_all (is_no_root (seen one)) (map seen (drop (i + 1) records))
    else has_root (map seen (drop (i + 1) records))) (sym e)

pub root_end : (records : List Held) (i : ℕ) → length records ≤ i → has_root (map seen (drop i records)) ≡ false
unfolding has_root
root_end records i le = ap (λ (rs : List Held). has_root (map seen rs)) (drop_all i records le)
