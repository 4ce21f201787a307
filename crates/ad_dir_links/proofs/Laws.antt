-- What is counted of the links of objects after an edit.
use Rattle.std.proofs.Common.{◌≡◌, ℕ, ◌+◌, ◌<◌, ◌^◌, Bool, Option, Some, None, Bor, List, [], map, inl, inr, refl}
use Rattle.std.proofs.Common.{sym, subst, ap, ◌∙◌, arith}
use Rattle.std.specs.Option.{option_map, option_map_or}
use Rattle.std.proofs.lemmas.Option.{none-some}
use Rattle.ad_sd.specs.declared.parts.Sd.{Sd}
use Rattle.ad_dir_objects.specs.declared.object.Object.{Object as ObjectIn}
use Rattle.ad_dir_objects.specs.Seen.{held_seen, object_seen}
use Rattle.ad_dir_model.specs.Object.{Object}
use Rattle.ad_dir_model.specs.Objects.{object_of, put, removed}
use Rattle.ad_dir_model.proofs.Finding.{of_number, of-removed_same, of-removed_other}
use Rattle.ad_dir_model.proofs.Placing.{put_or_before}
use Rattle.ad_dir_links.specs.Marks.{all_ties}
use Rattle.ad_dir_links.specs.Counted.{times, counted, Covers, gain, IsCounted, AreCounted, Keeps, Adds, Drops, Forgets}
use Rattle.ad_dir_links.specs.Changing.{IsBalanced, ties_found, object_ties}
use Rattle.ad_dir_links.proofs.Counting.{gain_own, gain_other}

pub none_counted : (indexed : List Bool) (es : List (ℕ × ℕ)) → AreCounted indexed es []
unfolding object_of
none_counted indexed es n o is = absurd (none-some o is)

pub keeps_counted : (indexed : List Bool) (old new : List (ℕ × ℕ)) (os : List Object) → Keeps old new
    → AreCounted indexed old os → AreCounted indexed new os
keeps_counted indexed old new os keeps all n o is small t
    = keeps t o.number (times t (all_ties indexed o.name o.values)) small (all n o is small t)

-- what was added is taken back
pub taken_back : (one : ℕ) (targets : List ℕ) (old mid new : List (ℕ × ℕ)) → Adds one targets old mid
    → Drops one targets mid new → Keeps old new
taken_back one targets old mid new adds drops t h n small covers = drops t h n small (adds t h n small covers)

pub as_found : (indexed : List Bool) (found : Option (Bor ObjectIn)) (sd : Sd) (seen : Option Object)
    → option_map (λ (o : Bor ObjectIn). object_seen o.now sd) found ≡ seen
    → option_map_or (λ (o : Bor ObjectIn). all_ties indexed o.now.name (map held_seen o.now.values)) found []
    ≡ ties_found indexed seen
as_found indexed None sd seen is = ap (ties_found indexed) is
as_found indexed (Some o) sd seen is = ap (ties_found indexed) is

module _ (indexed : List Bool) (old mid new : List (ℕ × ℕ)) (o : ObjectIn) (sd : Sd) (os : List Object)
    (more less : List ℕ) (all : AreCounted indexed old os) (adds : Adds o.number more old mid)
    (drops : Drops o.number less mid new)
    (balanced : IsBalanced (ties_found indexed (object_of os o.number)) (object_ties indexed o) more less) where
  -- what is counted of the object before it
  before : o.number < 2 ^ 32 → (t : ℕ) → Covers (counted old t o.number)
      (times t (ties_found indexed (object_of os o.number)))
  unfolding times
  before small t = by_found (object_of os o.number) refl
    where
      by_found : (found : Option Object) → object_of os o.number ≡ found → Covers (counted old t o.number)
          (times t (ties_found indexed found))
      by_found None is = λ below. omega arith
      by_found (Some x) is =
          let own : x.number ≡ o.number = of_number os o.number x is in
          subst (λ (n : ℕ). Covers (counted old t n) (times t (all_ties indexed x.name x.values))) own
          (all o.number x is (subst (λ (n : ℕ). n < 2 ^ 32) (sym own) small) t)

  own_counted : IsCounted indexed new (object_seen o sd)
  own_counted small t =
      let added : Covers (counted mid t o.number) (times t (ties_found indexed (object_of os o.number))
      + gain o.number more t o.number) =
      adds t o.number (times t (ties_found indexed (object_of os o.number))) small (before small t) in
      drops t o.number (times t (object_ties indexed o)) small
      (subst (Covers (counted mid t o.number))
      (let m = gain_own o.number more t in let l = gain_own o.number less t in let b = balanced t
      in omega (arith, m, l, b)) added)

  other_counted : (n : ℕ) (x : Object) → (o.number ≡ n → ⊥) → object_of os n ≡ Some x → IsCounted indexed new x
  other_counted n x apart is small t =
      let own : x.number ≡ n = of_number os n x is in
      let differ : o.number ≡ x.number → ⊥ = λ e. apart (e ∙ own) in
      let added = adds t x.number (times t (all_ties indexed x.name x.values)) small (all n x is small t) in
      drops t x.number (times t (all_ties indexed x.name x.values)) small
      (subst (Covers (counted mid t x.number))
      (let m = gain_other o.number more t x.number differ in let l = gain_other o.number less t x.number differ
      in omega (arith, m, l)) added)

  pub put_counted : AreCounted indexed new (put (object_seen o sd) os)
  put_counted n x is = elim (put_or_before (object_seen o sd) os n x is) [
    | inl itself ↦ subst (IsCounted indexed new) itself own_counted
    | inr found ↦ other_counted n x found.apart found.live
  ]

pub removed_counted : (indexed : List Bool) (old new : List (ℕ × ℕ)) (number : ℕ) (os : List Object)
    → AreCounted indexed old os → Forgets number old new → AreCounted indexed new (removed number os)
removed_counted indexed old new number os all forgets n x is small t =
    let apart : number ≡ n → ⊥ = λ e. none-some x
    (sym (of-removed_same number os) ∙ subst (λ (k : ℕ). object_of (removed number os) k ≡ Some x) (sym e) is) in
    let live : object_of os n ≡ Some x = sym (of-removed_other number os n apart) ∙ is in
    let own : x.number ≡ n = of_number os n x live in
    forgets t x.number (times t (all_ties indexed x.name x.values)) small (λ e. apart (e ∙ own)) (all n x live small t)
