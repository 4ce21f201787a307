-- Where the objects of drafts stand in the tree.
use Rattle.std.proofs.Common.{◌≡◌, ℕ, zero, suc, ◌+◌, ◌-◌, ◌<◌, ◌≤◌, true, Some, List, [], ◌∷◌, length, take, drop}
use Rattle.std.proofs.Common.{refl, sym, ap, subst, ◌∙◌, arith}
use Rattle.std.specs.Prelude.{slice_get}
use Rattle.std.specs.List.{list_all}
use Rattle.std.proofs.lemmas.Bool.{leb-true}
use Rattle.ad_dn.specs.declared.rdn.Rdn.{Rdn}
use Rattle.ad_schema.specs.declared.line.SchemaRecord.{SchemaRecord}
use Rattle.ad_dir_model.specs.Limits.{max_depth}
use Rattle.ad_dir_model.specs.Object.{Object}
use Rattle.ad_dir_model.specs.Objects.{object_of, is_live, parent_at}
use Rattle.ad_dir_model.specs.Tree.{root, IsAtDepth, IsPlaced}
use Rattle.ad_dir_model.proofs.Finding.{at-of, live-of}
use Rattle.ad_load_objects.specs.Drafts.{Draft, number_named}
use Rattle.ad_load_objects.specs.Objects.{parent_of}
use Rattle.ad_load.specs.Links.{root_rdns, is_shallow}
use Rattle.ad_load_objects.proofs.Names.{same_length}
use Rattle.ad_load_objects.proofs.Places.{some_is, within, at_take, length_take, each_passes}
use Rattle.ad_load_objects.proofs.Good.{AreGood}
use Rattle.ad_load.proofs.Stored.{number_within}
use Rattle.ad_load.proofs.Made.{AreObjectsOf, found_for}

one_fewer : (rdns : List Rdn) → 0 < length rdns → length rdns ≡ length (drop 1 rdns) + 1
one_fewer [] lt = absurd (omega arith)
one_fewer (rdn ∷ rdns) lt = omega arith

parent_first : (before : List Draft) (rdns : List Rdn) (parent : ℕ) → length before ≡ 0 → parent_of before rdns
    ≡ Some parent → parent ≡ 0
unfolding parent_of
parent_first [] rdns parent none e = cc
parent_first (d ∷ ds) rdns parent none e = absurd (omega arith)

parent_named : (before : List Draft) (rdns : List Rdn) (parent : ℕ) → 0 < length before
    → parent_of before rdns ≡ Some parent → number_named before (drop 1 rdns) ≡ Some parent
unfolding parent_of
parent_named [] rdns parent some e = absurd (omega arith)
parent_named (d ∷ ds) rdns parent some e = e

root_is : (drafts : List Draft) (d : Draft) → slice_get drafts 0 ≡ Some d → root_rdns drafts ≡ d.rdns
root_is [] d e = absurd cc
root_is (x ∷ xs) d e = ap (λ (y : Draft). y.rdns) (some_is x d e)

module _ (schema : List SchemaRecord) (drafts : List Draft) (objects : List Object) (good : AreGood schema drafts)
    (made : AreObjectsOf schema drafts 1 drafts objects) where
  -- an object's number is one more than its draft's place
  pub found_next : (i : ℕ) (d : Draft) → slice_get drafts i ≡ Some d → (o : Object)
      × (object_of objects (suc i) ≡ Some o) × (o.parent ≡ d.parent)
  found_next i d at =
      let found = found_for schema drafts 1 drafts objects i d made at in
      let number : 1 + i ≡ suc i = omega arith in
      (found.0, subst (λ (n : ℕ). object_of objects n ≡ Some found.0) number found.1, found.2.parent)

  pub live_next : (i : ℕ) (d : Draft) → slice_get drafts i ≡ Some d → is_live objects (suc i) ≡ true
  live_next i d at = let found = found_next i d at in live-of objects (suc i) found.0 found.1

  parent_next : (i : ℕ) (d : Draft) → slice_get drafts i ≡ Some d → parent_at objects (suc i) ≡ d.parent
  parent_next i d at = let found = found_next i d at in ap (λ (o : Object). o.parent)
      (at-of objects (suc i) found.0 found.1) ∙ found.2

  pub no_parent : (d : Draft) → slice_get drafts 0 ≡ Some d → d.parent ≡ 0
  no_parent d at = parent_first [] d.rdns d.parent refl (good 0 d at).parent

  -- the draft above one that isn't the first
  pub parent_before : (i : ℕ) (d : Draft) → slice_get drafts (suc i) ≡ Some d
      → (j : ℕ) × (j ≤ i) × (d.parent ≡ suc j) × (above : Draft) × (slice_get drafts j ≡ Some above)
      × (length d.rdns ≡ length above.rdns + 1)
  parent_before i d at =
      let one = good (suc i) d at in
      let lt : suc i < length drafts = within drafts (suc i) d at in
      let long : length (take (suc i) drafts) ≡ suc i = length_take drafts (suc i) (omega (arith, lt)) in
      let some : 0 < length (take (suc i) drafts) = omega (arith, long) in
      let found = number_within (take (suc i) drafts) (drop 1 d.rdns) d.parent
      (parent_named (take (suc i) drafts) d.rdns d.parent some one.parent) in
      let j : ℕ = found.0 in
      let above : Draft = found.2 in
      let lower : j < length (take (suc i) drafts) = within (take (suc i) drafts) j above found.3 in
      let less : j < suc i = omega (arith, lower, long) in
      let number : d.parent ≡ suc j = omega (arith, found.1) in
      let same : length above.rdns ≡ length (drop 1 d.rdns) = same_length above.rdns (drop 1 d.rdns) found.4 in
      let fewer = one_fewer d.rdns one.some in
      (j, omega (arith, less), number, above, sym (at_take drafts (suc i) j less) ∙ found.3, omega (arith, same, fewer))

  pub parent_lives : (i : ℕ) (d : Draft) → slice_get drafts (suc i) ≡ Some d → is_live objects d.parent ≡ true
  parent_lives i d at =
      let p = parent_before i d at in
      subst (λ (n : ℕ). is_live objects n ≡ true) (sym p.2) (live_next p.0 p.3 p.4)

  -- each has no fewer parts than the root, and is as deep as it has more
  deep : (k i : ℕ) (d : Draft) → i ≤ k → slice_get drafts i ≡ Some d
      → (length (root_rdns drafts) ≤ length d.rdns) × IsAtDepth (parent_at objects)
      (length d.rdns - length (root_rdns drafts)) (suc i)
  deep k zero d le at =
      let same : length (root_rdns drafts) ≡ length d.rdns = ap length (root_is drafts d at) in
      let none : 0 ≡ length d.rdns - length (root_rdns drafts) = omega (arith, same) in
      (omega (arith, same), subst (λ (depth : ℕ). IsAtDepth (parent_at objects) depth 1) none refl)
  deep zero (suc i) d le at = absurd (omega arith)
  deep (suc k) (suc i) d le at =
      let p = parent_before i d at in
      let below : p.0 ≤ k = omega (arith, le, p.1) in
      let above = deep k p.0 p.3 below p.4 in
      let one : length d.rdns ≡ length p.3.rdns + 1 = p.5 in
      let depth : suc (length p.3.rdns - length (root_rdns drafts)) ≡ length d.rdns - length (root_rdns drafts)
      = omega (arith, one, above.0) in
      let up : suc p.0 ≡ parent_at objects (suc (suc i)) = sym p.2 ∙ sym (parent_next (suc i) d at) in
      let apart : suc (suc i) ≡ root → ⊥ = λ (e : suc (suc i) ≡ root). omega (arith, e) in (
        omega (arith, one, above.0),
        subst (λ (n : ℕ). IsAtDepth (parent_at objects) n (suc (suc i))) depth
            (apart, subst (IsAtDepth (parent_at objects) (length p.3.rdns - length (root_rdns drafts))) up above.1),
      )

  pub stands_placed : list_all (is_shallow drafts) drafts ≡ true → (i : ℕ) (d : Draft) → slice_get drafts i ≡ Some d
      → IsPlaced (parent_at objects) (suc i)
  stands_placed shallow i d at =
      let le : i ≤ i = omega arith in
      let here = deep i i d le at in
      let most : length d.rdns ≤ length (root_rdns drafts) + max_depth = leb-true (length d.rdns)
      (length (root_rdns drafts) + max_depth) (each_passes (is_shallow drafts) drafts i d shallow at) in
      record { depth = length d.rdns - length (root_rdns drafts); within = omega (arith, most); chain = here.1 }
