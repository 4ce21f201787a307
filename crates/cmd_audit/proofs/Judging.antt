-- The descriptor by which something is judged is that of the object.
use Rattle.std.proofs.Common.{◌≡◌, ◌∙◌, ℕ, suc, ◌+◌, ◌<◌, ◌≤◌, Bool, true, false, Option, Some, None, List}
use Rattle.std.proofs.Common.{◌++◌, get_or, length, drop, drop-cons, append_assoc, refl, sym, ap, arith}
use Rattle.std.specs.List.{flat_map}
use Rattle.std.proofs.lemmas.List.{append-nil, drop_all}
use Rattle.ad_types.specs.declared.tried.Tried.{Tried}
use Rattle.ad_types.specs.Tried.{TriedValue, tried_value, tried_values}
use Rattle.std.specs.Prelude.{option_map, is_some}
use Rattle.std.specs.Option.{option_map_or}
use Rattle.std.proofs.lemmas.Option.{none-some, same_Some}
use Rattle.ad_sd.specs.declared.parts.Sd.{Sd}
use Rattle.ad_dir_model.specs.Object.{Object}

pub by_some : (f : Sd → Bool) (r : Option Object) (sd : Sd) → Some sd ≡ option_map (λ (o : Object). o.sd) r
    → f sd ≡ option_map_or (λ (o : Object). f o.sd) r false
by_some f None sd e = absurd (none-some sd (sym e))
by_some f (Some o) sd e = ap f (same_Some sd o.sd e)

pub by_none : (f : Sd → Bool) (r : Option Object) → None ≡ option_map (λ (o : Object). o.sd) r
    → false ≡ option_map_or (λ (o : Object). f o.sd) r false
by_none f None e = refl
by_none f (Some o) e = absurd (none-some o.sd e)

pub there : (r : Option Object) (sd : Sd) → Some sd ≡ option_map (λ (o : Object). o.sd) r → is_some r ≡ true
there None sd e = absurd (none-some sd (sym e))
there (Some o) sd e = refl

-- ---- one line more

pub line_more : (f : TriedValue → List ℕ) (tried : List Tried) (i : ℕ) (d : Tried) (whole text next : List ℕ) → i
    < length tried
    → next ≡ text ++ f (tried_value (get_or tried i d)) → whole ≡ text ++ flat_map f (tried_values (drop i tried))
    → whole ≡ next ++ flat_map f (tried_values (drop (i + 1) tried))
line_more f tried i d whole text next lt is so_far =
    let one : suc i ≡ i + 1 = omega arith in
    so_far ∙ ap (λ (l : List Tried). text ++ flat_map f (tried_values l)) (drop-cons tried i d lt)
    ∙ ap (λ (k : ℕ). text ++ (f (tried_value (get_or tried i d)) ++ flat_map f (tried_values (drop k tried)))) one
    ∙ sym (append_assoc text (f (tried_value (get_or tried i d))) (flat_map f (tried_values (drop (i + 1) tried))))
    ∙ ap (λ (l : List ℕ). l ++ flat_map f (tried_values (drop (i + 1) tried))) (sym is)

pub line_last : (f : TriedValue → List ℕ) (tried : List Tried) (i : ℕ) (whole text : List ℕ) → length tried ≤ i
    → whole ≡ text ++ flat_map f (tried_values (drop i tried)) → text ≡ whole
line_last f tried i whole text ge so_far =
    sym (so_far ∙ ap (λ (l : List Tried). text ++ flat_map f (tried_values l)) (drop_all i tried ge) ∙ append-nil text)
