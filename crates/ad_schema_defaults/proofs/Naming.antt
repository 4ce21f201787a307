-- Classes by their names, one after the other.
use Rattle.std.proofs.Common.{◌≡◌, ◌∙◌, ℕ, suc, ◌+◌, ◌<◌, ◌≤◌, List, [], ◌∷◌, ◌++◌, map, drop, length, get_or, Option}
use Rattle.std.proofs.Common.{Some, None, refl, sym, ap, drop-cons, add-one}
use Rattle.std.specs.Prelude.{option_map}
use Rattle.std.specs.Option.{option_and_then}
use Rattle.std.proofs.lemmas.List.{map-append, drop_all, append_assoc, append-nil}
use Rattle.ad_schema.specs.declared.line.SchemaRecord.{SchemaRecord}
use Rattle.ad_schema.specs.declared.info.ClassId.{ClassId}
use Rattle.ad_schema_defaults.specs.NewClass.{class_place, classes_named}

abbrev pub ids : List ClassId → List ℕ
ids classes = map (λ id. id.0) classes

pub cut : {A : Type 0} (xs : List A) (i : ℕ) (x : A) → i < length xs → x ≡ get_or xs i x → drop i xs ≡ x
    ∷ drop (i + 1) xs
cut xs i x lt is = drop-cons xs i x lt ∙ ap (λ y. y ∷ drop (suc i) xs) (sym is) ∙ ap (λ n. x ∷ drop n xs)
    (sym (add-one i))

-- what the names from one on give after what was given so far
abbrev pub behind : List ℕ → Option (List ℕ) → Option (List ℕ)
behind so_far rest = option_map (λ (more : List ℕ). so_far ++ more) rest

pub behind_none : (rest : Option (List ℕ)) → behind [] rest ≡ rest
behind_none None = refl
behind_none (Some more) = refl

behind_more : (so_far : List ℕ) (class : ℕ) (rest : Option (List ℕ))
    → behind so_far (option_map (λ (more : List ℕ). class ∷ more) rest) ≡ behind (so_far ++ class ∷ []) rest
behind_more so_far class None = refl
behind_more so_far class (Some more) = ap (λ (l : List ℕ). Some l) (sym (append_assoc so_far (class ∷ []) more))

pub named_more : (schema : List SchemaRecord) (names : List (List ℕ)) (i : ℕ) (name so_far : List ℕ) (class : ℕ) → i
    < length names → name ≡ get_or names i name → class_place schema name ≡ Some class
    → behind so_far (classes_named schema (drop i names)) ≡ behind (so_far ++ class ∷ [])
    (classes_named schema (drop (i + 1) names))
unfolding classes_named
named_more schema names i name so_far class lt is place =
    ap (λ (l : List (List ℕ)). behind so_far (classes_named schema l)) (cut names i name lt is)
    ∙ ap (λ (p : Option ℕ). behind so_far
    (option_and_then (λ (c : ℕ). option_map (λ (more : List ℕ). c ∷ more)
    (classes_named schema (drop (i + 1) names))) p)) place
    ∙ behind_more so_far class (classes_named schema (drop (i + 1) names))

pub named_none : (schema : List SchemaRecord) (names : List (List ℕ)) (i : ℕ) (name so_far : List ℕ) → i
    < length names → name ≡ get_or names i name → class_place schema name ≡ None
    → behind so_far (classes_named schema (drop i names)) ≡ None
unfolding classes_named
named_none schema names i name so_far lt is place =
    ap (λ (l : List (List ℕ)). behind so_far (classes_named schema l)) (cut names i name lt is)
    ∙ ap (λ (p : Option ℕ). behind so_far
    (option_and_then (λ (c : ℕ). option_map (λ (more : List ℕ). c ∷ more)
    (classes_named schema (drop (i + 1) names))) p)) place

pub named_end : (schema : List SchemaRecord) (names : List (List ℕ)) (i : ℕ) (so_far : List ℕ) → length names ≤ i
    → behind so_far (classes_named schema (drop i names)) ≡ Some so_far
unfolding classes_named
named_end schema names i so_far past =
    ap (λ (l : List (List ℕ)). behind so_far (classes_named schema l)) (drop_all i names past)
    ∙ ap (λ (l : List ℕ). Some l) (append-nil so_far)

pub ids_more : (classes : List ClassId) (class : ClassId) → ids (classes ++ class ∷ []) ≡ ids classes ++ class.0 ∷ []
ids_more classes class = map-append (λ (id : ClassId). id.0) classes (class ∷ [])
