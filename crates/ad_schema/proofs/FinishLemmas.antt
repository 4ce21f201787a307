-- The passes over the records of classes.
use Rattle.std.proofs.Common.{◌≡◌, ℕ, ◌+◌, true, false, List, [], ◌∷◌, length, refl, Option, Some, None, ap, ◌∙◌}
use Rattle.std.specs.List.{cons_option}
use Rattle.ad_schema.specs.declared.line.Line.{Line}
use Rattle.ad_schema_classes.specs.Chains.{option_at}
use Rattle.ad_schema_classes.specs.Chains.{naming_by}
use Rattle.ad_schema.specs.Classes.{class_info, class_infos}
use Rattle.ad_schema.specs.Records.{unknown_in, first_unknown}

-- ---- names of nothing

pub unknown_none : (attrs classes : List (List ℕ)) (all rest : List (List Line)) (lines : Option (List Line)) → all
    ≡ cons_option lines rest → lines ≡ None
    → first_unknown attrs classes all ≡ first_unknown attrs classes rest
unknown_none attrs classes all rest lines step none = ap (first_unknown attrs classes) (rw none at step)

pub unknown_here : (attrs classes : List (List ℕ)) (all rest : List (List Line)) (found : Option (List Line))
    (lines : List Line) (value : List ℕ) → all ≡ cons_option found rest → found ≡ Some lines
    → unknown_in attrs classes lines ≡ Some value → first_unknown attrs classes all ≡ Some value
unfolding first_unknown
unknown_here attrs classes all rest found lines value step some here = ap (first_unknown attrs classes)
    (rw some at step) ∙ rw here refl

pub unknown_some : (attrs classes : List (List ℕ)) (all rest : List (List Line)) (found : Option (List Line))
    (lines : List Line) → all ≡ cons_option found rest → found ≡ Some lines
    → unknown_in attrs classes lines ≡ None → first_unknown attrs classes all ≡ first_unknown attrs classes rest
unfolding first_unknown
unknown_some attrs classes all rest found lines step some none = ap (first_unknown attrs classes) (rw some at step)
    ∙ rw none refl

pub unknown_end : (attrs classes : List (List ℕ)) (all : List (List Line)) → all ≡ [] → first_unknown attrs classes
    all ≡ None
unfolding first_unknown
unknown_end attrs classes all none = rw none refl

-- ---- classes

pub infos_more : (above own : List (Option ℕ)) (cn n : ℕ) (all rest : List (List Line)) (lines : List Line) → all
    ≡ lines ∷ rest
    → class_infos above own cn n all ≡ cons_option
    (Some (class_info (option_at above n) (naming_by above own cn n) lines))
    (class_infos above own cn (n + 1) rest)
unfolding class_infos
infos_more above own cn n all rest lines step = rw step refl

pub infos_end : (above own : List (Option ℕ)) (cn n : ℕ) (all : List (List Line)) → all ≡ []
    → class_infos above own cn n all ≡ []
unfolding class_infos
infos_end above own cn n all none = rw none refl
