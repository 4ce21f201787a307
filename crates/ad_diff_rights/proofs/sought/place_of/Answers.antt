use Rattle.std.proofs.Common.{◌≡◌, ◌∙◌, ℕ, zero, suc, Bool, true, false, Option, List, [], ◌∷◌, drop, sym, ap, refl}
use Rattle.std.specs.Prelude.{◌||◌, is_some}
use Rattle.std.specs.Str.{bytes_eq}
use Rattle.std.specs.Prelude.{◌≡◌, ℕ, true, List, [], Vec}
use Rattle.std.specs.declared.alloc.Global.{Global}
use Rattle.ad_diff_rights.specs.Changes.{has_label}
use Rattle.ad_diff_rights.specs.Steps.{texts}
use Rattle.ad_diff_rights.proofs.sought.place_of.Goals as goal

or_right : (a b : Bool) → b ≡ true → a || b ≡ true
or_right true b is = refl
or_right false b is = is

-- what is among those from a place on is among all
among_all : (label : List ℕ) (place : ℕ) (all : List (Vec ℕ Global)) → has_label (texts (drop place all)) label ≡ true
    → has_label (texts all) label ≡ true
among_all label zero all is = is
among_all label (suc place) [] is = is
among_all label (suc place) (one ∷ others) is =
    or_right (bytes_eq label one.items) (has_label (texts others) label) (among_all label place others is)

pub returns-in-Some : goal.returns-in-Some
returns-in-Some c = sym (among_all c.args.label.now c.args.near c.args.labels.now
    (ap (λ (all : List (Vec ℕ Global)). has_label (texts all) c.args.label.now) (sym c.labels_from.ensures)
    ∙ sym c.place_in.ensures ∙ ap (λ (found : Option ℕ). is_some found) c.in-Some.is))
