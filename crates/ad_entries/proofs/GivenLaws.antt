-- An attribute that tells what a token may change, as an entry has it.
use Rattle.std.proofs.Common.{◌≡◌, ℕ, Bool, true, false, List, [], ◌∷◌, None, Some, length, refl, ap, ◌∙◌}
use Rattle.std.proofs.Common.{if◌then◌else◌}
use Rattle.std.specs.Prelude.{not, ◌&&◌, ◌==◌, option_to_list}
use Rattle.ad_ldap.specs.MessageValue.{SearchValue}
use Rattle.ad_entries.specs.Entry.{Given, values_if, is_sent, changing_attr}
use Rattle.ad_entries.specs.Given.{given_values}

pub not_sent : (search : SearchValue) (name : List ℕ) (values : List (List ℕ)) → false ≡ is_sent search.attrs name
    → [] ≡ changing_attr search name values
not_sent search name values is = ap (λ (b : Bool). if b && not (length values == 0)
    then (name, values_if search.types_only values) ∷ [] else []) is

by_length : (given : Given) (none : Bool) → option_to_list (if none then None else Some given)
    ≡ (if not none then given ∷ [] else [])
by_length given true = refl
by_length given false = refl

pub given_sent : (search : SearchValue) (name : List ℕ) (values : List (List ℕ)) → true ≡ is_sent search.attrs name
    → option_to_list (given_values search.types_only name values) ≡ changing_attr search name values
given_sent search name values is =
    (let given : Given = (name, values_if search.types_only values) in by_length given (length values == 0))
    ∙ ap (λ (b : Bool). if b && not (length values == 0) then (name, values_if search.types_only values) ∷ [] else [])
    is
