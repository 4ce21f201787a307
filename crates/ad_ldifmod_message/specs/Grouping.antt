-- One value more, where its attribute stands.
use Rattle.std.specs.Prelude.{ℕ, zero, suc, List, [], ◌∷◌, ◌++◌}
use Rattle.ad_ldifmod_message.specs.Asked.{Attribute}

-- after the values of the attribute at this place
unfoldable pub with_value : ℕ → List ℕ → List Attribute → List Attribute
with_value place value [] = []
with_value zero value (a ∷ attrs) = (a.0, a.1 ++ value ∷ []) ∷ attrs
with_value (suc place) value (a ∷ attrs) = a ∷ with_value place value attrs
