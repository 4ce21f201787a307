-- What a writer appends.
use Rattle.std.specs.Prelude.{◌≡◌, ℕ, List, ◌++◌}

-- a text of this form was appended
abbrev pub Appends : (List ℕ → Type 0) → List ℕ → List ℕ → Type 0
Appends Spells old new = (text : List ℕ) × Spells text × (new ≡ old ++ text)
