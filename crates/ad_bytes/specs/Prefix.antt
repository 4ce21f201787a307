-- Texts of a format, and the prefixes of other texts: with which of them a text of the format begins, and which are
-- one.
use Rattle.std.specs.Prelude.{ℕ, ◌<◌, ◌≤◌, List, ◌++◌, length, take}

-- some text of the format begins so
pub record BeginsOne {A : Type 0} (Spells : A → List ℕ → Type 0) (text : List ℕ) : Type 0 where
  pub value : A
  pub rest : List ℕ
  pub spelled : Spells value (text ++ rest)

-- The offset of the fault of a text: the length of its longest prefix with which some text of the format begins. So
-- the byte there is the first that no text of the format has there, or the text only ends too soon.
pub record IsFaultOffset {A : Type 0} (Spells : A → List ℕ → Type 0) (offset : ℕ) (text : List ℕ) : Type 0 where
  pub within : offset ≤ length text
  pub begins : BeginsOne Spells (take offset text)
  pub longest : (longer : ℕ) → offset < longer → longer ≤ length text → BeginsOne Spells (take longer text) → ⊥

-- the longest prefix of the text that encodes a value has this length, and encodes this one
pub record IsLongestPrefix {A : Type 0} (Spells : A → List ℕ → Type 0) (value : A) (len : ℕ) (text : List ℕ) : Type 0
  where
    pub within : len ≤ length text
    pub spelled : Spells value (take len text)
    pub longest : (other : A) (longer : ℕ) → len < longer → longer ≤ length text → Spells other (take longer text) → ⊥

-- no prefix of the text encodes a value
abbrev pub HasNoPrefix : {A : Type 0} → (A → List ℕ → Type 0) → List ℕ → Type 0
HasNoPrefix Spells text = (value : _) (len : ℕ) → len ≤ length text → Spells value (take len text) → ⊥
