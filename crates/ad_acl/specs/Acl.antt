-- The bytes of an access control list.
use Rattle.std.specs.Prelude.{◌≡◌, ℕ, ◌^◌, ◌<◌, ◌⊎◌, List, ◌∷◌, ◌++◌, length}
use Rattle.ad_bytes.specs.Reading.{IsBytes, SpellsEach}
use Rattle.ad_bytes.specs.Numbers.{le_bytes}
use Rattle.ad_acl.specs.Entry.{Entry, SpellsEntry}

-- Revision, a free byte, the size of the whole list, the number of its entries, two free bytes, the entries one
-- after the other, and any bytes after them.
pub record SpellsList (entries : List Entry) (text : List ℕ) : Type 0 where
  pub revision : ℕ
  pub free : ℕ
  pub free_two : ℕ
  pub body : List ℕ
  pub behind : List ℕ
  pub revision_is : (revision ≡ 2) ⊎ (revision ≡ 4)
  pub free_fits : free < 256
  pub free_two_fits : free_two < 2 ^ 16
  pub count_fits : length entries < 2 ^ 16
  pub size_fits : length text < 2 ^ 16
  pub spelled : SpellsEach SpellsEntry entries body
  pub behind_fits : IsBytes behind
  pub parts : text ≡ revision ∷ free ∷ le_bytes 2 (length text)
      ++ (le_bytes 2 (length entries) ++ (le_bytes 2 free_two ++ (body ++ behind)))
