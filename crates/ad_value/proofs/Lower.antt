-- What the crates below promise of texts and bytes, which the proofs here take as premises.
use Rattle.std.proofs.Common.{◌≡◌, ◌↔◌, ◌+◌, ◌*◌, ℕ, List, length, Some}
use Rattle.ad_bytes.specs.Reading.{IsReaderOf}
use Rattle.ad_ids.specs.SidValue.{SidValue}
use Rattle.ad_ids.specs.Sid.{SpellsSid, sid_bytes}
use Rattle.ad_ids.specs.SidReading.{sid_at}
use Rattle.ad_ids.specs.SidGrammar.{SpellsSidText}
use Rattle.ad_ids.specs.SidFront.{sid_of_text}
use Rattle.ad_dn.specs.declared.rdn.Dn.{Dn}
use Rattle.ad_dn.specs.Grammar.{SpellsDn}
use Rattle.ad_dn.specs.Reading.{dn_of}

-- what is read of bytes and texts is what they encode
pub record Promised : Type 0 where
  pub names : (dn : Dn) (text : List ℕ) → (dn_of text ≡ Some dn) ↔ SpellsDn dn text
  pub sid_texts : (sid : SidValue) (text : List ℕ) → (sid_of_text text ≡ Some sid) ↔ SpellsSidText sid text
  pub sid_read : IsReaderOf SpellsSid sid_at

-- how many bytes an identifier has
abbrev pub SidLengths : Type 0
SidLengths = (sid : SidValue) → length (sid_bytes sid) ≡ 8 + 4 * length sid.sub_authorities
