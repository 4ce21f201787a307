-- One record more of a story.
use Rattle.std.proofs.Common.{◌≡◌, List, [], ◌∷◌, Some, None, Result, Ok, Err, refl, ap}
use Rattle.ad_ldif.specs.declared.fault.LdifFault.{LdifFault}
use Rattle.ad_ldif.specs.declared.fault.LdifFault.TheVariants as faults
use Rattle.ad_ldif.specs.Lines.{Block}
use Rattle.ad_ldif.specs.Records.{Entry, Fault, record_of}
use Rattle.ad_ldif.specs.Story.{Story, nothing, told, story_of, Fails, Tells}

pub no_story : (blocks : List Block) → blocks ≡ [] → story_of blocks ≡ nothing
unfolding story_of
no_story blocks is = rw is refl

pub one_told : (blocks others after : List Block) (block : Block) (entry : Entry) → blocks ≡ block ∷ others
    → record_of block ≡ Ok entry → others ≡ after → story_of blocks ≡ told (Ok entry) (story_of after)
unfolding story_of
one_told blocks others after block entry is read left = rw (is, read, left) refl

pub fault_told : (blocks others : List Block) (block : Block) (e : LdifFault) (after : Story) → blocks ≡ block
    ∷ others → Fails e (record_of block) → Tells (story_of blocks) (Err e) after
unfolding story_of
fault_told blocks others block faults.Memory after is h = tt
fault_told blocks others block (faults.Bad n k) after is h = rw (is, h) refl

told_some : (read : Result Entry Fault) (story : Story) → told read story ≡ nothing → ⊥
told_some (Ok entry) story e = let records : entry ∷ story.records ≡ [] = ap (λ (s : Story). s.records) e in cc
told_some (Err f) story e = let stop : Some f ≡ None = ap (λ (s : Story). s.stop) e in cc

-- a story with nothing in it is of no record
pub nothing_left : (blocks : List Block) → story_of blocks ≡ nothing → blocks ≡ []
unfolding story_of
nothing_left [] e = refl
nothing_left (block ∷ blocks) e = absurd (told_some (record_of block) (story_of blocks) e)
