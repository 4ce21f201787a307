-- The descriptor that has a list and nothing else.
use Rattle.std.proofs.Common.{◌≡◌, ℕ, List, [], ◌++◌, Ok, sym, ap, ◌∙◌}
use Rattle.ad_acl.specs.Entry.{Entry}
use Rattle.ad_acl.specs.Writing.{written as list_written}
use Rattle.ad_sd.specs.declared.parts.AceList.{AceList}
use Rattle.ad_sd.specs.Writing.{laid_out, written}
use Rattle.ad_ldifmod.specs.Messages.{list_alone}

pub written_alone : (list : AceList) (entries : List Entry) (acl front behind sd : List ℕ) → entries ≡ list.entries
    → list_written entries ≡ Ok acl
    → behind ≡ acl → front ++ acl ≡ laid_out (list_alone list) [] acl → sd ≡ front ++ behind
    → written (list_alone list) ≡ Ok sd
unfolding written
written_alone list entries acl front behind sd are is same lays out =
    rw (ap list_written (sym are) ∙ is) (ap Ok (sym (out ∙ ap (λ (b : List ℕ). front ++ b) same ∙ lays)))
