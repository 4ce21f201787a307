-- What goes wrong with the tokens of principals.
use Rattle.std.proofs.Common.{◌≡◌, ℕ, true, inl, inr, List, ◌∷◌, sym, subst}
use Rattle.ad_dir_model.specs.Directory.{Directory}
use Rattle.ad_dir_model.specs.Objects.{is_live}
use Rattle.ad_both.specs.declared.both.Both.{Both}
use Rattle.ad_diff_rights.specs.declared.tokens.Party.{Party}
use Rattle.ad_diff_rights.specs.declared.tokens.DiffFault.{DiffFault}
use Rattle.ad_diff_rights.specs.declared.tokens.DiffFault.TheVariants.{Before, After}
use Rattle.ad_diff_rights.specs.Parties.{HasToken, IsParty, IsNoToken, AreNoParties, IsOfLive}

pub first_refused : (before after : Directory) (p : Both) (fault : DiffFault)
    → IsNoToken before p.before (Before p.before) fault → (others : List Both)
    → AreNoParties before after (p ∷ others) fault
first_refused before after p fault (inl memory) others = inl memory
first_refused before after p fault (inr many) others = inr (inl many)

pub second_refused : (before after : Directory) (p : Both) (fault : DiffFault) → HasToken before p.before
    → IsNoToken after p.after (After p.after) fault → (others : List Both)
    → AreNoParties before after (p ∷ others) fault
second_refused before after p fault had (inl memory) others = inl memory
second_refused before after p fault had (inr many) others = inr (inr (had, inl many))

pub later_refused : (before after : Directory) (party : Party) (others : List Both) (fault : DiffFault)
    → IsParty before after party → AreNoParties before after others fault
    → AreNoParties before after (party.both ∷ others) fault
later_refused before after party others fault is (inl memory) = inl memory
later_refused before after party others fault is (inr refused) =
    inr (inr ((party.was, is.was), inr ((party.is, is.is), refused)))

pub first_live : (before after : Directory) (number : ℕ) (fault : DiffFault) → is_live before.objects number ≡ true
    → IsNoToken before number (Before number) fault → IsOfLive before after fault
first_live before after number fault live (inl memory) = subst (IsOfLive before after) (sym memory) tt
first_live before after number fault live (inr many) = subst (IsOfLive before after) (sym many.0) live

pub second_live : (before after : Directory) (number : ℕ) (fault : DiffFault) → is_live after.objects number ≡ true
    → IsNoToken after number (After number) fault → IsOfLive before after fault
second_live before after number fault live (inl memory) = subst (IsOfLive before after) (sym memory) tt
second_live before after number fault live (inr many) = subst (IsOfLive before after) (sym many.0) live
