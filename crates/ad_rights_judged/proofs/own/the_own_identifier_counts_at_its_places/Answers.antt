use Rattle.std.proofs.Common.{◌∙◌, inl, inr, Bool, false, None, List, [], ◌∷◌, sym, ap}
use Rattle.std.specs.Prelude.{slice_index_or}
use Rattle.std.specs.List.{list_any}
use Rattle.std.proofs.lemmas.Bool.{cases_Bool}
use Rattle.ad_dir_model.specs.Objects.{sd_at}
use Rattle.ad_dir_model.specs.Identity.{self_sid}
use Rattle.ad_access_dir.specs.Sight.{is_granted}
use Rattle.ad_rights.specs.Holding.{listed, has}
use Rattle.ad_rights.specs.Set.{is_for_self, granted_set}
use Rattle.ad_rights_judged.specs.Judged.{own_places, places_if, is_granted_apart}
use Rattle.ad_rights_judged.proofs.Holders.{not_held}
use Rattle.ad_rights_judged.proofs.own.the_own_identifier_counts_at_its_places.Goals as goal

pub returns : goal.returns
unfolding own_places is_granted is_granted_apart granted_set
returns c = λ dir tokens holding number place bit path token index bare at none.
    let sd = sd_at dir.objects number in
    let self = self_sid dir number in
    elim (cases_Bool (list_any is_for_self sd.dacl.entries)) [
      | inl any ↦
          c.the_own_identifier_counts_for_who_holds_it.ensures sd.owner sd.dacl.entries token self path bit
          (bare place token at)
          (not_held tokens holding self place token index at
          (ap (λ (b : Bool). has (places_if b (listed holding.holders) self) place) (sym any) ∙ none))
      | inr apart ↦
          ap (λ (l : List Bool). slice_index_or l 0 false)
          (c.the_own_identifier_counts_where_an_entry_names_it.ensures sd (token ∷ []) self None path bit apart)
    ]
