-- The last GUID of a path.
use Rattle.std.proofs.Common.{◌≡◌, ℕ, ◌+◌, ◌<◌, List, [], ◌∷◌, ◌++◌, Some, refl, sym, ap, ◌∙◌, get_or, length, take}
use Rattle.std.proofs.lemmas.List.{take_more}
use Rattle.ad_ids.specs.declared.guid.Guid.{Guid}
use Rattle.ad_types.specs.Path.{last_guid}

last_push : (guids : List Guid) (guid : Guid) → last_guid (guids ++ guid ∷ []) ≡ Some guid
last_push [] guid = refl
last_push (first ∷ []) guid = refl
last_push (first ∷ second ∷ others) guid = last_push (second ∷ others) guid

pub last_more : (guids : List Guid) (i : ℕ) (d : Guid) → i < length guids → Some (get_or guids i d)
    ≡ last_guid (take (i + 1) guids)
last_more guids i d lt = sym (last_push (take i guids) (get_or guids i d)) ∙ ap last_guid (sym (take_more guids i d lt))
