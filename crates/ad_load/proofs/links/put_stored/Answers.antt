use Rattle.std.proofs.Common.{◌++◌, ◌∷◌, [], List, ap, ◌∙◌, map, sym, nat_le}
use Rattle.std.specs.Prelude.{position}
use Rattle.std.proofs.lemmas.List.{map-append}
use Rattle.ad_dir_objects.specs.Seen.{stored_seen, held_seen}
use Rattle.ad_dir_model.specs.Object.{Held}
use Rattle.ad_load.proofs.Putting.{Values, ok_map, stored_at, stored_last}
use Rattle.ad_load.proofs.links.put_stored.Goals as goal

pub returns-in-Some : goal.returns-in-Some
returns-in-Some c =
    let at = ap (λ (xs : List Values). position (λ (held : Values). nat_le c.args.attr.0 held.0.0) xs)
    (sym c.as_slice.ensures.value) ∙ sym c.place_of.ensures.place ∙ c.in-Some.is in
    ok_map c.put_at.result (λ e. e ∙ stored_at c.args.values.now.items c.in-Some.place c.args.attr.0
    (stored_seen c.args.value) at) c.put_at.ensures

pub returns-in_ok-push-in-None : goal.returns-in_ok-push-in-None
returns-in_ok-push-in-None c =
    let items = c.args.values.now.items in
    let at = ap (λ (xs : List Values). position (λ (held : Values). nat_le c.args.attr.0 held.0.0) xs)
    (sym c.as_slice.ensures.value) ∙ sym c.place_of.ensures.place ∙ c.in-None.is in
    ap (map held_seen) c.in_ok-push-in-None.ensures.items
    ∙ map-append held_seen items (c.alone-held.result ∷ [])
    ∙ ap (λ (h : Held). map held_seen items ++ h ∷ []) c.alone-held.ensures
    ∙ sym (stored_last items c.args.attr.0 (stored_seen c.args.value) at)
