use Rattle.std.proofs.Common.{ℕ, List, length, map, sym, ap, ◌∙◌}
use Rattle.std.specs.Prelude.{nat_le}
use Rattle.std.proofs.lemmas.List.{length-map}
use Rattle.ad_dn.specs.declared.rdn.Rdn.{Rdn}
use Rattle.ad_dn.specs.Text.{rdns_text}
use Rattle.ad_dir_model.specs.Limits.{max_objects, max_counter, max_text}
use Rattle.ad_load.specs.Seen.{entry_seen}
use Rattle.ad_load.proofs.Bounds.{limits_are, counter_fits}
use Rattle.ad_load.proofs.before_inheritance.is_within_limits.Goals as goal

pub returns-clause-within : goal.returns-clause-within
returns-clause-within c =
    λ drafts few shallow rid suffix. c.all_hold.ensures
    ∙ limits_are c.args.schema.now drafts
    (map entry_seen c.args.objects.now) c.are_few.result c.args.shallow c.are_light.result c.is_counter.result
    c.in_ok-short.short few
    (c.are_few.ensures ∙ ap (λ (n : ℕ). nat_le n max_objects) (sym (length-map c.args.objects.now entry_seen)))
    shallow
    c.are_light.ensures
    (c.is_counter.ensures ∙ ap (λ (n : ℕ). nat_le n max_counter) rid)
    (c.in_ok-short.ensures ∙ ap (λ (rdns : List Rdn). nat_le (length (rdns_text rdns)) max_text) suffix)

pub returns-clause-rid : goal.returns-clause-rid
returns-clause-rid c = λ all. counter_fits c.are_few.result c.args.shallow c.are_light.result c.is_counter.result
    c.in_ok-short.short c.args.next_rid c.is_counter.ensures
    (sym c.all_hold.ensures ∙ all)
