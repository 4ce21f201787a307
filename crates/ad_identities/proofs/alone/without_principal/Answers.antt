use Rattle.std.proofs.Common.{◌≡◌, ℕ, Bool, List, ◌∙◌, sym, ap, subst}
use Rattle.std.specs.Prelude.{filter, ◌&&◌, ◌||◌}
use Rattle.std.specs.List.{IsDistinct, list_any}
use Rattle.ad_ids.specs.SidValue.{SidValue, same_sid, contains_sid}
use Rattle.ad_dir_model.specs.Objects.{sd_at}
use Rattle.ad_principals.proofs.Identified.{all_live}
use Rattle.ad_principals.proofs.Remaining.{distinct_left, contains_left}
use Rattle.ad_identities.specs.Identities.{always, is_told_in, is_without_principal}
use Rattle.ad_identities.specs.Told.{may_stand}
use Rattle.ad_identities.proofs.alone.without_principal.Goals as goal

pub candidates-requires : goal.candidates-requires
candidates-requires c = all_live c.args.dir.now.objects c.as_slice.result.now
    (c.as_slice.ensures.value ∙ c.in_ok-numbers.ensures)

pub returns-clause-rise : goal.returns-clause-rise
returns-clause-rise c =
    let set = c.in_ok-all.all.keys in
    let left : c.in_ok-those.those.items ≡ filter (may_stand c.args.dir.now) set = c.in_ok-those.ensures.are
    ∙ ap (filter (may_stand c.args.dir.now)) c.as_slice-2.ensures.keys in
    c.in_order.ensures.rise (subst (IsDistinct same_sid) (sym left)
    (distinct_left (may_stand c.args.dir.now) set c.as_slice-2.ensures.unique))

pub returns-clause-each : goal.returns-clause-each
unfolding is_without_principal
returns-clause-each c = λ sid.
    let dir = c.args.dir.now in
    let set = c.in_ok-all.all.keys in
    let left : c.in_ok-those.those.items ≡ filter (may_stand dir) set = c.in_ok-those.ensures.are
    ∙ ap (filter (may_stand dir)) c.as_slice-2.ensures.keys in
    c.in_order.ensures.same sid
    ∙ ap (λ (sids : List SidValue). contains_sid sids sid) left
    ∙ contains_left (may_stand dir) set sid
    ∙ ap (λ (b : Bool). b && may_stand dir sid) (c.in_ok-all.ensures sid
    ∙ ap (λ (ns : List ℕ). contains_sid always sid
    || list_any (λ number. is_told_in (sd_at dir.objects number) sid) ns)
    (c.as_slice.ensures.value ∙ c.in_ok-numbers.ensures))
