use Rattle.std.proofs.Common.{◌≡◌, ◌∙◌, ◌++◌, ℕ, true, List, sym, ap, subst}
use Rattle.std.specs.List.{All, flat_map}
use Rattle.std.proofs.lemmas.Result.{on_ok_weaker}
use Rattle.ad_dir_model.specs.Objects.{is_live}
use Rattle.ad_causes.specs.Members.{members_there}
use Rattle.ad_causes.specs.Steps.{member_text}
use Rattle.ad_causes.proofs.MemberLemmas.{members_live}
use Rattle.ad_causes.proofs.TextLemmas.{group_is}
use Rattle.ad_causes.proofs.members.put_some.Goals as goal

pub put_members-requires-clause-live : goal.put_members-requires-clause-live
put_members-requires-clause-live c =
    subst (All (λ (number : ℕ). is_live c.args.dir.now.objects number ≡ true)) (sym c.requires.members)
    (members_live c.args.dir.now c.args.group)

pub returns : goal.returns
returns c =
    let old = c.args.into.now.items in
    let more = c.args.more in
    let dir = c.args.dir.now in
    let other = c.args.other.now in
    on_ok_weaker c.put_members.result
    (λ is. is
    ∙ ap (λ (others : List ℕ). old ++ flat_map (member_text more dir other others c.args.group) c.args.members.now)
    (c.as_slice-others.ensures.value ∙ c.in_ok-there.ensures)
    ∙ ap (λ (ms : List ℕ). old ++ flat_map (member_text more dir other (members_there dir other c.args.group) c.args.group) ms)
    c.requires.members
    ∙ ap (λ (t : List ℕ). old ++ t) (sym (group_is more dir other c.args.group)))
    c.put_members.ensures
