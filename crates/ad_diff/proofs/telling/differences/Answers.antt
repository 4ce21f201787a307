use Rattle.std.proofs.Common.{◌≡◌, ◌∙◌, true, List, map, sym, subst}
use Rattle.std.specs.List.{All}
use Rattle.std.proofs.lemmas.List.Elements.{filter_passes}
use Rattle.ad_both.specs.declared.both.Both.{Both}
use Rattle.ad_diff_rights.specs.declared.tokens.Party.{Party}
use Rattle.ad_both.specs.Both.{objects_of_both}
use Rattle.ad_diff_rights.specs.Both.{are_principals}
use Rattle.ad_diff_rights.specs.Parties.{IsParty}
use Rattle.ad_diff_rights.specs.Same.{AreUnchangedParties}
use Rattle.ad_diff.proofs.telling.differences.Goals as goal

pub parties-requires : goal.parties-requires
parties-requires c =
    subst (All (λ (p : Both). are_principals c.args.before.now c.args.after.now p ≡ true)) (sym c.requires.principals)
    (filter_passes (are_principals c.args.before.now c.args.after.now)
    (objects_of_both c.args.before.now c.args.after.now))

pub text_by-requires-clause-both : goal.text_by-requires-clause-both
text_by-requires-clause-both c =
    subst (λ (ps : List Party). map (λ (party : Party). party.both) ps ≡ c.args.principals.now)
    (sym c.as_slice-2.ensures.value) c.in_ok-parties.ensures.both

pub text_by-requires-clause-parties : goal.text_by-requires-clause-parties
text_by-requires-clause-parties c = subst (All (IsParty c.args.before.now c.args.after.now))
    (sym c.as_slice-2.ensures.value) c.in_ok-parties.ensures.parties

pub text_by-requires-clause-flagged : goal.text_by-requires-clause-flagged
text_by-requires-clause-flagged c =
    subst (AreUnchangedParties c.args.before.now c.args.after.now c.as_slice-2.result.now) (sym c.as_slice-3.ensures.value)
    (subst (λ (ps : List Party). AreUnchangedParties c.args.before.now c.args.after.now ps c.in_ok-flags.flags.items)
    (c.as_slice.ensures.value ∙ sym c.as_slice-2.ensures.value) c.in_ok-flags.ensures)
