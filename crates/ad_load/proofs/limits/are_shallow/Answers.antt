use Rattle.std.proofs.Common.{ℕ, ◌+◌, length, map, sym, ap, ◌∙◌}
use Rattle.std.specs.Prelude.{nat_le}
use Rattle.std.specs.List.{list_all}
use Rattle.ad_dir_model.specs.Limits.{max_depth}
use Rattle.ad_load_objects.specs.declared.drafts.Draft.{Draft as HeldDraft}
use Rattle.ad_load.specs.Links.{is_shallow}
use Rattle.ad_load_objects.specs.Seen.{draft_seen}
use Rattle.ad_load_objects.proofs.Roots.{all_seen}
use Rattle.ad_load.proofs.limits.are_shallow.Goals as goal

pub returns : goal.returns
returns c =
    c.all_shallow.ensures
    ∙ ap (λ (root : ℕ). list_all (λ (draft : HeldDraft). nat_le (length draft.dn.rdns) (root + max_depth))
    c.args.drafts.now) c.root_parts.ensures
    ∙ sym (all_seen (is_shallow (map draft_seen c.args.drafts.now)) draft_seen c.args.drafts.now)
