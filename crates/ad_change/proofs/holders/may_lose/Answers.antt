use Rattle.std.proofs.Common.{◌≡◌, ℕ, true, sym, subst, ap, ◌∙◌}
use Rattle.std.specs.List.{AllByRecursion}
use Rattle.ad_dir_model.specs.Objects.{is_live}
use Rattle.ad_dir_model.proofs.Counting.{all_numbers}
use Rattle.ad_change.specs.Removing.{IsLeaving, losing_among}
use Rattle.ad_change.proofs.EditLists.{losing_all}
use Rattle.ad_change.proofs.HolderLists.{holders_live, holders_lose}
use Rattle.ad_change.proofs.holders.may_lose.Goals as goal

pub returns-then-alone-clause-live : goal.returns-then-alone-clause-live
returns-then-alone-clause-live c =
    subst (AllByRecursion (λ (n : ℕ). is_live c.args.dir.now.objects n ≡ true)) (sym c.in_ok-holders.ensures)
    (holders_live c.args.dir.now.objects c.args.target c.requires.rise)

pub returns-then-alone-clause-all : goal.returns-then-alone-clause-all
returns-then-alone-clause-all c =
    ap (losing_among c.args.dir.now c.args.target) c.in_ok-holders.ensures
    ∙ holders_lose c.args.dir.now c.args.target c.requires.rise
    (subst (IsLeaving c.args.dir.now c.args.target) c.if-alone.true c.requires.leaving)

pub returns-clause-live : goal.returns-clause-live
returns-clause-live c =
    subst (AllByRecursion (λ (n : ℕ). is_live c.args.dir.now.objects n ≡ true)) (sym c.in_ok-all.ensures)
    (all_numbers (λ (n : ℕ). is_live c.args.dir.now.objects n ≡ true) c.args.dir.now.objects (λ n live. live))

pub returns-clause-all : goal.returns-clause-all
returns-clause-all c = ap (losing_among c.args.dir.now c.args.target) c.in_ok-all.ensures ∙ losing_all c.args.dir.now
    c.args.target c.requires.rise
