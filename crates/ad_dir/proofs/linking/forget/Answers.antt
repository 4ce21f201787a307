use Rattle.std.proofs.Common.{ℕ, sym, subst}
use Rattle.ad_dir_objects.specs.Seen.{object_seen}
use Rattle.ad_dir_model.specs.Objects.{sd_at}
use Rattle.ad_dir_model.proofs.Finding.{of_number}
use Rattle.ad_dir_table.specs.Entry.{objects_in}
use Rattle.ad_dir_links.specs.Counted.{Forgets}
use Rattle.ad_dir_links.proofs.Laws.{removed_counted}
use Rattle.ad_dir.proofs.linking.forget.Goals as goal

pub returns-in-Some : goal.returns-in-Some
returns-in-Some c = λ all.
    let os = objects_in c.args.objects.now.entries in
    let own = of_number os c.args.number (object_seen c.in-Some.object.now (sd_at os c.args.number))
    (sym c.in-Some.ensures) in
    removed_counted c.args.indexed.now c.args.links.now.entries c.forget_holder.new.links.entries c.args.number os all
    (subst (λ (n : ℕ). Forgets n c.args.links.now.entries c.forget_holder.new.links.entries) own
    c.forget_holder.ensures)

pub returns-in_default : goal.returns-in_default
returns-in_default c = λ all.
    removed_counted c.args.indexed.now c.args.links.now.entries c.args.links.now.entries c.args.number
    (objects_in c.args.objects.now.entries) all (λ t h n small apart covers. covers)
