use Rattle.std.proofs.Common.{ℕ, List, Option, sym, subst}
use Rattle.std.specs.Map.{remove_entry}
use Rattle.sd_pool.specs.declared.id.SdId.{SdId}
use Rattle.ad_dir_table.specs.declared.stored_object.StoredObject.{StoredObject}
use Rattle.std.specs.BTreeMap.{is_at}
use Rattle.std.specs.Ordering.{nat_cmp}
use Rattle.ad_dir_table.proofs.Keeping.{SharesBut, but_live, removed_shares}
use Rattle.ad_dir_table.proofs.Done.{remove_done}
use Rattle.ad_dir_table.proofs.parts.remove.Goals as goal

pub give_back_if-requires : goal.give_back_if-requires
give_back_if-requires c =
    let parts = c.args.parts.now in
    let test = is_at (nat_cmp c.args.number) in
    let left : List (ℕ × StoredObject) = remove_entry test parts.kept.entries in
    but_live parts.pool.live left c.take-was.result
    (subst (λ (was : Option SdId). SharesBut parts.pool.live left was) (sym c.take-was.ensures.was)
    (removed_shares parts.pool.live parts.kept.entries test c.requires.kept.shared))

pub returns-clause-kept : goal.returns-clause-kept
returns-clause-kept c =
    let parts = c.args.parts.now in
    let done = remove_done parts.pool c.give_back_if.new.pool parts.kept.entries c.take-was.new.objects.entries
    c.args.number c.take-was.result c.requires.kept.keyed c.requires.kept.ordered c.requires.kept.normal
    c.requires.kept.shared
    c.take-was.ensures.entries c.take-was.ensures.was c.give_back_if.ensures.taken c.give_back_if.ensures.none in
    record { keyed = done.keyed; ordered = c.take-was.ensures.ordered; normal = done.normal; shared = done.shares }

pub returns-clause-removed : goal.returns-clause-removed
returns-clause-removed c =
    let parts = c.args.parts.now in
    (remove_done parts.pool c.give_back_if.new.pool parts.kept.entries c.take-was.new.objects.entries c.args.number
    c.take-was.result c.requires.kept.keyed c.requires.kept.ordered c.requires.kept.normal c.requires.kept.shared
    c.take-was.ensures.entries c.take-was.ensures.was c.give_back_if.ensures.taken c.give_back_if.ensures.none).seen

pub returns-clause-sids : goal.returns-clause-sids
returns-clause-sids c =
    let parts = c.args.parts.now in
    (remove_done parts.pool c.give_back_if.new.pool parts.kept.entries c.take-was.new.objects.entries c.args.number
    c.take-was.result c.requires.kept.keyed c.requires.kept.ordered c.requires.kept.normal c.requires.kept.shared
    c.take-was.ensures.entries c.take-was.ensures.was c.give_back_if.ensures.taken c.give_back_if.ensures.none).sids
