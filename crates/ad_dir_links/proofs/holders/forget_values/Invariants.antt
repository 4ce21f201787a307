use Rattle.ad_dir_links.specs.Counted.{Forgets}
use Rattle.ad_dir_links.proofs.holders.forget_values.Given as goal

-- the others' still are
abbrev pub invariant-each : goal.invariant-each
invariant-each l = Forgets l.holder l.initial.links.entries l.links.entries
