use Rattle.cmd_store.proofs.stale.+from_root.Given as goal

abbrev pub decreases-from_root : goal.decreases-from_root
decreases-from_root l = l.levels
