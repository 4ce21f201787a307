use Rattle.std.proofs.Common.{◌≡◌, ◌≤◌, ◌+◌, ◌-◌, length}
use Rattle.cmd_store_serve.specs.Answers.{entries_of, entries_within}
use Rattle.cmd_store_serve.proofs.answers.entries_of.Given as goal

-- the entries that were found, and those among as many messages as may still come
abbrev pub invariant-loop : goal.invariant-loop
invariant-loop l = record {
  all : entries_of l.reply ≡ l.found + entries_within (length l.reply - l.counter) l.input;
  few : l.found ≤ l.counter;
}
