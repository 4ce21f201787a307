use Rattle.std.proofs.Common.{◌≡◌, ℕ, List, ◌+◌, ◌*◌, ◌^◌, ◌<◌, ◌++◌, length, take, drop}
use Rattle.std.specs.List.{flat_map, AllByRecursion}
use Rattle.ad_bytes.specs.Numbers.{le_bytes}
use Rattle.ad_ids.proofs.sid.put_words.Given as goal

-- the numbers so far stand after the text
abbrev pub invariant-loop-i : goal.invariant-loop-i
invariant-loop-i l = record {
  put : (old text : List ℕ) → length text ≡ l.at → l.fn.into ≡ text ++ drop l.at old → l.into
      ≡ (text ++ flat_map (le_bytes 4) (take l.i l.words)) ++ drop (l.at + 4 * l.i) old;
  fit : AllByRecursion (λ n. n < 2 ^ 32) (take l.i l.words);
}
