use Rattle.std.proofs.Common.{◌≡◌, ◌+◌, ◌*◌, ◌++◌, length, take, arith}
use Rattle.std.specs.List.{flat_map}
use Rattle.std.proofs.lemmas.List.{length-append, length-take}
use Rattle.ad_bytes.specs.Numbers.{le_bytes}
use Rattle.ad_ids.proofs.SidWriting.{length-words, fit_more, written_more}
use Rattle.ad_ids.proofs.sid.put_words.Goals as goal

pub loop-i-preserved : goal.loop-i-preserved
loop-i-preserved c = record {
  put = λ old text len e.
      let so_far = c.loop-i.invariant.put old text len e in
      let n : length (text ++ flat_map (le_bytes 4) (take c.loop-i.i c.args.words.now)) ≡ c.args.at + 4 * c.loop-i.i
      = omega (
        arith,
        length-append text (flat_map (le_bytes 4) (take c.loop-i.i c.args.words.now)),
        length-words
            (take c.loop-i.i c.args.words.now),
        length-take c.loop-i.i c.args.words.now,
      ) in
      written_more c.put.new.into old text c.args.words.now c.to_le_bytes.result c.args.at c.loop-i.i
      c.loop-i-test.true c.to_le_bytes.ensures
      (c.put.ensures old (text ++ flat_map (le_bytes 4) (take c.loop-i.i c.args.words.now)) n so_far);
  fit = fit_more c.args.words.now c.loop-i.i c.loop-i-test.true c.loop-i.invariant.fit
      (omega (arith, c.type_inv.words c.loop-i.i));
}
