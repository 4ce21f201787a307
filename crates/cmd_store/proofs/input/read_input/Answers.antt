use Rattle.std.proofs.Common.{rules, ◌≡◌, ◌++◌, ℕ, List, take, length, arith, ◌∙◌, ap, sym}
use Rattle.std.proofs.lemmas.List.{take_at}
use Rattle.ad_load_records.specs.Pieces.{gives}
use Rattle.cmd_store.proofs.Coming.{one_more}
use Rattle.cmd_store.proofs.input.read_input.Goals as goal

pub loop-n-preserved : goal.loop-n-preserved
loop-n-preserved g c =
    let rest = g.I.Source.rest in
    let filled : length c.take.new.into ≡ c.loop-n.chunk.len
    = omega (arith, c.take.auto.into, c.deref_mut.ensures.len) in
    let seen = c.deref.ensures.value ∙ take_at c.take.new.into _ c.loop-n.chunk.len filled in
    let next = c.in_ok-push.ensures.next (search rules) in
    let more : (behind : List ℕ) → gives c.loop-n.pieces (take c.in-Ok.n c.take.new.into ++ behind)
    ≡ gives c.push.new.self behind =
    λ behind. ap (λ (l : List ℕ). gives c.loop-n.pieces (take c.in-Ok.n l ++ behind)) (sym seen) ∙ next behind in
    record {
      came = one_more (rest c.args.source.now) (rest c.loop-n.source) (rest c.take.new.self) c.loop-n.pieces
          c.push.new.self c.take.new.into c.in-Ok.n
          c.loop-n.invariant.came c.in-Ok.ensures.next more;
      never_falls = omega (arith, c.loop-n.invariant.never_falls, c.take.ensures.never_falls);
      room = c.loop-n.invariant.room;
    }
