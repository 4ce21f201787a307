use Rattle.std.proofs.Common.{rules, ◌≡◌, ◌+◌, ◌++◌, length, take, ℕ, List, ap, ◌∙◌}
use Rattle.std.proofs.Math.Seq.{take-append-add}
use Rattle.ad_bytes.proofs.inline.put_both.Goals as goal

-- src/inline.rt:25:1
pub returns : goal.returns
returns c =
    ap (λ (front : List ℕ). take (length c.args.first.now + length c.args.second.now) (front ++ c.put_over.new.into))
    c.copy_from_slice.ensures.after
    ∙ take-append-add c.args.first.now c.put_over.new.into (length c.args.second.now)
    ∙ ap (λ (rest : List ℕ). c.args.first.now ++ rest) c.put_over.ensures
