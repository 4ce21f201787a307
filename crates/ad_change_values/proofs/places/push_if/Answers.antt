use Rattle.std.proofs.Common.{Bool, [], ◌∷◌, ◌++◌, sym, ap, ◌∙◌}
use Rattle.std.specs.Prelude.{if◌then◌else◌}
use Rattle.std.proofs.lemmas.List.{append-nil}
use Rattle.ad_change_values.proofs.places.push_if.Goals as goal

pub returns-then-not-there : goal.returns-then-not-there
returns-then-not-there c =
    sym (ap (λ (b : Bool). c.args.left.now.items ++ (if b then c.args.one ∷ [] else [])) c.if-not-there.true
    ∙ append-nil c.args.left.now.items)

pub returns : goal.returns
returns c = c.in_ok-push.ensures.items ∙ sym
    (ap (λ (b : Bool). c.args.left.now.items ++ (if b then c.args.one ∷ [] else [])) c.if-not-there.false)
