use Rattle.std.proofs.Common.{◌≡◌, length, take, rules}
use Rattle.ad_ldif.proofs.FoldLemmas.{front_and_rest}
use Rattle.ad_ldif.proofs.folded.behind.Goals as goal

pub returns-then-eq : goal.returns-then-eq
returns-then-eq c =
    let same : take (length c.args.front.now) c.args.text.now ≡ c.args.front.now = search rules in
    front_and_rest c.args.text.now c.args.front.now same
