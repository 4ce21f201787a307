use Rattle.std.proofs.Common.{◌++◌, ◌∙◌, List, ℕ, length, sym, ap}
use Rattle.ad_needs_rules.specs.OwnWrites.{dotted}
use Rattle.ad_needs_rules.proofs.ValidatedLaws.{dot_alone, dot_and_values}
use Rattle.ad_needs_rules.proofs.hosts.dotted_name.Goals as goal

pub returns-then-as_slice-name : goal.returns-then-as_slice-name
returns-then-as_slice-name c =
    c.in_ok-push.ensures.items
    ∙ dot_alone c.args.name.now c.push_parts.new.into.items c.args.rdns.now
    (c.in_ok-push_parts.ensures ∙ ap (λ (x : List ℕ). x ++ dotted c.args.rdns.now) c.in_ok-full.ensures.items)
    (sym (ap length c.as_slice.ensures.value) ∙ c.if-as_slice-name.true)

pub returns : goal.returns
returns c =
    dot_and_values c.args.name.now c.push_parts.new.into.items c.args.rdns.now
    (c.in_ok-push_parts.ensures ∙ ap (λ (x : List ℕ). x ++ dotted c.args.rdns.now) c.in_ok-full.ensures.items)
    (λ same. c.if-as_slice-name.false (ap length c.as_slice.ensures.value ∙ same))
