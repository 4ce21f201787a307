use Rattle.std.proofs.Common.{◌∙◌, List, ℕ, ◌++◌, ap, sym, subst}
use Rattle.std.specs.List.{All}
use Rattle.ad_identities.specs.Identities.{IsIdentity}
use Rattle.ad_questions.specs.Requirements.{requirements, requirements_seen}
use Rattle.ad_who.proofs.WhoLines.{same_lines}
use Rattle.ad_who.proofs.having.who_of.Goals as goal

pub put_who_lines-requires-clause-identities : goal.put_who_lines-requires-clause-identities
put_who_lines-requires-clause-identities c =
    subst (All (IsIdentity c.args.dir.now)) (sym c.as_slice-2.ensures.value) c.in_ok-all.ensures.each

pub returns : goal.returns
returns c =
    let dir = c.args.dir.now in
    let told = c.in_ok-put_who_lines.ensures in (
      c.in_ok-all.all.items,
      c.in_ok-all.ensures.are,
      same_lines dir c.args.number (requirements_seen c.as_slice.result.now)
          (requirements dir c.args.question c.args.number) c.as_slice-2.result.now c.in_ok-all.all.items told.0
          c.put_who_lines.new.into.items
          (ap requirements_seen c.as_slice.ensures.value ∙ c.in_ok-needed.ensures.needed)
          c.as_slice-2.ensures.value (told.1 ∙ ap (λ (front : List ℕ). front ++ told.0) c.new-text.ensures.items) told.2,
    )
