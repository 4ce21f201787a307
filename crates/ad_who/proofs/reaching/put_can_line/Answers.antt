use Rattle.std.proofs.Common.{◌≡◌, ◌∙◌, List, ◌++◌, OnOk, ap, subst}
use Rattle.ad_dir_model.specs.Names.{name_text}
use Rattle.ad_needs_rules.specs.Needs.{Alternative}
use Rattle.ad_questions.specs.Requirements.{requirements_seen}
use Rattle.ad_who.specs.Lines.{told_line}
use Rattle.ad_bytes.specs.Puts.{ended}
use Rattle.ad_who.proofs.reaching.put_can_line.Goals as goal

pub returns : goal.returns
returns c =
    subst (λ (all : List (List Alternative)). OnOk c.put_told_line.result (c.put_told_line.new.into.items
    ≡ c.args.into.now.items ++ told_line c.args.dir.now c.args.token.now c.args.number all
    (ended (name_text c.args.dir.now c.args.number))))
    (ap requirements_seen c.as_slice.ensures.value ∙ c.in_ok-needed.ensures.needed) c.put_told_line.ensures
