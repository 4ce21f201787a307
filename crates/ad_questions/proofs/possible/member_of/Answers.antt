use Rattle.ad_schema.specs.declared.meaning.RuleAttr.TheVariants as rule
use Rattle.ad_questions.proofs.Members.{rule_in_range}
use Rattle.ad_questions.proofs.possible.member_of.Goals as goal

pub returns-clause-in_range : goal.returns-clause-in_range
returns-clause-in_range c = rule_in_range c.args.schema.now rule.Member c.attr_of_rule.result c.attr_of_rule.ensures
