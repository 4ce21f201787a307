use Rattle.std.proofs.Common.{Result, subst, arith}
use Rattle.ad_bytes.specs.Reading.{GivesUnless}
use Rattle.cmd_plain.specs.declared.request.RequestFault.{RequestFault}
use Rattle.cmd_plain.specs.Request.{Question}
use Rattle.cmd_plain.specs.RequestReading.{is_memory}
use Rattle.cmd_plain.specs.RequestView.{question_seen}
use Rattle.cmd_plain.proofs.RequestCodec.{is_found, question_again}
use Rattle.cmd_plain.proofs.request.Request.from_bytes.Goals as goal

pub returns-clause-found : goal.returns-clause-found
returns-clause-found c = is_found c.args.bytes.now c.whole.result (λ i. omega (arith, c.type_inv.bytes i))
    c.whole.ensures

pub returns-clause-only : goal.returns-clause-only
returns-clause-only c = λ q s. subst (λ (r : Result Question RequestFault). GivesUnless is_memory question_seen
    c.whole.result r) (question_again c.args.bytes.now q s) c.whole.ensures
