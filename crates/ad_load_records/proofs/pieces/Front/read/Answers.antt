use Rattle.std.proofs.lemmas.Result.{err_from_is_err_and}
use Rattle.ad_load_records.specs.Seen.{seen}
use Rattle.ad_load_records.proofs.Cutting.{front_read, front_fault, front_few}
use Rattle.ad_load_records.proofs.pieces.Front.read.Goals as goal

pub returns-in_err-self-clause-fault : goal.returns-in_err-self-clause-fault
returns-in_err-self-clause-fault c =
    let p = err_from_is_err_and c.from_residual.result c.from_residual.ensures.1 in
    rw (p.1, p.2) (λ m rest. front_fault _ _ _ _ rest c.args.end _ c.deref.ensures.value c.requires.ends
    (c.in_err-self.ensures.fault m))

pub returns-clause-next : goal.returns-clause-next
returns-clause-next c = λ rest.
    rw c.line_ends-lines.ensures.count (front_read _ _ c.args.self.now.line _ _ _ rest c.args.end
    c.deref.ensures.value c.remove_front.ensures c.requires.ends c.in_ok-self.ensures.read)

pub returns-clause-few : goal.returns-clause-few
returns-clause-few c = front_few seen _ _ c.args.self.now.line _ _ _ c.args.end c.deref.ensures.value
    c.remove_front.ensures c.requires.within c.in_ok-self.ensures.read
