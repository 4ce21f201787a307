use Rattle.std.proofs.Common.{◌≡◌, ℕ, false, Some, sym, subst}
use Rattle.std.specs.Prelude.{nat_eq}
use Rattle.std.specs.HashMap.{get}
use Rattle.prop_queue.proofs.Known.{known-push}
use Rattle.prop_queue.proofs.index.with_number.Goals as goal

pub returns-in-Ok : goal.returns-in-Ok
returns-in-Ok c = λ queue entry parent_is known.
    let updates = c.in-Ok.ensures.updates in
    known-push c.args.numbers c.insert.new.self c.args.number queue entry
    (λ k apart. updates.2 k (subst (λ (n : ℕ). nat_eq n k ≡ false) parent_is apart))
    (subst (λ (n : ℕ). get nat_eq c.insert.new.self n ≡ Some c.args.number) (sym parent_is) updates.1)
    known
