-- Decisions that are the same.
use Rattle.std.proofs.Common.{◌≡◌, ◌∙◌, ℕ, List, Result, ap, subst}
use Rattle.std.specs.Prelude.{IfOk}
use Rattle.std.proofs.lemmas.Result.{IfOk-weaker}
use Rattle.ad_dir_model.specs.Directory.{Directory}
use Rattle.ad_engine_answer.specs.declared.decided.Decided.{Decided}
use Rattle.ad_engine_answer.specs.Decided.{IsDecided}
use Rattle.ad_engine_answer.specs.Messages.{Decision, replies, done}

-- another name and another text that are the same
pub done_with : (id tag code : ℕ) (name matched text diagnostic : List ℕ) → name ≡ matched → text ≡ diagnostic
    → done id tag code name text ≡ done id tag code matched diagnostic
done_with id tag code name matched text diagnostic first second =
    ap (λ (n : List ℕ). done id tag code n text) first ∙ ap (λ (t : List ℕ). done id tag code matched t) second

-- another reply that is the same
pub replied : (dir : Directory) (bytes reply : List ℕ) (decided : Decided) → bytes ≡ reply
    → IsDecided dir (replies bytes) decided
    → IsDecided dir (replies reply) decided
replied dir bytes reply decided same is = subst (λ (b : List ℕ). IsDecided dir (replies b) decided) same is

-- another decision that is the same
pub decided_as : {E : Type 0} (r : Result Decided E) (dir : Directory) (d e : Decision) → d ≡ e
    → IfOk r (IsDecided dir d) → IfOk r (IsDecided dir e)
decided_as r dir d e same is = subst (λ (x : Decision). IfOk r (IsDecided dir x)) same is

-- what is so of every directory
pub decided_here : {E : Type 0} (r : Result Decided E) (dir : Directory) (d e : Decision) → d ≡ e
    → IfOk r (λ (decided : Decided). (other : Directory) → IsDecided other d decided) → IfOk r (IsDecided dir e)
decided_here r dir d e same is =
    decided_as r dir d e same (IfOk-weaker r (λ (decided : Decided). (other : Directory) → IsDecided other d decided)
    (IsDecided dir d) (λ x all. all dir) is)
