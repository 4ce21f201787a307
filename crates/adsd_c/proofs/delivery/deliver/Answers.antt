use Rattle.std.proofs.Common.{ℕ, Result, subst, Vec, Global}
use Rattle.ad_bytes.specs.Reading.{GivesUnless}
use Rattle.adsd_c.specs.declared.refusal.Refusal.{Refusal}
use Rattle.adsd_c.specs.Refusal.{is_memory}
use Rattle.adsd_c.proofs.Deliveries.{refused}
use Rattle.adsd_c.proofs.delivery.deliver.Goals as goal

pub returns-in-Err : goal.returns-in-Err
returns-in-Err c = λ expected gives.
    refused c.in-Err.fault expected c.refuse.result c.args.out.now c.refuse.new.size
    (subst (λ (r : Result (Vec ℕ Global) Refusal). GivesUnless is_memory (λ (v : Vec ℕ Global). v.items) r expected)
    c.in-Err.is gives)
    (c.refuse.ensures c.args.out.now)
