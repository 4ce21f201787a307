use Rattle.std.proofs.Common.{ℕ, List, subst, rules}
use Rattle.gate_log.specs.Layout.{HasRecords}
use Rattle.gate_log.specs.Store.{number_of}
use Rattle.gate_log.proofs.Opening.{bytes_told}
use Rattle.gate_log.proofs.resume.«open».Goals as goal

pub returns : goal.returns
returns g c = record {
  broken = λ is.
      bytes_told (λ bytes. (end : ℕ) (bodies : List (List ℕ)) → HasRecords bytes (number_of c.args.version)
      c.args.generation end bodies → ⊥) c.args.live (g.S.Site.reads c.args.site.now) c.in_ok-bytes.bytes.items
      c.in_ok-bytes.ensures.bytes
      (subst (λ bytes. (end : ℕ) (bodies : List (List ℕ)) → HasRecords bytes (number_of c.args.version)
      c.args.generation end bodies → ⊥) c.as_slice.ensures.value (c.live_log.ensures.broken is));
  records = search rules;
  counts = search rules;
  log = search rules;
  unsettled = search rules;
  only = search rules;
  outside = search rules;
  cause = search rules;
}
