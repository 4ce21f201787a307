use Rattle.std.proofs.Common.{List, ℕ, sym, subst, arith}
use Rattle.ad_schema_classes.specs.Hashes.{IsIndexOf}
use Rattle.ad_schema_classes.proofs.IndexLemmas.{no_names}
use Rattle.ad_schema_classes.proofs.names.Names.new.Goals as goal

pub invariant_of-result : goal.invariant_of-result
invariant_of-result c = record {
  few = rw c.new.ensures.items (omega arith);
  index = subst (λ (names : List (List ℕ)). IsIndexOf names c.new-2.result) (sym c.new.ensures.items)
      (no_names c.new-2.result c.new-2.ensures.empty);
}
