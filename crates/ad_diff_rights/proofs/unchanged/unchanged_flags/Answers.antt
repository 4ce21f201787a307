use Rattle.std.proofs.Common.{◌∙◌, ◌∷◌, [], ◌+◌, ℕ, length, length-append, refl, ap}
use Rattle.std.proofs.lemmas.Option.{slice_get_read}
use Rattle.ad_diff_rights.proofs.Flags.{flagged_more}
use Rattle.ad_diff_rights.proofs.unchanged.unchanged_flags.Goals as goal

pub loop-party-preserved : goal.loop-party-preserved
loop-party-preserved c = record {
  count = ap length c.in_ok-push.ensures.items ∙ length-append c.loop-party.flags.items (c.is_unchanged_party.result ∷ [])
      ∙ ap (λ (n : ℕ). n + 1) c.loop-party.invariant.count;
  unchanged = flagged_more c.args.before.now c.args.after.now c.args.parties.now c.loop-party.flags.items
      c.push.new.self.items c.loop-party.party-index c.party-item.result c.is_unchanged_party.result
      (slice_get_read c.args.parties.now (length c.args.parties.now) c.loop-party.party-index c.party-item.result refl
      c.loop-party-test.true c.party-item.is)
      c.loop-party.invariant.count c.in_ok-push.ensures.items
      (λ set. c.is_unchanged_party.ensures set c.args.before.now c.args.after.now c.same_schema-one_schema.ensures)
      c.loop-party.invariant.unchanged;
}
