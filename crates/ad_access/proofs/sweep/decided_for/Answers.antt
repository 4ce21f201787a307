use Rattle.std.proofs.Common.{◌≡◌, ℕ, ap, sym, ◌∙◌, Bool, not, ◌&&◌}
use Rattle.std.specs.Prelude.{bit_and}
use Rattle.std.specs.Option.{option_copied}
use Rattle.ad_acl.specs.EntrySeen.{entry_seen}
use Rattle.ad_acl.specs.Mask.{has_bit, mapped_has}
use Rattle.ad_access.specs.Matching.{matches, speaks, is_about, decides_access, is_inherit_only}
use Rattle.ad_access.specs.Rank.{holder_of}
use Rattle.ad_access.proofs.BitTests.{none_of, of_mask, for_holder, on_path}
use Rattle.ad_access.proofs.sweep.decided_for.Goals as goal

pub returns-then-rights-eq0 : goal.returns-then-rights-eq0
returns-then-rights-eq0 c = λ bit lt.
    let e = entry_seen c.args.ace.now in
    let matched : Bool = matches e (holder_of c.args.token.now c.args.rank) (option_copied c.args.self_sid)
    c.args.owner.now in
    none_of c.spoken-rights.result bit matched c.if-rights-eq0.true
    ∙ ap (λ (b : Bool). b && matched) (c.spoken-rights.ensures bit lt)
    ∙ for_holder (has_bit c.args.undecided bit) (mapped_has e.mask bit)
    (decides_access e.kind && not (is_inherit_only e)) matched

pub returns : goal.returns
returns c = λ bit lt.
    let e = entry_seen c.args.ace.now in
    let matched : Bool = matches e (holder_of c.args.token.now c.args.rank) (option_copied c.args.self_sid)
    c.args.owner.now in
    c.rights_if.ensures bit
    ∙ ap (λ (b : Bool). has_bit c.spoken-rights.result bit && b) c.matches.ensures
    ∙ ap (λ (b : Bool). b && matched) (c.spoken-rights.ensures bit lt)
    ∙ for_holder (has_bit c.args.undecided bit) (mapped_has e.mask bit)
    (decides_access e.kind && not (is_inherit_only e)) matched
