use Rattle.std.proofs.Common.{◌≡◌, ℕ, ap, sym, ◌∙◌, Bool, not, ◌&&◌}
use Rattle.std.specs.Prelude.{bit_and}
use Rattle.std.specs.Option.{option_copied}
use Rattle.ad_acl.specs.EntrySeen.{entry_seen}
use Rattle.ad_acl.specs.Mask.{has_bit, mapped_has}
use Rattle.ad_access.specs.Matching.{matches, speaks, is_about, decides_access, is_inherit_only}
use Rattle.ad_access.specs.Rank.{holder_of}
use Rattle.ad_access.proofs.BitTests.{none_of, of_mask, for_holder, on_path}
use Rattle.ad_access.proofs.sweep.spoken.Goals as goal

pub returns-then-rights-eq0 : goal.returns-then-rights-eq0
returns-then-rights-eq0 c = λ bit lt.
    let e = entry_seen c.args.ace.now in
    let so : Bool = decides_access e.kind && not (is_inherit_only e) in
    none_of (bit_and c.args.undecided c.map_generic.result) bit so c.if-rights-eq0.true
    ∙ of_mask c.args.undecided c.map_generic.result e.mask bit so
    (c.map_generic.ensures bit lt ∙ ap (λ (n : ℕ). mapped_has n bit) c.mask.ensures)

pub returns : goal.returns
returns c = λ bit lt.
    let e = entry_seen c.args.ace.now in
    let so : Bool = decides_access e.kind && not (is_inherit_only e) in
    c.rights_if.ensures bit
    ∙ ap (λ (b : Bool). has_bit (bit_and c.args.undecided c.map_generic.result) bit && b) c.is_spoken.ensures
    ∙ of_mask c.args.undecided c.map_generic.result e.mask bit so
    (c.map_generic.ensures bit lt ∙ ap (λ (n : ℕ). mapped_has n bit) c.mask.ensures)
