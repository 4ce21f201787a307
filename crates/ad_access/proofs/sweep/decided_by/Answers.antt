use Rattle.std.proofs.Common.{Option}
use Rattle.std.proofs.Math.Bool.{and_assoc}
use Rattle.ad_ids.specs.declared.guid.Guid.{Guid}
use Rattle.std.proofs.Common.{◌≡◌, ℕ, ap, sym, ◌∙◌, Bool, not, ◌&&◌}
use Rattle.std.specs.Prelude.{bit_and}
use Rattle.std.specs.Option.{option_copied}
use Rattle.ad_acl.specs.EntrySeen.{entry_seen}
use Rattle.ad_acl.specs.Mask.{has_bit, mapped_has}
use Rattle.ad_access.specs.Matching.{matches, speaks, is_about, decides_access, is_inherit_only}
use Rattle.ad_access.specs.Rank.{holder_of}
use Rattle.ad_access.proofs.BitTests.{none_of, of_mask, for_holder, on_path}
use Rattle.ad_access.proofs.sweep.decided_by.Goals as goal

pub returns-then-rights-eq0 : goal.returns-then-rights-eq0
unfolding speaks
returns-then-rights-eq0 c = λ bit lt.
    let e = entry_seen c.args.ace.now in
    let matched : Bool = matches e (holder_of c.args.token.now c.args.rank) (option_copied c.args.self_sid)
    c.args.owner.now in
    let about : Bool = is_about e.object c.args.path.now in
    none_of c.spoken-rights.result bit (about && matched) c.if-rights-eq0.true
    ∙ ap (λ (b : Bool). b && (about && matched)) (c.spoken-rights.ensures bit lt)
    ∙ sym (and_assoc (has_bit c.args.undecided bit
    && (mapped_has e.mask bit && (decides_access e.kind && not (is_inherit_only e)))) about matched)
    ∙ on_path (has_bit c.args.undecided bit) (mapped_has e.mask bit)
    (decides_access e.kind && not (is_inherit_only e)) about matched

pub returns-then-rights-eq0-2 : goal.returns-then-rights-eq0-2
unfolding speaks
returns-then-rights-eq0-2 c = λ bit lt.
    let e = entry_seen c.args.ace.now in
    let matched : Bool = matches e (holder_of c.args.token.now c.args.rank) (option_copied c.args.self_sid)
    c.args.owner.now in
    let about : Bool = is_about e.object c.args.path.now in
    none_of c.rights_if-rights.result bit matched c.if-rights-eq0-2.true
    ∙ ap (λ (b : Bool). b && matched) (c.rights_if-rights.ensures bit
    ∙ ap (λ (b : Bool). has_bit c.spoken-rights.result bit && b)
    (c.is_about.ensures ∙ ap (λ (o : Option Guid). is_about o c.args.path.now) c.object.ensures))
    ∙ ap (λ (b : Bool). (b && about) && matched) (c.spoken-rights.ensures bit lt)
    ∙ on_path (has_bit c.args.undecided bit) (mapped_has e.mask bit)
    (decides_access e.kind && not (is_inherit_only e)) about matched

pub returns : goal.returns
unfolding speaks
returns c = λ bit lt.
    let e = entry_seen c.args.ace.now in
    let matched : Bool = matches e (holder_of c.args.token.now c.args.rank) (option_copied c.args.self_sid)
    c.args.owner.now in
    let about : Bool = is_about e.object c.args.path.now in
    c.rights_if.ensures bit
    ∙ ap (λ (b : Bool). has_bit c.rights_if-rights.result bit && b) c.matches.ensures
    ∙ ap (λ (b : Bool). b && matched) (c.rights_if-rights.ensures bit
    ∙ ap (λ (b : Bool). has_bit c.spoken-rights.result bit && b)
    (c.is_about.ensures ∙ ap (λ (o : Option Guid). is_about o c.args.path.now) c.object.ensures))
    ∙ ap (λ (b : Bool). (b && about) && matched) (c.spoken-rights.ensures bit lt)
    ∙ on_path (has_bit c.args.undecided bit) (mapped_has e.mask bit)
    (decides_access e.kind && not (is_inherit_only e)) about matched
