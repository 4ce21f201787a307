use Rattle.std.proofs.Common.{not, sym, ◌∙◌}
use Rattle.ad_ldif.specs.ChangeLines.{is_oid_byte}
use Rattle.ad_ldif.proofs.ChangeLineLemmas.{ends_there, never_ends}
use Rattle.ad_ldif.proofs.change_lines.oid_len.Goals as goal

pub returns-in-Some-clause-len : goal.returns-in-Some-clause-len
returns-in-Some-clause-len c = ends_there (λ b. not (is_oid_byte b)) c.args.value.now c.in-Some.end
    (sym c.oid_end.ensures ∙ c.in-Some.is)

pub returns-in-None-clause-len : goal.returns-in-None-clause-len
returns-in-None-clause-len c = never_ends (λ b. not (is_oid_byte b)) c.args.value.now
    (sym c.oid_end.ensures ∙ c.in-None.is)
