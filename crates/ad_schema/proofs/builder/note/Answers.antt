use Rattle.std.proofs.lemmas.Result.{on_ok_weaker}
use Rattle.ad_schema.proofs.BuilderLemmas.{attr_noted, class_noted, right_noted, right_known, fault_same}
use Rattle.ad_schema.specs.Attributes.{right_guid}
use Rattle.ad_schema.specs.Records.{repeated, is_repeated}
use Rattle.ad_schema.proofs.builder.note.Goals as goal

pub returns-in-Attribute-clause-ok : goal.returns-in-Attribute-clause-ok
returns-in-Attribute-clause-ok c =
    on_ok_weaker c.note_name.result (λ new records titles.
    rw c.in-Attribute.is (attr_noted records _ _ _ _ c.args.lines.now titles new)) c.note_name.ensures.ok

pub returns-in-Class-clause-ok : goal.returns-in-Class-clause-ok
returns-in-Class-clause-ok c =
    on_ok_weaker c.note_name-in-Class.result
    (λ new records titles. rw c.in-Class.is (class_noted records _ _ _ _ c.args.lines.now titles new))
    c.note_name-in-Class.ensures.ok

pub returns-in-Right-clause-ok : goal.returns-in-Right-clause-ok
returns-in-Right-clause-ok c =
    on_ok_weaker c.note_guid.result (λ new records titles.
    rw c.in-Right.is (right_noted records _ _ _ _ c.args.lines.now titles new)) c.note_guid.ensures.ok

pub returns-in-Right-clause-fault : goal.returns-in-Right-clause-fault
unfolding repeated is_repeated
returns-in-Right-clause-fault c = λ records titles.
    rw c.in-Right.is (fault_same c.note_guid.result _ _ _
    (right_known records c.args.rights.now (right_guid c.args.lines.now) titles.rights_are)
    c.note_guid.ensures.fault)
