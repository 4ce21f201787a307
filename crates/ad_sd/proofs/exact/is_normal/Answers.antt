use Rattle.ad_sd.proofs.NormalPlaces.{no_marks, many_marks, no_owner, no_group, no_dacl, no_sacl, all_passed}
use Rattle.ad_sd.proofs.exact.is_normal.Goals as goal

pub returns-in_default : goal.returns-in_default
returns-in_default c = no_marks c.args.bytes.now c.in_default.ensures.cases

pub returns-then-marks-ge4 : goal.returns-then-marks-ge4
returns-then-marks-ge4 c = many_marks c.args.bytes.now c.in-Some.after_marks.now c.in-Some.marks.now
    c.in-Some.ensures.cases.0 c.if-marks-ge4.true

pub returns-in_default-after_sid : goal.returns-in_default-after_sid
returns-in_default-after_sid c = no_owner c.args.bytes.now c.in-Some.after_marks.now c.in-Some.marks.now
    c.in-Some.ensures.cases.0 c.if-marks-ge4.false c.in_default-after_sid.ensures

pub returns-in_default-after_sid-2 : goal.returns-in_default-after_sid-2
returns-in_default-after_sid-2 c = no_group c.args.bytes.now c.in-Some.after_marks.now
    c.in-Some-after_sid.after_owner.now c.in-Some.marks.now c.in-Some.ensures.cases.0 c.if-marks-ge4.false
    c.in-Some-after_sid.ensures c.in_default-after_sid-2.ensures

pub returns-in_default-after_list : goal.returns-in_default-after_list
returns-in_default-after_list c = no_dacl c.args.bytes.now c.in-Some.after_marks.now
    c.in-Some-after_sid.after_owner.now c.in-Some-after_sid-2.after_group.now c.in-Some.marks.now
    c.in-Some.ensures.cases.0 c.if-marks-ge4.false c.in-Some-after_sid.ensures c.in-Some-after_sid-2.ensures
    c.in_default-after_list.ensures

pub returns-in_default-after_list-2 : goal.returns-in_default-after_list-2
returns-in_default-after_list-2 c = no_sacl c.args.bytes.now c.in-Some.after_marks.now
    c.in-Some-after_sid.after_owner.now c.in-Some-after_sid-2.after_group.now c.in-Some-after_list.after_dacl.now
    c.in-Some.marks.now c.in-Some.ensures.cases.0 c.if-marks-ge4.false c.in-Some-after_sid.ensures
    c.in-Some-after_sid-2.ensures c.in-Some-after_list.ensures c.in_default-after_list-2.ensures

pub returns : goal.returns
returns c = all_passed c.args.bytes.now c.in-Some.after_marks.now c.in-Some-after_sid.after_owner.now
    c.in-Some-after_sid-2.after_group.now c.in-Some-after_list.after_dacl.now c.in-Some-after_list-2.after_sacl.now
    c.in-Some.marks.now c.is_empty.result c.in-Some.ensures.cases.0 c.if-marks-ge4.false c.in-Some-after_sid.ensures
    c.in-Some-after_sid-2.ensures c.in-Some-after_list.ensures c.in-Some-after_list-2.ensures c.is_empty.ensures
