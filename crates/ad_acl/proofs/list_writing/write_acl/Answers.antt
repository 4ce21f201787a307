use Rattle.std.proofs.Common.{◌≡◌, ℕ, ◌+◌, ◌≤◌, length, refl, ap, subst, ◌∙◌, arith}
use Rattle.std.proofs.lemmas.Result.{err_from_is_err_and}
use Rattle.std.specs.List.{flat_map}
use Rattle.ad_acl.specs.Writing.{entry_bytes}
use Rattle.ad_acl.proofs.ListWriting.{few_entries, fault_is, written_spelled}
use Rattle.ad_acl.proofs.list_writing.write_acl.Goals as goal

pub returns-in_err-entries-clause-written : goal.returns-in_err-entries-clause-written
returns-in_err-entries-clause-written c =
    let p = err_from_is_err_and c.from_residual.result c.from_residual.ensures.1 in
    rw (p.1, p.2) (fault_is c.in_err-entries.field-0.0 c.args.list.now c.in_err-entries.ensures.too_long)

pub write_list_of-requires : goal.write_list_of-requires
write_list_of-requires c = omega (
  arith,
  few_entries c.args.list.now,
  ap length c.in_ok-entries.ensures.written,
  ap
      length c.as_slice.ensures.value,
)

pub returns-clause-written : goal.returns-clause-written
returns-clause-written c = c.write_list_of.ensures.written c.args.list.now
    (c.as_slice.ensures.value ∙ c.in_ok-entries.ensures.written) refl c.has_object_entry-has_guid.ensures

pub returns-clause-spelled : goal.returns-clause-spelled
returns-clause-spelled c =
    let fits : 8 + length (flat_map entry_bytes c.args.list.now) ≤ 65535
    = omega (arith, c.in_ok-entries.ensures.fit, ap length c.in_ok-entries.ensures.written) in
    written_spelled c.args.list.now c.write_list_of.result c.in_ok-entries.ensures.are fits
    (c.write_list_of.ensures.written c.args.list.now (c.as_slice.ensures.value ∙ c.in_ok-entries.ensures.written) refl
    c.has_object_entry-has_guid.ensures)
