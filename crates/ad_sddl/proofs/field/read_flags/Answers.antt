use Rattle.std.proofs.Common.{◌<◌, arith}
use Rattle.ad_sddl.specs.declared.fault.SddlKind.TheVariants as kind
use Rattle.ad_sddl.proofs.Codes.{flags_within, flags_clear, flags_fit}
use Rattle.ad_sddl.proofs.field.read_flags.Goals as goal

pub overflow_cast-result : goal.overflow_cast-result
overflow_cast-result c =
    let fits : c.in_ok-flags.flags < 256 = flags_fit c.in_ok-flags.flags
    (flags_within c.flag_codes.result.now kind.Flag c.args.input.now c.in_ok-flags.flags c.read_codes.new.input
    c.flag_codes.ensures c.in_ok-flags.ensures.read) in
    omega (arith, fits)

pub returns-clause-clear : goal.returns-clause-clear
returns-clause-clear c = flags_clear c.in_ok-flags.flags
    (flags_within c.flag_codes.result.now kind.Flag c.args.input.now c.in_ok-flags.flags c.read_codes.new.input
    c.flag_codes.ensures c.in_ok-flags.ensures.read)
