use Rattle.std.proofs.Common.{sym, subst}
use Rattle.ad_diff_rights.specs.Steps.{AreWanted}
use Rattle.ad_diff_rights.proofs.Masks.{extended_wanted, validated_wanted}
use Rattle.ad_diff_rights.proofs.rights.push_right_of_kind.Goals as goal

pub push_kind-requires-clause-codes : goal.push_kind-requires-clause-codes
push_kind-requires-clause-codes c =
    subst (AreWanted 0x100) (sym c.extended_codes-codes.ensures) extended_wanted

pub push_kind-requires-then-right-eq8-clause-codes : goal.push_kind-requires-then-right-eq8-clause-codes
push_kind-requires-then-right-eq8-clause-codes c =
    subst (AreWanted 0x8) (sym c.validated_codes-codes.ensures) validated_wanted
