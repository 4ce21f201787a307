-- What the parts of the code say of checks.
use Rattle.std.specs.Prelude.{ℕ, Option, option_map, List}
use Rattle.ad_acl.specs.Mask.{create_child, delete_child, self_write, write_property, delete_tree, control_access}
use Rattle.ad_acl.specs.Mask.{delete_object, write_dac, write_owner, access_system_security}
use Rattle.ad_types.specs.Path.{guids_of}
use Rattle.ad_needs_rules.specs.declared.outcome.Verdict.{Verdict}
use Rattle.ad_needs_rules.specs.declared.asking.Right.{Right}
use Rattle.ad_needs_rules.specs.declared.asking.Right.TheVariants as right
use Rattle.ad_needs_rules.specs.declared.asking.Ask.{Ask}
use Rattle.ad_needs_rules.specs.Needs.{Alternative, needs}
use Rattle.ad_needs_rules.specs.Checks.{Check, first_failing, refused}

-- what the first check that fails is answered with; none where all hold
unfoldable pub refusal_of : List Check → Option Verdict
refusal_of checks = option_map refused (first_failing checks)

-- the place of a right
abbrev pub bit_of : Right → ℕ
bit_of right.CreateChild = create_child
bit_of right.DeleteChild = delete_child
bit_of right.SelfWrite = self_write
bit_of right.WriteProperty = write_property
bit_of right.DeleteTree = delete_tree
bit_of right.ControlAccess = control_access
bit_of right.Delete = delete_object
bit_of right.WriteDac = write_dac
bit_of right.WriteOwner = write_owner
bit_of right.SystemSecurity = access_system_security

abbrev pub asked : Ask → Alternative
asked ask = needs ask.object (bit_of ask.right) (guids_of ask.path)
