-- The faults of controls by what they are to an operation, without those that stand again.
use Rattle.std.specs.Prelude.{ℕ, List, [], ◌∷◌, Option, None}
use Rattle.ad_ldap.specs.declared.controls.Control.{Control}
use Rattle.ad_ldap.specs.MessageValue.{OpValue}
use Rattle.ad_ldap.specs.Settings.{role_of, fault_by, first_of}

-- the code of the first control that is faulty so
abbrev pub first_own : OpValue → List Control → Option ℕ
first_own op [] = None
first_own op (c ∷ cs) = first_of (fault_by (role_of op c.oid) c) (first_own op cs)
