-- What is granted on an object with its own identifier, or as if it had none.
use Rattle.std.specs.Prelude.{◌≡◌, ℕ, Bool, false, if◌then◌else◌, Option, None, Some, List, []}
use Rattle.std.specs.List.{list_any}
use Rattle.ad_ids.specs.declared.guid.Guid.{Guid}
use Rattle.ad_ids.specs.declared.token.Token.{Token}
use Rattle.ad_ids.specs.SidValue.{SidValue, same_sid}
use Rattle.ad_acl.specs.Entry.{Entry}
use Rattle.ad_access.specs.WellKnown.{principal_self}
use Rattle.ad_access.specs.Holder.{first_holder, holds}
use Rattle.ad_dir_model.specs.Directory.{Directory}
use Rattle.ad_dir_model.specs.Objects.{sd_at}
use Rattle.ad_dir_model.specs.Identity.{self_sid}
use Rattle.ad_both.specs.declared.both.Both.{Both}
use Rattle.ad_diff_rights.specs.Rights.{rights_by, grants_by, class_at}
use Rattle.ad_diff_rights.specs.Changes.{change_lines}

-- the entry is for the object itself
abbrev pub is_for_self : Entry → Bool
is_for_self entry = same_sid entry.sid principal_self

-- the own identifier of an object, where it counts
abbrev pub own_sid : Directory → Bool → ℕ → Option SidValue
own_sid dir own number = if own then self_sid dir number else None

-- the own identifier of an object, where an entry asks for it
abbrev pub asked_in : Directory → ℕ → Option SidValue
asked_in dir number = own_sid dir (list_any is_for_self (sd_at dir.objects number).dacl.entries) number

-- what is granted, gained and lost, with the own identifiers or as if there were none
abbrev pub grants_in : Directory → Token → Bool → ℕ → List Guid → ℕ → Bool
grants_in dir token own number = grants_by (sd_at dir.objects number) token (own_sid dir own number)

unfoldable pub rights_in : Directory → Token → Bool → ℕ → List (List ℕ)
rights_in dir token own number = rights_by dir.schema (grants_in dir token own number) (class_at dir number)

unfoldable pub changes_in : Directory → Directory → Token → Token → Bool → Both → List ℕ
changes_in before after was is own o = change_lines (rights_in before was own o.before)
    (rights_in after is own o.after)

-- ---- tokens

-- the token holds the identifier, if there is one
abbrev pub holds_own : Token → Option SidValue → Bool
holds_own token None = false
holds_own token (Some sid) = holds (first_holder token) sid

-- no group only denies, and nothing is restricted
pub record IsBare (token : Token) : Type 0 where
  pub deny_only : token.deny_only ≡ []
  pub restricting : token.restricting ≡ []
