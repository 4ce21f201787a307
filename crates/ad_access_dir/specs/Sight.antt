-- What a token is granted on the objects of a directory, and which of them it sees.
use Rattle.std.specs.Prelude.{ℕ, Bool, ◌==◌, ◌||◌, if◌then◌else◌, Option, Some, None, is_some, List, [], ◌∷◌}
use Rattle.std.specs.Option.{option_and_then}
use Rattle.ad_ids.specs.declared.guid.Guid.{Guid}
use Rattle.ad_ids.specs.declared.token.Token.{Token}
use Rattle.ad_dn.specs.declared.rdn.Rdn.{Rdn}
use Rattle.ad_access.specs.Grant.{granted}
use Rattle.ad_access.specs.Visible.{sees}
use Rattle.ad_dir_model.specs.Objects.{parent_at, sd_at}
use Rattle.ad_dir_model.specs.Tree.{root}
use Rattle.ad_dir_model.specs.Identity.{self_sid}
use Rattle.ad_dir_model.specs.Settings.{list_object_mode}
use Rattle.ad_dir_model.specs.Directory.{Directory}
use Rattle.ad_dir_model.specs.Names.{found}

-- the right is granted to the token on the object and the path, by the descriptor that is stored
unfoldable pub is_granted : Directory → Token → ℕ → List Guid → ℕ → Bool
is_granted dir token number path bit =
    let sd = sd_at dir.objects number in
    granted sd.owner sd.dacl.entries token (self_sid dir number) path bit

-- The root is visible. Any other object is where it is seen below its parent; no object above that counts.
unfoldable pub is_visible : Directory → Token → ℕ → Bool
is_visible dir token number =
    let parent = parent_at dir.objects number in
    number == root
    || sees (list_object_mode dir) (sd_at dir.objects parent) (self_sid dir parent) (sd_at dir.objects number)
    (self_sid dir number) token

abbrev pub if_visible : Directory → Token → ℕ → Option ℕ
if_visible dir token number = if is_visible dir token number then Some number else None

-- the object of a name, where it is visible
unfoldable pub visible_of : Directory → Token → List Rdn → Option ℕ
visible_of dir token rdns = option_and_then (if_visible dir token) (found dir rdns)

-- What is told of a name whose object isn't there or isn't visible: the nearest of the names above it whose object
-- is, in the spelling of the name; the name without parts where there is none.
unfoldable pub matched : Directory → Token → List Rdn → List Rdn
matched dir token [] = []
matched dir token (rdn ∷ rdns) = if is_some (visible_of dir token rdns) then rdns else matched dir token rdns
