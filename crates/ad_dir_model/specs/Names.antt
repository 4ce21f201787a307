-- The names of objects, and the object of a name (RFC 4514).
use Rattle.std.specs.Prelude.{ℕ, zero, suc, Bool, true, false, ◌==◌, ◌&&◌, if◌then◌else◌, Option, Some, None, codes}
use Rattle.std.specs.Prelude.{List, [], ◌∷◌, length, drop, find, reverse}
use Rattle.std.specs.Option.{option_and_then}
use Rattle.std.specs.Str.{bytes_eq, str_to_ascii_uppercase}
use Rattle.ad_dn.specs.declared.rdn.Rdn.{Rdn}
use Rattle.ad_dn.specs.Fold.{folded}
use Rattle.ad_dn.specs.Text.{rdns_text}
use Rattle.ad_schema.specs.declared.line.SchemaRecord.{SchemaRecord}
use Rattle.ad_schema.specs.Classes.{naming_of}
use Rattle.ad_dir_model.specs.Limits.{max_depth}
use Rattle.ad_dir_model.specs.Object.{Object}
use Rattle.ad_dir_model.specs.Objects.{object_at, is_live}
use Rattle.ad_dir_model.specs.Tree.{root}
use Rattle.ad_dir_model.specs.Attributes.{attr_name}
use Rattle.ad_dir_model.specs.Directory.{Directory}

-- ---- the name of an object: the walk up

-- the naming attribute of its class in upper case, and its naming value
unfoldable pub rdn_of : List SchemaRecord → Object → Rdn
rdn_of schema o = record { kind = str_to_ascii_uppercase (attr_name schema (naming_of schema o.class)); value = o.name }

-- the parts of a name from the object up, of so many objects at most, and after the root's the suffix
unfoldable pub rdns_within : Directory → ℕ → ℕ → List Rdn
rdns_within dir zero number = []
rdns_within dir (suc levels) number =
    let o = object_at dir.objects number in
    rdn_of dir.schema o ∷ (if number == root then dir.meta.suffix else rdns_within dir levels o.parent)

unfoldable pub rdns_of : Directory → ℕ → List Rdn
rdns_of dir number = rdns_within dir (suc max_depth) number

unfoldable pub name_text : Directory → ℕ → List ℕ
name_text dir number = rdns_text (rdns_of dir number)

-- ---- the object of a name: the walk down

-- values after folding
abbrev pub same_folded : List ℕ → List ℕ → Bool
same_folded a b = bytes_eq (folded a) (folded b)

-- types without regard to case, and values after folding
abbrev pub same_rdn : Rdn → Rdn → Bool
same_rdn a b = bytes_eq (str_to_ascii_uppercase a.kind) (str_to_ascii_uppercase b.kind) && same_folded a.value b.value

-- the first name begins with the parts of the second
unfoldable pub begins_with : List Rdn → List Rdn → Bool
begins_with rdns [] = true
begins_with [] (b ∷ bs) = false
begins_with (a ∷ as') (b ∷ bs) = same_rdn a b && begins_with as' bs

-- the child of a parent whose naming value is the name after folding, whatever its type
abbrev pub is_child_named : ℕ → List ℕ → Object → Bool
is_child_named parent name o = o.parent == parent && same_folded o.name name

unfoldable pub child_named : List Object → ℕ → List ℕ → Option Object
child_named objects parent name = find (is_child_named parent name) objects

-- the number of the object, where the type agrees too
abbrev pub number_if_typed : List SchemaRecord → Rdn → Object → Option ℕ
number_if_typed schema rdn o = if same_rdn (rdn_of schema o) rdn then Some o.number else None

unfoldable pub child_of_rdn : Directory → ℕ → Rdn → Option ℕ
child_of_rdn dir parent rdn = option_and_then (number_if_typed dir.schema rdn)
    (child_named dir.objects parent rdn.value)

-- part by part down from an object
unfoldable pub found_below : Directory → ℕ → List Rdn → Option ℕ
found_below dir number [] = Some number
found_below dir number (rdn ∷ rdns) = option_and_then (λ child. found_below dir child rdns)
    (child_of_rdn dir number rdn)

-- the root's name from its end, and a name from its end that should begin so
abbrev pub found_from_end : Directory → List Rdn → List Rdn → Option ℕ
found_from_end dir top parts = if is_live dir.objects root && begins_with parts top then found_below dir root
    (drop (length top) parts) else None

-- The object of a name: from the end of the name the root's name, and then part by part down. The name without parts
-- names no object.
unfoldable pub found : Directory → List Rdn → Option ℕ
found dir rdns = found_from_end dir (reverse (rdns_of dir root)) (reverse rdns)

-- ---- containers of fixed names

abbrev pub common_name : List ℕ → Rdn
common_name value = record { kind = codes "CN"; value = value }

-- CN=AdminSDHolder,CN=System below the root
unfoldable pub admin_sd_holder : Directory → Option ℕ
admin_sd_holder dir = found_below dir root (common_name (codes "System") ∷ common_name (codes "AdminSDHolder") ∷ [])

-- CN=Directory Service,CN=Windows NT,CN=Services,CN=Configuration below the root
unfoldable pub directory_service : Directory → Option ℕ
directory_service dir = found_below dir root (common_name (codes "Configuration") ∷ common_name (codes "Services")
    ∷ common_name (codes "Windows NT") ∷ common_name (codes "Directory Service") ∷ [])
