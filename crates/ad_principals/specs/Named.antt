-- The object that a text names: by its name, by its identifier, or by the name of an account.
use Rattle.std.specs.Prelude.{ℕ, ◌+◌, Bool, true, false, ◌==◌, if◌then◌else◌, codes, Option, filter, List, [], ◌∷◌}
use Rattle.std.specs.Prelude.{take, drop, position, Result, Ok, Err}
use Rattle.std.specs.List.{list_any}
use Rattle.std.specs.Option.{option_map_or, ok_or}
use Rattle.ad_ids.specs.SidFront.{sid_of_text}
use Rattle.ad_dn.specs.Reading.{dn_of}
use Rattle.ad_value.specs.Value.{Value, same_key}
use Rattle.ad_value.specs.ValueOf.{normal_or_fault}
use Rattle.ad_value.specs.declared.fault.ValueFault.{ValueFault}
use Rattle.ad_value.specs.declared.syntax.Syntax.TheVariants as syntax
use Rattle.ad_dir_model.specs.Objects.{object_at, numbers}
use Rattle.ad_dir_model.specs.Tree.{root}
use Rattle.ad_dir_model.specs.Attributes.{attr_place}
use Rattle.ad_dir_model.specs.Identity.{first_of_attr, with_sid}
use Rattle.ad_dir_model.specs.Names.{found}
use Rattle.ad_dir_model.specs.Directory.{Directory}
use Rattle.ad_principals.specs.declared.fault.NameFault.{NameFault}
use Rattle.ad_principals.specs.declared.fault.NameFault.TheVariants as fault

-- ---- the name of an account

-- the first value that the object has of the attribute is the text after folding: the two are compared alike
abbrev pub has_text : Directory → Option ℕ → Value → ℕ → Bool
has_text dir attr text number =
    option_map_or (λ value. same_key value.key text.key) (first_of_attr attr (object_at dir.objects number)) false

-- the live objects of which that holds, by rising number
unfoldable pub numbers_with : Directory → List ℕ → Value → List ℕ
numbers_with dir name text = filter (has_text dir (attr_place dir.schema name) text) (numbers dir.objects)

-- the one of a list, and this where the list is empty
abbrev pub only_one : List ℕ → Result ℕ NameFault → Result ℕ NameFault
only_one [] otherwise = otherwise
only_one (number ∷ []) otherwise = Ok number
only_one (number ∷ another ∷ others) otherwise = Err fault.Several

-- the object whose sAMAccountName, or where there is none the one whose userPrincipalName, is the text
abbrev pub account_named : Directory → Result Value ValueFault → Result ℕ NameFault
account_named dir (Ok text) =
    only_one (numbers_with dir (codes "sAMAccountName") text)
    (only_one (numbers_with dir (codes "userPrincipalName") text) (Err fault.NoObject))
account_named dir (Err cause) = Err fault.NoObject

-- ---- the name of an account of the domain

-- the text of the value is the root's name
abbrev pub is_root_name : Directory → Value → Bool
is_root_name dir value =
    option_map_or (λ dn. option_map_or (λ number. number == root) (found dir dn.rdns) false) (dn_of value.shown) false

-- the first nCName of the object is the root's name
unfoldable pub names_root : Directory → ℕ → Bool
names_root dir number =
    option_map_or (is_root_name dir)
    (first_of_attr (attr_place dir.schema (codes "nCName")) (object_at dir.objects number)) false

-- an object whose nCName is the root's name has the text as its nETBIOSName
abbrev pub is_domain_name : Directory → Result Value ValueFault → Bool
is_domain_name dir (Ok text) = list_any (names_root dir) (numbers_with dir (codes "nETBIOSName") text)
is_domain_name dir (Err cause) = false

-- the object whose sAMAccountName is the text
abbrev pub account_only : Directory → Result Value ValueFault → Result ℕ NameFault
account_only dir (Ok text) = only_one (numbers_with dir (codes "sAMAccountName") text) (Err fault.NoObject)
account_only dir (Err cause) = Err fault.NoObject

abbrev pub backslash : ℕ
backslash = 92

-- The text has a backslash at this place. Where the domain's name stands before it, the account's stands after it; else
-- the whole is the account's.
abbrev pub account_at : Directory → List ℕ → ℕ → Result ℕ NameFault
account_at dir text place =
    if is_domain_name dir (normal_or_fault syntax.Unicode (take place text))
    then account_only dir (normal_or_fault syntax.Unicode (drop (place + 1) text))
    else account_named dir (normal_or_fault syntax.Unicode text)

-- by its first backslash, if it has one
unfoldable pub any_account : Directory → List ℕ → Result ℕ NameFault
any_account dir text =
    option_map_or (account_at dir text) (position (λ b. b == backslash) text)
    (account_named dir (normal_or_fault syntax.Unicode text))

-- ---- any name

abbrev pub or_no_object : Option ℕ → Result ℕ NameFault
or_no_object found = ok_or found fault.NoObject

-- A text that is a name's says the object of that name, and one that is an identifier's the object of that
-- identifier. Any other is the name of an account.
unfoldable pub named : Directory → List ℕ → Result ℕ NameFault
named dir text =
    option_map_or (λ dn. or_no_object (found dir dn.rdns))
    (dn_of text)
    (option_map_or (λ sid. or_no_object (with_sid dir sid))
    (sid_of_text text)
    (any_account dir text))

-- the one fault that no text has
abbrev pub is_memory : NameFault → Bool
is_memory fault.Memory = true
is_memory _ = false
