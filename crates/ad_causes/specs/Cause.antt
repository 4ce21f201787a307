-- A cause, and its line.
use Rattle.std.specs.Prelude.{ℕ, Bool, true, false, List, ◌∷◌, ◌++◌, codes}
use Rattle.std.specs.List.{flat_map}
use Rattle.ad_bytes.specs.Puts.{labelled}
use Rattle.ad_ids.specs.SidValue.{SidValue}
use Rattle.ad_ids.specs.SidText.{sid_text}
use Rattle.ad_dn.specs.declared.rdn.Dn.{Dn}
use Rattle.ad_dn.specs.Text.{dn_text}
use Rattle.ad_dir_model.specs.Directory.{Directory}
use Rattle.ad_dir_model.specs.Names.{rdns_of}

-- What was changed from one directory to another. What is one more in the second has `true`, what the first alone has
-- `false`: an object; an explicit entry of an object, by its text; the membership of a group and an object. And of an
-- object what differs: its owner, which is that of the second; whether its list is protected; nothing but the order of its
-- explicit entries; its class, its primary group, the identifiers that it had before. And something of the schema, by its
-- name.
pub data Cause : Type 0 where
  object : Bool → Dn → Cause
  owner : Dn → SidValue → Cause
  protection : Dn → Cause
  order : Dn → Cause
  entry : Bool → Dn → List ℕ → Cause
  class : Dn → Cause
  primary : Dn → Cause
  history : Dn → Cause
  member : Bool → Dn → Dn → Cause
  schema : List ℕ → Cause

abbrev pub sign : Bool → List ℕ
sign true = codes "+ "
sign false = codes "- "

-- Two texts with a horizontal tab (9) between them, which stands in no name.
abbrev pub divided : List ℕ → List ℕ → List ℕ
divided first second = first ++ 9 ∷ second

abbrev pub cause_line : Cause → List ℕ
cause_line (object more name) = labelled (codes "object ") (sign more ++ dn_text name)
cause_line (owner name sid) = labelled (codes "owner ") (divided (dn_text name) (sid_text sid))
cause_line (protection name) = labelled (codes "protected ") (dn_text name)
cause_line (order name) = labelled (codes "order ") (dn_text name)
cause_line (entry more name text) = labelled (codes "entry ") (sign more ++ divided (dn_text name) text)
cause_line (class name) = labelled (codes "class ") (dn_text name)
cause_line (primary name) = labelled (codes "primary ") (dn_text name)
cause_line (history name) = labelled (codes "history ") (dn_text name)
cause_line (member more group name) =
    labelled (codes "member ") (sign more ++ divided (dn_text group) (dn_text name))
cause_line (schema name) = labelled (codes "schema ") name

abbrev pub causes_text : List Cause → List ℕ
causes_text causes = flat_map cause_line causes

-- ---- names

abbrev pub name_at : Directory → ℕ → Dn
name_at dir number = record { rdns = rdns_of dir number }
