-- The syntaxes of attributes.
use Rattle.std.specs.Prelude.{ℕ, Bool, true, false, List, codes, if◌then◌else◌}
use Rattle.std.specs.Str.{bytes_eq}
use Rattle.ad_value.specs.declared.syntax.Syntax.{Syntax}
use Rattle.ad_value.specs.declared.syntax.Syntax.TheVariants as syntax

-- the syntax of an object identifier, in dotted decimal
abbrev pub syntax_of : List ℕ → Syntax
syntax_of oid =
    if bytes_eq oid (codes "2.5.5.1") then syntax.Name else
    (if bytes_eq oid (codes "2.5.5.2") then syntax.Ascii else
    (if bytes_eq oid (codes "2.5.5.8") then syntax.Boolean else
    (if bytes_eq oid (codes "2.5.5.9") then syntax.Integer else
    (if bytes_eq oid (codes "2.5.5.10") then syntax.Octets else
    (if bytes_eq oid (codes "2.5.5.12") then syntax.Unicode else
    (if bytes_eq oid (codes "2.5.5.16") then syntax.Large else
    (if bytes_eq oid (codes "2.5.5.17") then syntax.Sid else syntax.Other)))))))

-- Numbers are ordered as such, and bytes and texts by their bytes. The others have equality alone.
abbrev pub has_order : Syntax → Bool
has_order syntax.Integer = true
has_order syntax.Large = true
has_order syntax.Octets = true
has_order syntax.Unicode = true
has_order _ = false

-- Bytes and texts can be searched for pieces.
abbrev pub has_pieces : Syntax → Bool
has_pieces syntax.Octets = true
has_pieces syntax.Unicode = true
has_pieces _ = false
