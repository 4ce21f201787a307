-- The words of the language: what reads its codes, its aliases, and what begins a text.
use Rattle.std.specs.Prelude.{ℕ, ◌==◌, ◌&&◌, Bool, if◌then◌else◌, Option, Some, None, List, [], ◌∷◌, slice_index, codes}
use Rattle.std.specs.List.{starts_with}
use Rattle.std.specs.Char.{to_ascii_lowercase}
use Rattle.ad_ids.specs.SidValue.{SidValue}
use Rattle.ad_ids.specs.SidChild.{child_of}
use Rattle.ad_acl.specs.declared.codes.Code.{Code}
use Rattle.ad_sddl.specs.declared.words.Base.{Base}
use Rattle.ad_sddl.specs.declared.words.Base.TheVariants.{World, Creator, Nt, Builtin, Domain}
use Rattle.ad_sddl.specs.declared.words.Alias.{Alias}

-- the text begins with the word
unfoldable pub begins : List ℕ → List ℕ → Bool
begins word text = starts_with ◌==◌ text word

-- ---- codes

-- the letters, which are in lower case, are those of the code
abbrev pub are_letters : ℕ → ℕ → List ℕ → Bool
are_letters first second letters = (to_ascii_lowercase (slice_index letters 0) == first)
    && (to_ascii_lowercase (slice_index letters 1) == second)

-- the code of the letters
abbrev pub find : List Code → ℕ → ℕ → Option Code
find [] first second = None
find (code ∷ table) first second = if are_letters first second code.letters then Some code else find table first second

-- ---- aliases

abbrev pub an_alias : List ℕ → Base → ℕ → Alias
an_alias letters base number = record { letters = letters; base = base; number = number }

-- the aliases, each with the number of its identifier below what it stands below
unfoldable pub alias_codes : List Alias
alias_codes =
    an_alias (codes "WD") World 0 ∷
    an_alias (codes "CO") Creator 0 ∷
    an_alias (codes "CG") Creator 1 ∷
    an_alias (codes "OW") Creator 4 ∷
    an_alias (codes "NU") Nt 2 ∷
    an_alias (codes "IU") Nt 4 ∷
    an_alias (codes "SU") Nt 6 ∷
    an_alias (codes "AN") Nt 7 ∷
    an_alias (codes "ED") Nt 9 ∷
    an_alias (codes "PS") Nt 10 ∷
    an_alias (codes "AU") Nt 11 ∷
    an_alias (codes "RC") Nt 12 ∷
    an_alias (codes "SY") Nt 18 ∷
    an_alias (codes "LS") Nt 19 ∷
    an_alias (codes "NS") Nt 20 ∷
    an_alias (codes "BA") Builtin 544 ∷
    an_alias (codes "BU") Builtin 545 ∷
    an_alias (codes "BG") Builtin 546 ∷
    an_alias (codes "PU") Builtin 547 ∷
    an_alias (codes "AO") Builtin 548 ∷
    an_alias (codes "SO") Builtin 549 ∷
    an_alias (codes "PO") Builtin 550 ∷
    an_alias (codes "BO") Builtin 551 ∷
    an_alias (codes "RE") Builtin 552 ∷
    an_alias (codes "RU") Builtin 554 ∷
    an_alias (codes "RD") Builtin 555 ∷
    an_alias (codes "NO") Builtin 556 ∷
    an_alias (codes "LA") Domain 500 ∷
    an_alias (codes "LG") Domain 501 ∷
    an_alias (codes "DA") Domain 512 ∷
    an_alias (codes "DU") Domain 513 ∷
    an_alias (codes "DG") Domain 514 ∷
    an_alias (codes "DC") Domain 515 ∷
    an_alias (codes "DD") Domain 516 ∷
    an_alias (codes "CA") Domain 517 ∷
    an_alias (codes "SA") Domain 518 ∷
    an_alias (codes "EA") Domain 519 ∷
    an_alias (codes "PA") Domain 520 ∷
    an_alias (codes "RS") Domain 553 ∷
    []

-- the alias of the letters
abbrev pub find_alias : List Alias → ℕ → ℕ → Option Alias
find_alias [] first second = None
find_alias (alias ∷ table) first second = if are_letters first second alias.letters then Some alias
    else find_alias table first second

abbrev pub sid : ℕ → List ℕ → SidValue
sid authority others = record { authority = authority; sub_authorities = others }

-- the identifier that a number represents below a base: of a domain none where no domain is given, or where it has no
-- room for the number
abbrev pub meant_by : Option SidValue → Base → ℕ → Option SidValue
meant_by domain World n = Some (sid 1 (n ∷ []))
meant_by domain Creator n = Some (sid 3 (n ∷ []))
meant_by domain Nt n = Some (sid 5 (n ∷ []))
meant_by domain Builtin n = Some (sid 5 (32 ∷ n ∷ []))
meant_by None Domain n = None
meant_by (Some d) Domain n = child_of d n
