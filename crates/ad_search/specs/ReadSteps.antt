-- What a search tried, one object after the other.
use Rattle.std.specs.Prelude.{◌≡◌, ℕ, suc, ◌+◌, not, ◌==◌, if◌then◌else◌, Option, Some, None, is_some, option_map, true}
use Rattle.std.specs.Prelude.{slice_get, List, [], ◌∷◌, ◌++◌, length}
use Rattle.std.specs.List.{flat_map}
use Rattle.ad_ids.specs.declared.token.Token.{Token}
use Rattle.ad_dn.specs.declared.rdn.Dn.{Dn}
use Rattle.ad_schema.specs.declared.info.AttrInfo.{AttrInfo}
use Rattle.ad_schema.specs.Attributes.{attrs_of}
use Rattle.ad_ldap.specs.MessageValue.{SearchValue}
use Rattle.ad_dir_model.specs.Shown.{shown}
use Rattle.ad_dir_model.specs.Directory.{Directory}
use Rattle.ad_types.specs.Tried.{TriedValue, tried_values}
use Rattle.ad_search.specs.declared.joining.Joined.{Joined}
use Rattle.ad_search.specs.declared.observing.Trace.{Trace}
use Rattle.ad_search.specs.Search.{stop_code}
use Rattle.ad_search.specs.Reads.{read_on, entry_reads, found_among, given_from}

-- ---- attributes that are asked for and may be read, by their places

abbrev pub read_of : Directory → ℕ → ℕ → Option AttrInfo → List TriedValue
read_of dir number place None = []
read_of dir number place (Some info) = if not (length (shown dir number place) == 0) then read_on dir number place
    ∷ [] else []

unfoldable pub read_at : Directory → ℕ → ℕ → List TriedValue
read_at dir number place = read_of dir number place (slice_get (attrs_of dir.schema) place)

unfoldable pub reads_at_each : Directory → ℕ → List ℕ → List TriedValue
reads_at_each dir number [] = []
reads_at_each dir number (place ∷ places) = read_at dir number place ++ reads_at_each dir number places

-- ---- what is kept of it

-- what was tried so far, where that is kept
abbrev pub kept : Trace → Option (List TriedValue)
kept trace = if trace.is_kept then Some (tried_values trace.tried.items) else None

-- the same after more was tried
abbrev pub and_then : Option (List TriedValue) → List TriedValue → Option (List TriedValue)
and_then before more = option_map (λ tried. tried ++ more) before

-- ---- objects

-- an entry of so many bytes is joined, or the search ends before it
abbrev pub Counts : ℕ → Joined → Joined → ℕ → Option ℕ → Type 0
Counts size before after long None =
    (stop_code size before.given (length before.bytes.items) long ≡ None) × (after.given ≡ suc before.given)
    × (length after.bytes.items ≡ length before.bytes.items + long)
Counts size before after long (Some code) = is_some (stop_code size before.given (length before.bytes.items) long)
    ≡ true

-- what is tried of these objects that are found, behind so many entries with so many bytes
abbrev pub reads_behind : Directory → Token → ℕ → SearchValue → ℕ → ℕ → ℕ → List ℕ → List TriedValue
reads_behind dir token id search flags given joined found =
    flat_map (entry_reads dir token search flags) (given_from dir token id search flags given joined found)

-- what is kept after these too, where the search goes on, and where it ends
abbrev pub kept_behind : Directory → Token → ℕ → SearchValue → ℕ → Joined → Option ℕ → Option (List TriedValue)
    → List ℕ → Option (List TriedValue)
kept_behind dir token id search flags joined None tried found = and_then tried
    (reads_behind dir token id search flags joined.given (length joined.bytes.items) found)
kept_behind dir token id search flags joined (Some code) tried found = tried

-- What is kept after one more object, whatever follows.
abbrev pub ReadsOne : Directory → Token → ℕ → SearchValue → ℕ → Dn → ℕ → Joined → Trace → Joined → Trace → Option ℕ
    → Type 0
ReadsOne dir token id search flags base number before trace next told code =
    (others : List ℕ) → kept_behind dir token id search flags next code (kept told) others
    ≡ kept_behind dir token id search flags before None (kept trace)
    (found_among dir token search base (number ∷ []) ++ others)
