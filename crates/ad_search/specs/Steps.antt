-- One object of a search after the other.
use Rattle.std.specs.Prelude.{◌≡◌, ℕ, ◌==◌, if◌then◌else◌, Option, Some, None, List, [], ◌∷◌, ◌++◌, length}
use Rattle.ad_ids.specs.declared.token.Token.{Token}
use Rattle.ad_dn.specs.declared.rdn.Dn.{Dn}
use Rattle.ad_ldap.specs.Choices.{base_object, single_level}
use Rattle.ad_ldap.specs.MessageValue.{SearchValue}
use Rattle.ad_dir_model.specs.Objects.{numbers, children}
use Rattle.ad_dir_model.specs.Tree.{root}
use Rattle.ad_dir_model.specs.Directory.{Directory}
use Rattle.ad_search.specs.declared.joining.Joined.{Joined}
use Rattle.ad_entries.specs.Seen.{seen_among}
use Rattle.ad_entries.specs.Entry.{Entry}
use Rattle.ad_search.specs.Subtree.{subtree}
use Rattle.ad_search.specs.Search.{done, entries_of, entries_from}

-- the entries of these objects
unfoldable pub entries_among : Directory → Token → ℕ → SearchValue → ℕ → Dn → List ℕ → List Entry
entries_among dir token id search flags base numbers = entries_of dir.schema id search flags base
    (seen_among dir token numbers)

-- the objects that may have an entry: where the base alone is asked for that one, where those right below it its
-- children, and else those of its subtree, which are all of them where it is the root
unfoldable pub objects_asked : Directory → ℕ → ℕ → List ℕ
objects_asked dir scope base =
    if scope == base_object then base ∷ []
    else (if scope == single_level then children dir.objects base
    else (if base == root then numbers dir.objects
    else subtree dir base))

-- what is joined so far, and what these entries and the end add to it
abbrev pub with_rest : ℕ → ℕ → Joined → List Entry → List ℕ
with_rest id size joined entries = joined.bytes.items ++ entries_from id size joined.given (length joined.bytes.items)
    joined.is_short entries

-- the same where the search goes on, and with this code where it ends
abbrev pub goes_on : ℕ → ℕ → Joined → Option ℕ → List Entry → List ℕ
goes_on id size joined None entries = with_rest id size joined entries
goes_on id size joined (Some code) entries = joined.bytes.items ++ done id code []

-- What is joined after the entries of one more object, whatever follows.
abbrev pub Steps : ℕ → ℕ → Joined → List Entry → Joined → Option ℕ → Type 0
Steps id size before entries after code = (rest : List Entry) → goes_on id size after code rest
    ≡ with_rest id size before (entries ++ rest)
