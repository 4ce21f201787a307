-- Lines that are taken one after the other: what those that are left give.
use Rattle.std.specs.Prelude.{◌≡◌, ℕ, suc, ◌+◌, ◌<◌, ◌≤◌, nat_eq, unwrap_or, length, List, [], ◌∷◌, ◌++◌}
use Rattle.std.specs.Prelude.{false, Option, Some, None, IfSome, Result, Ok, Err}
use Rattle.std.specs.declared.hash.FoldHasher.{FoldHasher}
use Rattle.std.specs.declared.hash.BuildHasherDefault.{BuildHasherDefault}
use Rattle.std.specs.HashMap.{get, HashMap}
use Rattle.ad_sd.specs.declared.parts.AceList.{AceList}
use Rattle.ad_ldap.specs.declared.requests.Message.{Message}
use Rattle.ad_dir_model.specs.Directory.{Directory}
use Rattle.ad_ldifmod.specs.declared.fault.GrantFault.{GrantFault}
use Rattle.ad_ldifmod.specs.declared.next.Taken.{Taken}
use Rattle.ad_ldifmod.specs.Lines.{lines_of, most_bytes}
use Rattle.ad_ldifmod.specs.Lists.{Lists, stored_list}
use Rattle.ad_ldifmod.specs.Grants.{is_memory, messages_from, messages_of, IsOfFrame}

-- the lists that lines have changed so far; any other is as it is stored
abbrev pub ListCache : Type 0
ListCache = HashMap ℕ AceList (BuildHasherDefault FoldHasher)

abbrev pub lists_in : Directory → ListCache → Lists
lists_in dir cache number = unwrap_or (get nat_eq cache number) (stored_list dir number)

-- before the first line
pub record Begins (taken : Taken) : Type 0 where
  pub cache : (n : ℕ) → get nat_eq taken.cache n ≡ None
  pub lines : taken.lines ≡ 0
  pub messages : taken.messages ≡ 0

-- what lines give, where others before them were taken
abbrev pub from : Directory → Taken → List (List ℕ) → Result (List Message) GrantFault
from dir taken lines = messages_from dir (lists_in dir taken.cache) (suc taken.lines) (suc taken.messages) lines

-- what a text gives then
abbrev pub left : Directory → Taken → List ℕ → Result (List Message) GrantFault
left dir taken text = from dir taken (lines_of text)

-- a message before others, if there is one
abbrev pub before : Option Message → Result (List Message) GrantFault → Result (List Message) GrantFault
before None others = others
before (Some message) (Ok others) = Ok (message ∷ others)
before (Some message) (Err fault) = Err fault

-- messages so far, and what the lines after them give
abbrev pub joined : List Message → Result (List Message) GrantFault → Result (List Message) GrantFault
joined messages (Ok others) = Ok (messages ++ others)
joined messages (Err fault) = Err fault

-- no more bytes were taken and are left than a text may have, so that lines and messages have numbers
pub record HasRoom (taken : Taken) (text : List ℕ) : Type 0 where
  pub bytes : taken.lines + length text ≤ most_bytes
  pub fewer : taken.messages ≤ taken.lines

-- The first line of a text was taken. It gives this message or none, and the text after it what it gave before.
pub record IsNext (dir : Directory) (old new : Taken) (text : List ℕ) (message : Option Message) (behind : List ℕ) :
    Type 0 where
  pub given : left dir old text ≡ before message (left dir new behind)
  pub frame : IfSome message IsOfFrame
  pub room : HasRoom new behind
  pub shorter : length behind < length text

-- messages with another one, if there is one
abbrev pub with_next : List Message → Option Message → List Message
with_next messages None = messages
with_next messages (Some message) = messages ++ message ∷ []

-- Each line of a text gives its message: these are they.
abbrev pub GivesSome : Directory → List ℕ → Type 0
GivesSome dir text = (messages : List Message) × (messages_of dir text ≡ Ok messages)

-- ---- a line

-- The line was taken, whatever lines follow.
pub record IsTaken (dir : Directory) (old new : Taken) (line : List ℕ) (message : Option Message) : Type 0 where
  pub goes_on : (lines : List (List ℕ)) → from dir old (line ∷ lines) ≡ before message (from dir new lines)
  pub frame : IfSome message IsOfFrame
  pub one_line : new.lines ≡ suc old.lines
  pub few : new.messages ≤ suc old.messages

-- or it is faulty: whatever lines follow, this is the fault of all
abbrev pub IsFaulty : Directory → Taken → List ℕ → GrantFault → Type 0
IsFaulty dir taken line fault = is_memory fault ≡ false → (lines : List (List ℕ)) → from dir taken (line ∷ lines)
    ≡ Err fault
