-- What the bytes of a caller represent, each with the refusal where they represent nothing.
use Rattle.std.specs.Prelude.{ℕ, ◌==◌, if◌then◌else◌, Option, None, Some, List}
use Rattle.std.specs.Prelude.{[], ◌∷◌, length, take, drop, Result, Ok, Err}
use Rattle.ad_bytes.specs.Reading.{◌>>=◌, need, or_fault}
use Rattle.ad_ids.specs.SidValue.{SidValue}
use Rattle.ad_ids.specs.SidReading.{sid_at}
use Rattle.ad_ids.specs.declared.guid.Guid.{Guid}
use Rattle.adsd_c.specs.declared.refusal.Refusal.{Refusal}
use Rattle.adsd_c.specs.declared.refusal.Refusal.TheVariants as refusal

-- a value that has to be there
abbrev pub given_or : {A : Type 0} → Refusal → Option A → Result A Refusal
given_or fault None = Err fault
given_or fault (Some x) = Ok x

-- the identifier that all of the bytes are
unfoldable pub whole_sid : Refusal → List ℕ → Result SidValue Refusal
whole_sid fault bytes = do
  sid ← or_fault fault (sid_at bytes)
  _ ← need (length sid.1 == 0) fault
  Ok sid.0

abbrev pub some_sid : Result SidValue Refusal → Result (Option SidValue) Refusal
some_sid (Ok sid) = Ok (Some sid)
some_sid (Err fault) = Err fault

-- an identifier that need not be given: where it isn't, there are no bytes
unfoldable pub sid_if : Refusal → List ℕ → Result (Option SidValue) Refusal
sid_if fault bytes = if length bytes == 0 then Ok None else some_sid (whole_sid fault bytes)

-- the 16 bytes from a place on
abbrev pub guid_from : ℕ → List ℕ → Guid
guid_from at bytes = record { bytes = take 16 (drop at bytes) }

-- the GUIDs of a path, one after the other: three at most
unfoldable pub path_of : List ℕ → Result (List Guid) Refusal
path_of bytes =
    if length bytes == 0 then Ok []
    else (if length bytes == 16 then Ok (guid_from 0 bytes ∷ [])
    else (if length bytes == 32 then Ok (guid_from 0 bytes ∷ guid_from 16 bytes ∷ [])
    else (if length bytes == 48 then Ok (guid_from 0 bytes ∷ guid_from 16 bytes ∷ guid_from 32 bytes ∷ [])
    else Err refusal.Path)))
