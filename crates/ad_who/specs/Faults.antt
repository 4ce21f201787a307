-- Why a question isn't answered, and the line that says so.
use Rattle.std.specs.Prelude.{◌≡◌, ℕ, Bool, true, false, Option, Some, None, List, [], ◌++◌, codes, Result, Err}
use Rattle.ad_ids.specs.SidValue.{SidValue}
use Rattle.ad_dir_model.specs.Directory.{Directory}
use Rattle.ad_dir_model.specs.Objects.{is_live}
use Rattle.ad_principals.specs.declared.fault.NameFault.{NameFault}
use Rattle.ad_principals.specs.declared.fault.NameFault.TheVariants as name
use Rattle.ad_identities.specs.declared.identity.Identity.{Identity}
use Rattle.ad_identities.specs.Identities.{HasTooManyIn}
use Rattle.ad_who.specs.declared.fault.AskFault.{AskFault}
use Rattle.ad_who.specs.Further.{HasTooManyWith}
use Rattle.ad_who.specs.Lines.{name_or}
use Rattle.ad_who.specs.declared.fault.AskFault.TheVariants.{NoObject, Several, NoPrincipal, NoIdentifier, NoRight}
use Rattle.ad_who.specs.declared.fault.AskFault.TheVariants.{TooMany, Memory}
use Rattle.ad_bytes.specs.Puts.{ended}

-- the line of a fault; want of memory has none
abbrev pub fault_line : Directory → AskFault → List ℕ
fault_line dir NoObject = codes "no object\n"
fault_line dir Several = codes "several objects\n"
fault_line dir NoPrincipal = codes "no principal\n"
fault_line dir NoIdentifier = codes "no identifier\n"
fault_line dir NoRight = codes "no right\n"
fault_line dir (TooMany number) = codes "too many groups " ++ ended (name_or dir number)
fault_line dir Memory = []

abbrev pub is_memory : AskFault → Bool
is_memory NoObject = false
is_memory Several = false
is_memory NoPrincipal = false
is_memory NoIdentifier = false
is_memory NoRight = false
is_memory (TooMany number) = false
is_memory Memory = true

-- of a name: nothing has it, or several accounts do
abbrev pub IsNameFault : {A : Type 0} → Result A NameFault → AskFault → Type 0
IsNameFault named NoObject = named ≡ Err name.NoObject
IsNameFault named Several = named ≡ Err name.Several
IsNameFault named NoPrincipal = ⊥
IsNameFault named NoIdentifier = ⊥
IsNameFault named NoRight = ⊥
IsNameFault named (TooMany number) = ⊥
IsNameFault named Memory = Unit {0}

-- of a token with further identifiers: the name's is no identity, or has too many groups
abbrev pub IsNoToken : Directory → Option Identity → List SidValue → AskFault → Type 0
IsNoToken dir found extra NoObject = ⊥
IsNoToken dir found extra Several = ⊥
IsNoToken dir found extra NoPrincipal = found ≡ None
IsNoToken dir found extra NoIdentifier = ⊥
IsNoToken dir found extra NoRight = ⊥
IsNoToken dir found extra (TooMany number) =
    (identity : Identity) × (found ≡ Some identity) × (number ≡ identity.number)
    × HasTooManyWith dir identity.sid identity.number extra
IsNoToken dir found extra Memory = Unit {0}

-- of what a name represents: it is no identity, or has too many groups
abbrev pub IsNoIdentity : Directory → Option Identity → AskFault → Type 0
IsNoIdentity dir found NoObject = ⊥
IsNoIdentity dir found Several = ⊥
IsNoIdentity dir found NoPrincipal = found ≡ None
IsNoIdentity dir found NoIdentifier = ⊥
IsNoIdentity dir found NoRight = ⊥
IsNoIdentity dir found (TooMany number) =
    (identity : Identity) × (found ≡ Some identity) × (number ≡ identity.number) × HasTooManyIn dir identity
IsNoIdentity dir found Memory = Unit {0}

-- an object that is there, or none
abbrev pub IsLiveIf : Directory → Option ℕ → Type 0
IsLiveIf dir None = Unit {0}
IsLiveIf dir (Some number) = is_live dir.objects number ≡ true

-- the object of a fault is live
abbrev pub IsOfLive : Directory → AskFault → Type 0
IsOfLive dir NoObject = Unit {0}
IsOfLive dir Several = Unit {0}
IsOfLive dir NoPrincipal = Unit {0}
IsOfLive dir NoIdentifier = Unit {0}
IsOfLive dir NoRight = Unit {0}
IsOfLive dir (TooMany number) = IsLiveIf dir number
IsOfLive dir Memory = Unit {0}
