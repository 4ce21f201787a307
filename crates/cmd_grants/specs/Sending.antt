-- Only for private contracts and proofs: what is emitted bit by bit, and what is held until then.
use Rattle.std.specs.Prelude.{◌≡◌, ◌⊎◌, ℕ, ◌<◌, ◌≤◌, List, [], ◌++◌, length, Option, Some, None}
use Rattle.std.specs.Prelude.{Result, Ok, IfErr, OnOk}
use Rattle.site_io.specs.Counts.{HasRisen}
use Rattle.site_io.specs.Disk.{GoesOn}
use Rattle.site_io.specs.declared.site.Site.{Ghosts as SiteGhosts}
use Rattle.ad_ldap.specs.declared.requests.Message.{Message}
use Rattle.ad_dir_model.specs.Directory.{Directory}
use Rattle.ad_ldifmod.specs.declared.fault.GrantFault.{GrantFault}
use Rattle.ad_ldifmod.specs.declared.next.Taken.{Taken}
use Rattle.ad_ldifmod.specs.Grants.{messages_of}
use Rattle.ad_ldifmod.specs.Taken.{left, before, joined, HasRoom}
use Rattle.cmd_call.specs.declared.outcome.Outcome.{Outcome}
use Rattle.cmd_call.specs.declared.outcome.Outcome.TheVariants.{SiteFailed, NoMemory}
use Rattle.cmd_call.specs.Store.{Emits, EmitsPart, KeepsSlots}
use Rattle.cmd_grants.specs.Frames.{frame_of, frames_of}

-- the frame of a message, if there is one
abbrev pub frame_if : Option Message → List ℕ
frame_if None = []
frame_if (Some message) = frame_of message

-- each of the lines that are left gives its message
abbrev pub GivesRest : Directory → Taken → List ℕ → Type 0
GivesRest dir taken rest = (others : List Message) × (left dir taken rest ≡ Ok others)

module _ {S : Type 0} (site : SiteGhosts S) where
  -- No slot was written, and faults of the output may have been counted.
  pub record OnlyEmits (old new : S) : Type 0 where
    pub slots : KeepsSlots site old new
    pub moments : GoesOn (site.now old) (site.now new) (site.left old) (site.left new)
    pub never_falls : site.out_faults old ≤ site.out_faults new

  -- why a text was emitted in part alone
  abbrev pub IsCut : S → S → Outcome → Type 0
  IsCut old new outcome = ((outcome ≡ SiteFailed) × HasRisen (site.out_faults old) (site.out_faults new))
      ⊎ (outcome ≡ NoMemory)

  -- a text was emitted, or a part of it
  pub record Sends (text : List ℕ) (old new : S) (result : Result (Unit {0}) Outcome) : Type 0 where
    pub whole : OnOk result (Emits (site.emitted old) (site.emitted new) text)
    pub part : EmitsPart (site.emitted old) (site.emitted new) text
    pub emits : OnlyEmits old new
    pub cut : IfErr result (IsCut old new)

  -- Of what was held and bytes after it a first part was emitted, and the rest is held.
  abbrev pub HoldsRest : List ℕ → List ℕ → S → S → List ℕ → Type 0
  HoldsRest held after old new bytes = (said : List ℕ) × (said ++ after ≡ held ++ bytes)
      × Emits (site.emitted old) (site.emitted new) said

  -- the same, or a part of both was emitted
  pub record Holds (held after : List ℕ) (old new : S) (result : Result (Unit {0}) Outcome) (bytes : List ℕ) : Type 0
    where
      pub whole : OnOk result (HoldsRest held after old new bytes)
      pub part : EmitsPart (site.emitted old) (site.emitted new) (held ++ bytes)
      pub emits : OnlyEmits old new
      pub cut : IfErr result (IsCut old new)

  -- The frames of the lines that were taken were emitted, but for what is held.
  pub record IsSending (dir : Directory) (text : List ℕ) (taken : Taken) (rest held : List ℕ) (old new : S) : Type 0
    where
      pub messages : List Message
      pub said : List ℕ
      pub given : messages_of dir text ≡ joined messages (left dir taken rest)
      pub split : said ++ held ≡ frames_of messages
      pub emitted : Emits (site.emitted old) (site.emitted new) said
      pub emits : OnlyEmits old new

  -- A line was taken, and its frame is held or was emitted.
  pub record StepsTo (dir : Directory) (from to : Taken) (rest behind held after : List ℕ) (old new : S) : Type 0 where
    pub message : Option Message
    pub given : left dir from rest ≡ before message (left dir to behind)
    pub room : HasRoom to behind
    pub shorter : length behind < length rest
    pub holds : HoldsRest held after old new (frame_if message)
    pub emits : OnlyEmits old new

  -- or it ended there: a part of what was held and of the next frame was emitted
  pub record StopsAt (dir : Directory) (from : Taken) (rest held : List ℕ) (old new : S) (outcome : Outcome) : Type 0
    where
      pub message : Option Message
      pub others : Result (List Message) GrantFault
      pub given : left dir from rest ≡ before message others
      pub part : EmitsPart (site.emitted old) (site.emitted new) (held ++ frame_if message)
      pub emits : OnlyEmits old new
      pub cut : IsCut old new outcome

  -- The text gives messages, and their frames were emitted, or a part of them.
  abbrev pub SendsFrames : Directory → List ℕ → S → S → Result (Unit {0}) Outcome → Type 0
  SendsFrames dir text old new result = (messages : List Message) × (messages_of dir text ≡ Ok messages)
      × Sends (frames_of messages) old new result

  -- a text was emitted and the command ended so, or a part of it was
  pub record Gives (text : List ℕ) (next : Outcome) (old new : S) (outcome : Outcome) : Type 0 where
    pub ended : ((outcome ≡ next) × Emits (site.emitted old) (site.emitted new) text)
        ⊎ (EmitsPart (site.emitted old) (site.emitted new) text × IsCut old new outcome)
    pub emits : OnlyEmits old new
