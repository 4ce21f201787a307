-- Whatever a frame is answered, a sound directory stays sound.
use Rattle.std.proofs.Common.{◌≡◌, ◌∙◌, ℕ, zero, suc, List, [], ◌∷◌, Option, Some, Result, Ok, Err, refl, sym, ap}
use Rattle.std.specs.Prelude.{unwrap_or}
use Rattle.std.specs.List.{AllByRecursion}
use Rattle.ad_bytes.specs.Reading.{IsBytes}
use Rattle.ad_ids.specs.SidValue.{SidValue}
use Rattle.ad_ids.specs.Sid.{IsSid}
use Rattle.ad_ids.specs.declared.token.Token.{Token}
use Rattle.ad_ldap.specs.declared.controls.Settings.{Settings}
use Rattle.ad_ldap.specs.declared.fault.LdapFault.{LdapFault}
use Rattle.ad_ldap.specs.declared.requests.Add.{Add}
use Rattle.ad_ldap.specs.declared.requests.Modify.{Modify}
use Rattle.ad_ldap.specs.declared.requests.Rename.{Rename}
use Rattle.ad_ldap.specs.MessageValue.{MessageValue, OpValue, Bind, Unbind, SearchOf, ModifyOf, AddOf, DeleteOf}
use Rattle.ad_ldap.specs.MessageValue.{RenameOf, CompareOf, Abandon, Extended}
use Rattle.ad_ldap.specs.MessageReading.{message_of}
use Rattle.ad_ldap.specs.Settings.{settings_of}
use Rattle.ad_dir_model.specs.Directory.{Directory}
use Rattle.ad_dir_model.specs.Identity.{domain_sid}
use Rattle.ad_dir_model.specs.Protection.{protection_run}
use Rattle.ad_dir_model.specs.Soundness.{IsSound}
use Rattle.ad_dir_model.specs.Steps.{step, steps}
use Rattle.ad_dir_model.proofs.StepSound.{step_sound}
use Rattle.ad_change.specs.Effects.{Effect, answered, changes_to, effect}
use Rattle.ad_frames.specs.declared.frame.Frame.{Frame}
use Rattle.ad_frames.specs.declared.frame.FrameBody.{FrameBody}
use Rattle.ad_frames.specs.declared.frame.FrameBody.TheVariants as body
use Rattle.ad_engine.specs.Answer.{body_answered, answer}
use Rattle.ad_engine_answer.specs.Messages.{Decision, by_effect, changed, op_decided, reading_decided, message_decided}
use Rattle.ad_engine.specs.Runs.{after_from}
use Rattle.ad_engine_store.specs.Tokens.{token_of}
use Rattle.ad_engine_laws.specs.Bytes.{IsOfBytes, HasBytes, HaveBytes}
use Rattle.ad_engine_laws.proofs.Parts.{HasByteValues, message_values}

-- what the crates below promise of changes and of runs
pub record Kept : Type 0 where
  pub domain : (dir : Directory) (sid : SidValue) → IsSound dir → domain_sid dir ≡ Some sid → IsSid sid
  pub delete : (dir after : Directory) (token : Token) (dn : List ℕ) (s : Settings) → IsSound dir
      → effect dir token (DeleteOf dn) s ≡ changes_to after → IsSound after
  pub rename : (dir after : Directory) (token : Token) (r : Rename) (s : Settings) → IsSound dir
      → effect dir token (RenameOf r) s ≡ changes_to after → IsSound after
  pub modify : (dir after : Directory) (token : Token) (m : Modify) (s : Settings) → IsSound dir
      → AllByRecursion (λ item. AllByRecursion IsBytes item.values) m.items
      → effect dir token (ModifyOf m) s ≡ changes_to after → IsSound after
  pub add : (dir after : Directory) (token : Token) (a : Add) (s : Settings) → IsSound dir
      → ((sid : SidValue) → domain_sid dir ≡ Some sid → IsSid sid)
      → AllByRecursion (λ attr. AllByRecursion IsBytes attr.1) a.attrs
      → effect dir token (AddOf a) s ≡ changes_to after → IsSound after
  pub run : (dir : Directory) → IsSound dir → IsSound (protection_run dir).directory

pub steps_sound : (n : ℕ) (dir : Directory) → IsSound dir → IsSound (steps n dir)
unfolding steps
steps_sound zero dir sound = sound
steps_sound (suc n) dir sound = steps_sound n (step dir) (step_sound dir sound)

-- ---- a message

abbrev LeavesSound : Directory → Decision → Type 0
LeavesSound dir d = IsSound (unwrap_or d.change dir)

effect_sound : (dir : Directory) (id tag : ℕ) (e : Effect) → IsSound dir
    → ((after : Directory) → e ≡ changes_to after → IsSound after)
    → LeavesSound dir (by_effect id tag e)
effect_sound dir id tag (answered code matched text) sound keeps = sound
effect_sound dir id tag (changes_to after) sound keeps = keeps after refl

changed_sound : (dir : Directory) (token : Token) (m : MessageValue) (tag : ℕ) (r : Result Settings ℕ) → IsSound dir
    → ((s : Settings) (after : Directory) → effect dir token m.op s ≡ changes_to after → IsSound after)
    → LeavesSound dir (changed dir token m tag r)
changed_sound dir token m tag (Err code) sound keeps = sound
changed_sound dir token m tag (Ok s) sound keeps = effect_sound dir m.id tag (effect dir token m.op s) sound (keeps s)

op_sound : Kept → (dir : Directory) (token : Token) (m : MessageValue) (op : OpValue) → m.op ≡ op → IsSound dir
    → HasByteValues op
    → LeavesSound dir (op_decided dir token m op)
op_sound k dir token m Bind is sound bytes = sound
op_sound k dir token m Unbind is sound bytes = sound
op_sound k dir token m (SearchOf s) is sound bytes = sound
op_sound k dir token m (CompareOf c) is sound bytes = sound
op_sound k dir token m (ModifyOf x) is sound bytes = changed_sound dir token m 103 (settings_of m) sound
    (λ s after e. k.modify dir after token x s sound bytes (ap (λ (op : OpValue). effect dir token op s) (sym is) ∙ e))
op_sound k dir token m (AddOf x) is sound bytes = changed_sound dir token m 105 (settings_of m) sound
    (λ s after e. k.add dir after token x s sound (λ sid has. k.domain dir sid sound has) bytes
    (ap (λ (op : OpValue). effect dir token op s) (sym is) ∙ e))
op_sound k dir token m (DeleteOf x) is sound bytes = changed_sound dir token m 107 (settings_of m) sound
    (λ s after e. k.delete dir after token x s sound (ap (λ (op : OpValue). effect dir token op s) (sym is) ∙ e))
op_sound k dir token m (RenameOf x) is sound bytes = changed_sound dir token m 109 (settings_of m) sound
    (λ s after e. k.rename dir after token x s sound (ap (λ (op : OpValue). effect dir token op s) (sym is) ∙ e))
op_sound k dir token m Abandon is sound bytes = sound
op_sound k dir token m Extended is sound bytes = sound

message_sound : Kept → (dir : Directory) (token : Token) (bytes : List ℕ) → IsSound dir → IsBytes bytes
    → LeavesSound dir (message_decided dir token bytes)
unfolding message_decided
message_sound k dir token bytes sound fits = by (message_of bytes) refl
  where
    by : (r : Result MessageValue LdapFault) → message_of bytes ≡ r → LeavesSound dir (reading_decided dir token r)
    by (Ok m) read = op_sound k dir token m m.op refl sound (message_values bytes m fits read)
    by (Err fault) read = sound

-- ---- a frame

body_sound : Kept → (dir : Directory) (tokens : List (Option Token)) (connection : ℕ) (b : FrameBody) → IsSound dir
    → IsOfBytes b
    → IsSound (body_answered dir tokens connection b).directory
body_sound k dir tokens connection (body.Token token) sound fits = sound
body_sound k dir tokens connection (body.Message bytes) sound fits = message_sound k dir (token_of tokens connection)
    bytes sound fits
body_sound k dir tokens connection (body.Steps n) sound fits = steps_sound n dir sound
body_sound k dir tokens connection body.Run sound fits = k.run dir sound

pub answer_sound : Kept → (dir : Directory) (tokens : List (Option Token)) (frame : Frame) → IsSound dir
    → HasBytes frame
    → IsSound (answer dir tokens frame).directory
unfolding answer
answer_sound k dir tokens frame sound fits = body_sound k dir tokens frame.connection frame.body sound fits

-- ---- frames

-- what is promised of one
abbrev pub OneKeeps : Type 0
OneKeeps = (dir : Directory) (tokens : List (Option Token)) (frame : Frame) → IsSound dir → HasBytes frame
    → IsSound (answer dir tokens frame).directory

pub frames_sound : OneKeeps → (dir : Directory) (tokens : List (Option Token)) (frames : List Frame) → IsSound dir
    → HaveBytes frames
    → IsSound (after_from dir tokens frames)
unfolding after_from
frames_sound one dir tokens [] sound fits = sound
frames_sound one dir tokens (frame ∷ frames) sound fits =
    frames_sound one (answer dir tokens frame).directory (answer dir tokens frame).tokens frames
    (one dir tokens frame sound fits.0) fits.1
