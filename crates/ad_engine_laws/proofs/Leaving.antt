-- What is refused, and what isn't a change, leaves the directory and the tokens.
use Rattle.std.proofs.Common.{◌≡◌, ◌∙◌, ◌⊎◌, inl, inr, ℕ, zero, suc, Bool, false, List, [], ◌++◌, length, Option}
use Rattle.std.proofs.Common.{None, Result, Ok, Err, refl, sym, ap, subst}
use Rattle.std.specs.Prelude.{unwrap_or, if◌then◌else◌}
use Rattle.std.proofs.lemmas.List.{append_cancel_left}
use Rattle.prop_queue.specs.declared.pending.Pending.{Pending}
use Rattle.ad_bytes.specs.Numbers.{be_bytes}
use Rattle.ad_bytes.proofs.Codec.{length-be_bytes}
use Rattle.ad_ber.specs.Writing.{element_bytes, header}
use Rattle.ad_ids.specs.declared.token.Token.{Token}
use Rattle.ad_ldap.specs.declared.controls.Settings.{Settings}
use Rattle.ad_ldap.specs.declared.fault.LdapFault.{LdapFault}
use Rattle.ad_ldap.specs.MessageValue.{MessageValue, OpValue, Bind, Unbind, SearchOf, ModifyOf, AddOf, DeleteOf}
use Rattle.ad_ldap.specs.MessageValue.{RenameOf, CompareOf, Abandon, Extended}
use Rattle.ad_ldap.specs.MessageReading.{message_of}
use Rattle.ad_ldap.specs.Settings.{settings_of}
use Rattle.ad_dir_model.specs.Directory.{Directory}
use Rattle.ad_dir_model.specs.Steps.{stepped, step, steps}
use Rattle.ad_change.specs.Effects.{Effect, answered, changes_to, effect}
use Rattle.ad_frames.specs.declared.frame.Frame.{Frame}
use Rattle.ad_frames.specs.declared.frame.FrameBody.{FrameBody}
use Rattle.ad_frames.specs.declared.frame.FrameBody.TheVariants as body
use Rattle.ad_engine.specs.Answer.{Answered, decided, message_answered, steps_answered, body_answered, answer}
use Rattle.ad_engine_answer.specs.Messages.{Decision, done, by_effect, changed, op_decided, reading_decided}
use Rattle.ad_engine_answer.specs.Messages.{message_decided}
use Rattle.ad_engine_answer.specs.Output.{output_frame, reply_output}
use Rattle.ad_engine_store.specs.Tokens.{token_of, without_token}
use Rattle.ad_engine_laws.specs.Reads.{IsNoChange, IsQuestion, AsksNoChange, IsReadBody, IsRead}
use Rattle.ad_engine_laws.specs.Results.{LeavesAll, HasCode, Succeeds}
use Rattle.ad_engine_laws.proofs.SameCode.{same_parts, same_code}

-- ---- a decision is one of three

-- it changes nothing
record IsQuiet (d : Decision) : Type 0 where
  change : d.change ≡ None
  drops : d.drops ≡ false

-- it drops the token, and says nothing
record IsFarewell (d : Decision) : Type 0 where
  change : d.change ≡ None
  reply : d.reply ≡ []

-- it succeeds
record IsSuccess (d : Decision) : Type 0 where
  id : ℕ
  tag : ℕ
  reply : d.reply ≡ done id tag 0 [] []
  drops : d.drops ≡ false

abbrev IsOneOf : Decision → Type 0
IsOneOf d = IsQuiet d ⊎ (IsFarewell d ⊎ IsSuccess d)

quiet : {d : Decision} → d.change ≡ None → d.drops ≡ false → IsOneOf d
quiet change drops = inl (record { change = change; drops = drops })

effect_one : (id tag : ℕ) (e : Effect) → IsOneOf (by_effect id tag e)
effect_one id tag (answered code matched text) = quiet refl refl
effect_one id tag (changes_to after) = inr (inr (record { id = id; tag = tag; reply = refl; drops = refl }))

changed_one : (dir : Directory) (token : Token) (m : MessageValue) (tag : ℕ) (r : Result Settings ℕ)
    → IsOneOf (changed dir token m tag r)
changed_one dir token m tag (Err code) = quiet refl refl
changed_one dir token m tag (Ok s) = effect_one m.id tag (effect dir token m.op s)

op_one : (dir : Directory) (token : Token) (m : MessageValue) (op : OpValue) → IsOneOf (op_decided dir token m op)
op_one dir token m Bind = quiet refl refl
op_one dir token m Unbind = inr (inl (record { change = refl; reply = refl }))
op_one dir token m (SearchOf s) = quiet refl refl
op_one dir token m (CompareOf c) = quiet refl refl
op_one dir token m (ModifyOf x) = changed_one dir token m 103 (settings_of m)
op_one dir token m (AddOf x) = changed_one dir token m 105 (settings_of m)
op_one dir token m (DeleteOf x) = changed_one dir token m 107 (settings_of m)
op_one dir token m (RenameOf x) = changed_one dir token m 109 (settings_of m)
op_one dir token m Abandon = quiet refl refl
op_one dir token m Extended = quiet refl refl

reading_one : (dir : Directory) (token : Token) (r : Result MessageValue LdapFault)
    → IsOneOf (reading_decided dir token r)
reading_one dir token (Ok m) = op_one dir token m m.op
reading_one dir token (Err fault) = quiet refl refl

message_one : (dir : Directory) (token : Token) (bytes : List ℕ) → IsOneOf (message_decided dir token bytes)
unfolding message_decided
message_one dir token bytes = reading_one dir token (message_of bytes)

-- ---- the frame of a message

pub message_at : (dir : Directory) (tokens : List (Option Token)) (frame : Frame) (bytes : List ℕ) → frame.body
    ≡ body.Message bytes
    → answer dir tokens frame ≡ message_answered dir tokens frame.connection bytes
unfolding answer
message_at dir tokens frame bytes is = ap (body_answered dir tokens frame.connection) is

keeps_dir : (dir : Directory) (tokens : List (Option Token)) (connection : ℕ) (d : Decision) → d.change ≡ None
    → (decided dir tokens connection d).directory ≡ dir
keeps_dir dir tokens connection d none = ap (λ (o : Option Directory). unwrap_or o dir) none

keeps_tokens : (dir : Directory) (tokens : List (Option Token)) (connection : ℕ) (d : Decision) → d.drops ≡ false
    → (decided dir tokens connection d).tokens ≡ tokens
keeps_tokens dir tokens connection d none = ap (λ (b : Bool). if b then without_token connection tokens else tokens)
    none

leaves : (dir : Directory) (tokens : List (Option Token)) (connection : ℕ) (d : Decision) → IsQuiet d
    → LeavesAll dir tokens (decided dir tokens connection d)
leaves dir tokens connection d is = record {
  directory = keeps_dir dir tokens connection d is.change;
  tokens_are = keeps_tokens dir tokens connection d is.drops;
}

-- ---- it changes only where it succeeds

abbrev SucceedsOr : Directory → List (Option Token) → ℕ → Answered → Type 0
SucceedsOr dir tokens connection a = (a.directory ≡ dir) ⊎ (Succeeds connection a × (a.tokens ≡ tokens))

either_by : (dir : Directory) (tokens : List (Option Token)) (connection : ℕ) (d : Decision) → IsOneOf d
    → SucceedsOr dir tokens connection (decided dir tokens connection d)
either_by dir tokens connection d (inl is) = inl (keeps_dir dir tokens connection d is.change)
either_by dir tokens connection d (inr (inl is)) = inl (keeps_dir dir tokens connection d is.change)
either_by dir tokens connection d (inr (inr is)) =
    inr (
      record { id = is.id; tag = is.tag; output = ap (reply_output connection) is.reply },
      keeps_tokens dir tokens
          connection d is.drops,
    )

pub changes_or_succeeds : (dir : Directory) (tokens : List (Option Token)) (frame : Frame) (bytes : List ℕ)
    → frame.body ≡ body.Message bytes
    → SucceedsOr dir tokens frame.connection (answer dir tokens frame)
changes_or_succeeds dir tokens frame bytes is =
    let d = message_decided dir (token_of tokens frame.connection) bytes in
    subst (SucceedsOr dir tokens frame.connection) (sym (message_at dir tokens frame bytes is))
    (either_by dir tokens frame.connection d (message_one dir (token_of tokens frame.connection) bytes))

-- ---- what is refused

-- frames of one kind on one connection that are the same have the same body
same_output : (kind connection : ℕ) (a b : List ℕ) → output_frame kind connection a ≡ output_frame kind connection b
    → a ≡ b
unfolding output_frame
same_output kind connection a b is =
    let rest : be_bytes 2 connection ++ (be_bytes 4 (length a) ++ a) ≡ be_bytes 2 connection
    ++ (be_bytes 4 (length b) ++ b) = cc in
    (same_parts (be_bytes 4 (length a)) (be_bytes 4 (length b)) a b
    (length-be_bytes 4 (length a) ∙ sym (length-be_bytes 4 (length b)))
    (append_cancel_left (be_bytes 2 connection) _ _ rest)).1

done_some : (id tag code : ℕ) (matched text : List ℕ) → [] ≡ done id tag code matched text → ⊥
unfolding element_bytes header
done_some id tag code matched text is = cc

refused_by : (dir : Directory) (tokens : List (Option Token)) (connection code : ℕ) (d : Decision) → IsOneOf d
    → HasCode connection code (decided dir tokens connection d) → (code ≡ 0 → ⊥)
    → LeavesAll dir tokens (decided dir tokens connection d)
refused_by dir tokens connection code d (inl is) has some = leaves dir tokens connection d is
refused_by dir tokens connection code d (inr (inl is)) has some =
    let same : d.reply ≡ done has.id has.tag code has.matched has.text = same_output 0x82 connection _ _ has.output in
    absurd (done_some has.id has.tag code has.matched has.text (sym is.reply ∙ same))
refused_by dir tokens connection code d (inr (inr is)) has some =
    let same : d.reply ≡ done has.id has.tag code has.matched has.text = same_output 0x82 connection _ _ has.output in
    absurd (some (same_code is.id is.tag code [] [] has.matched has.text has.id has.tag (sym is.reply ∙ same)))

pub refused_leaves : (dir : Directory) (tokens : List (Option Token)) (frame : Frame) (bytes : List ℕ) (code : ℕ)
    → frame.body ≡ body.Message bytes
    → HasCode frame.connection code (answer dir tokens frame) → (code ≡ 0 → ⊥)
    → LeavesAll dir tokens (answer dir tokens frame)
refused_leaves dir tokens frame bytes code is has some =
    let at = message_at dir tokens frame bytes is in
    let d = message_decided dir (token_of tokens frame.connection) bytes in
    subst (LeavesAll dir tokens) (sym at)
    (refused_by dir tokens frame.connection code d (message_one dir (token_of tokens frame.connection) bytes)
    (subst (HasCode frame.connection code) at has) some)

-- ---- what isn't a change

op_quiet : (dir : Directory) (token : Token) (m : MessageValue) (op : OpValue) → IsNoChange op
    → (op_decided dir token m op).change ≡ None
op_quiet dir token m Bind is = refl
op_quiet dir token m Unbind is = refl
op_quiet dir token m (SearchOf s) is = refl
op_quiet dir token m (CompareOf c) is = refl
op_quiet dir token m (ModifyOf x) is = absurd is
op_quiet dir token m (AddOf x) is = absurd is
op_quiet dir token m (DeleteOf x) is = absurd is
op_quiet dir token m (RenameOf x) is = absurd is
op_quiet dir token m Abandon is = refl
op_quiet dir token m Extended is = refl

reading_quiet : (dir : Directory) (token : Token) (r : Result MessageValue LdapFault) → AsksNoChange r
    → (reading_decided dir token r).change ≡ None
reading_quiet dir token (Ok m) is = op_quiet dir token m m.op is
reading_quiet dir token (Err fault) is = refl

message_quiet : (dir : Directory) (token : Token) (bytes : List ℕ) → AsksNoChange (message_of bytes)
    → (message_decided dir token bytes).change ≡ None
unfolding message_decided
message_quiet dir token bytes is = reading_quiet dir token (message_of bytes) is

body_leaves : (dir : Directory) (tokens : List (Option Token)) (connection : ℕ) (b : FrameBody) → IsReadBody b
    → (body_answered dir tokens connection b).directory ≡ dir
body_leaves dir tokens connection (body.Token token) is = refl
body_leaves dir tokens connection (body.Message bytes) is =
    keeps_dir dir tokens connection (message_decided dir (token_of tokens connection) bytes)
    (message_quiet dir (token_of tokens connection) bytes is)
body_leaves dir tokens connection (body.Steps n) is = absurd is
body_leaves dir tokens connection body.Run is = absurd is

pub read_leaves : (dir : Directory) (tokens : List (Option Token)) (frame : Frame) → IsRead frame
    → (answer dir tokens frame).directory ≡ dir
unfolding answer
read_leaves dir tokens frame is = body_leaves dir tokens frame.connection frame.body is

-- ---- a search and a compare

op_question : (dir : Directory) (token : Token) (m : MessageValue) (op : OpValue) → IsQuestion op
    → IsQuiet (op_decided dir token m op)
op_question dir token m Bind is = absurd is
op_question dir token m Unbind is = absurd is
op_question dir token m (SearchOf s) is = record { change = refl; drops = refl }
op_question dir token m (CompareOf c) is = record { change = refl; drops = refl }
op_question dir token m (ModifyOf x) is = absurd is
op_question dir token m (AddOf x) is = absurd is
op_question dir token m (DeleteOf x) is = absurd is
op_question dir token m (RenameOf x) is = absurd is
op_question dir token m Abandon is = absurd is
op_question dir token m Extended is = absurd is

decided_of : (dir : Directory) (token : Token) (bytes : List ℕ) (r : Result MessageValue LdapFault) → message_of bytes
    ≡ r
    → message_decided dir token bytes ≡ reading_decided dir token r
unfolding message_decided
decided_of dir token bytes r is = ap (reading_decided dir token) is

pub question_leaves : (dir : Directory) (tokens : List (Option Token)) (frame : Frame) (bytes : List ℕ)
    (m : MessageValue)
    → frame.body ≡ body.Message bytes → message_of bytes ≡ Ok m → IsQuestion m.op
    → LeavesAll dir tokens (answer dir tokens frame)
question_leaves dir tokens frame bytes m is read asks =
    let token = token_of tokens frame.connection in
    subst (LeavesAll dir tokens) (sym (message_at dir tokens frame bytes is))
    (leaves dir tokens frame.connection (message_decided dir token bytes)
    (subst IsQuiet (sym (decided_of dir token bytes (Ok m) read)) (op_question dir token m m.op asks)))

-- ---- steps where nothing is pending

step_nothing : (dir : Directory) → dir.pending ≡ [] → step dir ≡ dir
unfolding step
step_nothing dir none = ap (λ (pending : List Pending). stepped dir pending) none

pub steps_nothing : (n : ℕ) (dir : Directory) → dir.pending ≡ [] → steps n dir ≡ dir
unfolding steps
steps_nothing zero dir none = refl
steps_nothing (suc n) dir none = ap (steps n) (step_nothing dir none) ∙ steps_nothing n dir none

steps_at : (dir : Directory) (tokens : List (Option Token)) (frame : Frame) (n : ℕ) → frame.body ≡ body.Steps n
    → answer dir tokens frame ≡ steps_answered dir tokens frame.connection n
unfolding answer
steps_at dir tokens frame n is = ap (body_answered dir tokens frame.connection) is

pub idle_leaves : (dir : Directory) (tokens : List (Option Token)) (frame : Frame) (n : ℕ) → frame.body ≡ body.Steps n
    → dir.pending ≡ []
    → LeavesAll dir tokens (answer dir tokens frame)
idle_leaves dir tokens frame n is none = record {
  directory = ap (λ (a : Answered). a.directory) (steps_at dir tokens frame n is) ∙ steps_nothing n dir none;
  tokens_are = ap (λ (a : Answered). a.tokens) (steps_at dir tokens frame n is);
}

-- ---- a change that makes what is there already

changed_same : (dir : Directory) (token : Token) (m : MessageValue) (tag : ℕ) (s : Settings) → effect dir token m.op s
    ≡ changes_to dir
    → changed dir token m tag (Ok s) ≡ by_effect m.id tag (changes_to dir)
changed_same dir token m tag s same = ap (by_effect m.id tag) same

-- the decision: success, and the directory from before
abbrev IsSame : Directory → MessageValue → Decision → Type 0
IsSame dir m d = (tag : ℕ) × (d ≡ by_effect m.id tag (changes_to dir))

same_by : (dir : Directory) (token : Token) (m : MessageValue) (tag : ℕ) (s : Settings) → settings_of m ≡ Ok s
    → effect dir token m.op s ≡ changes_to dir
    → IsSame dir m (changed dir token m tag (settings_of m))
same_by dir token m tag s asked same =
    (tag, ap (changed dir token m tag) asked ∙ changed_same dir token m tag s same)

op_same : (dir : Directory) (token : Token) (m : MessageValue) (op : OpValue) (s : Settings) → (IsNoChange op → ⊥)
    → settings_of m ≡ Ok s
    → effect dir token m.op s ≡ changes_to dir → IsSame dir m (op_decided dir token m op)
op_same dir token m Bind s is asked same = absurd (is tt)
op_same dir token m Unbind s is asked same = absurd (is tt)
op_same dir token m (SearchOf x) s is asked same = absurd (is tt)
op_same dir token m (CompareOf x) s is asked same = absurd (is tt)
op_same dir token m (ModifyOf x) s is asked same = same_by dir token m 103 s asked same
op_same dir token m (AddOf x) s is asked same = same_by dir token m 105 s asked same
op_same dir token m (DeleteOf x) s is asked same = same_by dir token m 107 s asked same
op_same dir token m (RenameOf x) s is asked same = same_by dir token m 109 s asked same
op_same dir token m Abandon s is asked same = absurd (is tt)
op_same dir token m Extended s is asked same = absurd (is tt)

succeeds_same : (dir : Directory) (tokens : List (Option Token)) (connection : ℕ) (m : MessageValue) (d : Decision)
    → IsSame dir m d
    → LeavesAll dir tokens (decided dir tokens connection d) × Succeeds connection (decided dir tokens connection d)
succeeds_same dir tokens connection m d is =
    subst (λ (e : Decision). LeavesAll dir tokens (decided dir tokens connection e)
    × Succeeds connection (decided dir tokens connection e)) (sym is.1)
    (record { directory = refl; tokens_are = refl }, record { id = m.id; tag = is.0; output = refl })

pub same_leaves : (dir : Directory) (tokens : List (Option Token)) (frame : Frame) (bytes : List ℕ) (m : MessageValue)
    (s : Settings)
    → frame.body ≡ body.Message bytes → message_of bytes ≡ Ok m → (IsNoChange m.op → ⊥) → settings_of m ≡ Ok s
    → effect dir (token_of tokens frame.connection) m.op s ≡ changes_to dir
    → LeavesAll dir tokens (answer dir tokens frame) × Succeeds frame.connection (answer dir tokens frame)
same_leaves dir tokens frame bytes m s is read changes asked same =
    let token = token_of tokens frame.connection in
    let d = message_decided dir token bytes in
    subst (λ (a : Answered). LeavesAll dir tokens a × Succeeds frame.connection a)
    (sym (message_at dir tokens frame bytes is))
    (succeeds_same dir tokens frame.connection m d
    (subst (IsSame dir m) (sym (decided_of dir token bytes (Ok m) read))
    (op_same dir token m m.op s changes asked same)))
