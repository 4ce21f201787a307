-- What is audited of frames, one after the other.
use Rattle.std.proofs.Common.{◌≡◌, ◌∙◌, ℕ, suc, ◌+◌, Bool, false, Option, Some, None, List, [], ◌∷◌, ◌++◌, length}
use Rattle.std.proofs.Common.{take, refl, sym, ap, append_assoc, arith}
use Rattle.std.proofs.lemmas.List.{append-nil}
use Rattle.ad_ids.specs.declared.token.Token.{Token}
use Rattle.std.specs.Prelude.{unwrap_or, is_some}
use Rattle.std.specs.List.{list_any, flat_map}
use Rattle.std.specs.Option.{option_map_or}
use Rattle.ad_ids.specs.SidValue.{SidValue}
use Rattle.ad_ids.specs.declared.guid.Guid.{Guid}
use Rattle.ad_dir_model.specs.Directory.{Directory}
use Rattle.ad_dir_model.specs.Identity.{self_sid}
use Rattle.ad_dir_model.specs.Object.{Object, no_object}
use Rattle.ad_dir_model.specs.Objects.{object_of, object_at, sd_at}
use Rattle.ad_frames.specs.declared.frame.FrameBody.{FrameBody}
use Rattle.ad_frames.specs.declared.frame.FrameBody.TheVariants as body
use Rattle.ad_types.specs.Tried.{TriedValue}
use Rattle.ad_sd.specs.declared.parts.Sd.{Sd}
use Rattle.ad_audit.specs.Audited.{is_audit, audited}
use Rattle.ad_engine_store.specs.Tokens.{token_of}
use Rattle.cmd_audit.specs.declared.events.Stamp.{Stamp}
use Rattle.cmd_audit.specs.Tries.{message_tries}
use Rattle.ad_frames.specs.declared.frame.Frame.{Frame}
use Rattle.ad_engine.specs.Answer.{answer}
use Rattle.ad_engine.specs.Runs.{no_tokens, after_from, after}
use Rattle.cmd_audit.specs.Log.{is_audited, lines_of_one, lines_of, body_lines, stamp_of, frame_lines, audit_from}
use Rattle.cmd_audit.specs.Log.{audit_text}
use Rattle.cmd_audit.specs.State.{State, behind, tokens_from, tokens_after}

-- ---- more frames

pub audit_append : (n : ℕ) (dir : Directory) (tokens : List (Option Token)) (xs ys : List Frame)
    → audit_from n dir tokens (xs ++ ys) ≡ audit_from n dir tokens xs ++ audit_from (n + length xs)
    (after_from dir tokens xs) (tokens_from dir tokens xs) ys
unfolding audit_from after_from tokens_from
audit_append n dir tokens [] ys = let same : n ≡ n + 0 = omega arith in ap (λ (k : ℕ). audit_from k dir tokens ys) same
audit_append n dir tokens (x ∷ xs) ys =
    let next = answer dir tokens x in
    let same : suc n + length xs ≡ n + suc (length xs) = omega arith in
    ap (λ (l : List ℕ). frame_lines dir tokens n x ++ l) (audit_append (suc n) next.directory next.tokens xs ys)
    ∙ sym (append_assoc (frame_lines dir tokens n x) _ _)
    ∙ ap (λ (k : ℕ). (frame_lines dir tokens n x ++ audit_from (suc n) next.directory next.tokens xs)
    ++ audit_from k (after_from next.directory next.tokens xs) (tokens_from next.directory next.tokens xs) ys) same

audit_one : (n : ℕ) (dir : Directory) (tokens : List (Option Token)) (x : Frame) → audit_from n dir tokens (x ∷ [])
    ≡ frame_lines dir tokens n x
unfolding audit_from
audit_one n dir tokens x = append-nil (frame_lines dir tokens n x)

after_push_from : (dir : Directory) (tokens : List (Option Token)) (xs : List Frame) (x : Frame)
    → after_from dir tokens (xs ++ x ∷ []) ≡ (answer (after_from dir tokens xs) (tokens_from dir tokens xs) x).directory
unfolding after_from tokens_from
after_push_from dir tokens [] x = refl
after_push_from dir tokens (y ∷ xs) x = after_push_from (answer dir tokens y).directory (answer dir tokens y).tokens
    xs x

tokens_push_from : (dir : Directory) (tokens : List (Option Token)) (xs : List Frame) (x : Frame)
    → tokens_from dir tokens (xs ++ x ∷ []) ≡ (answer (after_from dir tokens xs) (tokens_from dir tokens xs) x).tokens
unfolding after_from tokens_from
tokens_push_from dir tokens [] x = refl
tokens_push_from dir tokens (y ∷ xs) x = tokens_push_from (answer dir tokens y).directory (answer dir tokens y).tokens
    xs x

-- ---- what frames come to

abbrev pub reached : Directory → List Frame → State
reached dir frames = record { directory = after dir frames; tokens = tokens_after dir frames }

abbrev pub a_state : Directory → List (Option Token) → State
a_state dir tokens = record { directory = dir; tokens = tokens }

pub state_of : (d e : Directory) (ts us : List (Option Token)) → d ≡ e → ts ≡ us → a_state d ts ≡ a_state e us
state_of d e ts us p q = ap (λ (x : Directory). a_state x ts) p ∙ ap (λ (y : List (Option Token)). a_state e y) q

pub reached_none : (dir : Directory) (tokens : List (Option Token)) → tokens ≡ [] → a_state dir tokens ≡ reached dir []
unfolding after_from tokens_from
reached_none dir tokens none = state_of dir dir tokens [] refl none

pub reached_push : (dir : Directory) (frames : List Frame) (frame : Frame) → behind (reached dir frames) frame
    ≡ reached dir (frames ++ frame ∷ [])
reached_push dir frames frame = state_of _ _ _ _ (sym (after_push_from dir no_tokens frames frame))
    (sym (tokens_push_from dir no_tokens frames frame))

pub text_none : (dir : Directory) → audit_text dir [] ≡ []
unfolding audit_from
text_none dir = refl

-- the lines of one frame more
pub text_push : (dir : Directory) (frames : List Frame) (frame : Frame)
    → audit_text dir (frames ++ frame ∷ []) ≡ audit_text dir frames ++ frame_lines (after dir frames)
    (tokens_after dir frames) (1 + length frames) frame
text_push dir frames frame =
    audit_append 1 dir no_tokens frames (frame ∷ [])
    ∙ ap (λ (l : List ℕ). audit_text dir frames ++ l)
    (audit_one (1 + length frames) (after dir frames) (tokens_after dir frames) frame)

-- a list begins with the lines of its first part
pub text_append : (dir : Directory) (xs ys : List Frame) → (rest : List ℕ)
    × (audit_text dir (xs ++ ys) ≡ audit_text dir xs ++ rest)
text_append dir xs ys = (
  audit_from (1 + length xs) (after dir xs) (tokens_after dir xs) ys,
  audit_append 1 dir
      no_tokens xs ys,
)

-- ---- where nothing asks for an event

flat_none : {A : Type 0} (f : A → List ℕ) → ((x : A) → f x ≡ []) → (xs : List A) → flat_map f xs ≡ []
flat_none f none [] = refl
flat_none f none (x ∷ xs) = ap (λ (l : List ℕ). l ++ flat_map f xs) (none x) ∙ flat_none f none xs

-- a list without an audit entry asks for nothing
abbrev pub AuditsNothing : Type 0
AuditsNothing = (sd : Sd) (token : Token) (self : Option SidValue) (path : List Guid) (right : ℕ) (success : Bool)
    → list_any is_audit sd.sacl.entries ≡ false → audited sd token self path right success ≡ None

by_object : AuditsNothing → (r : Option Object) (token : Token) (self : Option SidValue) (path : List Guid)
    (right : ℕ) (success : Bool)
    → list_any is_audit (unwrap_or r no_object).sd.sacl.entries ≡ false
    → option_map_or (λ (o : Object). is_some (audited o.sd token self path right success)) r false ≡ false
by_object law None token self path right success none = refl
by_object law (Some o) token self path right success none = ap is_some (law o.sd token self path right success none)

not_audited : AuditsNothing → (dir : Directory) (token : Token) (t : TriedValue)
    → list_any is_audit (sd_at dir.objects t.object).sacl.entries ≡ false → is_audited dir token t ≡ false
unfolding is_audited object_at
not_audited law dir token t none = by_object law (object_of dir.objects t.object) token (self_sid dir t.object) t.path
    t.right t.success none

abbrev AsksNothing : Directory → Type 0
AsksNothing dir = (number : ℕ) → list_any is_audit (sd_at dir.objects number).sacl.entries ≡ false

one_quiet : AuditsNothing → (dir : Directory) (token : Token) (stamp : Stamp) (t : TriedValue) → AsksNothing dir
    → lines_of_one dir token stamp t ≡ []
one_quiet law dir token stamp t none = rw (not_audited law dir token t (none t.object)) refl

body_quiet : AuditsNothing → (dir : Directory) (token : Token) (stamp : Stamp) (b : FrameBody) → AsksNothing dir
    → body_lines dir token stamp b ≡ []
unfolding lines_of
body_quiet law dir token stamp (body.Message bytes) none = flat_none (lines_of_one dir token stamp)
    (λ t. one_quiet law dir token stamp t none) (message_tries dir token bytes)
body_quiet law dir token stamp (body.Token _) none = refl
body_quiet law dir token stamp (body.Steps _) none = refl
body_quiet law dir token stamp body.Run none = refl

pub quiet_from : AuditsNothing → (n : ℕ) (dir : Directory) (tokens : List (Option Token)) (frames : List Frame)
    → ((k : ℕ) → AsksNothing (after_from dir tokens (take k frames))) → audit_from n dir tokens frames ≡ []
unfolding audit_from after_from frame_lines
quiet_from law n dir tokens [] none = refl
quiet_from law n dir tokens (frame ∷ frames) none =
    ap (λ (l : List ℕ). l ++ audit_from (suc n) (answer dir tokens frame).directory (answer dir tokens frame).tokens
    frames)
    (body_quiet law dir (token_of tokens frame.connection) (stamp_of n frame.connection) frame.body (none 0))
    ∙ quiet_from law (suc n) (answer dir tokens frame).directory (answer dir tokens frame).tokens frames
    (λ k. none (suc k))
