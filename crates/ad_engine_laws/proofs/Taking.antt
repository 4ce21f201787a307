-- What a machine makes of a log, with the frames of readers in between.
use Rattle.std.proofs.Common.{◌≡◌, ◌∙◌, ℕ, zero, suc, List, [], ◌∷◌, ◌++◌, Option, refl, sym, ap, append_assoc}
use Rattle.std.specs.Prelude.{unwrap_or}
use Rattle.std.proofs.lemmas.List.{append-nil}
use Rattle.ad_ids.specs.declared.token.Token.{Token}
use Rattle.ad_dir_model.specs.Directory.{Directory}
use Rattle.ad_frames.specs.declared.frame.Frame.{Frame}
use Rattle.ad_engine.specs.Answer.{answer}
use Rattle.ad_engine_answer.specs.Messages.{message_decided}
use Rattle.ad_engine_answer.specs.Output.{token_output, reply_output}
use Rattle.ad_engine.specs.Runs.{no_tokens, out_from, after_from, after}
use Rattle.ad_engine_store.specs.Tokens.{token_of, with_token}
use Rattle.ad_engine_laws.specs.Log.{LogEntry, sent, worked, protected, applied, all_applied, answer_to, frames_for}
use Rattle.ad_engine_laws.specs.Log.{output_for, Item, taken, held, other, frames_of, frames_in, entries_of, entries_in}
use Rattle.ad_engine_laws.specs.Log.{tokens_after, IsSent, AreSent}
use Rattle.ad_engine_laws.proofs.Leaving.{read_leaves}

-- ---- frames in two parts

after_both : (dir : Directory) (tokens : List (Option Token)) (first second : List Frame)
    → after_from dir tokens (first ++ second) ≡ after_from (after_from dir tokens first)
    (tokens_after dir tokens first) second
unfolding after_from tokens_after
after_both dir tokens [] second = refl
after_both dir tokens (frame ∷ first) second =
    after_both (answer dir tokens frame).directory (answer dir tokens frame).tokens first second

out_both : (dir : Directory) (tokens : List (Option Token)) (first second : List Frame)
    → out_from dir tokens (first ++ second) ≡ out_from dir tokens first ++ out_from (after_from dir tokens first)
    (tokens_after dir tokens first) second
unfolding out_from after_from tokens_after
out_both dir tokens [] second = refl
out_both dir tokens (frame ∷ first) second =
    let a = answer dir tokens frame in
    ap (λ (l : List ℕ). a.output ++ l) (out_both a.directory a.tokens first second)
    ∙ sym (append_assoc a.output (out_from a.directory a.tokens first)
    (out_from (after_from a.directory a.tokens first) (tokens_after a.directory a.tokens first) second))

frames_both : (first second : List Item) → frames_in (first ++ second) ≡ frames_in first ++ frames_in second
unfolding frames_in
frames_both [] second = refl
frames_both (item ∷ first) second =
    ap (λ (l : List Frame). frames_of item ++ l) (frames_both first second)
    ∙ sym (append_assoc (frames_of item) (frames_in first) (frames_in second))

-- ---- one entry

-- the token that a connection was given is its own
token_given : (connection : ℕ) (token : Token) (tokens : List (Option Token))
    → token_of (with_token connection token tokens) connection ≡ token
unfolding token_of with_token
token_given zero token [] = refl
token_given zero token (x ∷ tokens) = refl
token_given (suc n) token [] = token_given n token []
token_given (suc n) token (x ∷ tokens) = token_given n token tokens

entry_after : (dir : Directory) (tokens : List (Option Token)) (connection : ℕ) (entry : LogEntry)
    → after_from dir tokens (frames_for connection entry) ≡ applied dir entry
unfolding after_from answer frames_for applied
entry_after dir tokens connection (sent token bytes) =
    ap (λ (t : Token). unwrap_or (message_decided dir t bytes).change dir) (token_given connection token tokens)
entry_after dir tokens connection (worked n) = refl
entry_after dir tokens connection protected = refl

entry_out : (dir : Directory) (tokens : List (Option Token)) (connection : ℕ) (entry : LogEntry)
    → out_from dir tokens (frames_for connection entry) ≡ output_for connection dir entry
unfolding out_from answer frames_for output_for answer_to
entry_out dir tokens connection (sent token bytes) =
    ap (λ (t : Token). token_output connection ++ (reply_output connection (message_decided dir t bytes).reply ++ []))
    (token_given connection token tokens)
    ∙ ap (λ (l : List ℕ). token_output connection ++ l)
    (append-nil (reply_output connection (message_decided dir token bytes).reply))
entry_out dir tokens connection (worked n) = append-nil _
entry_out dir tokens connection protected = append-nil _

message_after : (dir : Directory) (tokens : List (Option Token)) (connection : ℕ) (token : Token) (bytes : List ℕ)
    → token_of tokens connection ≡ token
    → after_from dir tokens (frames_of (held connection token bytes)) ≡ applied dir (sent token bytes)
unfolding after_from answer frames_of applied
message_after dir tokens connection token bytes has =
    ap (λ (t : Token). unwrap_or (message_decided dir t bytes).change dir) has

message_out : (dir : Directory) (tokens : List (Option Token)) (connection : ℕ) (token : Token) (bytes : List ℕ)
    → token_of tokens connection ≡ token
    → out_from dir tokens (frames_of (held connection token bytes))
    ≡ reply_output connection (answer_to dir (sent token bytes))
unfolding out_from answer frames_of answer_to
message_out dir tokens connection token bytes has =
    append-nil (reply_output connection (message_decided dir (token_of tokens connection) bytes).reply)
    ∙ ap (λ (t : Token). reply_output connection (message_decided dir t bytes).reply) has

-- ---- what a machine was sent

item_after : (dir : Directory) (tokens : List (Option Token)) (item : Item) → IsSent tokens item
    → after_from dir tokens (frames_of item) ≡ all_applied dir (entries_of item)
unfolding after_from frames_of entries_of all_applied
item_after dir tokens (taken connection entry) is = entry_after dir tokens connection entry
item_after dir tokens (held connection token bytes) is = message_after dir tokens connection token bytes is
item_after dir tokens (other frame) is = read_leaves dir tokens frame is

pub applied_both : (dir : Directory) (first second : List LogEntry) → all_applied dir (first ++ second)
    ≡ all_applied (all_applied dir first) second
unfolding all_applied
applied_both dir [] second = refl
applied_both dir (entry ∷ first) second = applied_both (applied dir entry) first second

pub taken_all : (dir : Directory) (tokens : List (Option Token)) (items : List Item) → AreSent dir tokens items
    → after_from dir tokens (frames_in items) ≡ all_applied dir (entries_in items)
unfolding after_from frames_in entries_in all_applied AreSent
taken_all dir tokens [] are = refl
taken_all dir tokens (item ∷ items) are =
    after_both dir tokens (frames_of item) (frames_in items)
    ∙ taken_all (after_from dir tokens (frames_of item)) (tokens_after dir tokens (frames_of item)) items are.1
    ∙ ap (λ (d : Directory). all_applied d (entries_in items)) (item_after dir tokens item are.0)
    ∙ sym (applied_both dir (entries_of item) (entries_in items))

-- ---- in parts

entries_both : (first second : List Item) → entries_in (first ++ second) ≡ entries_in first ++ entries_in second
unfolding entries_in
entries_both [] second = refl
entries_both (item ∷ first) second =
    ap (λ (es : List LogEntry). entries_of item ++ es) (entries_both first second)
    ∙ sym (append_assoc (entries_of item) (entries_in first) (entries_in second))

-- what is promised of the whole
abbrev pub TakesAll : Type 0
TakesAll = (dir : Directory) (tokens : List (Option Token)) (items : List Item) → AreSent dir tokens items
    → after_from dir tokens (frames_in items) ≡ all_applied dir (entries_in items)

pub taken_both : TakesAll → (dir : Directory) (first second : List Item) → AreSent dir no_tokens (first ++ second)
    → AreSent dir no_tokens first → AreSent (after dir (frames_in first)) no_tokens second
    → after dir (frames_in (first ++ second)) ≡ after (after dir (frames_in first)) (frames_in second)
taken_both all dir first second whole a b =
    all dir no_tokens (first ++ second) whole
    ∙ ap (all_applied dir) (entries_both first second) ∙ applied_both dir (entries_in first) (entries_in second)
    ∙ ap (λ (d : Directory). all_applied d (entries_in second)) (sym (all dir no_tokens first a))
    ∙ sym (all (after dir (frames_in first)) no_tokens second b)

-- ---- the answer to an entry

-- the answer to an item, whatever comes after it
out_at : (dir : Directory) (tokens : List (Option Token)) (before behind : List Item) (item : Item)
    → (rest : List ℕ) × (out_from dir tokens (frames_in (before ++ item ∷ behind))
    ≡ out_from dir tokens (frames_in before)
    ++ (out_from (after_from dir tokens (frames_in before)) (tokens_after dir tokens (frames_in before))
    (frames_of item) ++ rest))
unfolding frames_in
out_at dir tokens before behind item =
    let there = after_from dir tokens (frames_in before) in
    let later = tokens_after dir tokens (frames_in before) in
    let rest = out_from (after_from there later (frames_of item)) (tokens_after there later (frames_of item))
    (frames_in behind) in (
      rest,
      ap (out_from dir tokens) (frames_both before (item ∷ behind))
          ∙ out_both dir tokens (frames_in before) (frames_of item ++ frames_in behind)
          ∙ ap (λ (l : List ℕ). out_from dir tokens (frames_in before) ++ l)
          (out_both there later (frames_of item) (frames_in behind)),
    )

pub answered_at : (dir : Directory) (tokens : List (Option Token)) (before behind : List Item) (connection : ℕ)
    (entry : LogEntry) → AreSent dir tokens before
    → (rest : List ℕ) × (out_from dir tokens (frames_in (before ++ taken connection entry ∷ behind))
    ≡ out_from dir tokens (frames_in before)
    ++ (output_for connection (all_applied dir (entries_in before)) entry ++ rest))
unfolding frames_of
answered_at dir tokens before behind connection entry are =
    let there = after_from dir tokens (frames_in before) in
    let later = tokens_after dir tokens (frames_in before) in
    let found = out_at dir tokens before behind (taken connection entry) in (
      found.0,
      found.1
          ∙ ap (λ (l : List ℕ). out_from dir tokens (frames_in before) ++ (l ++ found.0))
          (entry_out there later connection entry
          ∙ ap (λ (d : Directory). output_for connection d entry) (taken_all dir tokens before are)),
    )

pub message_answered_at : (dir : Directory) (tokens : List (Option Token)) (before behind : List Item)
    (connection : ℕ) (token : Token) (bytes : List ℕ) → AreSent dir tokens before
    → token_of (tokens_after dir tokens (frames_in before)) connection ≡ token
    → (rest : List ℕ) × (out_from dir tokens (frames_in (before ++ held connection token bytes ∷ behind))
    ≡ out_from dir tokens (frames_in before)
    ++ (reply_output connection (answer_to (all_applied dir (entries_in before)) (sent token bytes)) ++ rest))
message_answered_at dir tokens before behind connection token bytes are has =
    let there = after_from dir tokens (frames_in before) in
    let later = tokens_after dir tokens (frames_in before) in
    let found = out_at dir tokens before behind (held connection token bytes) in (
      found.0,
      found.1
          ∙ ap (λ (l : List ℕ). out_from dir tokens (frames_in before) ++ (l ++ found.0))
          (message_out there later connection token bytes has
          ∙ ap (λ (d : Directory). reply_output connection (answer_to d (sent token bytes)))
          (taken_all dir tokens before are)),
    )

-- ---- two machines

pub agreed : TakesAll → (dir : Directory) (here there : List Item) → AreSent dir no_tokens here
    → AreSent dir no_tokens there → entries_in here ≡ entries_in there
    → after dir (frames_in here) ≡ after dir (frames_in there)
agreed all dir here there a b same = all dir no_tokens here a ∙ ap (all_applied dir) same
    ∙ sym (all dir no_tokens there b)
