-- What one message of the lines does, where it is answered 0.
use Rattle.std.proofs.Common.{◌≡◌, ℕ, false, List, [], ◌++◌, length, drop, Option, Ok, refl, sym, ap, subst, ◌∙◌, arith}
use Rattle.std.proofs.lemmas.List.{append_cancel_left, drop_at}
use Rattle.ad_bytes.specs.Numbers.{be_bytes, byte_at, be_at, part_at}
use Rattle.ad_bytes.proofs.Codec.{length-be_bytes}
use Rattle.ad_ids.specs.declared.token.Token.{Token}
use Rattle.ad_sd.specs.declared.parts.AceList.{AceList}
use Rattle.ad_sd.specs.Reading.{parts_of}
use Rattle.ad_ber.specs.Reading.{tag_at, long_at, length_behind, length_at, element_at}
use Rattle.ad_ldap.specs.MessageReading.{message_of as message_read}
use Rattle.ad_ldap.specs.MessageValue.{message_seen}
use Rattle.ad_ldap.specs.Settings.{settings_of}
use Rattle.ad_ldap.proofs.MessageCodec.{message_again}
use Rattle.ad_ldifmod_message.specs.Written.{message_bytes}
use Rattle.ad_ldifmod_message.proofs.Spelled.{message_spelled}
use Rattle.ad_dir_model.specs.Directory.{Directory}
use Rattle.ad_change.specs.Effects.{Effect, answered, changes_to, effect}
use Rattle.ad_engine.specs.Answer.{decided, answer}
use Rattle.ad_engine_answer.specs.Messages.{by_effect, done, message_decided}
use Rattle.ad_engine_answer.specs.Output.{output_frame, reply_output}
use Rattle.ad_engine_store.specs.Tokens.{token_of}
use Rattle.ad_ldifmod.specs.Grants.{IsOfFrame}
use Rattle.ad_ldifmod.specs.Messages.{max_message, list_alone, modify}
use Rattle.ad_ldifmod_laws.specs.Serving.{message_frame, success_of}
use Rattle.ad_ldifmod_laws.proofs.Effects.{IsMadeOf, EffectIs, effect_is}
use Rattle.ad_ldifmod_laws.proofs.Replies.{same_code}

flags_read : (id : ℕ) (name sd : List ℕ) → settings_of (message_seen (modify id name sd))
    ≡ Ok (record { sd_flags = 4; tree = false })
unfolding settings_of tag_at long_at length_behind length_at element_at byte_at be_at part_at
flags_read id name sd = refl

message_is_read : (id : ℕ) (name sd : List ℕ) → IsOfFrame (modify id name sd)
    → message_read (message_bytes (message_seen (modify id name sd))) ≡ Ok (message_seen (modify id name sd))
unfolding max_message
message_is_read id name sd is =
    let m = message_seen (modify id name sd) in
    message_again (message_bytes m) m (message_spelled m is.written (omega (arith, is.fits)))

decided_is : (dir : Directory) (token : Token) (id : ℕ) (name sd : List ℕ) → IsOfFrame (modify id name sd)
    → message_decided dir token (message_bytes (message_seen (modify id name sd)))
    ≡ by_effect id 103 (effect dir token (message_seen (modify id name sd)).op (record { sd_flags = 4; tree = false }))
unfolding message_decided
decided_is dir token id name sd is = rw (message_is_read id name sd is, flags_read id name sd) refl

-- the reply of a frame
same_reply : (connection : ℕ) (a b : List ℕ) → reply_output connection a ≡ reply_output connection b → a ≡ b
unfolding output_frame
same_reply connection a b e =
    let rest : be_bytes 2 connection ++ (be_bytes 4 (length a) ++ a) ≡ be_bytes 2 connection
    ++ (be_bytes 4 (length b) ++ b) = ap (drop 1) e in
    let bodies : be_bytes 4 (length a) ++ a ≡ be_bytes 4 (length b) ++ b = append_cancel_left (be_bytes 2 connection)
    _ _ rest in
    sym (drop_at (be_bytes 4 (length a)) a 4 (length-be_bytes 4 (length a))) ∙ ap (drop 4) bodies
    ∙ drop_at (be_bytes 4 (length b)) b 4 (length-be_bytes 4 (length b))

success_made : (dir : Directory) (tokens : List (Option Token)) (id : ℕ) (name sd : List ℕ) (list : AceList)
    (e : Effect) → EffectIs dir name list e
    → (decided dir tokens 0 (by_effect id 103 e)).output ≡ success_of (modify id name sd)
    → IsMadeOf dir name list (decided dir tokens 0 (by_effect id 103 e)).directory
success_made dir tokens id name sd list (answered number matched text) is out =
    let zero_is : number ≡ 0 = same_code id 103 number 0 matched text (omega arith) (omega arith) is.1 (omega arith)
    (same_reply 0 (done id 103 number matched text) (done id 103 0 [] []) out) in
    absurd (omega (arith, zero_is, is.0))
success_made dir tokens id name sd list (changes_to now) is out = is

pub served_is : (dir : Directory) (tokens : List (Option Token)) (id : ℕ) (name sd : List ℕ) (list : AceList)
    → IsOfFrame (modify id name sd) → parts_of sd ≡ Ok (list_alone list)
    → (answer dir tokens (message_frame (modify id name sd))).output ≡ success_of (modify id name sd)
    → IsMadeOf dir name list (answer dir tokens (message_frame (modify id name sd))).directory
unfolding answer
served_is dir tokens id name sd list is reads out =
    let same = decided_is dir (token_of tokens 0) id name sd is in
    let e : Effect = effect dir (token_of tokens 0) (message_seen (modify id name sd)).op
    (record { sd_flags = 4; tree = false }) in
    subst (λ d. IsMadeOf dir name list (decided dir tokens 0 d).directory) (sym same)
    (success_made dir tokens id name sd list e (effect_is dir (token_of tokens 0) name sd list reads)
    (sym (ap (λ d. (decided dir tokens 0 d).output) same) ∙ out))
