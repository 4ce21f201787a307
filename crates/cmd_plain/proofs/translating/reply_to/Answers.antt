use Rattle.std.proofs.Common.{refl}
use Rattle.std.specs.String.{string_bytes}
use Rattle.cmd_plain.proofs.SddlReplies.{bad_refused, list_refused}
use Rattle.cmd_plain.proofs.translating.reply_to.Goals as goal

pub returns-in-Err-Bad : goal.returns-in-Err-Bad
returns-in-Err-Bad c =
    let read = rw c.in-Err-Bad.field-0-is at c.in-Err-Bad.ensures in
    rw (← c.text_of-text.ensures)
    (bad_refused c.text_of-text.result.now (string_bytes c.in_ok-refusal-in-Err-Bad.field-0) c.word_of.result.now
    c.in-Err-Bad.kind c.in-Err-Bad.place c.if-text-gt-MAX_TEXT_BYTES.false
    (λ parts spelled. read.only parts spelled refl) (read.read refl) (rw c.in-Err-Bad.field-0-is at c.word_of.ensures)
    (rw c.in-Err-Bad.field-0-is at c.in_ok-refusal-in-Err-Bad.ensures))

pub returns-in-Err-TooLong : goal.returns-in-Err-TooLong
returns-in-Err-TooLong c =
    let wrote = rw c.in-Err-TooLong.field-0-is at c.in-Err-TooLong.ensures in
    rw (← c.text_of-text.ensures)
    (list_refused c.text_of-text.result.now (string_bytes c.in_ok-refusal-in-Err-TooLong.field-0) c.in-Ok.parts
    c.if-text-gt-MAX_TEXT_BYTES.false
    c.in-Ok.ensures.found (λ parts spelled. c.in-Ok.ensures.only parts spelled) (wrote.written refl)
    c.in_ok-refusal-in-Err-TooLong.ensures)
