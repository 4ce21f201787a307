use Rattle.std.proofs.Common.{true≢false, sym, ◌∙◌}
use Rattle.uuid.specs.Parts.{swap_fields}
use Rattle.ad_ids.proofs.GuidText.{spelled_by, read_once, parsed_at_36, value_read, value_none, value_other}
use Rattle.ad_ids.proofs.guid.Guid.from_text.Goals as goal

pub returns-in-Ok-clause-found : goal.returns-in-Ok-clause-found
returns-in-Ok-clause-found c =
    spelled_by c.args.text.now c.in-Ok.uuid c.to_bytes_le.result c.if-text-ne-TEXT_LENGTH.false c.in-Ok.ensures.bytes
    c.to_bytes_le.ensures

pub returns-in-Ok-clause-only : goal.returns-in-Ok-clause-only
returns-in-Ok-clause-only c = λ g spelled.
    read_once c.args.text.now c.in-Ok.uuid c.to_bytes_le.result g c.if-text-ne-TEXT_LENGTH.false c.in-Ok.ensures.bytes
    c.to_bytes_le.ensures spelled

pub returns-in-Err-clause-only : goal.returns-in-Err-clause-only
returns-in-Err-clause-only c = λ g spelled.
    absurd (true≢false (sym (c.in-Err.ensures.ok.1
    (swap_fields g.bytes, parsed_at_36 c.args.text.now c.if-text-ne-TEXT_LENGTH.false ∙ spelled.1))))

pub returns-in-Ok-clause-value : goal.returns-in-Ok-clause-value
returns-in-Ok-clause-value c =
    value_read _ c.args.text.now (spelled_by c.args.text.now c.in-Ok.uuid c.to_bytes_le.result
    c.if-text-ne-TEXT_LENGTH.false c.in-Ok.ensures.bytes c.to_bytes_le.ensures)

pub returns-in-Err-clause-value : goal.returns-in-Err-clause-value
returns-in-Err-clause-value c = value_none c.args.text.now (λ g spelled.
    absurd (true≢false (sym (c.in-Err.ensures.ok.1
    (swap_fields g.bytes, parsed_at_36 c.args.text.now c.if-text-ne-TEXT_LENGTH.false ∙ spelled.1)))))

pub returns-then-text-ne-TEXT_LENGTH-clause-value : goal.returns-then-text-ne-TEXT_LENGTH-clause-value
returns-then-text-ne-TEXT_LENGTH-clause-value c = value_other c.args.text.now c.if-text-ne-TEXT_LENGTH.true
