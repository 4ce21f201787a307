use Rattle.std.proofs.Common.{◌≡◌, length, ap, ◌∙◌}
use Rattle.std.specs.String.{string_bytes}
use Rattle.std.proofs.lemmas.Result.{IfOk-weaker}
use Rattle.uuid.specs.Text.{lower, hyphenated_text}
use Rattle.uuid.specs.Parts.{swap_fields}
use Rattle.ad_ids.specs.GuidText.{guid_text, SpellsGuidText}
use Rattle.ad_ids.proofs.GuidText.{spelled_by_text}
use Rattle.ad_ids.proofs.guid.Guid.text.Goals as goal

pub returns-clause-text : goal.returns-clause-text
returns-clause-text c =
    let bytes : c.hyphenated.result ≡ swap_fields c.args.self.now.bytes = cc in
    IfOk-weaker c.from_str.result _ (λ text. string_bytes text ≡ guid_text c.args.self.now)
    (λ text same. same ∙ c.encode_lower.ensures.text ∙ ap (hyphenated_text lower) bytes) c.from_str.ensures.ok

pub returns-clause-spelled : goal.returns-clause-spelled
returns-clause-spelled c =
    let sixteen : length c.args.self.now.bytes ≡ 16 = search in
    let bytes : c.hyphenated.result ≡ swap_fields c.args.self.now.bytes = cc in
    IfOk-weaker c.from_str.result _ (λ text. SpellsGuidText c.args.self.now (string_bytes text))
    (λ text same. rw same (spelled_by_text c.args.self.now c.hyphenated.result c.encode_lower.result.now sixteen
    bytes c.encode_lower.ensures.text c.encode_lower.ensures.parsed)) c.from_str.ensures.ok
