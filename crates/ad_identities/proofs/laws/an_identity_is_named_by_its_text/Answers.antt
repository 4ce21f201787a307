use Rattle.ad_ids.specs.SidText.{sid_text}
use Rattle.ad_identities.proofs.Texts.{text_names}
use Rattle.ad_identities.proofs.laws.an_identity_is_named_by_its_text.Goals as goal

pub returns : goal.returns
returns c =
    let sid = c.args.identity.now.sid in
    text_names c.args.dir.now c.args.identity.now (sid_text sid) c.invariants.ensures c.requires
    ((c.what_a_sid_s_text_spells.ensures sid (sid_text sid)).1
    (c.an_identifier_is_spelled_by_its_text.ensures sid c.has_its_ranges.ensures))
