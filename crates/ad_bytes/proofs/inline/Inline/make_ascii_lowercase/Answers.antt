use Rattle.std.proofs.Common.{◌∙◌, take, ap}
use Rattle.std.specs.Char.{to_ascii_lowercase}
use Rattle.std.proofs.lemmas.List.{take-map}
use Rattle.ad_bytes.proofs.inline.Inline.make_ascii_lowercase.Goals as goal

-- src/inline.rt:66:5
pub returns : goal.returns
returns c = ap (take c.args.self.now.len) c.make_ascii_lowercase.ensures.after ∙ take-map to_ascii_lowercase
    c.args.self.now.len c.args.self.now.bytes
