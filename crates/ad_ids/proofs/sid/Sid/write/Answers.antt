use Rattle.std.proofs.Common.{◌≡◌, ℕ, ◌+◌, ◌*◌, List, [], ◌∷◌, ◌++◌, length, drop, refl, sym, ap, ◌∙◌, arith}
use Rattle.ad_bytes.proofs.Codec.{length-be_bytes}
use Rattle.ad_ids.specs.Sid.{sid_bytes}
use Rattle.ad_ids.proofs.SidWriting.{sid_pieces, is_sid, written_by, front_of_written, sized}
use Rattle.ad_ids.proofs.sid.Sid.write.Goals as goal

whole : (c : goal.After-from) → c.put_words.new.into ≡ sid_bytes c.args.self.now ++ drop (8 + 4 * c.from.result)
    c.args.into.now
whole c =
    let old = c.args.into.now in
    let head : List ℕ = 1 ∷ c.self.inside.count ∷ [] in
    let first = c.put.ensures old [] refl refl in
    let second = c.put-2.ensures old head refl first in
    let len : length (head ++ c.authority_bytes.result) ≡ 8 = rw c.authority_bytes.ensures
    (omega (arith, length-be_bytes 6 c.self.inside.authority)) in
    let end : 2 + length c.authority_bytes.result ≡ 8 = omega (arith, len) in
    let eight = second ∙ ap (λ (n : ℕ). (head ++ c.authority_bytes.result) ++ drop n old) end in
    let third = c.put_words.ensures.put old (head ++ c.authority_bytes.result) len eight in
    written_by c.self.inside c.args.self.now c.put_words.new.into old c.from.result
    (length c.sub_authorities.result.now) c.self.view_is c.self.invariant c.from.ensures
    (ap length c.sub_authorities.ensures)
    (third ∙ ap (λ (r : List ℕ). r ++ drop (8 + 4 * length c.sub_authorities.result.now) old)
    (sid_pieces c.self.inside c.args.self.now c.authority_bytes.result c.sub_authorities.result.now c.self.view_is
    c.self.invariant c.authority_bytes.ensures c.sub_authorities.ensures))

pub returns-clause-written : goal.returns-clause-written
returns-clause-written c = whole c

pub returns-clause-spelled : goal.returns-clause-spelled
returns-clause-spelled c = (
  is_sid c.self.inside c.args.self.now c.self.view_is c.self.invariant
      (rw (sym c.sub_authorities.ensures) c.put_words.ensures.fit),
  front_of_written c.self.inside c.args.self.now c.put_words.new.into _ c.from.result c.self.view_is c.self.invariant
      c.from.ensures (whole c),
)

pub returns-clause-size : goal.returns-clause-size
returns-clause-size c = sized c.self.inside c.args.self.now c.from.result c.self.view_is c.self.invariant c.from.ensures
