use Rattle.std.proofs.Common.{◌≡◌, ◌∙◌, ℕ, sym, ap}
use Rattle.std.specs.Option.{option_copied, option_and_then}
use Rattle.ad_ids.specs.SidChild.{child_of}
use Rattle.ad_rows_sound.proofs.frame.is_counted_in.Goals as goal

pub returns-in-Some-Some : goal.returns-in-Some-Some
returns-in-Some-Some c = λ sd.
    let own = c.in-Some-Some.sid in
    let of_domain : (rid : ℕ) → option_and_then (λ d. child_of d rid) (option_copied c.args.domain)
    ≡ child_of c.in-Some-Some.domain.now rid = λ rid. ap (option_and_then (λ d. child_of d rid))
    (ap option_copied c.in-Some-Some.is-0) in (
      λ t. record {
        number = c.if-object-meta.false;
        rid = λ rid sid has child. c.is_counted.ensures.0 t rid
            (sym (of_domain rid) ∙ child ∙ sym has ∙ sym (c.object_sid.ensures sd) ∙ c.in-Some-Some.is-1);
      },
      λ is. c.is_counted.ensures.1 (λ rid child. is.rid rid own (sym (c.object_sid.ensures sd) ∙ c.in-Some-Some.is-1)
          (of_domain rid ∙ child)),
    )
