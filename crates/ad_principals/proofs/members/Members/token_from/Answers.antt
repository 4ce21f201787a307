use Rattle.std.proofs.Common.{◌≡◌, ◌+◌, ◌≤◌, true, List, length, refl, sym, ap, subst, ◌∙◌, arith}
use Rattle.std.specs.Prelude.{filter}
use Rattle.std.specs.List.{IsDistinct}
use Rattle.std.proofs.lemmas.Bool.{and_parts, not-true}
use Rattle.ad_ids.specs.SidValue.{SidValue, same_sid, contains_sid}
use Rattle.ad_principals.specs.Tokens.{SidsRise}
use Rattle.ad_principals.proofs.Remaining.{is_other, distinct_left, contains_left, one_goes}
use Rattle.ad_principals.proofs.members.Members.token_from.Goals as goal

pub returns-then-len-gt-MAX_GROUPS-clause-fault : goal.returns-then-len-gt-MAX_GROUPS-clause-fault
returns-then-len-gt-MAX_GROUPS-clause-fault c =
    let set = c.in_ok-set.set.keys in
    let user = c.args.user.now in
    let left : c.in_ok-others.field-0.items ≡ filter (is_other user) set = c.in_ok-others.ensures.are
    ∙ ap (filter (is_other user)) c.as_slice.ensures.keys in
    let distinct : IsDistinct same_sid c.in_ok-others.field-0.items = subst (IsDistinct same_sid) (sym left)
    (distinct_left (is_other user) set c.as_slice.ensures.unique) in
    let parts : (sid : SidValue) → contains_sid c.in_order-groups.result.items sid ≡ true
    → (contains_sid set sid ≡ true) × (is_other user sid ≡ true) = λ sid is.
    and_parts (contains_sid set sid) (is_other user sid)
    (sym (c.in_order-groups.ensures.same sid ∙ ap (λ (xs : List SidValue). contains_sid xs sid) left
    ∙ contains_left (is_other user) set sid) ∙ is) in
    record {
      user = c.args.user.now;
      is_user = refl;
      groups = c.in_order-groups.result.items;
      rise = c.in_order-groups.ensures.rise distinct;
      reached = λ sid is. c.in_ok-set.ensures.each sid (parts sid is).0;
      others = λ sid is. not-true (same_sid sid user) (parts sid is).1;
      many = omega arith;
    }

pub returns-clause-token : goal.returns-clause-token
returns-clause-token c =
    let set = c.in_ok-set.set.keys in
    let user = c.args.user.now in
    let left : c.in_ok-others.field-0.items ≡ filter (is_other user) set = c.in_ok-others.ensures.are
    ∙ ap (filter (is_other user)) c.as_slice.ensures.keys in
    let distinct : IsDistinct same_sid c.in_ok-others.field-0.items = subst (IsDistinct same_sid) (sym left)
    (distinct_left (is_other user) set c.as_slice.ensures.unique) in
    let small : length c.in_order-groups.result.items ≤ 1024 = omega arith in
    let one : length set ≤ length (filter (is_other user) set) + 1 = one_goes user set c.as_slice.ensures.unique in
    let long : length c.in_order-groups.result.items ≡ length (filter (is_other user) set) = c.in_order-groups.ensures.len
    ∙ ap length left in
    record {
      set = c.in_ok-set.set.keys;
      user = refl;
      least = c.in_ok-set.ensures.least (omega (arith, small, one, long));
      groups = λ sid. ap (λ (xs : List SidValue). contains_sid xs sid) c.from_vec.ensures
          ∙ c.in_order-groups.ensures.same sid
          ∙ ap (λ (xs : List SidValue). contains_sid xs sid) left ∙ contains_left (is_other user) set sid;
      rise = subst SidsRise (sym c.from_vec.ensures) (c.in_order-groups.ensures.rise distinct);
      few = subst (λ (xs : List SidValue). length xs ≤ 1024) (sym c.from_vec.ensures) small;
      version = refl;
      owner = refl;
      primary = refl;
      privileges = c.privileges.ensures;
      deny_only = c.new.ensures;
      restricting = c.new-2.ensures;
    }
