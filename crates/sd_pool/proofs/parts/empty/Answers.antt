use Rattle.std.proofs.Common.{◌≡◌, ℕ, ◌-◌, ◌^◌, ◌≤◌, List, [], length, refl, ap, sym, subst, ◌∙◌, arith}
use Rattle.std.specs.Ordering.{nat_cmp}
use Rattle.std.specs.BTreeMap.{is_at}
use Rattle.std.specs.Map.{lookup}
use Rattle.sd_pool.specs.declared.slot.Slot.{Slot}
use Rattle.sd_pool.specs.Tallies.{count_in, count_of_hash}
use Rattle.sd_pool.specs.Slots.{live_from, AreWithin}
use Rattle.sd_pool.specs.Pool.{AreApart, AreDistinct}
use Rattle.sd_pool.specs.Holes.{AreParted}
use Rattle.sd_pool.proofs.parts.empty.Goals as goal

zero_count : (h : ℕ) → count_of_hash h [] ≡ 0
unfolding count_of_hash
zero_count h = refl

none : (slots : List Slot) (region : List ℕ) → slots ≡ [] → live_from 0 region slots ≡ []
unfolding live_from
none slots region is = ap (live_from 0 region) is

pub returns-clause-live : goal.returns-clause-live
returns-clause-live c = none c.new-2.result.items c.new.result.items c.new-2.ensures.items

pub returns-clause-kept : goal.returns-clause-kept
returns-clause-kept c =
    let live = none c.new-2.result.items c.new.result.items c.new-2.ensures.items in
    record {
      laid = record {
        region = omega arith;
        within = subst (AreWithin 0) (sym c.new-2.ensures.items) tt;
        apart = subst AreApart (sym live) tt;
        distinct = subst AreDistinct (sym live) tt;
        lowest = tt;
        ids = subst (λ (xs : List Slot). length xs ≤ 2 ^ 32 - 1) (sym c.new-2.ensures.items) (omega arith);
        count = ap length (sym live);
        holes = record {
          parted = subst (AreParted 0 0) (sym c.new-3.ensures.items) tt;
          exact = λ block lt. absurd (omega (arith, lt));
        };
        room = (let len : length c.new-3.result.items ≡ 0 = ap length c.new-3.ensures.items in omega (arith, len));
      };
      tallied = λ h. ap (λ es. count_in (lookup (is_at (nat_cmp h)) es)) c.new-4.ensures.empty ∙ sym (zero_count h)
          ∙ ap (count_of_hash h) (sym live);
    }
