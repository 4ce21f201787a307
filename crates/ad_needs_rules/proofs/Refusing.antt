-- What the first check that fails is answered with.
use Rattle.std.proofs.Common.{◌≡◌, true, false, List, [], ◌∷◌, ◌++◌, Option, Some, None, refl, sym, ap, ◌∙◌}
use Rattle.std.specs.Prelude.{option_map, is_some}
use Rattle.std.proofs.lemmas.Bool.{false≢true}
use Rattle.std.proofs.lemmas.Option.{none-some, same_Some}
use Rattle.ad_dir_objects.specs.declared.act.Act.{Act}
use Rattle.ad_needs_rules.specs.declared.outcome.Verdict.{Verdict}
use Rattle.ad_needs_rules.specs.declared.outcome.Verdict.TheVariants.{Granted}
use Rattle.ad_needs_rules.specs.Checks.{Refusal, Check, first_failing, refused, by_checks}
use Rattle.ad_needs_rules.specs.Judged.{refusal_of}
use Rattle.ad_needs_rules.proofs.FirstFailing.{head_passes, head_fails, all_pass, one_fails}

pub none_of : None ≡ refusal_of []
unfolding refusal_of first_failing
none_of = refl

-- ---- one check before others

pub passes : (c : Check) (cs : List Check) → c.holds ≡ true → refusal_of (c ∷ cs) ≡ refusal_of cs
unfolding refusal_of
passes c cs holds = ap (option_map refused) (head_passes c cs holds)

pub fails : (c : Check) (cs : List Check) → c.holds ≡ false → Some (refused c.refusal) ≡ refusal_of (c ∷ cs)
unfolding refusal_of
fails c cs fails' = sym (ap (option_map refused) (head_fails c cs fails'))

-- ---- checks before others

pub goes_on : (xs ys : List Check) → None ≡ refusal_of xs → refusal_of (xs ++ ys) ≡ refusal_of ys
unfolding refusal_of
goes_on xs ys none = by (first_failing xs) refl none
  where
    by : (found : Option Refusal) → first_failing xs ≡ found → None ≡ option_map refused found
        → option_map refused (first_failing (xs ++ ys)) ≡ option_map refused (first_failing ys)
    by None e none' = ap (option_map refused) (all_pass xs ys e)
    by (Some r) e none' = absurd (none-some (refused r) none')

pub stops : (xs ys : List Check) (verdict : Verdict) → Some verdict ≡ refusal_of xs → Some verdict
    ≡ refusal_of (xs ++ ys)
unfolding refusal_of
stops xs ys verdict some = by (first_failing xs) refl some
  where
    by : (found : Option Refusal) → first_failing xs ≡ found → Some verdict ≡ option_map refused found
        → Some verdict ≡ option_map refused (first_failing (xs ++ ys))
    by None e some' = absurd (none-some verdict (sym some'))
    by (Some r) e some' = some' ∙ sym (ap (option_map refused) (one_fails xs ys r e))

-- ---- the verdict

pub refuses : (checks : List Check) (act : Act) (verdict : Verdict) → Some verdict ≡ refusal_of checks → verdict
    ≡ by_checks (first_failing checks) act
unfolding refusal_of
refuses checks act verdict some = by (first_failing checks) some
  where
    by : (found : Option Refusal) → Some verdict ≡ option_map refused found → verdict ≡ by_checks found act
    by None some' = absurd (none-some verdict (sym some'))
    by (Some r) some' = same_Some verdict (refused r) some'

pub grants : (checks : List Check) (act : Act) → None ≡ refusal_of checks → Granted act
    ≡ by_checks (first_failing checks) act
unfolding refusal_of
grants checks act none = by (first_failing checks) none
  where
    by : (found : Option Refusal) → None ≡ option_map refused found → Granted act ≡ by_checks found act
    by None none' = refl
    by (Some r) none' = absurd (none-some (refused r) none')

-- checks of the same refusal are judged alike
pub same_judged : (xs ys : List Check) (act : Act) → refusal_of xs ≡ refusal_of ys → by_checks (first_failing xs) act
    ≡ by_checks (first_failing ys) act
unfolding refusal_of
same_judged xs ys act same = by (first_failing xs) (first_failing ys) same
  where
    by : (a b : Option Refusal) → option_map refused a ≡ option_map refused b → by_checks a act ≡ by_checks b act
    by None None e = refl
    by None (Some r) e = absurd (none-some (refused r) e)
    by (Some r) None e = absurd (none-some (refused r) (sym e))
    by (Some r) (Some t) e = same_Some (refused r) (refused t) e

-- ---- by the test of what was found

pub stops_if : (xs ys : List Check) (found : Option Verdict) → is_some found ≡ true → found ≡ refusal_of xs → found
    ≡ refusal_of (xs ++ ys)
stops_if xs ys None some is = absurd (false≢true some)
stops_if xs ys (Some verdict) some is = stops xs ys verdict is

pub goes_on_if : (xs ys : List Check) (found : Option Verdict) → is_some found ≡ false → found ≡ refusal_of xs
    → refusal_of (xs ++ ys) ≡ refusal_of ys
goes_on_if xs ys None none is = goes_on xs ys is
goes_on_if xs ys (Some verdict) none is = absurd (false≢true (sym none))
