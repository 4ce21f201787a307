-- One requirement after the other, and what is kept of what was tried.
use Rattle.std.proofs.Common.{◌≡◌, ◌^◌, Bool, true, false, List, [], ◌∷◌, ◌++◌, Option, Some, None}
use Rattle.std.proofs.Common.{inl, inr, refl, sym, subst, ap, ◌∙◌, append_assoc}
use Rattle.std.specs.Prelude.{if◌then◌else◌, find, is_some}
use Rattle.std.specs.List.{list_any}
use Rattle.std.specs.Option.{option_map_or}
use Rattle.std.proofs.lemmas.Bool.{cases_Bool, both_ways}
use Rattle.std.proofs.lemmas.List.{append-nil, map-append}
use Rattle.std.proofs.lemmas.Option.{none-some, same_Some}
use Rattle.ad_ids.specs.declared.token.Token.{Token}
use Rattle.ad_types.specs.declared.tried.Tried.{Tried}
use Rattle.ad_dir_model.specs.Directory.{Directory}
use Rattle.ad_access_dir.specs.Sight.{is_granted}
use Rattle.ad_types.specs.Tried.{TriedValue, tried_value, tried_values, failure_on}
use Rattle.ad_needs_rules.specs.declared.outcome.Verdict.{Verdict}
use Rattle.ad_needs_rules.specs.Needs.{Alternative, is_met}
use Rattle.ad_needs_rules.specs.Checks.{refused, or_missing, all_met}
use Rattle.ad_needs_rules.specs.Judged.{refusal_of}
use Rattle.ad_needs_rules.proofs.Refusing.{none_of, passes, fails}
use Rattle.ad_needs.specs.declared.trying.Trace.{Trace}
use Rattle.ad_needs.specs.Tries.{first_granted, success_of, failure_of, tries}
use Rattle.ad_needs.specs.Steps.{kept, and_then, goes_on, Steps}

-- ---- what is kept

keeps_nothing : (tried : Option (List TriedValue)) → and_then tried [] ≡ tried
keeps_nothing None = refl
keeps_nothing (Some ts) = ap Some (append-nil ts)

keeps_both : (tried : Option (List TriedValue)) (first second : List TriedValue)
    → and_then (and_then tried first) second ≡ and_then tried (first ++ second)
keeps_both None first second = refl
keeps_both (Some ts) first second = ap Some (append_assoc ts first second)

-- one more is told
told_more : (before : List Tried) (one : Tried) (value : TriedValue) → tried_value one ≡ value
    → tried_values (before ++ one ∷ []) ≡ tried_values before ++ value ∷ []
told_more before one value is = map-append tried_value before (one ∷ [])
    ∙ ap (λ (v : TriedValue). tried_values before ++ v ∷ []) is

pub drops : (trace : Trace) (more : List TriedValue) → trace.is_kept ≡ false → kept trace ≡ and_then (kept trace) more
drops trace more is = rw is refl

pub keeps : (before after : Trace) (one : Tried) (value : TriedValue) → before.is_kept ≡ true
    → after.is_kept ≡ before.is_kept → tried_value one ≡ value
    → after.tried.items ≡ before.tried.items ++ one ∷ [] → kept after ≡ and_then (kept before) (value ∷ [])
keeps before after one value is same is_value new =
    rw (same, is) (ap Some (ap tried_values new ∙ told_more before.tried.items one value is_value))

-- ---- one requirement

pub met : (dir : Directory) (token : Token) (before after : Trace) (requirement : List Alternative) (a : Alternative)
    → first_granted dir token requirement ≡ Some a → kept after ≡ and_then (kept before) (success_of a ∷ [])
    → Steps dir token before (requirement ∷ []) after None
unfolding tries
met dir token before after requirement a granted new others =
    ap (λ (ts : Option (List TriedValue)). and_then ts (tries dir token others)) new
    ∙ keeps_both (kept before) (success_of a ∷ []) (tries dir token others)
    ∙ ap (λ (first : Option Alternative). and_then (kept before)
    (option_map_or (λ (x : Alternative). success_of x ∷ tries dir token others) first (failure_of requirement)))
    (sym granted)

pub missing : (dir : Directory) (token : Token) (before after : Trace) (verdict : Verdict) (a : Alternative)
    (as' : List Alternative) → first_granted dir token (a ∷ as') ≡ None
    → kept after ≡ and_then (kept before) (failure_on a.object (2 ^ a.bit) a.path ∷ [])
    → Steps dir token before ((a ∷ as') ∷ []) after (Some verdict)
unfolding tries
missing dir token before after verdict a as' none new others =
    new
    ∙ ap (λ (first : Option Alternative). and_then (kept before)
    (option_map_or (λ (x : Alternative). success_of x ∷ tries dir token others) first (failure_of (a ∷ as'))))
    (sym none)

-- the first one, and the second where the first isn't granted
abbrev pub is_so : Directory → Token → Alternative → Bool
is_so dir token a = is_granted dir token a.object a.path a.bit

pub first_is : (dir : Directory) (token : Token) (a : Alternative) (as' : List Alternative) → true ≡ is_so dir token a
    → first_granted dir token (a ∷ as') ≡ Some a
first_is dir token a as' is = rw (sym is) refl

second_is : (dir : Directory) (token : Token) (a b : Alternative) (as' : List Alternative) → false
    ≡ is_so dir token a → true ≡ is_so dir token b → first_granted dir token (a ∷ b ∷ as') ≡ Some b
second_is dir token a b as' not_so is = rw (sym not_so, sym is) refl

none_is : (dir : Directory) (token : Token) (a : Alternative) → false ≡ is_so dir token a
    → first_granted dir token (a ∷ []) ≡ None
none_is dir token a not_so = rw (sym not_so) refl

neither_is : (dir : Directory) (token : Token) (a b : Alternative) → false ≡ is_so dir token a → false
    ≡ is_so dir token b → first_granted dir token (a ∷ b ∷ []) ≡ None
neither_is dir token a b not_so nor = rw (sym not_so, sym nor) refl

-- ---- by the refusal

any_is : (p : Alternative → Bool) (as' : List Alternative) → list_any p as' ≡ is_some (find p as')
any_is p [] = refl
any_is p (a ∷ as') = elim (cases_Bool (p a)) [
  | inl is ↦ rw is refl
  | inr not_so ↦ rw not_so (any_is p as')
]

pub met_by : (dir : Directory) (token : Token) (r : List Alternative) (first : Option Alternative)
    → first_granted dir token r ≡ first → is_met dir token r ≡ is_some first
unfolding is_met
met_by dir token r first is = any_is (λ (a : Alternative). is_granted dir token a.object a.path a.bit) r
    ∙ ap (λ (f : Option Alternative). is_some f) is

is_met_if : (dir : Directory) (token : Token) (r : List Alternative) → None ≡ refusal_of (all_met dir token (r ∷ []))
    → is_met dir token r ≡ true
is_met_if dir token r none = elim (cases_Bool (is_met dir token r)) [
  | inl is ↦ is
  | inr not_so ↦ absurd (none-some (refused (or_missing dir token r).refusal)
      (none ∙ sym (fails (or_missing dir token r) [] not_so)))
]

is_unmet_if : (dir : Directory) (token : Token) (r : List Alternative) (verdict : Verdict) → Some verdict
    ≡ refusal_of (all_met dir token (r ∷ [])) → is_met dir token r ≡ false
is_unmet_if dir token r verdict some = elim (cases_Bool (is_met dir token r)) [
  | inl is ↦ absurd (none-some verdict (none_of ∙ sym (passes (or_missing dir token r) [] is) ∙ sym some))
  | inr not_so ↦ not_so
]

pub none_granted : (dir : Directory) (token : Token) (r : List Alternative) (verdict : Verdict) → Some verdict
    ≡ refusal_of (all_met dir token (r ∷ [])) → first_granted dir token r ≡ None
none_granted dir token r verdict some = by (first_granted dir token r) refl
  where
    by : (first : Option Alternative) → first_granted dir token r ≡ first → first_granted dir token r ≡ None
    by None is = is
    by (Some a) is = absurd (both_ways (is_met dir token r) (is_unmet_if dir token r verdict some)
        (met_by dir token r (Some a) is))

pub one_granted : (dir : Directory) (token : Token) (a : Alternative) → None
    ≡ refusal_of (all_met dir token ((a ∷ []) ∷ [])) → first_granted dir token (a ∷ []) ≡ Some a
one_granted dir token a none = elim (cases_Bool (is_so dir token a)) [
  | inl is ↦ first_is dir token a [] (sym is)
  | inr not_so ↦ absurd (both_ways (is_met dir token (a ∷ []))
      (met_by dir token (a ∷ []) None (none_is dir token a (sym not_so))) (is_met_if dir token (a ∷ []) none))
]

pub either_granted : (dir : Directory) (token : Token) (a b : Alternative) → None
    ≡ refusal_of (all_met dir token ((a ∷ b ∷ []) ∷ [])) → first_granted dir token (a ∷ b ∷ [])
    ≡ Some (if is_so dir token a then a else b)
either_granted dir token a b none = elim (cases_Bool (is_so dir token a)) [
  | inl is ↦ first_is dir token a (b ∷ []) (sym is)
      ∙ ap (λ (so : Bool). Some (if so then a else b)) (sym is)
  | inr not_so ↦ elim (cases_Bool (is_so dir token b)) [
    | inl is ↦ second_is dir token a b [] (sym not_so) (sym is)
        ∙ ap (λ (so : Bool). Some (if so then a else b)) (sym not_so)
    | inr nor ↦ absurd (both_ways (is_met dir token (a ∷ b ∷ []))
        (met_by dir token (a ∷ b ∷ []) None (neither_is dir token a b (sym not_so) (sym nor)))
        (is_met_if dir token (a ∷ b ∷ []) none))
  ]
]

-- ---- several

-- none is required
pub none_asked : (dir : Directory) (token : Token) (trace : Trace) → Steps dir token trace [] trace None
none_asked dir token trace others = refl

-- they are the same ones in other words
pub same_steps : (dir : Directory) (token : Token) (before after : Trace) (xs ys : List (List Alternative))
    (refusal : Option Verdict) → xs ≡ ys → Steps dir token before xs after refusal
    → Steps dir token before ys after refusal
same_steps dir token before after xs ys refusal is steps =
    subst (λ (rs : List (List Alternative)). Steps dir token before rs after refusal) is steps

-- the first of them is missing
pub stops : (dir : Directory) (token : Token) (before after : Trace) (first second : List (List Alternative))
    (verdict : Verdict) → Steps dir token before first after (Some verdict)
    → Steps dir token before (first ++ second) after (Some verdict)
stops dir token before after first second verdict steps others =
    steps (second ++ others)
    ∙ ap (λ (rs : List (List Alternative)). and_then (kept before) (tries dir token rs))
    (sym (append_assoc first second others))

-- or they are met, and the others follow
pub follows : (dir : Directory) (token : Token) (before between after : Trace)
    (first second : List (List Alternative)) (refusal : Option Verdict)
    → Steps dir token before first between None → Steps dir token between second after refusal
    → Steps dir token before (first ++ second) after refusal
follows dir token before between after first second refusal steps next others =
    next others ∙ steps (second ++ others)
    ∙ ap (λ (rs : List (List Alternative)). and_then (kept before) (tries dir token rs))
    (sym (append_assoc first second others))

-- in the end these requirements were tried
if_kept : (is_kept : Bool) (tried list : List TriedValue) → (if is_kept then Some tried else None) ≡ Some list → tried
    ≡ list
if_kept true tried list is = same_Some tried list is
if_kept false tried list is = absurd (none-some list is)

pub tried_all : (dir : Directory) (token : Token) (before after : Trace) (requirements : List (List Alternative))
    (refusal : Option Verdict) → kept before ≡ Some [] → Steps dir token before requirements after refusal
    → tried_values after.tried.items ≡ tries dir token requirements
unfolding tries
tried_all dir token before after requirements refusal none steps =
    if_kept after.is_kept (tried_values after.tried.items) (tries dir token requirements)
    (whole refusal ∙ steps []
    ∙ ap (λ (ts : Option (List TriedValue)). and_then ts (tries dir token (requirements ++ []))) none
    ∙ ap (λ (rs : List (List Alternative)). Some (tries dir token rs)) (append-nil requirements))
  where
    whole : (refusal : Option Verdict) → kept after ≡ goes_on dir token refusal (kept after) []
    whole None = sym (keeps_nothing (kept after))
    whole (Some verdict) = refl
