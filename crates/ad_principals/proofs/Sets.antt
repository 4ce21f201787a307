-- Sets of identifiers to which more are taken.
use Rattle.std.proofs.Common.{◌≡◌, ℕ, zero, suc, ◌+◌, ◌<◌, ◌≤◌, Bool, true, false, List, [], ◌∷◌, ◌++◌, length}
use Rattle.std.proofs.Common.{Option, Some, None, map, get_or, take, inl, inr, refl, sym, ap, subst, ◌∙◌, arith}
use Rattle.std.specs.Prelude.{◌||◌, ◌⊎◌}
use Rattle.std.specs.List.{list_any, filter_map}
use Rattle.std.proofs.lemmas.Bool.{cases_Bool, false≢true, or_cases, or_left, or_right}
use Rattle.std.proofs.lemmas.List.{append_assoc, append-nil, map-append, take_more, take_all}
use Rattle.std.proofs.lemmas.List.Elements.{filter_map-append}
use Rattle.std.proofs.lemmas.List.Folds.{list_any-append}
use Rattle.indexmap.specs.IndexSet.{insert_key}
use Rattle.ad_ids.specs.SidValue.{SidValue, same_sid, contains_sid, same_sid_laws}
use Rattle.ad_principals.specs.Reaching.{Takes}
use Rattle.ad_principals.proofs.Rising.{one_sid, same_either}

-- ---- identifiers in a list

pub has_append : (xs ys : List SidValue) (sid : SidValue) → contains_sid (xs ++ ys) sid
    ≡ (contains_sid xs sid || contains_sid ys sid)
has_append xs ys sid = list_any-append (λ s. same_sid s sid) xs ys

pub member_has : (sids : List SidValue) (sid : SidValue) → list_any (same_sid sid) sids ≡ contains_sid sids sid
member_has [] sid = refl
member_has (x ∷ xs) sid = ap (λ (b : Bool). b || list_any (same_sid sid) xs) (same_either sid x)
    ∙ ap (λ (b : Bool). same_sid x sid || b) (member_has xs sid)

pub has_at : (sids : List SidValue) (i : ℕ) (d : SidValue) → i < length sids → contains_sid sids (get_or sids i d)
    ≡ true
has_at [] i d less = absurd (omega (arith, less))
has_at (x ∷ xs) zero d less = or_left (same_sid x x) (contains_sid xs x) (same_sid_laws.refl x)
has_at (x ∷ xs) (suc i) d less =
    let behind : i < length xs = omega (arith, less) in
    or_right (same_sid x (get_or xs i d)) (contains_sid xs (get_or xs i d)) (has_at xs i d behind)

-- where an identifier of the list stands
pub place_in : (sids : List SidValue) (sid d : SidValue) → contains_sid sids sid ≡ true → (i : ℕ) × (i < length sids)
    × (get_or sids i d ≡ sid)
place_in [] sid d is = absurd (false≢true is)
place_in (x ∷ xs) sid d is =
    elim (or_cases (same_sid x sid) (contains_sid xs sid) is) [
      | inl here ↦ (0, omega arith, one_sid x sid here)
      | inr behind ↦
          let found = place_in xs sid d behind in
          let less : found.0 < length xs = found.1 in
          (suc found.0, omega (arith, less), found.2)
    ]

-- ---- taking

-- nothing, where all that was asked for is there
pub takes_none : (P : SidValue → Type 0) (set : List SidValue)
    → ((sid : SidValue) → P sid → contains_sid set sid ≡ true) → Takes P set set
takes_none P set there = record {
  others = [];
  is = sym (append-nil set);
  each = λ sid is. absurd (false≢true is);
  all = there;
}

-- what was in the set stays
pub takes_keep : (P : SidValue → Type 0) (old new : List SidValue) (sid : SidValue) → Takes P old new
    → contains_sid old sid ≡ true → contains_sid new sid ≡ true
takes_keep P old new sid t is = ap (λ (set : List SidValue). contains_sid set sid) t.is ∙ has_append old t.others sid
    ∙ or_left (contains_sid old sid) (contains_sid t.others sid) is

-- it was in the set, or it was asked for
pub takes_from : (P : SidValue → Type 0) (old new : List SidValue) (sid : SidValue) → Takes P old new
    → contains_sid new sid ≡ true → (contains_sid old sid ≡ true) ⊎ P sid
takes_from P old new sid t is =
    elim (or_cases (contains_sid old sid) (contains_sid t.others sid)
    (sym (ap (λ (set : List SidValue). contains_sid set sid) t.is ∙ has_append old t.others sid) ∙ is)) [
      | inl before ↦ inl before
      | inr now ↦ inr (t.each sid now)
    ]

pub takes_same : (P Q : SidValue → Type 0) (old new : List SidValue) → ((sid : SidValue) → P sid → Q sid)
    → ((sid : SidValue) → Q sid → P sid) → Takes P old new → Takes Q old new
takes_same P Q old new to from t = record {
  others = t.others;
  is = t.is;
  each = λ sid is. to sid (t.each sid is);
  all = λ sid is. t.all sid (from sid is);
}

-- one thing after the other, and together a third
pub takes_more : (P Q R : SidValue → Type 0) (old mid new : List SidValue) → ((sid : SidValue) → P sid → R sid)
    → ((sid : SidValue) → Q sid → R sid)
    → ((sid : SidValue) → R sid → P sid ⊎ Q sid) → Takes P old mid → Takes Q mid new → Takes R old new
takes_more P Q R old mid new first second either t u = record {
  others = t.others ++ u.others;
  is = u.is ∙ ap (λ (set : List SidValue). set ++ u.others) t.is ∙ append_assoc old t.others u.others;
  each = λ sid is. elim (or_cases (contains_sid t.others sid) (contains_sid u.others sid)
      (sym (has_append t.others u.others sid) ∙ is)) [
        | inl a ↦ first sid (t.each sid a)
        | inr b ↦ second sid (u.each sid b)
      ];
  all = λ sid is. elim (either sid is) [
    | inl a ↦ takes_keep Q mid new sid u (t.all sid a)
    | inr b ↦ u.all sid b
  ];
}

-- what the set of keys takes
pub takes_key : (old new : List SidValue) (sid : SidValue) → new ≡ insert_key same_sid old sid
    → Takes (λ s. same_sid sid s ≡ true) old new
takes_key old new sid put =
    elim (cases_Bool (list_any (same_sid sid) old)) [
      | inl there ↦
          let same : new ≡ old = rw there at put in
          let in_old : contains_sid old sid ≡ true = sym (member_has old sid) ∙ there in
          record {
            others = [];
            is = same ∙ sym (append-nil old);
            each = λ s e. absurd (false≢true e);
            all = λ s e. ap (λ (set : List SidValue). contains_sid set s) same
                ∙ ap (contains_sid old) (sym (one_sid sid s e)) ∙ in_old;
          }
      | inr new_one ↦
          let longer : new ≡ old ++ sid ∷ [] = rw new_one at put in
          record {
            others = sid ∷ [];
            is = longer;
            each = λ s e. elim (or_cases (same_sid sid s) false e)
                [ inl here ↦ here | inr never ↦ absurd (false≢true never) ];
            all = λ s e. ap (λ (set : List SidValue). contains_sid set s) longer ∙ has_append old (sid ∷ []) s
                ∙ or_right (contains_sid old s) (contains_sid (sid ∷ []) s) (or_left (same_sid sid s) false e);
          }
    ]

-- ---- those of a list, one by one

one_of : (b : Bool) → (b || false) ≡ true → b ≡ true
one_of true is = refl
one_of false is = is

pub take_sids : (sids : List SidValue) (i : ℕ) (d : SidValue) (first old new : List SidValue) → i < length sids
    → Takes (λ s. contains_sid (take i sids) s ≡ true) first old → Takes (λ s. same_sid (get_or sids i d) s ≡ true)
    old new
    → Takes (λ s. contains_sid (take (i + 1) sids) s ≡ true) first new
take_sids sids i d first old new less t one =
    takes_more (λ s. contains_sid (take i sids) s ≡ true) (λ s. same_sid (get_or sids i d) s ≡ true)
    (λ s. contains_sid (take (i + 1) sids) s ≡ true) first old new
    (λ s is. whole s ∙ or_left (contains_sid (take i sids) s) (contains_sid (get_or sids i d ∷ []) s) is)
    (λ s is. whole s ∙ or_right (contains_sid (take i sids) s) (contains_sid (get_or sids i d ∷ []) s)
    (or_left (same_sid (get_or sids i d) s) false is))
    (λ s is. elim (or_cases (contains_sid (take i sids) s) (contains_sid (get_or sids i d ∷ []) s)
    (sym (whole s) ∙ is)) [
      | inl before ↦ inl before
      | inr last ↦ inr (one_of (same_sid (get_or sids i d) s) last)
    ]) t one
  where
    whole : (s : SidValue) → contains_sid (take (i + 1) sids) s
        ≡ (contains_sid (take i sids) s || contains_sid (get_or sids i d ∷ []) s)
    whole s = ap (λ (xs : List SidValue). contains_sid xs s) (take_more sids i d less) ∙ has_append (take i sids)
        (get_or sids i d ∷ []) s

-- ---- what values are, one by one

is_value : {W : Type 0} (f : W → Option SidValue) (w : W) (s : SidValue) (o : Option SidValue) → f w ≡ o
    → contains_sid (filter_map f (w ∷ [])) s ≡ true → f w ≡ Some s
is_value f w s None e is = absurd (false≢true (rw e at is))
is_value f w s (Some q) e is =
    let same : (same_sid q s || false) ≡ true = rw e at is in
    e ∙ ap Some (one_sid q s (one_of (same_sid q s) same))

of_value : {W : Type 0} (f : W → Option SidValue) (w : W) (s : SidValue) → f w ≡ Some s
    → contains_sid (filter_map f (w ∷ [])) s ≡ true
of_value f w s e = rw e (or_left (same_sid s s) false (same_sid_laws.refl s))

pub value_taken : {V W : Type 0} (f : W → Option SidValue) (g : V → W) (vs : List V) (i : ℕ) (d : V)
    (first old new : List SidValue) → i < length vs
    → Takes (λ s. contains_sid (filter_map f (map g (take i vs))) s ≡ true) first old
    → Takes (λ s. f (g (get_or vs i d)) ≡ Some s) old new
    → Takes (λ s. contains_sid (filter_map f (map g (take (i + 1) vs))) s ≡ true) first new
value_taken f g vs i d first old new less t one =
    takes_more (λ s. contains_sid (filter_map f (map g (take i vs))) s ≡ true) (λ s. f (g (get_or vs i d)) ≡ Some s)
    (λ s. contains_sid (filter_map f (map g (take (i + 1) vs))) s ≡ true) first old new
    (λ s is. whole s ∙ or_left (contains_sid (filter_map f (map g (take i vs))) s)
    (contains_sid (filter_map f (g (get_or vs i d) ∷ [])) s) is)
    (λ s is. whole s ∙ or_right (contains_sid (filter_map f (map g (take i vs))) s)
    (contains_sid (filter_map f (g (get_or vs i d) ∷ [])) s) (of_value f (g (get_or vs i d)) s is))
    (λ s is. elim (or_cases (contains_sid (filter_map f (map g (take i vs))) s)
    (contains_sid (filter_map f (g (get_or vs i d) ∷ [])) s) (sym (whole s) ∙ is)) [
      | inl before ↦ inl before
      | inr last ↦ inr (is_value f (g (get_or vs i d)) s (f (g (get_or vs i d))) refl last)
    ]) t one
  where
    whole : (s : SidValue) → contains_sid (filter_map f (map g (take (i + 1) vs))) s
        ≡ (contains_sid (filter_map f (map g (take i vs))) s
        || contains_sid (filter_map f (g (get_or vs i d) ∷ [])) s)
    whole s =
        ap (λ xs. contains_sid (filter_map f (map g xs)) s) (take_more vs i d less)
        ∙ ap (λ ys. contains_sid (filter_map f ys) s) (map-append g (take i vs) (get_or vs i d ∷ []))
        ∙ ap (λ sids. contains_sid sids s) (filter_map-append f (map g (take i vs)) (g (get_or vs i d) ∷ []))
        ∙ has_append (filter_map f (map g (take i vs))) (filter_map f (g (get_or vs i d) ∷ [])) s

pub take_sids_end : (sids : List SidValue) (i : ℕ) (first new : List SidValue) → length sids ≤ i
    → Takes (λ s. contains_sid (take i sids) s ≡ true) first new → Takes (λ s. contains_sid sids s ≡ true) first new
take_sids_end sids i first new all t = subst (λ (xs : List SidValue). Takes (λ s. contains_sid xs s ≡ true) first new)
    (take_all i sids all) t
