-- What lines tell is read back.
use Rattle.std.proofs.Common.{Bool, ◌≡◌, ℕ, true, false, if◌then◌else◌, Option, Some, List, [], ◌∷◌}
use Rattle.std.proofs.Common.{◌++◌, ◌∙◌, ◌<◌, ◌^◌, None, codes, decimal, refl, sym, ap, subst, take, drop, arith}
use Rattle.std.specs.Prelude.{option_map}
use Rattle.std.specs.List.{AllByRecursion}
use Rattle.std.specs.Str.{bytes_eq}
use Rattle.std.proofs.lemmas.Bool.{false≢true}
use Rattle.std.proofs.lemmas.List.{take-append-drop}
use Rattle.std.proofs.lemmas.Str.Parse.{digit_from_value}
use Rattle.std.proofs.lemmas.Fmt.{decimal_is_IsNumeral}
use Rattle.std.proofs.lemmas.Slice.Eq.{bytes_eq-Decides}
use Rattle.std.specs.Str.Parse.{AllDigits}
use Rattle.ad_bytes.specs.Puts.{spaced}
use Rattle.ad_ids.specs.SidText.{sid_text}
use Rattle.ad_dn.specs.Text.{dn_text}
use Rattle.ad_who.specs.declared.decider.Decider.{Decider}
use Rattle.ad_who.specs.declared.decider.Decider.TheVariants.{Privilege, Owner, Allowed, Refused, Nothing}
use Rattle.ad_who.specs.declared.reason.Reason.{Reason}
use Rattle.ad_who.specs.declared.reason.Reason.TheVariants.{Free, Own, Above}
use Rattle.ad_who.specs.Lines.{decider_text, reason_text}
use Rattle.ad_questions.specs.Question.{behind}
use Rattle.ad_text_laws.specs.Lines.{is_line, is_word, number_of, facts_of}
use Rattle.ad_dn.specs.declared.rdn.Dn.{Dn}
use Rattle.ad_dn.specs.Reading.{dn_of}
use Rattle.ad_dn.specs.Steps.{step_from}
use Rattle.ad_text_laws.specs.Facts.{decider_of, HasGranted, parent_or, reason_in, HasReason}
use Rattle.ad_text_laws.specs.Facts.{word_text, word_in, HasWord, title_text, title_or, title_in, HasTitle}
use Rattle.ad_text_laws.specs.Facts.{Holder, holder_line, holder_of, IsHolder, Held, held_line}
use Rattle.ad_text_laws.specs.Facts.{held_of, IsHeld, holders_text, helds_text}
use Rattle.ad_text_laws.proofs.LineLaws.{IsRead, two_lines, two_words, word_is_line, facts_back}
use Rattle.ad_text_laws.proofs.WordLaws.{word_then, decimal_word, decimal_other, number_back, sid_word, sid_back, name_line, name_back}

-- ---- what decides

decider_word : (d : Decider) → HasGranted d → is_word (decider_text d) ≡ true
decider_word Privilege are = refl
decider_word Owner are = refl
decider_word (Allowed place) are = decimal_word place are
decider_word (Refused place) are = absurd are
decider_word Nothing are = absurd are

-- a number is none of the words
if_other : (t u : Bool) (place : ℕ) (word : List ℕ) → t ≡ false → u ≡ false → number_of word ≡ Some place
    → (if t then Some Privilege else if u then Some Owner else option_map Allowed (number_of word)) ≡ Some (Allowed place)
if_other true u place word e f is = absurd cc
if_other false true place word e f is = absurd cc
if_other false false place word e f is = ap (λ (o : Option ℕ). option_map Allowed o) is

decider_back : (d : Decider) → HasGranted d → decider_of (decider_text d) ≡ Some d
decider_back Privilege are = refl
decider_back Owner are = refl
decider_back (Allowed place) are = if_other (bytes_eq (decimal place) (codes "privilege"))
    (bytes_eq (decimal place) (codes "owner")) place (decimal place)
    (decimal_other place 112 (codes "rivilege") are (omega arith))
    (decimal_other place 111 (codes "wner") are (omega arith)) (number_back place are)
decider_back (Refused place) are = absurd are
decider_back Nothing are = absurd are

-- ---- why

-- a text that begins with a hyphen is no number's
decimal_plain : (n : ℕ) → n < 2 ^ 64 → bytes_eq (decimal n) (codes "-") ≡ false
decimal_plain n small = by (bytes_eq (decimal n) (45 ∷ [])) refl
  where
    by : (t : Bool) → bytes_eq (decimal n) (45 ∷ []) ≡ t → t ≡ false
    by false e = refl
    by true e =
        let digits : AllDigits 10 (45 ∷ []) = subst (AllDigits 10) ((bytes_eq-Decides (decimal n) (45 ∷ [])).0 e)
        (decimal_is_IsNumeral n small).0.1 in
        let r = digit_from_value 45 digits.0 in
        absurd (omega (arith, r.0))

-- and none begins with these words
decimal_before : (n : ℕ) → n < 2 ^ 64 → behind (codes "parent:") (decimal n) ≡ None
unfolding behind
decimal_before n small = by (bytes_eq (take 7 (decimal n)) (codes "parent:")) refl
  where
    by : (t : Bool) → bytes_eq (take 7 (decimal n)) (codes "parent:") ≡ t
        → (if t then Some (drop 7 (decimal n)) else None) ≡ None
    by false e = refl
    by true e =
        let whole : decimal n ≡ codes "parent:" ++ drop 7 (decimal n) = sym (take-append-drop 7 (decimal n))
        ∙ ap (λ (front : List ℕ). front ++ drop 7 (decimal n))
        ((bytes_eq-Decides (take 7 (decimal n)) (codes "parent:")).0 e) in
        absurd (false≢true (sym (decimal_other n 112 (codes "arent:" ++ drop 7 (decimal n)) small (omega arith))
        ∙ (bytes_eq-Decides (decimal n) (codes "parent:" ++ drop 7 (decimal n))).1 whole))

reason_word : (r : Reason) → HasReason r → is_word (reason_text r) ≡ true
reason_word Free are = refl
reason_word (Own d) are = decider_word d are
reason_word (Above d) are = two_words (codes "parent:") (decider_text d) refl (decider_word d are)

own_back : (d : Decider) → HasGranted d → reason_in (decider_text d) ≡ Some (Own d)
unfolding reason_in behind
own_back Privilege are = refl
own_back Owner are = refl
own_back (Allowed place) are =
    ap (λ (t : Bool). if t then Some Free else parent_or (behind (codes "parent:") (decimal place)) (decimal place))
    (decimal_plain place are)
    ∙ ap (λ (o : Option (List ℕ)). parent_or o (decimal place)) (decimal_before place are)
    ∙ ap (option_map Own) (decider_back (Allowed place) are)
own_back (Refused place) are = absurd are
own_back Nothing are = absurd are

reason_back : (r : Reason) → HasReason r → reason_in (reason_text r) ≡ Some r
unfolding reason_in behind
reason_back Free are = refl
reason_back (Own d) are = own_back d are
reason_back (Above d) are = ap (option_map Above) (decider_back d are)

word_word : (r : Option Reason) → HasWord r → is_word (word_text r) ≡ true
word_word None are = refl
word_word (Some r) are = reason_word r are

-- a reason isn't `none`
no_none : (r : Reason) → HasReason r → bytes_eq (reason_text r) (codes "none") ≡ false
no_none Free are = refl
no_none (Own Privilege) are = refl
no_none (Own Owner) are = refl
no_none (Own (Allowed place)) are = decimal_other place 110 (codes "one") are (omega arith)
no_none (Own (Refused place)) are = absurd are
no_none (Own Nothing) are = absurd are
no_none (Above d) are = refl

word_back : (r : Option Reason) → HasWord r → word_in (word_text r) ≡ Some r
unfolding word_in
word_back None are = refl
word_back (Some r) are =
    ap (λ (t : Bool). if t then Some None else option_map (λ (reason : Reason). Some reason) (reason_in (reason_text r)))
    (no_none r are)
    ∙ ap (option_map (λ (reason : Reason). Some reason)) (reason_back r are)

-- a hyphen is no name's text
no_name : dn_of (codes "-") ≡ None
unfolding dn_of step_from
no_name = refl

pub title_line : (name : Option Dn) → HasTitle name → is_line (title_text name) ≡ true
title_line None are = refl
title_line (Some name) are = name_line name are

pub title_back : (name : Option Dn) → HasTitle name → title_in (title_text name) ≡ Some name
unfolding title_in
title_back None are = ap (λ (o : Option Dn). title_or o (codes "-")) no_name
title_back (Some name) are = ap (λ (o : Option Dn). title_or o (dn_text name)) (name_back name are)

pub spaced_line : (word : List ℕ) → is_word word ≡ true → is_line (spaced word) ≡ true
spaced_line word e = two_lines word (32 ∷ []) (word_is_line word e) refl

holder_back : (h : Holder) → IsHolder h → holder_of (holder_line h) ≡ Some h
unfolding holder_of
holder_back h is =
    let rest = spaced (sid_text h.sid) ++ title_text h.name in
    rw (
      word_then (word_text h.reason) rest (word_word h.reason is.reason),
      word_then (sid_text h.sid) (title_text h.name) (sid_word h.sid is.sid),
      word_back h.reason is.reason,
      sid_back h.sid is.sid,
      title_back h.name is.name,
    ) refl

held_back : (h : Held) → IsHeld h → held_of (held_line h) ≡ Some h
unfolding held_of
held_back h is =
    rw (
      word_then (reason_text h.reason) (dn_text h.name) (reason_word h.reason is.reason),
      reason_back h.reason is.reason,
      name_back h.name is.name,
    ) refl

-- ---- the lines of who and can

pub holder_read : (h : Holder) → IsHolder h → IsRead holder_of holder_line h
holder_read h is = record {
  one_line = two_lines (spaced (word_text h.reason)) (spaced (sid_text h.sid) ++ title_text h.name)
      (spaced_line (word_text h.reason) (word_word h.reason is.reason))
      (two_lines (spaced (sid_text h.sid)) (title_text h.name) (spaced_line (sid_text h.sid) (sid_word h.sid is.sid))
      (title_line h.name is.name));
  back = holder_back h is;
}

pub held_read : (h : Held) → IsHeld h → IsRead held_of held_line h
held_read h is = record {
  one_line = two_lines (spaced (reason_text h.reason)) (dn_text h.name)
      (spaced_line (reason_text h.reason) (reason_word h.reason is.reason)) (name_line h.name is.name);
  back = held_back h is;
}

pub all_read : {A : Type 0} {Is : A → Type 0} (fact : List ℕ → Option A) (line : A → List ℕ)
    → ((a : A) → Is a → IsRead fact line a) → (facts : List A) → AllByRecursion Is facts
    → AllByRecursion (IsRead fact line) facts
all_read fact line read [] all = tt
all_read fact line read (a ∷ facts) all = (read a all.0, all_read fact line read facts all.1)

pub holders_back : (holders : List Holder) → AllByRecursion IsHolder holders
    → facts_of holder_of (holders_text holders) ≡ Some holders
holders_back holders all = facts_back holder_of holder_line holders
    (all_read holder_of holder_line holder_read holders all)

pub helds_back : (held : List Held) → AllByRecursion IsHeld held → facts_of held_of (helds_text held) ≡ Some held
helds_back held all = facts_back held_of held_line held (all_read held_of held_line held_read held all)
