-- The longest prefix that is an identifier's text.
use Rattle.std.proofs.Common.{Bool, eqb, ◌≡◌, inl, inr, ℕ, zero, suc, ◌+◌, ◌-◌, ◌<◌, ◌≤◌, true, false, if◌then◌else◌}
use Rattle.std.proofs.Common.{Option, Some, None, IfSome, unwrap_or, List, [], ◌∷◌, ◌++◌, length, take, drop, refl}
use Rattle.std.proofs.Common.{sym, ap, subst, ◌∙◌, arith}
use Rattle.std.specs.Prelude.{◌||◌, IfNone}
use Rattle.std.proofs.lemmas.Bool.{cases_lt}
use Rattle.std.proofs.lemmas.List.{append-nil, take_all, take_at, drop_at, drop_all, take-append-drop, length-append}
use Rattle.std.proofs.lemmas.List.{length-drop}
use Rattle.ad_bytes.specs.Prefix.{IsLongestPrefix, HasNoPrefix}
use Rattle.ad_bytes.proofs.Machines.{run_none}
use Rattle.ad_ids.specs.declared.sid.reading.State.{State}
use Rattle.ad_ids.specs.declared.sid.reading.Before.{Before}
use Rattle.ad_ids.specs.declared.sid.reading.Before.TheVariants.{Nothing, Letter, LetterHyphen, Revision, Front}
use Rattle.ad_ids.specs.declared.sid.reading.Before.TheVariants.{Decimal, Hex, Hyphen, Number}
use Rattle.ad_ids.specs.SidValue.{SidValue}
use Rattle.ad_ids.specs.SidGrammar.{SpellsSidText, IsPlace}
use Rattle.ad_ids.specs.SidSteps.{is_digit, state, step, step_from, from_there, start, finished_from, finished_if}
use Rattle.ad_ids.specs.SidSteps.{read_by_steps}
pub use Rattle.ad_ids.proofs.SidOfTextLaws.{spells_of, spelled_of}
use Rattle.ad_ids.specs.SidFront.{sid_of_text, or_shorter, longest, longest_front, with_length}
use Rattle.ad_ids.proofs.SidTextReading.{run_append, text_read}
use Rattle.ad_ids.proofs.SidTextEnds.{finished_spells}

-- ---- whole texts

of_state : (o : Option State) (text : List ℕ) (v : SidValue) → from_there (Some start) text ≡ o → finished_if o
    ≡ Some v → SpellsSidText v text
of_state None text v e f = absurd cc
of_state (Some s) text v e f = finished_spells s text v e f

read_spells : (text : List ℕ) (v : SidValue) → read_by_steps text ≡ Some v → SpellsSidText v text
unfolding read_by_steps
read_spells text v e = of_state (from_there (Some start) text) text v refl e

no_sid : (text : List ℕ) (o : Option SidValue) → sid_of_text text ≡ o → ((v : SidValue) → SpellsSidText v text → ⊥)
    → o ≡ None
no_sid text None e h = refl
no_sid text (Some v) e h = absurd (h v (spells_of v text e))

-- a text that encodes none
pub none_of : (text : List ℕ) → ((v : SidValue) → SpellsSidText v text → ⊥) → sid_of_text text ≡ None
none_of text h = no_sid text (sid_of_text text) refl h

none_read : (text : List ℕ) (v : SidValue) → read_by_steps text ≡ None → SpellsSidText v text → ⊥
unfolding read_by_steps
none_read text v e s =
    let f = text_read v text s in
    let read : finished_if (from_there (Some start) text) ≡ Some v = ap finished_if f.steps ∙ f.whole in
    absurd cc

by_answer : (text : List ℕ) (o : Option SidValue) → read_by_steps text ≡ o → sid_of_text text ≡ o
by_answer text None e = none_of text (λ v s. none_read text v e s)
by_answer text (Some v) e = spelled_of v text (read_spells text v e)

-- the steps read the same
as_steps : (text : List ℕ) → sid_of_text text ≡ read_by_steps text
as_steps text = by_answer text (read_by_steps text) refl

-- ---- the longest

-- no prefix is
pub longest_none : (n : ℕ) (text : List ℕ) → ((m : ℕ) → 1 ≤ m → m ≤ n → sid_of_text (take m text) ≡ None)
    → longest n text ≡ None
unfolding longest
longest_none zero text h = refl
longest_none (suc n) text h =
    let none : sid_of_text (take (suc n) text) ≡ None = h (suc n) (omega arith) (omega arith) in
    rw none (longest_none n text (λ m some le. h m some (omega (arith, le))))

-- prefixes that aren't identifiers' texts don't count
pub longest_down : (n : ℕ) (text : List ℕ) (k : ℕ) → ((m : ℕ) → n < m → m ≤ n + k → sid_of_text (take m text) ≡ None)
    → longest (n + k) text ≡ longest n text
unfolding longest
longest_down n text zero h = ap (λ (i : ℕ). longest i text) (omega arith)
longest_down n text (suc k) h =
    let m : n + suc k ≡ suc (n + k) = omega arith in
    let none : sid_of_text (take (suc (n + k)) text) ≡ None = h (suc (n + k)) (omega arith) (omega arith) in
    ap (λ (i : ℕ). longest i text) m ∙ rw none (longest_down n text k (λ i lt le. h i lt (omega (arith, le))))

-- no identifier has the empty text
empty_text : (v : SidValue) → sid_of_text [] ≡ Some v → ⊥
unfolding sid_of_text
empty_text v e = absurd cc

-- a prefix that is an identifier's text, among those that are no longer
pub found_here : (n : ℕ) (v : SidValue) (text : List ℕ) → sid_of_text (take n text) ≡ Some v → longest n text
    ≡ Some (v, drop n text)
unfolding longest
found_here zero v text e = absurd (empty_text v e)
found_here (suc n) v text e = rw e refl

pub found_whole : (v : SidValue) (text : List ℕ) → sid_of_text text ≡ Some v → longest (length text) text
    ≡ Some (v, drop (length text) text)
found_whole v text e = found_here (length text) v text (ap sid_of_text (take_all (length text) text (omega arith)) ∙ e)

-- no prefix that reaches after the fault of a text is an identifier's
behind_fault : (place : ℕ) (text : List ℕ) → IsPlace place text → (m : ℕ) → place < m → m ≤ length text
    → (v : SidValue) → SpellsSidText v (take m text) → ⊥
behind_fault place text h m lt le v s = h.longest m lt le
    (record { value = v; rest = []; spelled = subst (SpellsSidText v) (sym (append-nil (take m text))) s })

pub at_fault : (place : ℕ) (text : List ℕ) → IsPlace place text → longest place text ≡ longest (length text) text
at_fault place text h =
    let within : place ≤ length text = h.within in
    let all : place + (length text - place) ≡ length text = omega (arith, within) in
    sym (ap (λ (n : ℕ). longest n text) (sym all) ∙ longest_down place text (length text - place)
    (λ m lt le. none_of (take m text) (behind_fault place text h m lt (omega (arith, le, within)))))

-- a prefix that isn't an identifier's text doesn't count
pub one_shorter : (n : ℕ) (text : List ℕ) → 1 ≤ n → ((v : SidValue) → SpellsSidText v (take n text) → ⊥)
    → longest n text ≡ longest (n - 1) text
unfolding longest
one_shorter zero text some h = absurd (omega (arith, some))
one_shorter (suc n) text some h = rw (none_of (take (suc n) text) h) (ap (λ (i : ℕ). longest i text) (omega arith))

pub no_fronts : (n : ℕ) (text : List ℕ) → n < 1 → longest n text ≡ None
unfolding longest
no_fronts zero text lt = refl
no_fronts (suc n) text lt = absurd (omega (arith, lt))

-- ---- what stands after an identifier

-- neither a digit nor a hyphen
pub record Ends (c : ℕ) : Type 0 where
  pub no_digit : is_digit c ≡ false
  pub no_hyphen : eqb c 45 ≡ false

none_after : (before : Before) (s : State) (v : SidValue) (c : ℕ) → finished_from before s ≡ Some v → Ends c
    → step_from before s c ≡ None
unfolding step_from
none_after Number s v c e h = rw (h.no_hyphen, h.no_digit) refl
none_after Nothing s v c e h = absurd cc
none_after Letter s v c e h = absurd cc
none_after LetterHyphen s v c e h = absurd cc
none_after Revision s v c e h = absurd cc
none_after Front s v c e h = absurd cc
none_after Decimal s v c e h = absurd cc
none_after (Hex k) s v c e h = absurd cc
none_after Hyphen s v c e h = absurd cc

ends_here : (v : SidValue) (text : List ℕ) (c : ℕ) (more : List ℕ) → SpellsSidText v text → Ends c
    → sid_of_text (text ++ c ∷ more) ≡ None
unfolding read_by_steps
ends_here v text c more s h =
    let f = text_read v text s in
    as_steps (text ++ c ∷ more) ∙ ap finished_if (
    run_append (Some start) text (c ∷ more)
    ∙ ap (λ (o : Option State). from_there o (c ∷ more)) f.steps
    ∙ ap (λ (o : Option State). from_there o more) (none_after f.last.before f.last v c f.whole h)
    ∙ run_none step more)

take_behind : (n : ℕ) (text : List ℕ) (c : ℕ) (more : List ℕ) → length text < n → take n (text ++ c ∷ more) ≡ text
    ++ c ∷ take (n - length text - 1) more
take_behind n [] c more lt = one n lt
  where
    one : (n : ℕ) → 0 < n → take n (c ∷ more) ≡ c ∷ take (n - 0 - 1) more
    one zero lt = absurd (omega (arith, lt))
    one (suc n) lt = ap (λ (i : ℕ). c ∷ take i more) (omega arith)
take_behind zero (x ∷ text) c more lt = absurd (omega (arith, lt))
take_behind (suc n) (x ∷ text) c more lt =
    let lower : length text < n = omega (arith, lt) in
    let same : suc n - length (x ∷ text) - 1 ≡ n - length text - 1 = omega arith in
    ap (λ (t : List ℕ). x ∷ t) (take_behind n text c more lower) ∙ ap (λ (i : ℕ). x ∷ (text ++ c ∷ take i more))
    (sym same)

-- an identifier's text is read whole, where the next character doesn't belong to it
pub again_before : (v : SidValue) (text : List ℕ) (c : ℕ) (more : List ℕ) → SpellsSidText v text → Ends c
    → longest (length (text ++ c ∷ more)) (text ++ c ∷ more) ≡ Some (v, c ∷ more)
again_before v text c more s h =
    let whole = text ++ c ∷ more in
    let here : sid_of_text (take (length text) whole) ≡ Some v
    = ap sid_of_text (take_at text (c ∷ more) (length text) refl) ∙ spelled_of v text s in
    ap (λ (n : ℕ). longest n whole) (length-append text (c ∷ more))
    ∙ longest_down (length text) whole (length (c ∷ more)) (λ m lt le. ap sid_of_text (take_behind m text c more lt)
    ∙ ends_here v text c (take (m - length text - 1) more) s h)
    ∙ found_here (length text) v whole here
    ∙ ap (λ (r : List ℕ). Some (v, r)) (drop_at text (c ∷ more) (length text) refl)

-- and at the end
pub again_at_end : (v : SidValue) (text : List ℕ) → SpellsSidText v text → longest (length text) text ≡ Some (v, [])
again_at_end v text s = found_whole v text (spelled_of v text s) ∙ ap (λ (r : List ℕ). Some (v, r))
    (drop_all (length text) text (omega arith))

-- what was found is encoded before the rest
pub record FrontIs (v : SidValue) (text rest : List ℕ) : Type 0 where
  pub front : List ℕ
  pub spelled : SpellsSidText v front
  pub parts : text ≡ front ++ rest

some_pair : (a b : SidValue × List ℕ) → Some a ≡ Some b → a ≡ b
some_pair a b e = ap (λ (o : Option (SidValue × List ℕ)). unwrap_or o a) e

chosen : (front behind rest text : List ℕ) (v : SidValue) (shorter : Option (SidValue × List ℕ)) (o : Option SidValue)
    → sid_of_text front ≡ o → text ≡ front ++ behind
    → (shorter ≡ Some (v, rest) → FrontIs v text rest) → or_shorter behind shorter o ≡ Some (v, rest)
    → FrontIs v text rest
chosen front behind rest text v shorter None is parts before e = before e
chosen front behind rest text v shorter (Some w) is parts before e =
    let pair : (w, behind) ≡ (v, rest) = some_pair (w, behind) (v, rest) e in
    record {
      front = front;
      spelled = spells_of v front (is ∙ ap (λ (p : SidValue × List ℕ). Some p.0) pair);
      parts = parts ∙ ap (λ (p : SidValue × List ℕ). front ++ p.1) pair;
    }

pub front_found : (n : ℕ) (v : SidValue) (text rest : List ℕ) → longest n text ≡ Some (v, rest) → FrontIs v text rest
unfolding longest
front_found zero v text rest e = absurd cc
front_found (suc n) v text rest e =
    chosen (take (suc n) text) (drop (suc n) text) rest text v (longest n text) (sid_of_text (take (suc n) text)) refl
    (sym (take-append-drop (suc n) text)) (λ h. front_found n v text rest h) e

-- ---- what begins no identifier

letter_if : Bool → Option State
letter_if is_s = if is_s then Some (state Letter 0 0 []) else None

one_letter : (a : ℕ) → sid_of_text (a ∷ []) ≡ None
unfolding read_by_steps step_from letter_if
one_letter a = as_steps (a ∷ []) ∙ by_letter (eqb a 83 || eqb a 115)
  where
    by_letter : (is_s : Bool) → finished_if (from_there (letter_if is_s) []) ≡ None
    by_letter true = refl
    by_letter false = refl

no_hyphen_second : (a b : ℕ) (more : List ℕ) → eqb b 45 ≡ false → sid_of_text (a ∷ b ∷ more) ≡ None
unfolding read_by_steps step_from letter_if
no_hyphen_second a b more h = as_steps (a ∷ b ∷ more) ∙ by_letter (eqb a 83 || eqb a 115)
  where
    second : step_from Letter (state Letter 0 0 []) b ≡ None
    second = rw h refl

    by_letter : (is_s : Bool) → finished_if (from_there (letter_if is_s) (b ∷ more)) ≡ None
    by_letter true = ap (λ (o : Option State). finished_if (from_there o more)) second
        ∙ ap finished_if (run_none step more)
    by_letter false = refl

pub no_front_in_two : (a b : ℕ) (more : List ℕ) → eqb b 45 ≡ false → longest (length (a ∷ b ∷ more)) (a ∷ b ∷ more)
    ≡ None
no_front_in_two a b more h = longest_none (length (a ∷ b ∷ more)) (a ∷ b ∷ more) none
  where
    none : (m : ℕ) → 1 ≤ m → m ≤ length (a ∷ b ∷ more) → sid_of_text (take m (a ∷ b ∷ more)) ≡ None
    none zero some le = absurd (omega (arith, some))
    none (suc zero) some le = one_letter a
    none (suc (suc m)) some le = no_hyphen_second a b (take m more) h

-- ---- the longest prefix, as the grammar says it

-- none of at most n bytes encodes one
abbrev NoneUpTo : ℕ → List ℕ → Type 0
NoneUpTo n text = (v : SidValue) (m : ℕ) → m ≤ n → SpellsSidText v (take m text) → ⊥

-- the longest of at most n bytes
record LongestUpTo (n : ℕ) (v : SidValue) (rest text : List ℕ) : Type 0 where
  len : ℕ
  within : len ≤ n
  spelled : SpellsSidText v (take len text)
  rest_is : rest ≡ drop len text
  longest : (other : SidValue) (m : ℕ) → len < m → m ≤ n → SpellsSidText other (take m text) → ⊥

-- what such a reader says, by its answer
abbrev Told : ℕ → List ℕ → Option (SidValue × List ℕ) → Type 0
Told n text None = NoneUpTo n text
Told n text (Some found) = LongestUpTo n found.0 found.1 text

nothing_spells : (text : List ℕ) → text ≡ [] → (v : SidValue) → SpellsSidText v text → ⊥
nothing_spells text e v s = empty_text v (ap sid_of_text (sym e) ∙ spelled_of v text s)

-- one byte more
told_more : (n : ℕ) (text : List ℕ) (o : Option SidValue) (shorter : Option (SidValue × List ℕ))
    → sid_of_text (take (suc n) text) ≡ o → Told n text shorter
    → Told (suc n) text (or_shorter (drop (suc n) text) shorter o)
told_more n text (Some v) shorter is t = record {
  len = suc n;
  within = omega arith;
  spelled = spells_of v (take (suc n) text) is;
  rest_is = refl;
  longest = λ other m lt le s. absurd (omega (arith, lt, le));
}
told_more n text None None is t = λ v m le s. elim (cases_lt n m) [
  | inl lt ↦
      let all : m ≡ suc n = omega (arith, lt, le) in
      let read : sid_of_text (take (suc n) text) ≡ Some v = ap (λ (i : ℕ). sid_of_text (take i text)) (sym all)
      ∙ spelled_of v (take m text) s in
      absurd cc
  | inr lower ↦ t v m lower s
]
told_more n text None (Some found) is t = record {
  len = t.len;
  within = omega (arith, t.within);
  spelled = t.spelled;
  rest_is = t.rest_is;
  longest = λ other m lt le s. elim (cases_lt n m) [
    | inl above ↦
        let all : m ≡ suc n = omega (arith, above, le) in
        let read : sid_of_text (take (suc n) text) ≡ Some other = ap (λ (i : ℕ). sid_of_text (take i text)) (sym all)
        ∙ spelled_of other (take m text) s in
        absurd cc
    | inr lower ↦ t.longest other m lt lower s
  ];
}

told : (n : ℕ) (text : List ℕ) → Told n text (longest n text)
unfolding longest
told zero text = λ v m le s. nothing_spells (take m text) (none_taken m text le) v s
  where
    none_taken : (m : ℕ) (text : List ℕ) → m ≤ 0 → take m text ≡ []
    none_taken zero text le = refl
    none_taken (suc m) text le = absurd (omega (arith, le))
told (suc n) text = told_more n text (sid_of_text (take (suc n) text)) (longest n text) refl (told n text)

-- the function of a text that says which prefix is the longest says it of the grammar
pub front_is_longest : (v : SidValue) (text rest : List ℕ) → longest_front text ≡ Some (v, rest) → (len : ℕ)
    × IsLongestPrefix SpellsSidText v len text × (rest ≡ drop len text)
front_is_longest v text rest e =
    let t : LongestUpTo (length text) v rest text = subst (Told (length text) text) e (told (length text) text) in
    (t.len, record { within = t.within; spelled = t.spelled; longest = t.longest }, t.rest_is)

pub no_front_spells : (text : List ℕ) → longest_front text ≡ None → HasNoPrefix SpellsSidText text
no_front_spells text e = subst (Told (length text) text) e (told (length text) text)

drops_apart : (a b : ℕ) (text : List ℕ) → a ≤ length text → b ≤ length text → drop a text ≡ drop b text → a ≡ b
drops_apart a b text la lb e = omega (arith, la, lb, ap length e, length-drop a text, length-drop b text)

-- an answer with the prefix's length
pub answer_is_longest : (v : SidValue) (len : ℕ) (text : List ℕ) → Some (v, drop len text) ≡ longest_front text → len
    ≤ length text → IsLongestPrefix SpellsSidText v len text
answer_is_longest v len text e within =
    let f = front_is_longest v text (drop len text) (sym e) in
    let same : len ≡ f.0 = drops_apart len f.0 text within f.1.within f.2 in
    subst (λ (n : ℕ). IsLongestPrefix SpellsSidText v n text) (sym same) f.1

pub answer_told : (found : Option (SidValue × ℕ)) (text : List ℕ) → with_length text found ≡ longest_front text
    → IfSome found (λ f. f.1 ≤ length text)
    → IfSome found (λ f. IsLongestPrefix SpellsSidText f.0 f.1 text)
answer_told None text e within = tt
answer_told (Some f) text e within = answer_is_longest f.0 f.1 text e within

pub answer_none : (found : Option (SidValue × ℕ)) (text : List ℕ) → with_length text found ≡ longest_front text
    → IfNone found (HasNoPrefix SpellsSidText text)
answer_none None text e = no_front_spells text (sym e)
answer_none (Some f) text e = tt
