-- The word of what decides.
use Rattle.std.proofs.Common.{◌≡◌, ◌∙◌, ℕ, ◌-◌, true, false, Bool, Option, Some, None, List, [], ◌∷◌, refl, sym, ap}
use Rattle.std.specs.Prelude.{find, if◌then◌else◌, length, slice_get, unwrap_or}
use Rattle.std.specs.List.{list_all}
use Rattle.std.specs.Option.{option_map, option_map_or, option_and_then}
use Rattle.std.proofs.lemmas.Bool.{and_parts}
use Rattle.std.proofs.lemmas.Option.{same_Some}
use Rattle.std.specs.Borrow.{Bor}
use native.Mathlib.Numerals.{unary_clauses}
use Rattle.ad_ids.specs.declared.token.Token.{Token}
use Rattle.ad_dir_model.specs.Directory.{Directory}
use Rattle.ad_questions.specs.declared.question.Question.{Question}
use Rattle.ad_questions.specs.Question.{question_of}
use Rattle.ad_questions.specs.Requirements.{requirements, is_allowed}
use Rattle.ad_who.specs.Reason.{told, last_of, reason_of}
use Rattle.ad_who.specs.Lines.{reason_text}
use Rattle.ad_control_graph.specs.declared.kind.Kind.{Kind}
use Rattle.ad_control_graph.specs.Kinds.{Way, row}
use Rattle.ad_control_graph.specs.Texts.{texts_seen}
use Rattle.ad_control.specs.Edges.{has_one, may_ask, goes}
use Rattle.ad_control.specs.Lines.{nothing, last_in, why, what}
use Rattle.ad_control_lines.specs.Deciding.{reason_for, last_reason, decided, reason_word}

-- the last text, by its place
pub last_at : (texts : List (Bor (List ℕ)))
    → last_in (texts_seen texts) ≡ option_map (λ (text : Bor (List ℕ)). text.now) (slice_get texts (length texts - 1))
unfolding last_in
last_at [] = refl
last_at (text ∷ []) = refl
last_at (text ∷ next ∷ texts) =
    let rest = last_at (next ∷ texts) in simp unary_clauses (simp unary_clauses at rest)

module _ (dir : Directory) (token : Token) (number : ℕ) where
  pub last_some : (texts : List (Bor (List ℕ))) (text : Bor (List ℕ)) → Some text ≡ slice_get texts (length texts - 1)
      → reason_for dir token number text.now ≡ last_reason dir token number (texts_seen texts)
  unfolding last_reason
  last_some texts text is = ap (option_and_then (reason_for dir token number))
      (ap (option_map (λ (t : Bor (List ℕ)). t.now)) is ∙ sym (last_at texts))

  pub last_none : (texts : List (Bor (List ℕ))) → None ≡ slice_get texts (length texts - 1)
      → None ≡ last_reason dir token number (texts_seen texts)
  unfolding last_reason
  last_none texts is = ap (option_and_then (reason_for dir token number))
      (ap (option_map (λ (t : Bor (List ℕ)). t.now)) is ∙ sym (last_at texts))

-- ---- what passes

-- the last of texts that all pass
last_passes : (test : List ℕ → Bool) (texts : List (List ℕ)) (text : List ℕ) → list_all test texts ≡ true
    → last_in texts ≡ Some text → test text ≡ true
unfolding last_in
last_passes test [] text all is = absurd cc
last_passes test (only ∷ []) text all is =
    ap test (sym (same_Some only text is)) ∙ (and_parts (test only) true all).0
last_passes test (first ∷ next ∷ texts) text all is =
    last_passes test (next ∷ texts) text (and_parts (test first) (list_all test (next ∷ texts)) all).1 is

-- what is found
found_passes : (test : Way → Bool) (ways : List Way) (way : Way) → find test ways ≡ Some way → test way ≡ true
found_passes test [] way is = absurd cc
found_passes test (first ∷ ways) way is =
    by_test (test first) refl (λ later. found_passes test ways way later) is
  where
    by_test : (b : Bool) → test first ≡ b → (find test ways ≡ Some way → test way ≡ true)
        → (if b then Some first else find test ways) ≡ Some way → test way ≡ true
    by_test true passes others found = ap test (sym (same_Some first way found)) ∙ passes
    by_test false fails others found = others found

-- ---- the word

module _ (dir : Directory) (token : Token) (number : ℕ) where
  -- where the token is told yes
  by_question : (question : Option Question)
      → option_map_or (λ q. is_allowed dir token q number) question false ≡ true
      → unwrap_or (option_map (λ q. reason_text (reason_of dir token number (last_of (requirements dir q number))))
      question) nothing
      ≡ reason_word (option_and_then (λ q. told dir token number (requirements dir q number)) question)
  unfolding told is_allowed
  by_question None allowed = refl
  by_question (Some question) allowed = rw allowed refl

  why_is : (text : List ℕ) → may_ask dir token number text ≡ true
      → why dir token number text ≡ reason_word (reason_for dir token number text)
  unfolding why reason_for may_ask
  why_is text asked = by_question (question_of dir.schema text) asked

  by_last : (last : Option (List ℕ)) → ((text : List ℕ) → last ≡ Some text → may_ask dir token number text ≡ true)
      → unwrap_or (option_map (why dir token number) last) nothing
      ≡ reason_word (option_and_then (reason_for dir token number) last)
  by_last None asked = refl
  by_last (Some text) asked = why_is text (asked text refl)

  goes_asked : (way : Way) (text : List ℕ) → goes dir token number way ≡ true → last_in way.asks ≡ Some text
      → may_ask dir token number text ≡ true
  unfolding goes
  goes_asked way text passes is = last_passes (may_ask dir token number) way.asks text
      (and_parts (has_one dir number way.stored) (list_all (may_ask dir token number) way.asks) passes).1 is

  by_way : (way : Option Way) → ((w : Way) → way ≡ Some w → goes dir token number w ≡ true)
      → unwrap_or (option_and_then (λ (w : Way). option_map (why dir token number) (last_in w.asks)) way) nothing
      ≡ reason_word (option_and_then (λ (w : Way). last_reason dir token number w.asks) way)
  unfolding last_reason
  by_way None passes = refl
  by_way (Some way) passes =
      by_last (last_in way.asks) (λ text is. goes_asked way text (passes way refl) is)

  pub what_is : (kind : Kind)
      → what dir (Some token) kind number ≡ reason_word (decided dir token number (row kind).ways)
  unfolding what
  what_is kind = by_way (find (goes dir token number) (row kind).ways)
      (λ way is. found_passes (goes dir token number) (row kind).ways way is)
