-- Items one after the other, at a place of their list, and what each of them keeps.
use Rattle.std.proofs.Common.{◌≡◌, ℕ, ◌+◌, ◌<◌, ◌≤◌, Result, Ok, Err, List, [], ◌∷◌, length, map, get_or, drop, refl}
use Rattle.std.proofs.Common.{ap, subst, ◌∙◌, arith}
use Rattle.std.specs.List.{AllByRecursion}
use Rattle.std.proofs.lemmas.List.{drop_all}
use Rattle.ad_bytes.specs.Reading.{◌>>=◌}
use Rattle.ad_load_objects.specs.Through.{through}
use Rattle.ad_load_records.proofs.Lists.{cut}

module _ {S X C E : Type 0} (step : S → X → Result S E) (seen : C → X) (items : List C) where
  next_of : (i : ℕ) (one : C) (s : S) → i < length items → get_or items i one ≡ one
      → through step s (map seen (drop i items))
      ≡ (step s (seen one) >>= λ next. through step next (map seen (drop (i + 1) items)))
  unfolding through
  next_of i one s lt is = ap (λ (xs : List C). through step s (map seen xs)) (cut items i one lt is)

  pub one_through : (i : ℕ) (one : C) (s next : S) → i < length items → get_or items i one ≡ one → step s (seen one)
      ≡ Ok next
      → through step s (map seen (drop i items)) ≡ through step next (map seen (drop (i + 1) items))
  one_through i one s next lt is e = next_of i one s lt is
      ∙ ap (λ (r : Result S E). r >>= λ x. through step x (map seen (drop (i + 1) items))) e

  pub one_stops : (i : ℕ) (one : C) (s : S) (f : E) → i < length items → get_or items i one ≡ one → step s (seen one)
      ≡ Err f
      → through step s (map seen (drop i items)) ≡ Err f
  one_stops i one s f lt is e = next_of i one s lt is
      ∙ ap (λ (r : Result S E). r >>= λ x. through step x (map seen (drop (i + 1) items))) e

  pub all_through : (i : ℕ) (s : S) → length items ≤ i → through step s (map seen (drop i items)) ≡ Ok s
  unfolding through
  all_through i s le = ap (λ (xs : List C). through step s (map seen xs)) (drop_all i items le)

-- ---- items that are taken out of their list

module _ {S X C E : Type 0} (step : S → X → Result S E) (seen : C → X) where
  taken_of : (left others : List C) (one : C) (s : S) → left ≡ one ∷ others
      → through step s (map seen left) ≡ (step s (seen one) >>= λ next. through step next (map seen others))
  unfolding through
  taken_of left others one s is = ap (λ (xs : List C). through step s (map seen xs)) is

  pub taken_through : (left others : List C) (one : C) (s next : S) → left ≡ one ∷ others → step s (seen one) ≡ Ok next
      → through step s (map seen left) ≡ through step next (map seen others)
  taken_through left others one s next is e = taken_of left others one s is
      ∙ ap (λ (r : Result S E). r >>= λ x. through step x (map seen others)) e

  pub taken_stops : (left others : List C) (one : C) (s : S) (f : E) → left ≡ one ∷ others → step s (seen one) ≡ Err f
      → through step s (map seen left) ≡ Err f
  taken_stops left others one s f is e = taken_of left others one s is
      ∙ ap (λ (r : Result S E). r >>= λ x. through step x (map seen others)) e

  pub all_taken : (left : List C) (s : S) → length left ≡ 0 → through step s (map seen left) ≡ Ok s
  unfolding through
  all_taken [] s none = refl
  all_taken (x ∷ xs) s none = absurd (omega (arith, none))

-- ---- the items themselves

module _ {S X E : Type 0} (step : S → X → Result S E) (items : List X) where
  next_item : (i : ℕ) (one : X) (s : S) → i < length items → get_or items i one ≡ one
      → through step s (drop i items) ≡ (step s one >>= λ next. through step next (drop (i + 1) items))
  unfolding through
  next_item i one s lt is = ap (through step s) (cut items i one lt is)

  pub item_through : (i : ℕ) (one : X) (s next : S) → i < length items → get_or items i one ≡ one
      → step s one ≡ Ok next → through step s (drop i items) ≡ through step next (drop (i + 1) items)
  item_through i one s next lt is e = next_item i one s lt is
      ∙ ap (λ (r : Result S E). r >>= λ x. through step x (drop (i + 1) items)) e

  pub item_stops : (i : ℕ) (one : X) (s : S) (f : E) → i < length items → get_or items i one ≡ one → step s one
      ≡ Err f → through step s (drop i items) ≡ Err f
  item_stops i one s f lt is e = next_item i one s lt is
      ∙ ap (λ (r : Result S E). r >>= λ x. through step x (drop (i + 1) items)) e

  pub items_through : (i : ℕ) (s : S) → length items ≤ i → through step s (drop i items) ≡ Ok s
  unfolding through
  items_through i s le = ap (through step s) (drop_all i items le)

-- ---- what each step keeps

pub first_through : {S X E : Type 0} (step : S → X → Result S E) (s end : S) (x : X) (xs : List X)
    → through step s (x ∷ xs) ≡ Ok end → (next : S) × (step s x ≡ Ok next) × (through step next xs ≡ Ok end)
unfolding through
first_through {S} {X} {E} step s end x xs e = by (step s x) refl e where
  by : (r : Result S E) → step s x ≡ r → (r >>= λ next. through step next xs) ≡ Ok end → (next : S)
      × (step s x ≡ Ok next) × (through step next xs ≡ Ok end)
  by (Ok next) is q = (next, is, q)
  by (Err f) is q = absurd cc

pub none_through : {S X E : Type 0} (step : S → X → Result S E) (s end : S) → through step s [] ≡ Ok end → s ≡ end
unfolding through
none_through step s end e = cc

pub keeps_through : {S X E : Type 0} (step : S → X → Result S E) (P : S → Type 0) (Q : X → Type 0)
    → ((s next : S) (x : X) → P s → Q x → step s x ≡ Ok next → P next)
    → (s end : S) (xs : List X) → P s → AllByRecursion Q xs → through step s xs ≡ Ok end → P end
keeps_through step P Q keep s end [] p all e = subst P (none_through step s end e) p
keeps_through step P Q keep s end (x ∷ xs) p all e =
    let first = first_through step s end x xs e in
    keeps_through step P Q keep first.0 end xs (keep s first.0 x p all.0 first.1) all.1 first.2
