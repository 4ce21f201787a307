-- One part after another.
use Rattle.std.proofs.Common.{◌≡◌, ◌∙◌, ◌+◌, ◌<◌, ℕ, List, [], ◌∷◌, ◌++◌, length, map, take, get_or, refl, sym, ap}
use Rattle.std.proofs.Common.{subst, append_assoc}
use Rattle.std.proofs.lemmas.List.{append-nil, length-map, take_more}
use Rattle.ad_bytes.specs.Numbers.{SpellsBe}
use Rattle.ad_bytes.specs.Reading.{StartsWith, SpellsEach}
use Rattle.ad_rows_write.specs.Body.{SpellsList}
use Rattle.ad_rows_write.specs.Appends.{Appends}

pub puts_then : {A : Type 0} (Spells : A → List ℕ → Type 0) (x : A) (Follows : List ℕ → Type 0) (old mid new : List ℕ)
    → Appends (Spells x) old mid → Appends Follows mid new → Appends (StartsWith Spells x Follows) old new
puts_then Spells x Follows old mid new first second = (
  first.0 ++ second.0,
  record { front = first.0; behind = second.0; parts = refl; spelled = first.1; follows = second.1 },
  second.2 ∙ ap (λ (l : List ℕ). l ++ second.0) first.2 ∙ append_assoc old first.0 second.0,
)

-- all of a body
pub puts_all : (Spells : List ℕ → Type 0) (body : List ℕ) → Appends Spells [] body → Spells body
puts_all Spells body puts = subst Spells (sym puts.2) puts.1

-- nothing of a list
pub each_none : {A : Type 0} (Spells : A → List ℕ → Type 0) (old : List ℕ) → Appends (SpellsEach Spells []) old old
each_none Spells old = ([], refl, sym (append-nil old))

each_push : {A : Type 0} (Spells : A → List ℕ → Type 0) (xs : List A) (x : A) (text more : List ℕ)
    → SpellsEach Spells xs text → Spells x more → SpellsEach Spells (xs ++ x ∷ []) (text ++ more)
each_push Spells [] x text more each one = record {
  front = more;
  behind = [];
  parts = ap (λ (l : List ℕ). l ++ more) each ∙ sym (append-nil more);
  spelled
      = one;
  follows = refl;
}
each_push Spells (first ∷ xs) x text more each one = record {
  front = each.front;
  behind = each.behind ++ more;
  parts = ap (λ (l : List ℕ). l ++ more) each.parts ∙ append_assoc each.front each.behind more;
  spelled = each.spelled;
  follows = each_push Spells xs x each.behind more each.follows one;
}

each_more : {A : Type 0} (Spells : A → List ℕ → Type 0) (xs : List A) (x : A) (old mid new : List ℕ)
    → Appends (SpellsEach Spells xs) old mid → Appends (Spells x) mid new
    → Appends (SpellsEach Spells (xs ++ x ∷ [])) old new
each_more Spells xs x old mid new so_far one = (
  so_far.0 ++ one.0,
  each_push Spells xs x so_far.0 one.0 so_far.1 one.1,
  one.2 ∙ ap (λ (l : List ℕ). l ++ one.0) so_far.2 ∙ append_assoc old so_far.0 one.0,
)

-- one value more of a slice
pub each_at : {A : Type 0} (Spells : A → List ℕ → Type 0) (xs : List A) (i : ℕ) (x : A) (old mid new : List ℕ) → i
    < length xs → x ≡ get_or xs i x → Appends (SpellsEach Spells (take i xs)) old mid → Appends (Spells x) mid new
    → Appends (SpellsEach Spells (take (i + 1) xs)) old new
each_at Spells xs i x old mid new less is so_far one =
    subst (λ (l : List _). Appends (SpellsEach Spells l) old new)
    (ap (λ y. take i xs ++ y ∷ []) is ∙ sym (take_more xs i x less))
    (each_more Spells (take i xs) x old mid new so_far one)

pub puts_weaker : (P Q : List ℕ → Type 0) (old new : List ℕ) → ((text : List ℕ) → P text → Q text) → Appends P old new
    → Appends Q old new
puts_weaker P Q old new f puts = (puts.0, f puts.0 puts.1, puts.2)

-- values that are seen as others
each_mapped : {A B : Type 0} (Spells : B → List ℕ → Type 0) (f : A → B) (xs : List A) (text : List ℕ)
    → SpellsEach (λ x. Spells (f x)) xs text → SpellsEach Spells (map f xs) text
each_mapped Spells f [] text each = each
each_mapped Spells f (x ∷ xs) text each = record {
  front = each.front;
  behind = each.behind;
  parts
      = each.parts;
  spelled = each.spelled;
  follows = each_mapped Spells f xs each.behind each.follows;
}

list_mapped : {A B : Type 0} (Spells : B → List ℕ → Type 0) (f : A → B) (xs : List A) (text : List ℕ)
    → SpellsList (λ x. Spells (f x)) xs text → SpellsList Spells (map f xs) text
list_mapped Spells f xs text list = record {
  front = list.front;
  behind = list.behind;
  parts = list.parts;
  spelled = subst (λ (n : ℕ). SpellsBe 8 n list.front) (sym (length-map xs f)) list.spelled;
  follows = each_mapped Spells f xs list.behind list.follows;
}

pub puts_mapped : {A B : Type 0} (Spells : B → List ℕ → Type 0) (f : A → B) (xs ys : List A) (old new : List ℕ) → xs
    ≡ ys → Appends (SpellsList (λ x. Spells (f x)) xs) old new → Appends (SpellsList Spells (map f ys)) old new
puts_mapped Spells f xs ys old new same puts =
    subst (λ (l : List _). Appends (SpellsList Spells (map f l)) old new) same
    (puts_weaker (SpellsList (λ x. Spells (f x)) xs) (SpellsList Spells (map f xs)) old new
    (list_mapped Spells f xs) puts)
