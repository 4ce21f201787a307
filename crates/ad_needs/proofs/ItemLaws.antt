-- The items of a Modify, one after the other.
use Rattle.std.proofs.Common.{◌≡◌, ℕ, ◌+◌, ◌<◌, ◌≤◌, Bool, not, List, ◌++◌, length, take, drop, get_or, Option}
use Rattle.std.proofs.Common.{Some, None, sym, ap, ◌∙◌, append_assoc}
use Rattle.std.specs.List.{list_any}
use Rattle.std.proofs.lemmas.List.{drop_all}
use Rattle.ad_ids.specs.declared.token.Token.{Token}
use Rattle.ad_ldap.specs.declared.items.Item.{Item}
use Rattle.ad_dir_model.specs.Directory.{Directory}
use Rattle.ad_needs_rules.specs.declared.outcome.Verdict.{Verdict}
use Rattle.ad_needs_rules.specs.Needs.{Alternative}
use Rattle.ad_needs_rules.specs.Modifying.{is_item_of, needs_behind, modify_needs}
use Rattle.ad_needs.specs.ItemWords.{needs_if, named_needs}
use Rattle.ad_needs.proofs.ModifyLaws.{needs_at, needs_here}
use Rattle.ad_needs.specs.Tries.{tries}
use Rattle.ad_needs.specs.declared.trying.Trace.{Trace}
use Rattle.ad_needs.specs.Steps.{kept, and_then, goes_on, Steps}

-- what the items from a place on require
abbrev pub left : Directory → Token → ℕ → ℕ → List Item → ℕ → List (List Alternative)
left dir token number flags items i = needs_behind dir token number flags items (take i items) (drop i items)

-- what is kept so far and what is left is all that is tried, whatever follows
abbrev pub SoFar : Directory → Token → ℕ → ℕ → List Item → ℕ → Trace → Trace → Type 0
SoFar dir token number flags items i before trace =
    (others : List (List Alternative)) → and_then (kept trace)
    (tries dir token (left dir token number flags items i ++ others))
    ≡ and_then (kept before) (tries dir token (modify_needs dir token number flags items ++ others))

-- what one item requires, and whether it goes on
one_item : (dir : Directory) (token : Token) (number flags : ℕ) (items : List Item) (i : ℕ) (item : Item)
    (first : Bool) (refusal : Option Verdict) (before trace after : Trace)
    → i < length items → item ≡ get_or items i item → first ≡ not (list_any (is_item_of item.attr) (take i items))
    → Steps dir token trace (needs_if first (named_needs dir token number flags items item.attr)) after refusal
    → SoFar dir token number flags items i before trace
    → (others : List (List Alternative)) → goes_on dir token refusal (kept after)
    (left dir token number flags items (i + 1) ++ others)
    ≡ and_then (kept before) (tries dir token (modify_needs dir token number flags items ++ others))
one_item dir token number flags items i item first refusal before trace after lt is by steps so_far others =
    steps (left dir token number flags items (i + 1) ++ others)
    ∙ ap (λ (b : Bool). and_then (kept trace)
    (tries dir token (needs_if b (named_needs dir token number flags items item.attr)
    ++ (left dir token number flags items (i + 1) ++ others)))) by
    ∙ ap (λ (rs : List (List Alternative)). and_then (kept trace) (tries dir token rs))
    (sym (append_assoc (needs_at dir token number flags items i item) (left dir token number flags items (i + 1))
    others)
    ∙ ap (λ (rs : List (List Alternative)). rs ++ others) (sym (needs_here dir token number flags items i item lt is)))
    ∙ so_far others

pub items_go_on : (dir : Directory) (token : Token) (number flags : ℕ) (items : List Item) (i : ℕ) (item : Item)
    (first : Bool) (refusal : Option Verdict) (before trace after : Trace)
    → i < length items → item ≡ get_or items i item → first ≡ not (list_any (is_item_of item.attr) (take i items))
    → refusal ≡ None
    → Steps dir token trace (needs_if first (named_needs dir token number flags items item.attr)) after refusal
    → SoFar dir token number flags items i before trace → SoFar dir token number flags items (i + 1) before after
items_go_on dir token number flags items i item first refusal before trace after lt is by none steps so_far others =
    ap (λ (r : Option Verdict). goes_on dir token r (kept after) (left dir token number flags items (i + 1) ++ others))
    (sym none)
    ∙ one_item dir token number flags items i item first refusal before trace after lt is by steps so_far others

pub items_stop : (dir : Directory) (token : Token) (number flags : ℕ) (items : List Item) (i : ℕ) (item : Item)
    (first : Bool) (refusal : Option Verdict) (verdict : Verdict) (before trace after : Trace)
    → i < length items → item ≡ get_or items i item → first ≡ not (list_any (is_item_of item.attr) (take i items))
    → refusal ≡ Some verdict
    → Steps dir token trace (needs_if first (named_needs dir token number flags items item.attr)) after refusal
    → SoFar dir token number flags items i before trace
    → Steps dir token before (modify_needs dir token number flags items) after (Some verdict)
items_stop dir token number flags items i item first refusal verdict before trace after lt is by some steps so_far
    others =
    ap (λ (r : Option Verdict). goes_on dir token r (kept after) (left dir token number flags items (i + 1) ++ others))
    (sym some)
    ∙ one_item dir token number flags items i item first refusal before trace after lt is by steps so_far others

pub items_end : (dir : Directory) (token : Token) (number flags : ℕ) (items : List Item) (i : ℕ)
    (before trace : Trace) → length items ≤ i
    → SoFar dir token number flags items i before trace
    → Steps dir token before (modify_needs dir token number flags items) trace None
unfolding needs_behind
items_end dir token number flags items i before trace le so_far others =
    ap (λ (ls : List Item). and_then (kept trace)
    (tries dir token (needs_behind dir token number flags items (take i items) ls ++ others)))
    (sym (drop_all i items le))
    ∙ so_far others
