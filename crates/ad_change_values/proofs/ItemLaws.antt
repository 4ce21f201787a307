-- The checks of items, one after the other.
use Rattle.std.proofs.Common.{◌≡◌, ℕ, ◌+◌, ◌<◌, ◌≤◌, Bool, true, false, not, List, [], ◌∷◌, ◌++◌, length, map, get_or}
use Rattle.std.proofs.Common.{drop, Some, None, refl, sym, subst, ap, ◌∙◌, arith}
use Rattle.std.specs.Prelude.{◌||◌, ◌&&◌, ◌==◌, if◌then◌else◌}
use Rattle.std.specs.List.{AllByRecursion, list_all, list_any}
use Rattle.std.proofs.lemmas.Bool.{true≢false, eqb-true}
use Rattle.std.proofs.lemmas.List.{drop_all}
use Rattle.std.proofs.lemmas.List.Elements.{All-from_recursion, All-get_or}
use Rattle.ad_schema.specs.declared.line.SchemaRecord.{SchemaRecord}
use Rattle.ad_schema.specs.Attributes.{attrs_of}
use Rattle.ad_dir_objects.specs.declared.act.ActItem.{ActItem}
use Rattle.ad_dir_objects.specs.declared.object.Stored.{Stored as StoredIn}
use Rattle.ad_dir_objects.specs.Seen.{stored_seen}
use Rattle.ad_dir_model.specs.Object.{Stored, Held, stored_in}
use Rattle.ad_dir_model.specs.Directory.{Directory}
use Rattle.ad_dir_model.specs.Soundness.{AttrsRiseFrom}
use Rattle.ad_dir_model.proofs.WithValues.{rise_with}
use Rattle.ad_needs_rules.specs.Checks.{Refusal, Check, code, or_code, first_failing}
use Rattle.ad_needs_rules.proofs.FirstFailing.{all_pass, one_fails}
use Rattle.ad_change_values.specs.Values.{leads, is_no_empty_password, is_given_twice, is_among}
use Rattle.ad_dir_model.specs.Attributes.{is_password}
use Rattle.ad_change_values.specs.Values.{all_stored}
use Rattle.ad_change_values.specs.Items.{values_after, without, with_these, after_item, after_items, adds_new}
use Rattle.ad_change_values.specs.Items.{gives_once, deletes_there}
use Rattle.ad_change_values.specs.Items.{item_checks, all_item_checks}
use Rattle.ad_change_values.specs.Judging.{reading_checks, kept_checks, checks_on, HasByteItem}
use Rattle.ad_change_values.proofs.HeldLaws.{rise_without, these_again}
use Rattle.ad_change_values.proofs.SentLaws.{cut}

-- ---- the checks after those of the values alone

abbrev five : Bool → Bool → Bool → Bool → Bool → Bool → List Check
five added once b password there filled =
    or_code added 20 ∷ or_code once 20 ∷ or_code (not b || (password || there)) 16
    ∷ or_code (not b || (not password || there)) 19 ∷ or_code filled 19 ∷ []

not_added : (added once b password there filled : Bool) → added ≡ false
    → first_failing (five added once b password there filled) ≡ Some (code 20)
unfolding first_failing
not_added added once b password there filled p = rw p refl

not_once : (added once b password there filled : Bool) → added ≡ true → once ≡ false
    → first_failing (five added once b password there filled) ≡ Some (code 20)
unfolding first_failing
not_once added once b password there filled p q = rw (p, q) refl

not_deleted : (added once b password there filled : Bool) → added ≡ true → once ≡ true → (not b || there) ≡ false
    → first_failing (five added once b password there filled) ≡ Some (code (if password then 19 else 16))
unfolding first_failing
not_deleted added once true true false filled p q r = rw (p, q) refl
not_deleted added once true false false filled p q r = rw (p, q) refl
not_deleted added once true password true filled p q r = absurd (true≢false r)
not_deleted added once false password there filled p q r = absurd (true≢false r)

not_filled : (added once b password there filled : Bool) → added ≡ true → once ≡ true → (not b || there) ≡ true
    → filled ≡ false
    → first_failing (five added once b password there filled) ≡ Some (code 19)
unfolding first_failing
not_filled added once true true true filled p q r s = rw (p, q, s) refl
not_filled added once true false true filled p q r s = rw (p, q, s) refl
not_filled added once true password false filled p q r s = absurd (true≢false (sym r))
not_filled added once false password there filled p q r s = rw (p, q, s) refl

all_kept : (added once b password there filled : Bool) → added ≡ true → once ≡ true → (not b || there) ≡ true → filled
    ≡ true
    → first_failing (five added once b password there filled) ≡ None
unfolding first_failing
all_kept added once true true true filled p q r s = rw (p, q, s) refl
all_kept added once true false true filled p q r s = rw (p, q, s) refl
all_kept added once true password false filled p q r s = absurd (true≢false (sym r))
all_kept added once false password there filled p q r s = rw (p, q, s) refl

-- the same of an item, of which it is said whether a value is given twice

abbrev once_by : ActItem → Bool → Bool
once_by item twice = item.op == 1 || not twice

abbrev deletes_by : ActItem → List Stored → List Stored → Bool → Bool
deletes_by item new stored twice =
    if length item.values == 0 then not (length stored == 0) else list_all (is_among stored) new && not twice

abbrev there_by : ActItem → List Stored → List Stored → Bool → Bool
there_by item new stored twice = not (item.op == 1) || deletes_by item new stored twice

abbrev all_filled : List SchemaRecord → ActItem → Bool
all_filled schema item = list_all (is_no_empty_password schema item.attr.0) item.values

abbrev filled_by : List SchemaRecord → ActItem → Bool
filled_by schema item = item.op == 1 || all_filled schema item

pub given_there : (schema : List SchemaRecord) (item : ActItem) (new stored : List Stored)
    → adds_new item.op new stored ≡ false
    → first_failing (kept_checks schema item new stored) ≡ Some (code 20)
given_there schema item new stored a =
    not_added (adds_new item.op new stored) (gives_once schema item) (item.op == 1) (is_password schema item.attr.0)
    (deletes_there schema item new stored) (filled_by schema item) a

kept_twice : (schema : List SchemaRecord) (item : ActItem) (new stored : List Stored) (twice : Bool)
    → twice ≡ is_given_twice schema item.attr.0 item.values → adds_new item.op new stored ≡ true → once_by item twice
    ≡ false
    → first_failing (kept_checks schema item new stored) ≡ Some (code 20)
kept_twice schema item new stored twice is a o =
    not_once (adds_new item.op new stored) (gives_once schema item) (item.op == 1) (is_password schema item.attr.0)
    (deletes_there schema item new stored) (filled_by schema item) a (ap (once_by item) (sym is) ∙ o)

kept_absent : (schema : List SchemaRecord) (item : ActItem) (new stored : List Stored) (twice : Bool)
    → twice ≡ is_given_twice schema item.attr.0 item.values → adds_new item.op new stored ≡ true → once_by item twice
    ≡ true
    → there_by item new stored twice ≡ false
    → first_failing (kept_checks schema item new stored)
    ≡ Some (code (if is_password schema item.attr.0 then 19 else 16))
kept_absent schema item new stored twice is a o t =
    not_deleted (adds_new item.op new stored) (gives_once schema item) (item.op == 1) (is_password schema item.attr.0)
    (deletes_there schema item new stored) (filled_by schema item) a (ap (once_by item) (sym is) ∙ o)
    (ap (there_by item new stored) (sym is) ∙ t)

kept_empty : (schema : List SchemaRecord) (item : ActItem) (new stored : List Stored) (twice : Bool)
    → twice ≡ is_given_twice schema item.attr.0 item.values → adds_new item.op new stored ≡ true → once_by item twice
    ≡ true
    → there_by item new stored twice ≡ true → filled_by schema item ≡ false
    → first_failing (kept_checks schema item new stored) ≡ Some (code 19)
kept_empty schema item new stored twice is a o t f =
    not_filled (adds_new item.op new stored) (gives_once schema item) (item.op == 1) (is_password schema item.attr.0)
    (deletes_there schema item new stored) (filled_by schema item) a (ap (once_by item) (sym is) ∙ o)
    (ap (there_by item new stored) (sym is) ∙ t) f

kept_fine : (schema : List SchemaRecord) (item : ActItem) (new stored : List Stored) (twice : Bool)
    → twice ≡ is_given_twice schema item.attr.0 item.values → adds_new item.op new stored ≡ true → once_by item twice
    ≡ true
    → there_by item new stored twice ≡ true → filled_by schema item ≡ true
    → first_failing (kept_checks schema item new stored) ≡ None
kept_fine schema item new stored twice is a o t f =
    all_kept (adds_new item.op new stored) (gives_once schema item) (item.op == 1) (is_password schema item.attr.0)
    (deletes_there schema item new stored) (filled_by schema item) a (ap (once_by item) (sym is) ∙ o)
    (ap (there_by item new stored) (sym is) ∙ t) f

-- ---- a deletion: the values are there, and nothing else is asked

adds_nothing : (op : ℕ) (new stored : List Stored) → (op == 1) ≡ true → adds_new op new stored ≡ true
adds_nothing op new stored is =
    subst (λ (n : ℕ). adds_new n new stored ≡ true) (sym (eqb-true op 1 is)) refl

pub deletion_absent : (schema : List SchemaRecord) (item : ActItem) (new stored : List Stored) (twice : Bool)
    → (item.op == 1) ≡ true → twice ≡ is_given_twice schema item.attr.0 item.values
    → deletes_by item new stored twice ≡ false
    → first_failing (kept_checks schema item new stored)
    ≡ Some (code (if is_password schema item.attr.0 then 19 else 16))
deletion_absent schema item new stored twice op is gone =
    kept_absent schema item new stored twice is (adds_nothing item.op new stored op)
    (ap (λ (b : Bool). b || not twice) op)
    (ap (λ (b : Bool). not b || deletes_by item new stored twice) op ∙ gone)

pub deletion_fine : (schema : List SchemaRecord) (item : ActItem) (new stored : List Stored) (twice : Bool)
    → (item.op == 1) ≡ true → twice ≡ is_given_twice schema item.attr.0 item.values
    → deletes_by item new stored twice ≡ true → first_failing (kept_checks schema item new stored) ≡ None
deletion_fine schema item new stored twice op is there =
    kept_fine schema item new stored twice is (adds_nothing item.op new stored op)
    (ap (λ (b : Bool). b || not twice) op)
    (ap (λ (b : Bool). not b || deletes_by item new stored twice) op ∙ there)
    (ap (λ (b : Bool). b || all_filled schema item) op)

-- ---- an addition or a replacement: no value is there or given twice, and no password is empty

pub given_twice : (schema : List SchemaRecord) (item : ActItem) (new stored : List Stored) (twice : Bool)
    → (item.op == 1) ≡ false → twice ≡ is_given_twice schema item.attr.0 item.values
    → adds_new item.op new stored ≡ true → twice ≡ true
    → first_failing (kept_checks schema item new stored) ≡ Some (code 20)
given_twice schema item new stored twice op is fresh again =
    kept_twice schema item new stored twice is fresh (ap (λ (b : Bool). b || not twice) op ∙ ap not again)

pub given_empty : (schema : List SchemaRecord) (item : ActItem) (new stored : List Stored) (twice : Bool)
    → (item.op == 1) ≡ false → twice ≡ is_given_twice schema item.attr.0 item.values
    → adds_new item.op new stored ≡ true → twice ≡ false → all_filled schema item ≡ false
    → first_failing (kept_checks schema item new stored) ≡ Some (code 19)
given_empty schema item new stored twice op is fresh once empty =
    kept_empty schema item new stored twice is fresh (ap (λ (b : Bool). b || not twice) op ∙ ap not once)
    (ap (λ (b : Bool). not b || deletes_by item new stored twice) op)
    (ap (λ (b : Bool). b || all_filled schema item) op ∙ empty)

pub given_fine : (schema : List SchemaRecord) (item : ActItem) (new stored : List Stored) (twice : Bool)
    → (item.op == 1) ≡ false → twice ≡ is_given_twice schema item.attr.0 item.values
    → adds_new item.op new stored ≡ true → twice ≡ false → all_filled schema item ≡ true
    → first_failing (kept_checks schema item new stored) ≡ None
given_fine schema item new stored twice op is fresh once filled =
    kept_fine schema item new stored twice is fresh (ap (λ (b : Bool). b || not twice) op ∙ ap not once)
    (ap (λ (b : Bool). not b || deletes_by item new stored twice) op)
    (ap (λ (b : Bool). b || all_filled schema item) op ∙ filled)

-- ---- one item

abbrev lead_check : Directory → ActItem → List Check
lead_check dir item = or_code (list_all (leads dir item.attr.0) item.values) 19 ∷ []

abbrev kept_of : Directory → List Stored → ActItem → List Check
kept_of dir stored item = kept_checks dir.schema item (all_stored dir item.attr.0 item.values) stored

pub read_stops : (dir : Directory) (stored : List Stored) (item : ActItem) (r : Refusal)
    → first_failing (reading_checks dir.schema item.attr.0 item.values) ≡ Some r
    → first_failing (checks_on dir stored item) ≡ Some r
read_stops dir stored item r is = one_fails (reading_checks dir.schema item.attr.0 item.values)
    (lead_check dir item ++ kept_of dir stored item) r is

pub lead_stops : (dir : Directory) (stored : List Stored) (item : ActItem) (r : Refusal)
    → first_failing (reading_checks dir.schema item.attr.0 item.values) ≡ None → first_failing (lead_check dir item)
    ≡ Some r
    → first_failing (checks_on dir stored item) ≡ Some r
lead_stops dir stored item r read is =
    all_pass (reading_checks dir.schema item.attr.0 item.values) (lead_check dir item ++ kept_of dir stored item) read
    ∙ one_fails (lead_check dir item) (kept_of dir stored item) r is

-- the checks of an item are those after, where those of its values hold
pub kept_decide : (dir : Directory) (item : ActItem) (new stored : List Stored)
    → first_failing (reading_checks dir.schema item.attr.0 item.values) ≡ None → first_failing (lead_check dir item)
    ≡ None
    → new ≡ all_stored dir item.attr.0 item.values
    → first_failing (checks_on dir stored item) ≡ first_failing (kept_checks dir.schema item new stored)
kept_decide dir item new stored read lead is =
    all_pass (reading_checks dir.schema item.attr.0 item.values) (lead_check dir item ++ kept_of dir stored item) read
    ∙ all_pass (lead_check dir item) (kept_of dir stored item) lead
    ∙ sym (ap (λ (vs : List Stored). first_failing (kept_checks dir.schema item vs stored)) is)

-- the checks of an item are those on the values that its attribute has
pub item_decided : (dir : Directory) (held : List Held) (item : ActItem) (stored : List Stored) → stored
    ≡ stored_in held item.attr.0
    → first_failing (item_checks dir held item) ≡ first_failing (checks_on dir stored item)
item_decided dir held item stored is = sym (ap (λ (vs : List Stored). first_failing (checks_on dir vs item)) is)

-- what is taken out, changed and put back is what the item makes
pub item_done : (dir : Directory) (held left after : List Held) (item : ActItem) (new stored made : List Stored)
    → AttrsRiseFrom 0 held
    → stored ≡ stored_in held item.attr.0 → left ≡ without item.attr.0 held → new ≡ all_stored dir item.attr.0
    item.values
    → made ≡ values_after item.op new stored → after ≡ with_these item.attr.0 made left → after
    ≡ after_item dir held item
unfolding after_item
item_done dir held left after item new stored made rise there out is makes put =
    put ∙ ap (λ (vs : List Held). with_these item.attr.0 made vs) out ∙ these_again item.attr.0 made held rise
    ∙ ap (λ (vs : List Stored). with_these item.attr.0 vs held)
    (makes ∙ ap (λ (vs : List Stored). values_after item.op vs stored) is
    ∙ ap (λ (vs : List Stored). values_after item.op (all_stored dir item.attr.0 item.values) vs) there)

-- ---- all items

pub record AreDoneTo (dir : Directory) (first : List Held) (items : List ActItem) (i : ℕ) (held : List Held) : Type 0
  where
    pub rise : AttrsRiseFrom 0 held
    pub checks : first_failing (all_item_checks dir held (drop i items))
        ≡ first_failing (all_item_checks dir first items)
    pub after : after_items dir held (drop i items) ≡ after_items dir first items
    pub bytes : AllByRecursion HasByteItem (drop i items) → AllByRecursion HasByteItem items

rise_these : (attr : ℕ) (new : List Stored) (vs : List Held) → AttrsRiseFrom 0 vs
    → AttrsRiseFrom 0 (with_these attr new vs)
rise_these attr [] vs rise = rise_without attr 0 vs rise
rise_these attr (first ∷ others) vs rise = rise_with attr (first ∷ others) 0 vs rise (omega arith)

rise_after : (dir : Directory) (held : List Held) (item : ActItem) → AttrsRiseFrom 0 held
    → AttrsRiseFrom 0 (after_item dir held item)
unfolding after_item
rise_after dir held item rise =
    rise_these item.attr.0 (values_after item.op (all_stored dir item.attr.0 item.values)
    (stored_in held item.attr.0)) held rise

pub items_more : (dir : Directory) (first : List Held) (items : List ActItem) (i : ℕ) (item : ActItem)
    (held after : List Held)
    → i < length items → item ≡ get_or items i item → first_failing (item_checks dir held item) ≡ None → after
    ≡ after_item dir held item → HasByteItem item
    → AreDoneTo dir first items i held → AreDoneTo dir first items (i + 1) after
unfolding all_item_checks after_items
items_more dir first items i item held after lt is none done bytes' before = record {
  rise = subst (AttrsRiseFrom 0) (sym done) (rise_after dir held item before.rise);
  checks = ap (λ (vs : List Held). first_failing (all_item_checks dir vs rest)) done
      ∙ sym (ap (λ (xs : List ActItem). first_failing (all_item_checks dir held xs)) at
      ∙ all_pass (item_checks dir held item) (all_item_checks dir (after_item dir held item) rest) none)
      ∙ before.checks;
  after = ap (λ (vs : List Held). after_items dir vs rest) done
      ∙ sym (ap (after_items dir held) at) ∙ before.after;
  bytes = λ others. before.bytes (subst (AllByRecursion HasByteItem) (sym at) (bytes', others));
}
  where
    rest : List ActItem
    rest = drop (i + 1) items

    at : drop i items ≡ item ∷ drop (i + 1) items
    at = cut items i item lt is

pub items_no_more : (dir : Directory) (first : List Held) (items : List ActItem) (i : ℕ) (item : ActItem)
    (held : List Held) (r : Refusal)
    → i < length items → item ≡ get_or items i item → AreDoneTo dir first items i held
    → first_failing (item_checks dir held item) ≡ Some r → first_failing (all_item_checks dir first items) ≡ Some r
unfolding all_item_checks
items_no_more dir first items i item held r lt is before stops =
    sym before.checks ∙ ap (λ (xs : List ActItem). first_failing (all_item_checks dir held xs)) (cut items i item lt is)
    ∙ one_fails (item_checks dir held item) (all_item_checks dir (after_item dir held item) (drop (i + 1) items)) r
    stops

pub items_done : (dir : Directory) (first : List Held) (items : List ActItem) (i : ℕ) (held : List Held)
    → length items ≤ i
    → AreDoneTo dir first items i held → (first_failing (all_item_checks dir first items) ≡ None)
    × (held ≡ after_items dir first items) × AllByRecursion HasByteItem items
unfolding all_item_checks after_items first_failing
items_done dir first items i held le before = (
  sym before.checks ∙ ap (λ (xs : List ActItem). first_failing (all_item_checks dir held xs)) (drop_all i items le),
  sym (ap (after_items dir held) (drop_all i items le)) ∙ before.after,
  before.bytes (subst (AllByRecursion HasByteItem) (sym (drop_all i items le)) tt),
)

-- an item's attribute is of the schema
pub item_within : (dir : Directory) (items : List ActItem) (i : ℕ) (item : ActItem) → i < length items → item
    ≡ get_or items i item
    → AllByRecursion (λ (a : ActItem). a.attr.0 < length (attrs_of dir.schema)) items → item.attr.0
    < length (attrs_of dir.schema)
item_within dir items i item lt is all =
    let P : ActItem → Type 0 = λ a. a.attr.0 < length (attrs_of dir.schema) in
    subst P (sym is) (All-get_or P items i item lt (All-from_recursion P items all))

-- ---- values among those that are stored, one after the other

pub any_found : (p : Stored → Bool) (xs : List StoredIn) (i : ℕ) (x : StoredIn) → i < length xs → x ≡ get_or xs i x
    → p (stored_seen x) ≡ true
    → list_any p (map stored_seen (drop i xs)) ≡ list_any p (map stored_seen xs) → true
    ≡ list_any p (map stored_seen xs)
any_found p xs i x lt at is before =
    sym (sym before ∙ ap (λ (ys : List StoredIn). list_any p (map stored_seen ys)) (cut xs i x lt at)
    ∙ ap (λ (b : Bool). b || list_any p (map stored_seen (drop (i + 1) xs))) is)

pub any_more : (p : Stored → Bool) (xs : List StoredIn) (i : ℕ) (x : StoredIn) → i < length xs → x ≡ get_or xs i x
    → p (stored_seen x) ≡ false
    → list_any p (map stored_seen (drop i xs)) ≡ list_any p (map stored_seen xs)
    → list_any p (map stored_seen (drop (i + 1) xs)) ≡ list_any p (map stored_seen xs)
any_more p xs i x lt at is before =
    sym (ap (λ (ys : List StoredIn). list_any p (map stored_seen ys)) (cut xs i x lt at)
    ∙ ap (λ (b : Bool). b || list_any p (map stored_seen (drop (i + 1) xs))) is) ∙ before

pub any_none : (p : Stored → Bool) (xs : List StoredIn) (i : ℕ) → length xs ≤ i
    → list_any p (map stored_seen (drop i xs)) ≡ list_any p (map stored_seen xs) → false
    ≡ list_any p (map stored_seen xs)
any_none p xs i le before = sym (ap (λ (ys : List StoredIn). list_any p (map stored_seen ys)) (drop_all i xs le))
    ∙ before

pub all_but : (p : Stored → Bool) (xs : List StoredIn) (i : ℕ) (x : StoredIn) → i < length xs → x ≡ get_or xs i x
    → p (stored_seen x) ≡ false
    → list_all p (map stored_seen (drop i xs)) ≡ list_all p (map stored_seen xs) → false
    ≡ list_all p (map stored_seen xs)
all_but p xs i x lt at is before =
    sym (sym before ∙ ap (λ (ys : List StoredIn). list_all p (map stored_seen ys)) (cut xs i x lt at)
    ∙ ap (λ (b : Bool). b && list_all p (map stored_seen (drop (i + 1) xs))) is)

pub all_more : (p : Stored → Bool) (xs : List StoredIn) (i : ℕ) (x : StoredIn) → i < length xs → x ≡ get_or xs i x
    → p (stored_seen x) ≡ true
    → list_all p (map stored_seen (drop i xs)) ≡ list_all p (map stored_seen xs)
    → list_all p (map stored_seen (drop (i + 1) xs)) ≡ list_all p (map stored_seen xs)
all_more p xs i x lt at is before =
    sym (ap (λ (ys : List StoredIn). list_all p (map stored_seen ys)) (cut xs i x lt at)
    ∙ ap (λ (b : Bool). b && list_all p (map stored_seen (drop (i + 1) xs))) is) ∙ before

pub all_found : (p : Stored → Bool) (xs : List StoredIn) (i : ℕ) → length xs ≤ i
    → list_all p (map stored_seen (drop i xs)) ≡ list_all p (map stored_seen xs) → true
    ≡ list_all p (map stored_seen xs)
all_found p xs i le before = sym (ap (λ (ys : List StoredIn). list_all p (map stored_seen ys)) (drop_all i xs le))
    ∙ before
