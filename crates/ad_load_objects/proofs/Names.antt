-- Names part by part, and lists of what is seen.
use Rattle.std.proofs.Common.{◌≡◌, ℕ, suc, ◌+◌, ◌<◌, ◌≤◌, Bool, true, false, cond, Option, Some, None, List, []}
use Rattle.std.proofs.Common.{◌∷◌, length, map, get_or, drop, refl, ap, ◌∙◌}
use Rattle.std.specs.Prelude.{slice_get, position, nat_lt, not, find, codes, ◌==◌, ◌||◌, if◌then◌else◌}
use Rattle.std.specs.Option.{option_map, option_map_or, option_and_then}
use Rattle.std.specs.List.{list_any, prefix_len}
use Rattle.std.proofs.lemmas.List.{drop_all, length-map}
use Rattle.ad_dn.specs.declared.rdn.Rdn.{Rdn}
use Rattle.ad_schema.specs.declared.line.SchemaRecord.{SchemaRecord}
use Rattle.ad_schema.specs.declared.field.Field.TheVariants as field
use Rattle.ad_schema.specs.declared.info.AttrId.{AttrId}
use Rattle.ad_schema.specs.declared.meaning.RuleAttr.TheVariants.{ObjectSid}
use Rattle.ad_schema.specs.Attributes.{attrs_of, attr_named}
use Rattle.ad_schema.specs.Meaning.{attr_of_rule, if_counts, counts}
use Rattle.ad_schema_classes.specs.Names.{same_name}
use Rattle.ad_dir_model.specs.Attributes.{attr_name, rule_place, object_sid}
use Rattle.ad_dir_model.specs.Names.{same_rdn}
use Rattle.ad_load_objects.specs.declared.drafts.Given.{Given as HeldGiven}
use Rattle.ad_load_objects.specs.Drafts.{Given, same_names, is_given, first_given}
use Rattle.ad_load_objects.specs.Seen.{given_seen}
use Rattle.ad_load_records.proofs.Inverting.{and_true}
use Rattle.ad_load_records.proofs.Lists.{cut}
use Rattle.ad_dir_objects.proofs.AttrNames.{named_other}

-- ---- what is seen of each

pub any_seen : {X Y : Type 0} (test : Y → Bool) (seen : X → Y) (xs : List X) → list_any test (map seen xs)
    ≡ list_any (λ (x : X). test (seen x)) xs
any_seen test seen [] = refl
any_seen test seen (x ∷ xs) = ap (λ (b : Bool). test (seen x) || b) (any_seen test seen xs)

prefix_seen : {X Y : Type 0} (test : Y → Bool) (seen : X → Y) (xs : List X) → prefix_len test (map seen xs)
    ≡ prefix_len (λ (x : X). test (seen x)) xs
prefix_seen test seen [] = refl
prefix_seen test seen (x ∷ xs) = ap (λ (n : ℕ). cond (test (seen x)) (1 + n) 0) (prefix_seen test seen xs)

pub position_seen : {X Y : Type 0} (test : Y → Bool) (seen : X → Y) (xs : List X) → position test (map seen xs)
    ≡ position (λ (x : X). test (seen x)) xs
position_seen {X} {Y} test seen xs =
    ap (λ (n : ℕ). cond (nat_lt n (length (map seen xs))) (Some n) None) (prefix_seen (λ (y : Y). not (test y)) seen xs)
    ∙ ap (λ (m : ℕ). cond (nat_lt (prefix_len (λ (x : X). not (test (seen x))) xs) m)
    (Some (prefix_len (λ (x : X). not (test (seen x))) xs)) None) (length-map xs seen)

-- ---- part by part

pub same_length : (a b : List Rdn) → same_names a b ≡ true → length a ≡ length b
unfolding same_names
same_length [] [] e = refl
same_length [] (b ∷ bs) e = absurd cc
same_length (a ∷ as') [] e = absurd cc
same_length (a ∷ as') (b ∷ bs) e = ap (λ (n : ℕ). suc n)
    (same_length as' bs (and_true (same_rdn a b) (same_names as' bs) e).1)

-- ---- the first value of an attribute

next_given : (given : List HeldGiven) (i attr : ℕ) (one : HeldGiven) → i < length given → get_or given i one ≡ one
    → first_given (map given_seen (drop i given)) attr ≡ option_map (λ (g : Given). g.value)
    (if one.attr.0 == attr then Some (given_seen one)
    else find (is_given attr) (map given_seen (drop (i + 1) given)))
unfolding first_given
next_given given i attr one lt is = ap (λ (gs : List HeldGiven). first_given (map given_seen gs) attr)
    (cut given i one lt is)

pub given_here : (given : List HeldGiven) (i attr : ℕ) (one : HeldGiven) → i < length given
    → get_or given i one ≡ one → (one.attr.0 == attr) ≡ true
    → first_given (map given_seen (drop i given)) attr ≡ Some one.value
given_here given i attr one lt is e = next_given given i attr one lt is
    ∙ ap (λ (t : Bool). option_map (λ (g : Given). g.value)
    (if t then Some (given_seen one) else find (is_given attr) (map given_seen (drop (i + 1) given)))) e

pub given_later : (given : List HeldGiven) (i attr : ℕ) (one : HeldGiven) → i < length given
    → get_or given i one ≡ one → (one.attr.0 == attr) ≡ false
    → first_given (map given_seen (drop i given)) attr ≡ first_given (map given_seen (drop (i + 1) given)) attr
unfolding first_given
given_later given i attr one lt is e = next_given given i attr one lt is
    ∙ ap (λ (t : Bool). option_map (λ (g : Given). g.value)
    (if t then Some (given_seen one) else find (is_given attr) (map given_seen (drop (i + 1) given)))) e

pub given_none : (given : List HeldGiven) (i attr : ℕ) → length given ≤ i
    → first_given (map given_seen (drop i given)) attr ≡ None
unfolding first_given
given_none given i attr le = ap (λ (gs : List HeldGiven). first_given (map given_seen gs) attr) (drop_all i given le)

-- ---- an attribute whose own name is another isn't the one of a name

pub sid_other : (schema : List SchemaRecord) (attr : ℕ) → same_name (attr_name schema attr) (codes "objectSid") ≡ false
    → option_map_or (λ (place : ℕ). place == attr) (object_sid schema) false ≡ false
unfolding rule_place attr_of_rule if_counts
sid_other schema attr other = by (attr_named schema (codes "objectSid"))
    (named_other schema (codes "objectSid") attr other)
  where
    by : (found : Option AttrId) → option_map_or (λ (place : ℕ). place == attr)
        (option_map (λ (id : AttrId). id.0) found) false ≡ false
        → option_map_or (λ (place : ℕ). place == attr)
        (option_map (λ (id : AttrId). id.0) (option_and_then (if_counts schema ObjectSid) found)) false ≡ false
    by None e = refl
    by (Some id) e = at (option_map_or (counts ObjectSid) (slice_get (attrs_of schema) id.0) false) e
      where
        at : (test : Bool) → (id.0 == attr) ≡ false
            → option_map_or (λ (place : ℕ). place == attr)
            (option_map (λ (id : AttrId). id.0) (if test then Some id else None)) false ≡ false
        at true e = e
        at false e = refl
