-- A directory that drafts become is one as it is read.
use Rattle.std.proofs.Common.{◌≡◌, ◌≢◌, ℕ, zero, suc, ◌+◌, ◌-◌, ◌<◌, ◌≤◌, Bool, true, false, Option, Some, None}
use Rattle.std.proofs.Common.{inl, inr, Ok, List, [], ◌∷◌, ◌++◌, length, take, refl, sym, ap, subst, ◌∙◌, arith}
use Rattle.std.specs.Prelude.{slice_get, nat_le, nat_lt, nat_eq, ◌&&◌, if◌then◌else◌, filter_map}
use Rattle.std.specs.Option.{option_and_then}
use Rattle.std.specs.List.{AllByRecursion, list_all, list_any}
use Rattle.std.proofs.lemmas.Bool.{cases_Bool, leb-true, ltb-true, ltb-false, eq-eqb, and_from, both_ways}
use Rattle.std.proofs.lemmas.Slice.Eq.{bytes_eq-Decides}
use Rattle.ad_bytes.specs.Reading.{need}
use Rattle.ad_ids.specs.SidValue.{SidValue}
use Rattle.ad_ids.specs.SidChild.{child_of}
use Rattle.ad_ids.proofs.SidLaws.{same_sid-Decides}
use Rattle.ad_dn.specs.declared.rdn.Rdn.{Rdn}
use Rattle.ad_dn.specs.Value.{IsValue, AreRdns}
use Rattle.ad_dn.specs.Fold.{folded}
use Rattle.ad_dn.specs.Text.{rdns_text}
use Rattle.ad_schema.specs.declared.line.SchemaRecord.{SchemaRecord}
use Rattle.ad_schema.specs.declared.info.ClassInfo.{ClassInfo}
use Rattle.ad_schema.specs.Classes.{classes_of}
use Rattle.ad_schema.specs.Sound.{MakeSchema}
use Rattle.ad_dir_model.specs.Limits.{max_objects, max_weight, max_text, max_counter}
use Rattle.ad_dir_model.specs.Object.{Stored, plain, link, Held, Object, linked, links_in}
use Rattle.ad_dir_model.specs.Objects.{object_of, is_live, object_at, parent_at}
use Rattle.ad_dir_model.specs.Tree.{root, IsPlaced}
use Rattle.ad_dir_model.specs.Names.{same_folded}
use Rattle.ad_dir_model.specs.Identity.{is_sid, sid_in, domain_sid, domain_child, last_of}
use Rattle.ad_dir_model.specs.Directory.{Directory}
use Rattle.ad_dir_model.specs.Weight.{weight}
use Rattle.ad_dir_model.specs.Soundness.{default_reads, IsStored, IsHeld, IsContent, LinksAreLive, HasOwnName}
use Rattle.ad_dir_model.specs.Soundness.{HasOwnSid, AreCounters, is_short_record, IsSoundFrame}
use Rattle.ad_dir_model.specs.Conditions.{IsRead, IsAllRead}
use Rattle.ad_dir_model.proofs.Finding.{of_number, at-of, of-live}
use Rattle.ad_dir_model.proofs.Unlinking.{all_append}
use Rattle.ad_load_records.specs.declared.fault.LoadCause.TheVariants as cause
use Rattle.ad_load_records.specs.Faults.{of_all}
use Rattle.ad_load_objects.specs.Through.{through}
use Rattle.ad_load_objects.specs.Drafts.{Draft, naming_value, draft_sid}
use Rattle.ad_load_objects.specs.Objects.{is_sibling, is_taken, has_sid, is_sid_used}
use Rattle.ad_load.specs.Links.{domain_of, rid_if, rid_of, above, above_all, next_rid, meta_of}
use Rattle.ad_load.specs.Links.{directory_with, is_shallow, is_within_limits, with_default, all_defaults}
use Rattle.ad_load_objects.proofs.Through.{first_through}
use Rattle.ad_load_records.proofs.Inverting.{and_true}
use Rattle.ad_load_objects.proofs.Places.{some_is, within, some_at, at_take, none_passes, all_also, at_end, length_more}
use Rattle.ad_load_objects.proofs.Good.{AreGood}
use Rattle.ad_load.proofs.Stored.{IsGoodStored, IsGoodHeld, values_good}
use Rattle.ad_load.proofs.Made.{AreObjectsOf, they_rise, IsMadeAt, made_at, found_for, same_identifier}
use Rattle.ad_load.proofs.Placed.{live_next, no_parent, parent_lives, stands_placed}

-- ---- the content of one object

stored_is : (schema : List SchemaRecord) (count attr : ℕ) (v : Stored) → IsGoodStored schema count attr v
    → IsStored schema attr v
stored_is schema count attr (plain v) good = good
stored_is schema count attr (link n) good = good.0

held_is : (schema : List SchemaRecord) (count : ℕ) (h : Held) → IsGoodHeld schema count h → IsHeld schema h
held_is schema count h good = record {
  of_schema = good.attr;
  some = good.some;
  each = all_also (IsGoodStored schema count h.attr) (IsStored schema h.attr) (stored_is schema count h.attr) h.values
      good.each;
}

name_is : (rdns : List Rdn) → AreRdns rdns → 0 < length rdns → IsValue (naming_value rdns)
name_is [] are some = absurd (omega arith)
name_is (rdn ∷ rdns) are some = are.0.value

-- the links of good values
links_of_values : (schema : List SchemaRecord) (count attr : ℕ) (P : ℕ → Type 0)
    → ((n : ℕ) → 1 ≤ n → n ≤ count → P n) → (values : List Stored)
    → AllByRecursion (IsGoodStored schema count attr) values → AllByRecursion P (filter_map linked values)
links_of_values schema count attr P each [] all = tt
links_of_values schema count attr P each (plain v ∷ values) all = links_of_values schema count attr P each values all.1
links_of_values schema count attr P each (link n ∷ values) all
    = (each n all.0.1 all.0.2, links_of_values schema count attr P each values all.1)

links_are : (schema : List SchemaRecord) (count : ℕ) (P : ℕ → Type 0) → ((n : ℕ) → 1 ≤ n → n ≤ count → P n)
    → (values : List Held) → AllByRecursion (IsGoodHeld schema count) values → AllByRecursion P (links_in values)
unfolding links_in
links_are schema count P each [] all = tt
links_are schema count P each (h ∷ hs) all = all_append P (filter_map linked h.values) (links_in hs)
    (links_of_values schema count h.attr P each h.values all.0.each) (links_are schema count P each hs all.1)

-- ---- the counters

above_from : (n : ℕ) (rid : Option ℕ) → n ≤ above n rid
above_from n None = omega arith
above_from n (Some rid) = elim (cases_Bool (nat_lt rid n)) [
  | inl less ↦ rw less (let le : n ≤ n = omega arith in le)
  | inr more ↦ let le : n ≤ rid = ltb-false rid n more in rw more (let lt : n ≤ rid + 1 = omega arith in lt)
]

above_it : (n rid : ℕ) → rid < above n (Some rid)
above_it n rid = elim (cases_Bool (nat_lt rid n)) [
  | inl less ↦ let lt : rid < n = ltb-true rid n less in rw less lt
  | inr more ↦ rw more (let lt : rid < rid + 1 = omega arith in lt)
]

all_from : (schema : List SchemaRecord) (domain : SidValue) (n : ℕ) (drafts : List Draft) → n
    ≤ above_all schema domain n drafts
unfolding above_all
all_from schema domain n [] = omega arith
all_from schema domain n (d ∷ ds) =
    let one = above_from n (option_and_then (rid_of domain) (draft_sid schema d)) in
    let more = all_from schema domain (above n (option_and_then (rid_of domain) (draft_sid schema d))) ds in
    omega (arith, one, more)

above_each : (schema : List SchemaRecord) (domain : SidValue) (n : ℕ) (drafts : List Draft) (i rid : ℕ) (d : Draft)
    → slice_get drafts i ≡ Some d → option_and_then (rid_of domain) (draft_sid schema d) ≡ Some rid
    → rid < above_all schema domain n drafts
unfolding above_all
above_each schema domain n [] i rid d at is = absurd cc
above_each schema domain n (x ∷ xs) zero rid d at is =
    let own : option_and_then (rid_of domain) (draft_sid schema x)
    ≡ Some rid = ap (λ (y : Draft). option_and_then (rid_of domain) (draft_sid schema y)) (some_is x d at)
    ∙ is in
    let less : rid < above n (option_and_then (rid_of domain) (draft_sid schema x))
    = subst (λ (r : Option ℕ). rid < above n r) (sym own) (above_it n rid) in
    let more = all_from schema domain (above n (option_and_then (rid_of domain) (draft_sid schema x))) xs in
    omega (arith, less, more)
above_each schema domain n (x ∷ xs) (suc i) rid d at is = above_each schema domain
    (above n (option_and_then (rid_of domain) (draft_sid schema x))) xs i rid d at is

last_more : (front : List ℕ) (n : ℕ) → last_of (front ++ n ∷ []) ≡ Some n
last_more front n =
    let place : length (front ++ n ∷ []) - 1 ≡ length front = omega (arith, length_more front n) in
    ap (slice_get (front ++ n ∷ [])) place ∙ at_end front n

child_rid : (domain sid : SidValue) (rid : ℕ) → child_of domain rid ≡ Some sid → rid_of domain sid ≡ Some rid
unfolding rid_of
child_rid domain sid rid e = elim (cases_Bool (nat_lt (length domain.sub_authorities) 15)) [
  | inl few ↦
      let made : record { authority = domain.authority; sub_authorities = domain.sub_authorities ++ rid ∷ [] } ≡ sid
      = some_is _ sid (rw few at e) in
      let last : last_of sid.sub_authorities ≡ Some rid = ap (λ (s : SidValue). last_of s.sub_authorities) (sym made)
      ∙ last_more domain.sub_authorities rid in
      let own : is_sid sid (child_of domain rid) ≡ true = ap (is_sid sid) e ∙ (same_sid-Decides sid sid).1 refl in
      ap (λ (n : Option ℕ). option_and_then (rid_if domain sid) n) last
      ∙ ap (λ (b : Bool). if b then Some rid else None) own
  | inr many ↦ let none : None ≡ Some sid = rw many at e in absurd cc
]

-- ---- defaults

one_reads : (domain : Option SidValue) (u next : Unit {0}) (info : ClassInfo) → with_default domain u info ≡ Ok next
    → default_reads domain info ≡ true
unfolding with_default
one_reads domain u next info is = by (default_reads domain info) is
  where
    by : (b : Bool) → need b (of_all (cause.SchemaDefault info.name)) ≡ Ok next → b ≡ true
    by true q = refl
    by false q = absurd cc

defaults_read : (domain : Option SidValue) (infos : List ClassInfo) (u end : Unit {0})
    → through (with_default domain) u infos ≡ Ok end → list_all (default_reads domain) infos ≡ true
defaults_read domain [] u end e = refl
defaults_read domain (info ∷ infos) u end e =
    let first = first_through (with_default domain) u end info infos e in
    and_from (default_reads domain info) (list_all (default_reads domain) infos)
    (one_reads domain u first.0 info first.1) (defaults_read domain infos first.0 end first.2)

-- ---- all

-- what of a directory's limits holds
pub record IsWithin (drafts : List Draft) (dir : Directory) : Type 0 where
  pub objects : length dir.objects ≤ max_objects
  pub shallow : list_all (is_shallow drafts) drafts ≡ true
  pub weight : weight dir ≤ max_weight
  pub number : dir.meta.next_number ≤ max_counter
  pub rid : dir.meta.next_rid ≤ max_counter
  pub suffix : nat_le (length (rdns_text dir.meta.suffix)) max_text ≡ true

pub all_within : (drafts : List Draft) (dir : Directory) → is_within_limits drafts dir ≡ true → IsWithin drafts dir
unfolding is_within_limits
all_within drafts dir e = by (nat_le (length dir.objects) max_objects) (list_all (is_shallow drafts) drafts)
    (nat_le (weight dir) max_weight) (nat_le dir.meta.next_number max_counter)
    (nat_le dir.meta.next_rid max_counter) (nat_le (length
    (rdns_text dir.meta.suffix)) max_text) refl refl refl refl refl refl e
  where
    by : (a b c d f g : Bool) → nat_le (length dir.objects) max_objects ≡ a
        → list_all (is_shallow drafts) drafts ≡ b → nat_le (weight dir) max_weight ≡ c
        → nat_le dir.meta.next_number max_counter ≡ d → nat_le dir.meta.next_rid max_counter ≡ f
        → nat_le (length (rdns_text dir.meta.suffix)) max_text ≡ g → (a && b && c && d && f && g) ≡ true
        → IsWithin drafts dir
    by a b c d f g ia ib ic id if' ig q =
        let p1 = and_true (a && b && c && d && f) g q in
        let p2 = and_true (a && b && c && d) f p1.0 in
        let p3 = and_true (a && b && c) d p2.0 in
        let p4 = and_true (a && b) c p3.0 in
        let p5 = and_true a b p4.0 in
        record {
          objects = leb-true (length dir.objects) max_objects (ia ∙ p5.0);
          shallow = ib ∙ p5.1;
          weight = leb-true (weight dir) max_weight (ic ∙ p4.1);
          number = leb-true dir.meta.next_number max_counter (id ∙ p3.1);
          rid = leb-true dir.meta.next_rid max_counter (if' ∙ p2.1);
          suffix = ig ∙ p1.1;
        }

module _ (schema : List SchemaRecord) (drafts : List Draft) (objects : List Object) (good : AreGood schema drafts)
    (made : AreObjectsOf schema drafts 1 drafts objects)
    (first : 0 < length drafts) (within_limits : IsWithin drafts (directory_with schema drafts objects))
    (makes : MakeSchema schema) (short : list_all is_short_record schema ≡ true)
    (u : Unit {0}) (defaults : all_defaults schema (domain_of schema drafts) ≡ Ok u) where
  abbrev dir : Directory
  dir = directory_with schema drafts objects

  at_place : (n : ℕ) (o : Object) → object_of objects n ≡ Some o → IsMadeAt schema drafts 1 drafts n o
  at_place n o is = made_at schema drafts 1 drafts objects n o made is

  number_is : (n : ℕ) (o : Object) (is : object_of objects n ≡ Some o) → n ≡ suc (at_place n o is).i
  number_is n o is = let e : n ≡ 1 + (at_place n o is).i = (at_place n o is).number in omega (arith, e)

  live_number : (n : ℕ) → 1 ≤ n → n ≤ length drafts → is_live objects n ≡ true
  live_number zero le most = absurd (omega arith)
  live_number (suc i) le most =
      let there = some_at drafts i (omega arith) in
      live_next schema drafts objects good made i there.0 there.1

  content : (n : ℕ) (o : Object) → object_of objects n ≡ Some o → IsContent schema o
  content n o is =
      let m = at_place n o is in
      let one = good m.i m.draft m.at in
      let values = values_good schema drafts m.draft.given o.values one.given m.is.values in
      record {
        class_of_schema = subst (λ (c : ℕ). c < length (classes_of schema)) (sym m.is.class) one.class;
        name = subst IsValue (sym m.is.name) (name_is m.draft.rdns one.rdns one.some);
        attrs_rise = values.rise;
        each = all_also (IsGoodHeld schema (length drafts)) (IsHeld schema) (held_is schema (length drafts)) o.values
            values.each;
      }

  links : (n : ℕ) (o : Object) → object_of objects n ≡ Some o → LinksAreLive objects o
  links n o is =
      let m = at_place n o is in
      let one = good m.i m.draft m.at in
      links_are schema (length drafts) (λ (k : ℕ). is_live objects k ≡ true) live_number o.values
      (values_good schema drafts m.draft.given o.values one.given m.is.values).each

  -- two drafts that would clash
  names_apart : (i j : ℕ) (d e : Draft) → i < j → slice_get drafts i ≡ Some d → slice_get drafts j ≡ Some e
      → d.parent ≡ e.parent → folded (naming_value d.rdns) ≡ folded (naming_value e.rdns) → ⊥
  unfolding is_taken
  names_apart i j d e lt at_d at_e parent name =
      let free = none_passes (is_sibling e.parent (naming_value e.rdns)) (take j drafts) i d (good j e at_e).own_name
      (at_take drafts j i lt ∙ at_d) in
      let clash : is_sibling e.parent (naming_value e.rdns) d
      ≡ true = and_from (nat_eq d.parent e.parent) (same_folded (naming_value d.rdns) (naming_value e.rdns))
      (eq-eqb d.parent e.parent parent) ((bytes_eq-Decides (folded (naming_value d.rdns))
      (folded (naming_value e.rdns))).1 name) in
      both_ways (is_sibling e.parent (naming_value e.rdns) d) free clash

  sids_apart : (i j : ℕ) (d e : Draft) (sid : SidValue) → i < j → slice_get drafts i ≡ Some d
      → slice_get drafts j ≡ Some e → draft_sid schema d ≡ Some sid → draft_sid schema e ≡ Some sid → ⊥
  unfolding is_sid_used
  sids_apart i j d e sid lt at_d at_e sid_d sid_e =
      let unused : list_any (has_sid schema sid) (take j drafts) ≡ false = rw sid_e at ((good j e at_e).own_sid) in
      let free = none_passes (has_sid schema sid) (take j drafts) i d unused (at_take drafts j i lt ∙ at_d) in
      let clash : has_sid schema sid d ≡ true = ap (is_sid sid) sid_d ∙ (same_sid-Decides sid sid).1 refl in
      both_ways (has_sid schema sid d) free clash

  -- places that may not be apart are the same
  same_place : (i j : ℕ) → (i < j → ⊥) → (j < i → ⊥) → i ≡ j
  same_place i j no_less no_more = omega (arith, no_less, no_more)

  own_name : (n : ℕ) (o : Object) → object_of objects n ≡ Some o → HasOwnName objects o
  own_name n o is number other there parent name =
      let m = at_place n o is in
      let k = at_place number other there in
      let parents_same : k.draft.parent ≡ m.draft.parent = sym k.is.parent ∙ parent ∙ m.is.parent in
      let names_same : folded (naming_value k.draft.rdns) ≡ folded (naming_value m.draft.rdns)
      = ap folded (sym k.is.name) ∙ name ∙ ap folded m.is.name in
      let same : k.i ≡ m.i = same_place k.i m.i
      (λ lt. names_apart k.i m.i k.draft m.draft lt k.at m.at parents_same names_same)
      (λ lt. names_apart m.i k.i m.draft k.draft lt m.at k.at (sym parents_same) (sym names_same)) in
      of_number objects number other there ∙ number_is number other there ∙ ap (λ (i : ℕ). suc i) same
      ∙ sym (number_is n o is) ∙ sym (of_number objects n o is)

  own_sid : (n : ℕ) (o : Object) → object_of objects n ≡ Some o → HasOwnSid schema objects o
  own_sid n o is number other sid there sid_other sid_o =
      let m = at_place n o is in
      let k = at_place number other there in
      let first_sid : draft_sid schema k.draft ≡ Some sid
      = sym (same_identifier schema drafts number k.draft other k.is) ∙ sid_other in
      let second_sid : draft_sid schema m.draft ≡ Some sid = sym (same_identifier schema drafts n m.draft o m.is)
      ∙ sid_o in
      let same : k.i ≡ m.i = same_place k.i m.i
      (λ lt. sids_apart k.i m.i k.draft m.draft sid lt k.at m.at first_sid second_sid)
      (λ lt. sids_apart m.i k.i m.draft k.draft sid lt m.at k.at second_sid first_sid) in
      of_number objects number other there ∙ number_is number other there ∙ ap (λ (i : ℕ). suc i) same
      ∙ sym (number_is n o is) ∙ sym (of_number objects n o is)

  -- at a number, by its draft's place
  top : (i n : ℕ) (o : Object) (d : Draft) → slice_get drafts i ≡ Some d → n ≡ suc i → o.parent ≡ d.parent → n ≡ root
      → o.parent ≡ 0
  top zero n o d at number parent is_root = parent ∙ no_parent schema drafts objects good made d at
  top (suc i) n o d at number parent is_root = absurd (omega (arith, number, is_root))

  below : (i n : ℕ) (o : Object) (d : Draft) → slice_get drafts i ≡ Some d → n ≡ suc i → o.parent ≡ d.parent
      → n ≢ root → is_live objects o.parent ≡ true
  below zero n o d at number parent not_root = absurd (not_root number)
  below (suc i) n o d at number parent not_root = subst (λ (p : ℕ). is_live objects p ≡ true) (sym parent)
      (parent_lives schema drafts objects good made i d at)

  each : (n : ℕ) (o : Object) → object_of objects n ≡ Some o → IsRead dir o
  each n o is =
      let m = at_place n o is in
      let own : o.number ≡ n = of_number objects n o is in
      record {
        content = content n o is;
        no_parent = λ is_root. top m.i n o m.draft m.at (number_is n o is) m.is.parent (sym own ∙ is_root);
        parent_live = λ not_root. below m.i n o m.draft m.at (number_is n o is) m.is.parent (λ e. not_root (own ∙ e));
        placed = λ not_root. subst (IsPlaced (parent_at objects)) (sym (own ∙ number_is n o is))
            (stands_placed schema drafts objects good made within_limits.shallow m.i m.draft m.at);
        links = links n o is;
        own_name = own_name n o is;
        own_sid = own_sid n o is;
      }

  root_draft : (d : Draft) × (slice_get drafts 0 ≡ Some d)
  root_draft = some_at drafts 0 first

  domain_is : domain_sid dir ≡ domain_of schema drafts
  unfolding domain_sid
  domain_is =
      let found = found_for schema drafts 1 drafts objects 0 root_draft.0 made root_draft.1 in
      ap (sid_in schema) (at-of objects 1 found.0 found.1) ∙ same_identifier schema drafts 1 root_draft.0 found.0
      found.2 ∙ by drafts root_draft.0 root_draft.1
    where
      by : (ds : List Draft) (d : Draft) → slice_get ds 0 ≡ Some d → draft_sid schema d ≡ domain_of schema ds
      by [] d at = absurd cc
      by (x ∷ xs) d at = ap (draft_sid schema) (sym (some_is x d at))

  rid_above_by : (domain : Option SidValue) (rid : ℕ) (sid : SidValue)
      → option_and_then (λ (d : SidValue). child_of d rid) domain ≡ Some sid → (i : ℕ) (d : Draft)
      → slice_get drafts i ≡ Some d → draft_sid schema d ≡ Some sid → rid < next_rid schema domain drafts
  unfolding next_rid
  rid_above_by None rid sid e i d at own = absurd cc
  rid_above_by (Some domain) rid sid e i d at own = above_each schema domain 1000 drafts i rid d at
      (ap (option_and_then (rid_of domain)) own ∙ child_rid domain sid rid e)

  rid_above : (number : ℕ) (o : Object) (rid : ℕ) (sid : SidValue) → object_of objects number ≡ Some o
      → sid_in schema o ≡ Some sid → domain_child dir rid ≡ Some sid → rid < dir.meta.next_rid
  unfolding domain_child meta_of
  rid_above number o rid sid there sid_o child =
      let m = at_place number o there in
      let own : draft_sid schema m.draft ≡ Some sid = sym (same_identifier schema drafts number m.draft o m.is)
      ∙ sid_o in
      let with_domain : option_and_then (λ (domain : SidValue). child_of domain rid) (domain_of schema drafts)
      ≡ Some sid = ap (option_and_then (λ (domain : SidValue). child_of domain rid)) (sym domain_is) ∙ child in
      rid_above_by (domain_of schema drafts) rid sid with_domain m.i m.draft m.at own

  counters : AreCounters dir
  unfolding meta_of
  counters = record {
    number_above = λ n live.
        let o = object_at objects n in
        let is = of-live objects n live in
        let m = at_place n o is in
        let lt : m.i < length drafts = within drafts m.i m.draft m.at in
        omega (arith, number_is n o is, lt);
    rid_above = rid_above;
    number_fits = within_limits.number;
    rid_fits = within_limits.rid;
  }

  frame : IsSoundFrame dir
  unfolding all_defaults
  frame = record {
    schema = record {
      makes = makes;
      defaults_read = subst
          (λ (domain : Option SidValue). list_all (default_reads domain) (classes_of schema) ≡ true) (sym domain_is)
          (defaults_read (domain_of schema drafts) (classes_of schema) tt u defaults);
    };
    counters = counters;
    limits = record {
      objects = within_limits.objects;
      weight = within_limits.weight;
      suffix
          = within_limits.suffix;
      records = short;
    };
    root_live = live_next schema drafts objects good made 0 root_draft.0 root_draft.1;
  }

  pub is_all_read : IsAllRead (directory_with schema drafts objects)
  is_all_read = record {
    rise = they_rise schema drafts 0 1 drafts objects (omega arith) made;
    frame = frame;
    each = each;
  }
