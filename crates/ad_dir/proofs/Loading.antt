-- Objects that are put one after the other by rising number.
use Rattle.std.proofs.Common.{◌≡◌, ℕ, ◌<◌, ◌≤◌, ◌-◌, ◌^◌, false, List, [], ◌∷◌, ◌++◌, length, refl, sym, subst, ap}
use Rattle.std.proofs.Common.{◌∙◌, append_assoc, arith, ltb, eqb, Some, inl, inr}
use Rattle.std.proofs.lemmas.Bool.{cases_Bool, eq-eqb, ne_eqb}
use Rattle.std.proofs.lemmas.Option.{none-some}
use Rattle.std.proofs.lemmas.List.{append-nil}
use Rattle.std.proofs.lemmas.Bool.Decides.{nat_tests}
use Rattle.ad_sd.specs.declared.parts.Sd.{Sd}
use Rattle.ad_sd.specs.SdIn.{sd_in}
use Rattle.ad_sd.specs.Normal.{SpellsNormal}
use Rattle.ad_sd.proofs.NormalReader.{spelled_in}
use Rattle.ad_schema.specs.declared.line.SchemaRecord.{SchemaRecord}
use Rattle.ad_dir_model.specs.Object.{Object}
use Rattle.ad_dir_model.specs.Objects.{RiseAbove, object_of, put}
use Rattle.ad_dir_objects.specs.declared.object.Object.{Object as ObjectIn}
use Rattle.ad_dir_objects.specs.Seen.{object_seen, objects_of}
use Rattle.ad_dir_table.specs.Entry.{Entry, objects_in}
use Rattle.std.specs.Str.{IsUtf8}
use Rattle.ad_dir_model.proofs.Finding.{of_above}
use Rattle.ad_dir_table.specs.Indexed.{AreNamed}
use Rattle.ad_dir_table.specs.Indexed.{HasOwnKeys}
use Rattle.ad_dir.specs.Standing.{AreStanding}
use Rattle.ad_dir.proofs.Few.{few_objects, length_in, length_append}

-- behind a list whose numbers are below its own an object is put at the end
pub put_last : (m : ℕ) (o : Object) (os rest : List Object) → RiseAbove m (os ++ o ∷ rest) → put o os ≡ os ++ o ∷ []
unfolding put
put_last m o [] rest rise = refl
put_last m o (x ∷ xs) rest rise =
    let below : x.number < o.number = last_above x.number o xs rest rise.1 in
    let differ : eqb x.number o.number ≡ false = ne_eqb x.number o.number
    (λ (e : x.number ≡ o.number). absurd (omega (arith, below, e))) in
    let behind : ltb o.number x.number ≡ false = grind (arith, nat_tests) in
    rw (differ, behind) (ap (λ (l : List Object). x ∷ l) (put_last x.number o xs rest rise.1))
  where
    last_above : (k : ℕ) (p : Object) (ps after : List Object) → RiseAbove k (ps ++ p ∷ after) → k < p.number
    last_above k p [] after r = r.0
    last_above k p (y ∷ ys) after r = let less : k < y.number = r.0 in let more : y.number < p.number
        = last_above y.number p ys after r.1 in omega (arith, less, more)

pub one_more : (schema : List SchemaRecord) (all left rest : List (ObjectIn × Sd)) (object : ObjectIn) (sd : Sd)
    (bytes : List ℕ) (entries new : List Entry) → AreStanding schema (objects_of all) → SpellsNormal sd bytes
    → left ≡ (object, sd) ∷ rest → objects_in new ≡ put (object_seen object (sd_in bytes)) (objects_in entries)
    → objects_in entries ++ objects_of left ≡ objects_of all → objects_in new ++ objects_of rest ≡ objects_of all
one_more schema all left rest object sd bytes entries new stand spells step seen so_far =
    let o : Object = object_seen object sd in
    let made : object_seen object (sd_in bytes) ≡ o = ap (object_seen object) (spelled_in bytes sd spells) in
    let whole : objects_in entries ++ o ∷ objects_of rest ≡ objects_of all
    = ap (λ (l : List (ObjectIn × Sd)). objects_in entries ++ objects_of l) (sym step) ∙ so_far in
    ap (λ (l : List Object). l ++ objects_of rest) (seen ∙ ap (λ (x : Object). put x (objects_in entries)) made
    ∙ put_last 0 o (objects_in entries) (objects_of rest) (subst (RiseAbove 0) (sym whole) stand.rise))
    ∙ append_assoc (objects_in entries) (o ∷ []) (objects_of rest) ∙ whole

-- there is room for each of them
pub few_so_far : (schema : List SchemaRecord) (all left : List (ObjectIn × Sd)) (entries : List Entry)
    → AreStanding schema (objects_of all) → objects_in entries ++ objects_of left ≡ objects_of all → length entries
    < 2 ^ 32 - 1
few_so_far schema all left entries stand so_far =
    let few = few_objects schema (objects_of all) stand in
    let same = ap length so_far in
    let both = length_append (objects_in entries) (objects_of left) in
    let long = length_in entries in
    omega (arith, few, same, both, long)

found_front : (xs ys : List Object) (n : ℕ) (o : Object) → object_of xs n ≡ Some o → object_of (xs ++ ys) n ≡ Some o
unfolding object_of
found_front [] ys n o at = absurd (none-some o at)
found_front (x ∷ xs) ys n o at =
    elim (cases_Bool (eqb x.number n)) [
      | inl here ↦ rw here (rw here at at)
      | inr other ↦ rw other (found_front xs ys n o (rw other at at))
    ]

rise_front : (m : ℕ) (xs ys : List Object) → RiseAbove m (xs ++ ys) → RiseAbove m xs
rise_front m [] ys rise = tt
rise_front m (x ∷ xs) ys rise = (rise.0, rise_front x.number xs ys rise.1)

found_behind : (m : ℕ) (xs : List Object) (o : Object) (ys : List Object) → RiseAbove m (xs ++ o ∷ ys)
    → object_of (xs ++ o ∷ ys) o.number ≡ Some o
unfolding object_of
found_behind m [] o ys rise = rw (eq-eqb o.number o.number refl) refl
found_behind m (x ∷ xs) o ys rise =
    let live : object_of (xs ++ o ∷ ys) o.number ≡ Some o = found_behind x.number xs o ys rise.1 in
    let above : x.number < o.number = of_above x.number (xs ++ o ∷ ys) o.number o rise.1 live in
    rw (ne_eqb x.number o.number (λ (e : x.number ≡ o.number). absurd (omega (arith, e, above)))) live

-- what is asked of the next one
module _ (schema : List SchemaRecord) (all left rest : List (ObjectIn × Sd)) (object : ObjectIn) (sd : Sd)
    (entries : List Entry) (stand : AreStanding schema (objects_of all))
    (step : left ≡ (object, sd) ∷ rest) (so_far : objects_in entries ++ objects_of left ≡ objects_of all) where
  whole : objects_in entries ++ object_seen object sd ∷ objects_of rest ≡ objects_of all
  whole = ap (λ (l : List (ObjectIn × Sd)). objects_in entries ++ objects_of l) (sym step) ∙ so_far

  pub rise_so_far : RiseAbove 0 (objects_in entries)
  rise_so_far = rise_front 0 (objects_in entries) (object_seen object sd ∷ objects_of rest)
      (subst (RiseAbove 0) (sym whole) stand.rise)

  next_live : object_of (objects_of all) object.number ≡ Some (object_seen object sd)
  next_live = subst (λ (os : List Object). object_of os object.number ≡ Some (object_seen object sd)) whole
      (found_behind 0 (objects_in entries) (object_seen object sd) (objects_of rest)
      (subst (RiseAbove 0) (sym whole) stand.rise))

  front_live : (n : ℕ) (o : Object) → object_of (objects_in entries) n ≡ Some o → object_of (objects_of all) n ≡ Some o
  front_live n o live = subst (λ (os : List Object). object_of os n ≡ Some o) so_far
      (found_front (objects_in entries) (objects_of left) n o live)

  pub next_above : 1 ≤ object.number
  next_above = let above = of_above 0 (objects_of all) object.number (object_seen object sd) stand.rise next_live
      in omega (arith, above)

  pub next_utf8 : IsUtf8 object.name
  next_utf8 = (stand.content object.number (object_seen object sd) next_live).name.utf8

  pub named_so_far : AreNamed (objects_in entries)
  named_so_far n o live = (stand.content n o (front_live n o live)).name.utf8

  pub next_own : HasOwnKeys schema (objects_in entries) (object_seen object sd)
  next_own = record {
    name = λ n other live parent name. stand.own_name object.number (object_seen object sd) next_live n other
        (front_live n other live) parent name;
    sid = λ n other sid live has own. stand.own_sid object.number (object_seen object sd) next_live n other sid
        (front_live n other live) has own;
  }

pub all_in : (left : List (ObjectIn × Sd)) (entries : List Entry) (all : List Object) → length left ≡ 0
    → objects_in entries ++ objects_of left ≡ all → objects_in entries ≡ all
all_in [] entries all none so_far = sym (append-nil (objects_in entries)) ∙ so_far
all_in (x ∷ xs) entries all none so_far = absurd (omega (arith, none))
