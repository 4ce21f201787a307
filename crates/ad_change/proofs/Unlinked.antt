-- Objects without their links to those that go.
use Rattle.std.proofs.Common.{◌≡◌, ℕ, ◌<◌, Bool, true, false, not, List, [], ◌∷◌, length, Some, inl, inr, refl, sym}
use Rattle.std.proofs.Common.{subst, ap, map, ◌∙◌, arith}
use Rattle.std.specs.Prelude.{filter, filter_map}
use Rattle.std.specs.List.{AllByRecursion, list_any, cons_option}
use Rattle.std.proofs.lemmas.Bool.{cases_Bool, both_ways, ne_eqb, or_parts, not-false}
use Rattle.prop_queue.specs.declared.pending.Pending.{Pending}
use Rattle.prop_queue.specs.Pending.{is_pending}
use Rattle.ad_schema.specs.declared.line.SchemaRecord.{SchemaRecord}
use Rattle.ad_sd.specs.declared.parts.Sd.{Sd}
use Rattle.ad_schema.specs.declared.info.AttrId.{AttrId}
use Rattle.ad_dir_objects.specs.declared.object.Object.{Object as ObjectIn}
use Rattle.ad_dir_objects.specs.declared.object.Stored.{Stored as StoredIn}
use Rattle.ad_dir_objects.specs.Seen.{held_seen, object_seen}
use Rattle.ad_dir_model.specs.Directory.{put_object}
use Rattle.ad_dir_model.specs.Object.{Stored, plain, link, Held, Object, names}
use Rattle.ad_dir_model.specs.Changes.{stays_linked, held_if_any, unlinked_held, unlinked}
use Rattle.ad_dir_model.specs.Soundness.{IsHeld, IsContent}
use Rattle.ad_change.specs.Removing.{loses_some, loses}

-- one that goes isn't pending any more
pub idle : (goes : ℕ → Bool) (n : ℕ) (es : List Pending) → goes n ≡ true
    → is_pending n (filter (λ (e : Pending). not (goes e.parent)) es) ≡ false
idle goes n [] gone = refl
idle goes n (e ∷ es) gone =
    elim (cases_Bool (goes e.parent)) [
      | inl leaves ↦ rw leaves (idle goes n es gone)
      | inr stays ↦
          let apart : e.parent ≡ n → ⊥ = λ (is : e.parent ≡ n). both_ways (goes n)
          (subst (λ (k : ℕ). goes k ≡ false) is stays) gone in
          rw (stays, ne_eqb e.parent n apart) (idle goes n es gone)
    ]

-- ---- nothing that is kept is a link to one that goes

no_link_kept : (goes : ℕ → Bool) (n : ℕ) (values : List Stored) → goes n ≡ true
    → names n (filter (stays_linked goes) values) ≡ false
no_link_kept goes n [] gone = refl
no_link_kept goes n (plain v ∷ values) gone = no_link_kept goes n values gone
no_link_kept goes n (link m ∷ values) gone =
    elim (cases_Bool (goes m)) [
      | inl leaves ↦ rw leaves (no_link_kept goes n values gone)
      | inr stays ↦
          let apart : m ≡ n → ⊥ = λ (is : m ≡ n). both_ways (goes n) (subst (λ (k : ℕ). goes k ≡ false) is stays) gone
          in
          rw (stays, ne_eqb m n apart) (no_link_kept goes n values gone)
    ]

pub no_link : (goes : ℕ → Bool) (n : ℕ) (values : List Held) → goes n ≡ true
    → AllByRecursion (λ (held : Held). names n held.values ≡ false) (filter_map (unlinked_held goes) values)
no_link goes n [] gone = tt
no_link goes n (held ∷ others) gone = by_kept (filter (stays_linked goes) held.values)
    (no_link_kept goes n held.values gone) (no_link goes n others gone)
  where
    by_kept : (values : List Stored) → names n values ≡ false
        → AllByRecursion (λ (h : Held). names n h.values ≡ false) (filter_map (unlinked_held goes) others)
        → AllByRecursion (λ (h : Held). names n h.values ≡ false)
        (cons_option (held_if_any held.attr values) (filter_map (unlinked_held goes) others))
    by_kept [] none rest = rest
    by_kept (value ∷ values) none rest = (none, rest)

-- ---- an object that loses none stays as it is

none_lost : (goes : ℕ → Bool) (values : List Stored) → loses_some goes values ≡ false → filter (stays_linked goes)
    values ≡ values
none_lost goes [] none = refl
none_lost goes (value ∷ values) none =
    let parts = or_parts (not (stays_linked goes value)) (loses_some goes values) none in
    rw (not-false (stays_linked goes value) parts.0)
    (ap (λ (vs : List Stored). value ∷ vs) (none_lost goes values parts.1))

held_any : (attr : ℕ) (values : List Stored) → 0 < length values → held_if_any attr values
    ≡ Some (record { attr = attr; values = values })
held_any attr [] some = absurd (omega (arith, some))
held_any attr (value ∷ values) some = refl

held_same : (goes : ℕ → Bool) (held : Held) → 0 < length held.values → loses_some goes held.values ≡ false
    → unlinked_held goes held ≡ Some held
held_same goes held some none = ap (held_if_any held.attr) (none_lost goes held.values none)
    ∙ held_any held.attr held.values some

all_same : (schema : List SchemaRecord) (goes : ℕ → Bool) (values : List Held) → AllByRecursion (IsHeld schema) values
    → list_any (λ (held : Held). loses_some goes held.values) values ≡ false → filter_map (unlinked_held goes) values
    ≡ values
all_same schema goes [] each none = refl
all_same schema goes (held ∷ others) each none =
    let parts = or_parts (loses_some goes held.values) (list_any (λ (h : Held). loses_some goes h.values) others) none
    in
    rw (held_same goes held each.0.some parts.0)
    (ap (λ (hs : List Held). held ∷ hs) (all_same schema goes others each.1 parts.1))

pub unlinked_same : (schema : List SchemaRecord) (goes : ℕ → Bool) (o : Object) → IsContent schema o → loses goes o
    ≡ false → unlinked goes o ≡ o
unfolding loses
unlinked_same schema goes o content none = ap (λ (vs : List Held). record o { values = vs })
    (all_same schema goes o.values content.each none)

-- ---- as the code has it

pub loses_is : (goes : ℕ → Bool) (o : ObjectIn) (n : Object) (values : List (AttrId × List StoredIn)) (b : Bool)
    → object_seen o n.sd ≡ n
    → values ≡ o.values → b ≡ list_any (λ (held : Held). loses_some goes held.values) (map held_seen values)
    → loses goes n ≡ b
unfolding loses
loses_is goes o n values b seen same is =
    ap (λ (x : Object). list_any (λ (held : Held). loses_some goes held.values) x.values) (sym seen)
    ∙ ap (λ (vs : List (AttrId × List StoredIn)). list_any (λ (held : Held). loses_some goes held.values)
    (map held_seen vs)) (sym same)
    ∙ sym is

pub unlinked_made : (goes : ℕ → Bool) (o : ObjectIn) (n : Object) (name : List ℕ)
    (values : List (AttrId × List StoredIn)) (sd : Sd)
    → object_seen o n.sd ≡ n → name ≡ o.name → map held_seen values ≡ filter_map (unlinked_held goes)
    (map held_seen o.values) → sd ≡ n.sd
    → put_object (object_seen (record {
      number = o.number;
      parent = o.parent;
      class = o.class;
      name = name;
      values
          = values;
    }) sd)
    ≡ put_object (unlinked goes n)
unlinked_made goes o n name values sd seen same_name same_values same_sd =
    ap (λ (s : Sd). put_object (record {
      number = o.number;
      parent = o.parent;
      class = o.class.0;
      name = name;
      values
          = map held_seen values;
      sd = s;
    })) same_sd
    ∙ ap (λ (t : List ℕ). put_object (record {
      number = o.number;
      parent = o.parent;
      class = o.class.0;
      name
          = t;
      values = map held_seen values;
      sd = n.sd;
    })) same_name
    ∙ ap (λ (vs : List Held). put_object (record {
      number = o.number;
      parent = o.parent;
      class = o.class.0;
      name
          = o.name;
      values = vs;
      sd = n.sd;
    })) same_values
    ∙ ap (λ (x : Object). put_object (unlinked goes x)) seen
