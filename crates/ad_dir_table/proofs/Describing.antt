-- What another descriptor of an object leaves.
use Rattle.std.proofs.Common.{◌≡◌, ℕ, true, false, is_some, List, Option, Some, None, refl, sym, subst, ap, ◌∙◌}
use Rattle.std.specs.Prelude.{option_map, MatchOption}
use Rattle.std.specs.Option.{IfSome, IfNone}
use Rattle.std.specs.Map.{lookup, keys_of}
use Rattle.std.specs.BTreeMap.{insert_entry, is_at}
use Rattle.std.specs.List.Sorted.{IsStrictlySortedBy}
use Rattle.std.specs.Ordering.{nat_cmp}
use Rattle.ad_schema.specs.declared.line.SchemaRecord.{SchemaRecord}
use Rattle.ad_sd.specs.declared.parts.Sd.{Sd}
use Rattle.ad_sd.specs.SdIn.{sd_in}
use Rattle.ad_sd.specs.Normal.{SpellsNormal}
use Rattle.sd_pool.specs.declared.id.SdId.{SdId}
use Rattle.sd_pool.specs.Blocks.{Extent}
use Rattle.sd_pool.specs.Pool.{Pool, is_live as is_held}
use Rattle.sd_pool.specs.Sharers.{IsAdded, IsTaken}
use Rattle.ad_dir_model.specs.Object.{Object}
use Rattle.ad_dir_model.specs.Objects.{object_of, object_at, is_live, put}
use Rattle.ad_dir_model.specs.Identity.{sid_in}
use Rattle.ad_dir_model.proofs.Finding.{of_number, at-of}
use Rattle.ad_dir_model.proofs.StepSound.{sid_with_sd}
use Rattle.ad_dir_objects.specs.Seen.{object_seen}
use Rattle.ad_dir_table.specs.declared.stored_object.StoredObject.{StoredObject}
use Rattle.ad_dir_table.specs.Entry.{HasItsSid, HaveTheirSids}
use Rattle.ad_dir_table.specs.Fields.{AllKept, AreKeyed, HasNormal, kept_sid, object_kept, objects_kept}
use Rattle.ad_dir_table.specs.Fields.{entry_kept, entries_kept, with_id}
use Rattle.ad_dir_table.proofs.Entries.{found, found_with}
use Rattle.ad_dir_table.proofs.Keeping.{Shares, SharesBut, but_live, sids_kept}
use Rattle.ad_dir_table.proofs.Done.{IsPutDone, put_done, shares_but}

-- what stands at the number of a live object
record IsFound (number : ℕ) (entries : List (ℕ × StoredObject)) : Type 0 where
  kept : StoredObject
  at : lookup (is_at (nat_cmp number)) entries ≡ Some kept

live_found : (live : List Extent) (entries : List (ℕ × StoredObject)) (number : ℕ) → AreKeyed entries
    → is_live (objects_kept live entries) number ≡ true → IsFound number entries
live_found live entries number keyed is = by_found (lookup (is_at (nat_cmp number)) entries) refl
  where
    by_found : (f : Option StoredObject) → lookup (is_at (nat_cmp number)) entries ≡ f → IsFound number entries
    by_found None none =
        let gone : object_of (objects_kept live entries) number ≡ None = sym (found live entries number keyed)
        ∙ ap (option_map (object_kept live)) none in
        let bad : false ≡ true = sym (ap is_some gone) ∙ is in
        absurd cc
    by_found (Some kept) at = record { kept = kept; at = at }

-- the id at the number is another
abbrev pub AsSet : ℕ → SdId → List (ℕ × StoredObject) → List (ℕ × StoredObject) → Type 0
AsSet number id old new = MatchOption (lookup (is_at (nat_cmp number)) old) (new ≡ old)
    (λ (k : StoredObject). new ≡ insert_entry nat_cmp old number (with_id id k))

-- the id that stood there
abbrev pub WasAt : ℕ → List (ℕ × StoredObject) → Option SdId → Type 0
WasAt number old was = was ≡ option_map (λ (k : StoredObject). k.id) (lookup (is_at (nat_cmp number)) old)

pub record IsDescribed (number : ℕ) (bytes : List ℕ) (before after : List Extent) (old new : List (ℕ × StoredObject)) : Type 0
  where
    pub keyed : AreKeyed new
    pub normal : AllKept (HasNormal after) new
    pub shares : Shares after new
    pub seen : objects_kept after new ≡ put (record (object_at (objects_kept before old) number) { sd = sd_in bytes })
        (objects_kept before old)
    pub sids : (schema : List SchemaRecord) → HaveTheirSids schema (entries_kept before old)
        → HaveTheirSids schema (entries_kept after new)

module _ (before : List Extent) (old : List (ℕ × StoredObject)) (keyed : AreKeyed old)
    (sorted : IsStrictlySortedBy nat_cmp (keys_of old)) (normal : AllKept (HasNormal before) old)
    (shares : Shares before old) (number : ℕ) (live : is_live (objects_kept before old) number ≡ true) (id : SdId)
    (bytes : List ℕ) (mid : Pool) (spells : SpellsNormal (sd_in bytes) bytes)
    (added : IsAdded before mid.live id.0 bytes) where
  here : IsFound number old
  here = live_found before old number keyed live

  is_here : object_of (objects_kept before old) number ≡ Some (object_kept before here.kept)
  is_here = sym (found before old number keyed) ∙ ap (option_map (object_kept before)) here.at

  own : here.kept.object.number ≡ number
  own = of_number (objects_kept before old) number (object_kept before here.kept) is_here

  abbrev kept : StoredObject
  kept = with_id id here.kept

  new_is : (new : List (ℕ × StoredObject)) → AsSet number id old new → new ≡ insert_entry nat_cmp old kept.object.number kept
  new_is new is =
      subst (λ (f : Option StoredObject). MatchOption f (new ≡ old)
      (λ (k : StoredObject). new ≡ insert_entry nat_cmp old number (with_id id k))) here.at is
      ∙ ap (λ (m : ℕ). insert_entry nat_cmp old m kept) (sym own)

  was_is : (was : Option SdId) → WasAt number old was → WasAt kept.object.number old was
  was_is was is = subst (λ (m : ℕ). WasAt m old was) (sym own) is

  -- the id that stood there may be given back
  pub given_up : (was : Option SdId) (new : List (ℕ × StoredObject)) → AsSet number id old new → WasAt number old was
      → IfSome was (λ w. is_held mid.live w.0 ≡ true)
  given_up was new set is =
      but_live mid.live (insert_entry nat_cmp old kept.object.number kept) was
      (subst (SharesBut mid.live (insert_entry nat_cmp old kept.object.number kept)) (sym (was_is was is))
      (shares_but before old keyed sorted normal shares id bytes here.kept.object kept mid spells added refl refl))

  pub described : (after : Pool) (was : Option SdId) (new : List (ℕ × StoredObject)) → AsSet number id old new
      → WasAt number old was
      → IfSome was (λ w. IsTaken mid.live after.live w.0) → IfNone was (after ≡ mid)
      → IsDescribed number bytes before after.live old new
  described after was new set is taken none = record {
    keyed = done.keyed;
    normal = done.normal;
    shares = done.shares;
    seen = done.seen ∙ ap (λ (o : Object). put (record o { sd = sd_in bytes }) (objects_kept before old))
        (sym (at-of (objects_kept before old) number (object_kept before here.kept) is_here));
    sids = λ schema all. done.sids schema (noted schema all) all;
  }
    where
      done : IsPutDone here.kept.object bytes kept before after.live old new
      done = put_done before old keyed sorted normal shares id bytes here.kept.object kept mid spells added refl refl
          after was new (new_is new set) (was_is was is) taken none

      noted : (schema : List SchemaRecord) → HaveTheirSids schema (entries_kept before old) → (sd : Sd)
          → kept_sid kept ≡ sid_in schema (object_seen here.kept.object sd)
      noted schema all sd =
          found_with (λ (k : StoredObject). HasItsSid schema (entry_kept before k)) (is_at (nat_cmp number)) old here.kept
          (sids_kept schema before old all) here.at
          ∙ sym (sid_with_sd schema (object_kept before here.kept) sd)
