-- What a put and a removal leave.
use Rattle.std.proofs.Common.{◌≡◌, ℕ, ◌<◌, length, arith, List, [], ◌∷◌, Option, refl, sym, subst, ap, ◌∙◌}
use Rattle.std.specs.Prelude.{option_map}
use Rattle.std.specs.Option.{IfSome, IfNone}
use Rattle.std.specs.Map.{lookup, remove_entry, keys_of}
use Rattle.std.specs.BTreeMap.{insert_entry, is_at}
use Rattle.std.specs.List.Sorted.{IsStrictlySortedBy}
use Rattle.std.specs.Ordering.{nat_cmp}
use Rattle.ad_schema.specs.declared.line.SchemaRecord.{SchemaRecord}
use Rattle.ad_sd.specs.declared.parts.Sd.{Sd}
use Rattle.ad_sd.specs.SdIn.{sd_in}
use Rattle.ad_sd.specs.Normal.{SpellsNormal}
use Rattle.sd_pool.specs.declared.id.SdId.{SdId}
use Rattle.sd_pool.specs.Blocks.{Extent}
use Rattle.sd_pool.specs.Pool.{Pool}
use Rattle.sd_pool.specs.Sharers.{bytes_at, IsAdded, IsTaken}
use Rattle.ad_dir_model.specs.Object.{Object}
use Rattle.ad_dir_model.specs.Objects.{put, removed}
use Rattle.ad_dir_model.specs.Identity.{sid_in}
use Rattle.ad_dir_objects.specs.declared.object.Object.{Object as ObjectIn}
use Rattle.ad_dir_objects.specs.Seen.{object_seen}
use Rattle.ad_dir_table.specs.declared.stored_object.StoredObject.{StoredObject}
use Rattle.ad_dir_table.specs.Entry.{objects_in, HasItsSid, HaveTheirSids}
use Rattle.ad_dir_table.specs.Fields.{AllKept, AreKeyed, HasNormal, IsNormalAt, sd_of, kept_sid, object_kept}
use Rattle.ad_dir_table.specs.Fields.{objects_kept, entry_kept, entries_kept}
use Rattle.ad_dir_table.proofs.Entries.{inserted, gone, all_inserted, all_taken}
use Rattle.ad_dir_table.proofs.Keeping.{Shares, SharesBut, SameBytes, Settles, seen_same, normal_same, added_same}
use Rattle.ad_dir_table.proofs.Keeping.{settles_after, settles_again, put_shares, removed_shares, sids_kept}
use Rattle.ad_dir_table.proofs.Keeping.{sids_seen}

-- what a put leaves
pub record IsPutDone (object : ObjectIn) (bytes : List ℕ) (kept : StoredObject) (before after : List Extent)
    (old new : List (ℕ × StoredObject)) : Type 0 where
  pub keyed : AreKeyed new
  pub normal : AllKept (HasNormal after) new
  pub shares : Shares after new
  pub seen : objects_kept after new ≡ put (object_seen object (sd_in bytes)) (objects_kept before old)
  pub sids : (schema : List SchemaRecord) → ((sd : Sd) → kept_sid kept ≡ sid_in schema (object_seen object sd))
      → HaveTheirSids schema (entries_kept before old) → HaveTheirSids schema (entries_kept after new)

module _ (before : List Extent) (old : List (ℕ × StoredObject)) (keyed : AreKeyed old)
    (sorted : IsStrictlySortedBy nat_cmp (keys_of old)) (normal : AllKept (HasNormal before) old)
    (shares : Shares before old) where
  module _ (id : SdId) (bytes : List ℕ) (object : ObjectIn) (kept : StoredObject) (mid : Pool)
      (spells : SpellsNormal (sd_in bytes) bytes) (added : IsAdded before mid.live id.0 bytes)
      (is : kept.object ≡ object) (own : kept.id ≡ id) where
    number : ℕ
    number = kept.object.number

    same : SameBytes before mid.live old
    same = added_same before mid.live id.0 bytes old added shares

    new_bytes : bytes_at mid.live kept.id.0 ≡ bytes
    new_bytes = ap (λ (i : SdId). bytes_at mid.live i.0) own ∙ added.own

    made : object_kept mid.live kept ≡ object_seen object (sd_in bytes)
    made = ap (λ (o : ObjectIn). object_seen o (sd_of mid.live kept.id.0)) is
        ∙ ap (λ (b : List ℕ). object_seen object (sd_in b)) new_bytes

    new_normal : IsNormalAt mid.live kept.id.0
    new_normal = subst (λ (b : List ℕ). SpellsNormal (sd_in b) b) (sym new_bytes) spells

    -- the ids that are named, but for that of the object before
    pub shares_but : SharesBut mid.live (insert_entry nat_cmp old kept.object.number kept)
        (option_map (λ (k : StoredObject). k.id) (lookup (is_at (nat_cmp kept.object.number)) old))
    shares_but = put_shares before mid.live id.0 bytes old kept.object.number kept sorted shares added
        (ap (λ (i : SdId). i.0) own)

    pub put_done : (after : Pool) (was : Option SdId) (new : List (ℕ × StoredObject)) → new ≡ insert_entry nat_cmp old
        kept.object.number kept
        → was ≡ option_map (λ (k : StoredObject). k.id) (lookup (is_at (nat_cmp kept.object.number)) old)
        → IfSome was (λ w. IsTaken mid.live after.live w.0) → IfNone was (after ≡ mid) → IsPutDone object bytes kept
        before after.live old new
    put_done after was new entries was_is taken none =
        subst (λ (es : List (ℕ × StoredObject)). IsPutDone object bytes kept before after.live old es) (sym entries) (record {
          keyed = (inserted mid.live old kept.object.number kept refl keyed).keyed;
          normal = normal_same mid.live after.live with_new settled.same
              (all_inserted (HasNormal mid.live) old kept.object.number kept new_normal
              (normal_same before mid.live old same normal));
          shares = settled.shares;
          seen = ap objects_in (seen_same mid.live after.live with_new settled.same)
              ∙ (inserted mid.live old kept.object.number kept refl keyed).seen
              ∙ ap (λ (o : Object). put o (objects_kept mid.live old)) made
              ∙ ap (λ (os : List Object). put (object_seen object (sd_in bytes)) os)
              (ap objects_in (seen_same before mid.live old same));
          sids = λ schema noted all.
              subst (HaveTheirSids schema) (sym (seen_same mid.live after.live with_new settled.same))
              (sids_seen schema mid.live with_new
              (all_inserted (λ (k : StoredObject). HasItsSid schema (entry_kept mid.live k)) old kept.object.number kept
              (subst (λ (o : ObjectIn). kept_sid kept ≡ sid_in schema (object_seen o (sd_of mid.live kept.id.0)))
              (sym is) (noted (sd_of mid.live kept.id.0)))
              (sids_kept schema mid.live old (subst (HaveTheirSids schema) (sym (seen_same before mid.live old same))
              all))));
        })
      where
        with_new : List (ℕ × StoredObject)
        with_new = insert_entry nat_cmp old kept.object.number kept

        settled : Settles mid.live after.live with_new
        settled = settles_after mid after with_new was (subst (SharesBut mid.live with_new) (sym was_is) shares_but)
            taken none

    -- where nothing was put
    pub undone : (after : List Extent) → IsTaken mid.live after id.0 → Settles before after old
    undone after taken = settles_again before mid.live after id bytes old shares added taken

-- what a removal leaves
pub record IsRemoveDone (number : ℕ) (before after : List Extent) (old new : List (ℕ × StoredObject)) : Type 0 where
  pub keyed : AreKeyed new
  pub normal : AllKept (HasNormal after) new
  pub shares : Shares after new
  pub seen : objects_kept after new ≡ removed number (objects_kept before old)
  pub sids : (schema : List SchemaRecord) → HaveTheirSids schema (entries_kept before old)
      → HaveTheirSids schema (entries_kept after new)

pub remove_done : (before after : Pool) (old new : List (ℕ × StoredObject)) (number : ℕ) (was : Option SdId) → AreKeyed old
    → IsStrictlySortedBy nat_cmp (keys_of old) → AllKept (HasNormal before.live) old → Shares before.live old
    → new ≡ remove_entry (is_at (nat_cmp number)) old → was ≡ option_map (λ (k : StoredObject). k.id)
    (lookup (is_at (nat_cmp number)) old)
    → IfSome was (λ w. IsTaken before.live after.live w.0) → IfNone was (after ≡ before)
    → IsRemoveDone number before.live after.live old new
remove_done before after old new number was keyed sorted normal shares entries was_is taken none =
    subst (λ (es : List (ℕ × StoredObject)). IsRemoveDone number before.live after.live old es) (sym entries) (record {
      keyed = (gone before.live old number keyed sorted).keyed;
      normal = normal_same before.live after.live left settled.same
          (all_taken (HasNormal before.live) (is_at (nat_cmp number)) old normal);
      shares = settled.shares;
      seen = ap objects_in (seen_same before.live after.live left settled.same)
          ∙ (gone before.live old number keyed sorted).seen;
      sids = λ schema all.
          subst (HaveTheirSids schema) (sym (seen_same before.live after.live left settled.same))
          (sids_seen schema before.live left
          (all_taken (λ (k : StoredObject). HasItsSid schema (entry_kept before.live k)) (is_at (nat_cmp number)) old
          (sids_kept schema before.live old all)));
    })
  where
    left : List (ℕ × StoredObject)
    left = remove_entry (is_at (nat_cmp number)) old

    settled : Settles before.live after.live left
    settled = settles_after before after left was
        (subst (SharesBut before.live left) (sym was_is)
        (removed_shares before.live old (is_at (nat_cmp number)) shares)) taken none

pub length_seen : (live : List Extent) (entries : List (ℕ × StoredObject)) (n : ℕ) → length (entries_kept live entries) < n
    → length entries < n
length_seen live entries n few = let same = long entries in omega (arith, same, few)
  where
    long : (es : List (ℕ × StoredObject)) → length (entries_kept live es) ≡ length es
    long [] = refl
    long (e ∷ es) = let rest = long es in omega (arith, rest)
