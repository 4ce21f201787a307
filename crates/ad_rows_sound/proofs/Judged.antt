-- What was read is sound, where each of its parts is; and which number is told where one isn't.
use Rattle.std.proofs.Common.{◌≡◌, ◌∙◌, ◌⊎◌, inl, inr, ℕ, Bool, true, false, ◌==◌, if◌then◌else◌, List, [], ◌∷◌}
use Rattle.std.proofs.Common.{Option, Some, refl, sym, ap}
use Rattle.std.specs.Prelude.{filter_map}
use Rattle.std.specs.List.{AllByRecursion}
use Rattle.std.proofs.lemmas.Str.{is_utf8-from_IsUtf8}
use Rattle.ad_dn.specs.Fold.{folded}
use Rattle.ad_inherit.specs.Whole.{explicit_part, whole}
use Rattle.ad_schema.specs.declared.line.SchemaRecord.{SchemaRecord}
use Rattle.prop_queue.specs.declared.pending.Pending.{Pending}
use Rattle.ad_dir_model.specs.Object.{Stored, plain, link, Held, Object, linked, links_in}
use Rattle.ad_dir_model.specs.Objects.{object_of, is_live, sd_at, Rise}
use Rattle.ad_dir_model.specs.Tree.{root}
use Rattle.ad_dir_model.specs.Inheritance.{guid_at, covers, whole_at, IsSettled}
use Rattle.ad_dir_model.specs.Directory.{Directory, Meta}
use Rattle.ad_dir_model.specs.Soundness.{IsContent, IsSound, IsSoundFrame, IsSoundObject, StandsBy, HasOwnSid}
use Rattle.ad_dir_model.proofs.Unlinking.{all_append, all_front}
use Rattle.ad_rows_sound.specs.Least.{lesser, OfObject, IsLeastObject}
use Rattle.ad_rows_sound.specs.Parts.{dir_of, IsLiveLink, AreLiveLinks, IsPlacedBy, IsStanding, ArePending}
use Rattle.ad_rows_sound.specs.Told.{as_folded, HasNameAlone, IsSoundAmong}
use Rattle.ad_rows_sound.proofs.Leasts.{map_least, both_least}

module _ (schema : List SchemaRecord) (objects : List Object) (pending : List Pending) (meta : Meta) where
  abbrev dir : Directory
  dir = dir_of schema objects pending meta

  -- ---- links

  live_each : (values : List Stored) → AllByRecursion (IsLiveLink objects) values
      → AllByRecursion (λ (n : ℕ). is_live objects n ≡ true) (filter_map linked values)
  live_each [] all = tt
  live_each (plain v ∷ values) all = live_each values all.1
  live_each (link n ∷ values) all = (all.0, live_each values all.1)

  live_links : (values : List Held) → AllByRecursion (AreLiveLinks objects) values
      → AllByRecursion (λ (n : ℕ). is_live objects n ≡ true) (links_in values)
  unfolding links_in
  live_links [] all = tt
  live_links (held ∷ values) all = all_append (λ (n : ℕ). is_live objects n ≡ true) (filter_map linked held.values)
      (links_in values) (live_each held.values all.0) (live_links values all.1)

  each_live : (values : List Stored) → AllByRecursion (λ (n : ℕ). is_live objects n ≡ true) (filter_map linked values)
      → AllByRecursion (IsLiveLink objects) values
  each_live [] all = tt
  each_live (plain v ∷ values) all = (tt, each_live values all)
  each_live (link n ∷ values) all = (all.0, each_live values all.1)

  links_live : (values : List Held) → AllByRecursion (λ (n : ℕ). is_live objects n ≡ true) (links_in values)
      → AllByRecursion (AreLiveLinks objects) values
  unfolding links_in
  links_live [] all = tt
  links_live (held ∷ values) all =
      let parts = all_front (λ (n : ℕ). is_live objects n ≡ true) (filter_map linked held.values) (links_in values)
      all in
      (each_live held.values parts.0, links_live values parts.1)

  -- ---- places

  whole_is : (o : Object) → (o.number == root) ≡ false → whole_at dir o ≡ whole (sd_at objects o.parent) o.sd
      (guid_at schema o.class)
  unfolding whole_at
  whole_is o e = ap (λ (b : Bool). if b then explicit_part o.sd else whole (sd_at objects o.parent) o.sd
      (guid_at schema o.class)) e

  placed_so : (o : Object) (b : Bool) → (o.number == root) ≡ b → IsPlacedBy b schema objects pending o
      → StandsBy b dir o
  placed_so o true e is = record { no_parent = is.0; explicit = is.1 }
  placed_so o false e is = record {
    parent_live = is.0;
    placed = is.1;
    inherits = elim is.2 [
      | inl settled ↦ inl (settled ∙ sym (whole_is o e))
      | inr covered ↦ inr covered
    ];
  }

  so_placed : (o : Object) (b : Bool) → (o.number == root) ≡ b → StandsBy b dir o → IsPlacedBy b schema objects
      pending o
  so_placed o true e is = (is.no_parent, is.explicit)
  so_placed o false e is = (is.parent_live, is.placed, inherited is.inherits)
    where
      inherited : IsSettled dir o ⊎ (covers pending o.parent o.number ≡ true)
          → (o.sd ≡ whole (sd_at objects o.parent) o.sd (guid_at schema o.class))
          ⊎ (covers pending o.parent o.number ≡ true)
      inherited (inl settled) = inl (settled ∙ whole_is o e)
      inherited (inr covered) = inr covered

  -- ---- the sentences of an object

  abbrev Parts : ℕ → Type 0
  Parts n = (OfObject objects (IsContent schema) n × OfObject objects (IsStanding schema objects pending) n)
      × (OfObject objects (HasNameAlone objects) n × OfObject objects (HasOwnSid schema objects) n)

  together : (n : ℕ) → Parts n → OfObject objects (IsSoundAmong dir) n
  together n is o found =
      let stands = is.0.1 o found in
      record {
        content = is.0.0 o found;
        stands = placed_so o (o.number == root) refl stands.1;
        links
            = live_links o.values stands.0;
        own_name = is.1.0 o found;
        own_sid = is.1.1 o found;
      }

  apart : (n : ℕ) → OfObject objects (IsSoundAmong dir) n → Parts n
  apart n is = (
    (
      λ o found. (is o found).content,
      λ o found.
          (links_live o.values (is o found).links, so_placed o (o.number == root) refl (is o found).stands),
    ),
    (λ o found. (is o found).own_name, λ o found. (is o found).own_sid),
  )

  pub least_among : (bad astray name sid : Option ℕ) → IsLeastObject (IsContent schema) objects bad
      → IsLeastObject (IsStanding schema objects pending) objects astray
      → IsLeastObject (HasNameAlone objects) objects name → IsLeastObject (HasOwnSid schema objects) objects sid
      → IsLeastObject (IsSoundAmong dir) objects (lesser (lesser bad astray) (lesser name sid))
  least_among bad astray name sid is_bad is_astray is_name is_sid =
      map_least Parts (OfObject objects (IsSoundAmong dir)) (lesser (lesser bad astray) (lesser name sid)) together
      apart
      (both_least _ _ (lesser bad astray) (lesser name sid) (both_least _ _ bad astray is_bad is_astray)
      (both_least _ _ name sid is_name is_sid))

  -- ---- a sound directory

  -- a name is UTF-8, so it is taken after folding
  as_named : (o : Object) → IsContent schema o → as_folded o.name ≡ folded o.name
  as_named o is = ap (λ (b : Bool). if b then folded o.name else o.name) (is_utf8-from_IsUtf8 o.name is.name.utf8)

  pub sound_each : ((n : ℕ) → OfObject objects (IsSoundAmong dir) n) → (n : ℕ) (o : Object) → object_of objects n
      ≡ Some o → IsSoundObject dir o
  sound_each each n o found =
      let is = each n o found in
      record {
        content = is.content;
        stands = is.stands;
        links = is.links;
        own_name = λ m other there parent same. is.own_name m other there parent
            (as_named other (each m other there).content ∙ same ∙ sym (as_named o is.content));
        own_sid = is.own_sid;
      }

  pub among_each : ((n : ℕ) (o : Object) → object_of objects n ≡ Some o → IsSoundObject dir o) → (n : ℕ)
      → OfObject objects (IsSoundAmong dir) n
  among_each each n o found =
      let is = each n o found in
      record {
        content = is.content;
        stands = is.stands;
        links = is.links;
        own_name = λ m other there parent same. is.own_name m other there parent
            (sym (as_named other (each m other there).content) ∙ same ∙ as_named o is.content);
        own_sid = is.own_sid;
      }

  pub all_sound : Rise objects → IsSoundFrame dir → ((n : ℕ) → OfObject objects (IsSoundAmong dir) n)
      → ArePending objects pending → IsSound dir
  all_sound rise frame each waiting = record {
    rise = rise;
    frame = frame;
    each = sound_each each;
    live
        = waiting.live;
    distinct = waiting.distinct;
  }
