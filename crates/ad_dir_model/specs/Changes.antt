-- What a change makes of a directory. Whether it is allowed, and within the limits, is asked before.
use Rattle.std.specs.Prelude.{ℕ, ◌+◌, nat_lt, Bool, true, not, ◌==◌, ◌||◌, if◌then◌else◌, Option, Some, None, List}
use Rattle.std.specs.Prelude.{[], ◌∷◌, map, filter, filter_map}
use Rattle.std.specs.Option.{option_and_then}
use Rattle.ad_ids.specs.SidValue.{SidValue}
use Rattle.ad_ids.specs.Sid.{sid_bytes}
use Rattle.ad_value.specs.Value.{as_shown}
use Rattle.ad_schema.specs.Classes.{is_must}
use Rattle.ad_dir_model.specs.Object.{Stored, plain, link, Held, Object}
use Rattle.ad_dir_model.specs.Objects.{object_at, put}
use Rattle.ad_dir_model.specs.Tree.{is_below}
use Rattle.ad_dir_model.specs.Attributes.{object_sid}
use Rattle.ad_dir_model.specs.Identity.{domain_child}
use Rattle.ad_dir_model.specs.Directory.{Meta, Directory, parents, with_objects}
use Rattle.ad_dir_model.specs.Inheritance.{settled, written}

-- ---- values

-- the attribute with these values, in the place of what was held of it, or else where its number belongs
unfoldable pub with_values : ℕ → List Stored → List Held → List Held
with_values attr values [] = record { attr = attr; values = values } ∷ []
with_values attr values (held ∷ others) =
    if held.attr == attr then record { attr = attr; values = values } ∷ others
    else (if nat_lt attr held.attr then record { attr = attr; values = values } ∷ held ∷ others
    else held ∷ with_values attr values others)

-- An object with other values, or another naming value, and the descriptor that it has. Nothing is marked.
unfoldable pub changed : Directory → Object → Directory
changed dir o = with_objects (put o dir.objects) dir

-- ---- a rename, and a move

abbrev pub renamed_object : Object → ℕ → List ℕ → Object
renamed_object o parent name = record o { parent = parent; name = name }

-- In place the descriptor stays. Below another parent the object is written anew.
abbrev pub renamed_by : Bool → Directory → Object → Directory
renamed_by in_place dir o = if in_place then changed dir o else written dir o

unfoldable pub renamed : Directory → ℕ → ℕ → List ℕ → Directory
renamed dir number parent name =
    let o = object_at dir.objects number in
    renamed_by (o.parent == parent) dir (renamed_object o parent name)

-- ---- an addition

-- The identifier that an object of the class gets: where the class must have one and the domain has one with fewer
-- than 15 numbers, the domain's with next_rid.
unfoldable pub new_sid : Directory → ℕ → Option SidValue
new_sid dir class = option_and_then (λ attr. if is_must dir.schema class attr then domain_child dir dir.meta.next_rid
    else None) (object_sid dir.schema)

abbrev pub with_new_sid : Option ℕ → Option SidValue → List Held → List Held
with_new_sid (Some attr) (Some sid) values = with_values attr (plain (as_shown (sid_bytes sid)) ∷ []) values
with_new_sid _ _ values = values

-- the object with the next number and its identifier
abbrev pub numbered : Directory → Object → Object
numbered dir o = record o {
  number = dir.meta.next_number;
  values = with_new_sid (object_sid dir.schema)
      (new_sid dir o.class) o.values;
}

abbrev pub counted_on : Meta → Option SidValue → Meta
counted_on meta None = record meta { next_number = meta.next_number + 1 }
counted_on meta (Some sid) = record meta { next_number = meta.next_number + 1; next_rid = meta.next_rid + 1 }

-- The object put last, with the descriptor that it should have. It has no children, and isn't marked.
unfoldable pub added : Directory → Object → Directory
added dir o = record dir {
  objects = put (settled dir (numbered dir o)) dir.objects;
  meta = counted_on dir.meta (new_sid dir o.class);
}

-- ---- a deletion

-- the object itself, and all below it
unfoldable pub goes_with : Directory → ℕ → ℕ → Bool
goes_with dir number other = other == number || is_below (parents dir) number other

abbrev pub stays_linked : (ℕ → Bool) → Stored → Bool
stays_linked goes (plain value) = true
stays_linked goes (link number) = not (goes number)

-- an attribute without the links to objects that go; one that has no value left goes too
abbrev pub held_if_any : ℕ → List Stored → Option Held
held_if_any attr [] = None
held_if_any attr (value ∷ values) = Some (record { attr = attr; values = value ∷ values })

abbrev pub unlinked_held : (ℕ → Bool) → Held → Option Held
unlinked_held goes held = held_if_any held.attr (filter (stays_linked goes) held.values)

abbrev pub unlinked : (ℕ → Bool) → Object → Object
unlinked goes o = record o { values = filter_map (unlinked_held goes) o.values }

-- the objects that stay, without links to those that go
unfoldable pub remaining : (ℕ → Bool) → List Object → List Object
remaining goes objects = map (unlinked goes) (filter (λ o. not (goes o.number)) objects)

-- The object and all below it go, with their entries of the pending list and every link to them.
unfoldable pub deleted : Directory → ℕ → Directory
deleted dir number = record dir {
  objects = remaining (goes_with dir number) dir.objects;
  pending = filter (λ entry. not (goes_with dir number entry.parent)) dir.pending;
}
