-- The edits that make each change: applied in order, they give the directory that the change is defined to give.
use Rattle.std.specs.Prelude.{ℕ, Bool, not, ◌==◌, if◌then◌else◌, Option, Some, None, List, [], ◌∷◌, ◌++◌, map, filter}
use Rattle.ad_sd.specs.declared.parts.Sd.{Sd}
use Rattle.prop_queue.specs.declared.pending.Pending.{Pending}
use Rattle.prop_queue.specs.Pending.{advanced}
use Rattle.ad_dir_model.specs.Object.{Object}
use Rattle.ad_dir_model.specs.Objects.{object_at, sd_at, next_child}
use Rattle.ad_dir_model.specs.Directory.{Directory, Edit, put_object, remove_object, put_queue, put_meta, with_pending}
use Rattle.ad_dir_model.specs.Inheritance.{marked_if_changed, settled}
use Rattle.ad_dir_model.specs.Changes.{renamed_object, numbered, new_sid, counted_on, goes_with, unlinked}
use Rattle.ad_dir_model.specs.Names.{admin_sd_holder}
use Rattle.ad_dir_model.specs.Protection.{frozen, protected_object, protected, changes}

-- values and the naming value
abbrev pub change_edits : Object → List Edit
change_edits o = put_object o ∷ []

-- an object as it is, and the pending list where it is marked if its descriptor changed
abbrev pub store_edits : Directory → Object → List Edit
store_edits dir o = put_object o ∷ put_queue (marked_if_changed (sd_at dir.objects o.number) o dir.pending) ∷ []

-- the same of one that gets its whole
abbrev pub write_edits : Directory → Object → List Edit
write_edits dir o = store_edits dir (settled dir o)

abbrev pub rename_edits : Directory → ℕ → ℕ → List ℕ → List Edit
rename_edits dir number parent name =
    let o = object_at dir.objects number in
    if o.parent == parent then change_edits (renamed_object o parent name)
    else write_edits dir (renamed_object o parent name)

abbrev pub add_edits : Directory → Object → List Edit
add_edits dir o = put_object (settled dir (numbered dir o)) ∷ put_meta (counted_on dir.meta (new_sid dir o.class)) ∷ []

-- ---- a step

abbrev pub head_edits : Directory → List Pending → Option ℕ → List Edit
head_edits dir others None = put_queue others ∷ []
head_edits dir others (Some child) = write_edits (with_pending (advanced child dir.pending) dir)
    (object_at dir.objects child)

abbrev pub pending_edits : Directory → List Pending → List Edit
pending_edits dir [] = []
pending_edits dir (head ∷ others) = head_edits dir others (next_child dir.objects head.parent head.cursor)

abbrev pub step_edits : Directory → List Edit
step_edits dir = pending_edits dir dir.pending

-- ---- a deletion

-- The pending list first, then the objects that lose links, and then the objects that go, in any order: children
-- before their parents, so that each of them has none when it goes.
abbrev pub delete_edits : Directory → ℕ → List ℕ → List ℕ → List Edit
delete_edits dir number losing going =
    put_queue (filter (λ entry. not (goes_with dir number entry.parent)) dir.pending)
    ∷ (map (λ n. put_object (unlinked (goes_with dir number) (object_at dir.objects n))) losing
    ++ map (λ n. remove_object n) going)

-- ---- a protection run

-- what is put for the object of a number
abbrev pub protecting : Directory → Sd → ℕ → Object
protecting dir sd number = protected_object dir sd (object_at dir.objects number)

-- the pending list, with each object of the list marked whose descriptor changes
unfoldable pub all_marked : Directory → Sd → List ℕ → List Pending → List Pending
all_marked dir sd [] pending = pending
all_marked dir sd (number ∷ others) pending = all_marked dir sd others
    (marked_if_changed (sd_at dir.objects (protecting dir sd number).number) (protecting dir sd number) pending)

-- the objects that change, and then the pending list
abbrev pub protect_edits : Directory → Sd → List ℕ → List Edit
protect_edits dir sd numbers = map (λ n. put_object (protecting dir sd n)) (filter (changes dir sd) numbers)
    ++ put_queue (all_marked dir sd numbers dir.pending) ∷ []

abbrev pub holder_edits : Directory → Option ℕ → List Edit
holder_edits dir None = []
holder_edits dir (Some holder) = protect_edits dir (frozen (sd_at dir.objects holder)) (protected dir)

abbrev pub run_edits : Directory → List Edit
run_edits dir = holder_edits dir (admin_sd_holder dir)
