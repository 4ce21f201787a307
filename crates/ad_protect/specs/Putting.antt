-- What a run puts, and what it is told by: the bytes of a descriptor, and an attribute with its value.
use Rattle.std.specs.Prelude.{◌≡◌, ℕ, List, [], length, map, filter}
use Rattle.std.specs.Option.{option_map}
use Rattle.ad_sd.specs.declared.parts.Sd.{Sd}
use Rattle.ad_sd.specs.SdIn.{sd_in}
use Rattle.ad_dir_objects.specs.declared.edit.Edit.{Edit as EditIn}
use Rattle.ad_dir.specs.Conditions.{AreEdits, IsNormal}
use Rattle.ad_dir_model.specs.Directory.{Directory, Edit, put_object}
use Rattle.ad_dir_model.specs.Protection.{Mark, admin_count, changes}
use Rattle.ad_dir_model.specs.Edits.{protecting, protect_edits}
use Rattle.ad_protect.specs.declared.mark.Mark.{Mark as MarkIn}
use Rattle.ad_protect.specs.declared.given.Given.{Given}

abbrev pub mark_seen : MarkIn → Mark
mark_seen mark = record { attr = mark.attr.0; value = mark.value }

-- the descriptor that a run gives
abbrev pub sd_given : Given → Sd
sd_given given = sd_in given.sd.items

-- its bytes are normal, and the attribute is the schema's
pub record IsGiven (dir : Directory) (given : Given) : Type 0 where
  pub normal : IsNormal given.sd.items
  pub mark : option_map mark_seen given.mark ≡ admin_count dir.schema

-- what is put of those of these objects that change
abbrev pub puts_of : Directory → Sd → List ℕ → List Edit
puts_of dir sd numbers = map (λ number. put_object (protecting dir sd number)) (filter (changes dir sd) numbers)

-- What is put of those that change, which are so many, and after it the pending list; nothing where none changes.
pub record AreRunEdits (dir : Directory) (sd : Sd) (numbers : List ℕ) (edits : List EditIn) (changed : ℕ) : Type 0 where
  pub count : changed ≡ length (puts_of dir sd numbers)
  pub nothing : changed ≡ 0 → edits ≡ []
  pub some : (changed ≡ 0 → ⊥) → AreEdits (protect_edits dir sd numbers) edits
