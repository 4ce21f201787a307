-- What is wrong with one record.
use Rattle.std.specs.Prelude.{ℕ, Bool, ◌&&◌, ◌||◌, not, List, [], ◌∷◌, ◌++◌, Option, Some, None, find, if◌then◌else◌}
use Rattle.std.specs.Option.{option_or, option_and_then}
use Rattle.ad_schema.specs.declared.line.SchemaKind.{SchemaKind}
use Rattle.ad_schema.specs.declared.line.Line.{Line}
use Rattle.ad_schema.specs.declared.field.Field.{Field}
use Rattle.ad_schema.specs.Fields.{required, reads, is_list, has, field_of}

-- the first required line that isn't there, in the table's order
unfoldable pub missing : SchemaKind → List Line → Option Field
missing kind lines = find (λ field. not (has field lines)) (required kind)

-- whether a line, after the lines before it, has a value that can't be read or is one too many
unfoldable pub is_bad : List Line → List ℕ → Field → Bool
is_bad before value field = not (reads field value) || not (is_list field) && has field before

-- what such a line says
unfoldable pub bad_line : SchemaKind → List Line → Line → Option Field
bad_line kind before line = option_and_then (λ field. if is_bad before line.value field then Some field else None)
    (field_of kind line)

-- the first such line, after the lines before
unfoldable pub bad_behind : SchemaKind → List Line → List Line → Option Field
bad_behind kind before [] = None
bad_behind kind before (line ∷ lines) = option_or (bad_line kind before line)
    (bad_behind kind (before ++ line ∷ []) lines)

unfoldable pub bad_value : SchemaKind → List Line → Option Field
bad_value kind lines = bad_behind kind [] lines
