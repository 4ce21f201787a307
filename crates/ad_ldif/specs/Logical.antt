-- A logical line as the code has it.
use Rattle.std.specs.Prelude.{ℕ, List}
use Rattle.ad_ldif.specs.declared.logical.Text.{Text}
use Rattle.ad_ldif.specs.declared.logical.Text.TheVariants.{Whole, Joined}
use Rattle.ad_ldif.specs.declared.logical.Logical.{Logical}
use Rattle.ad_ldif.specs.Lines.{Line}

-- the bytes, wherever they lie
abbrev pub text_of : Text → List ℕ
text_of (Whole bytes) = bytes.now
text_of (Joined bytes) = bytes.items

abbrev pub line_of : Logical → Line
line_of l = record { number = l.number; text = text_of l.text }
