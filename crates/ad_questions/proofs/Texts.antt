-- The texts of rights.
use Rattle.std.proofs.Common.{◌≡◌, ℕ, ◌<◌, ◌≤◌, List, [], ◌∷◌, None, length, take, drop}
use Rattle.std.proofs.Common.{refl, arith}
use Rattle.std.specs.Option.{option_and_then}
use Rattle.ad_schema.specs.declared.line.SchemaRecord.{SchemaRecord}
use Rattle.ad_questions.specs.Asked.{bit_of, asked_behind, asked_of}

-- ---- a text by its length

pub short_text : (schema : List SchemaRecord) (text : List ℕ) → length text < 2 → asked_of schema text ≡ None
unfolding asked_of
short_text schema [] short = refl
short_text schema (a ∷ []) short = refl
short_text schema (a ∷ b ∷ behind) short = absurd (omega (arith, short))

pub long_text : (schema : List SchemaRecord) (text : List ℕ) → 2 ≤ length text
    → asked_of schema text ≡ option_and_then (λ bit. asked_behind schema bit (drop 2 text)) (bit_of (take 2 text))
unfolding asked_of
long_text schema [] long = absurd (omega (arith, long))
long_text schema (a ∷ []) long = absurd (omega (arith, long))
long_text schema (a ∷ b ∷ behind) long = refl
