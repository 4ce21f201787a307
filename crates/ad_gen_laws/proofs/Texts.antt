-- The text of a record that stands as data, and that it is read back.
use Rattle.std.proofs.Common.{◌≡◌, ◌∙◌, ℕ, ◌+◌, ◌||◌, Bool, true, if◌then◌else◌, List, [], ◌∷◌, ◌++◌, map, refl, sym}
use Rattle.std.proofs.Common.{ap, append_assoc, arith, codes}
use Rattle.std.proofs.Common.{length, None, Result, Ok}
use Rattle.std.specs.List.{AllByRecursion, list_all}
use Rattle.std.specs.Str.{bytes_eq}
use Rattle.base64.specs.Engines.{standard}
use Rattle.base64.specs.GeneralPurpose.{encode_of}
use Rattle.ad_dn.specs.declared.rdn.Rdn.{Rdn}
use Rattle.ad_dn.specs.Text.{rdns_text}
use Rattle.ad_ldif.specs.Lines.{physical, logical, lines_from, blocks}
use Rattle.ad_ldif.specs.Story.{story_of, told, nothing}
use Rattle.ad_ldif.specs.Records.{Entry, Fault, record_of}
use Rattle.ad_schema.specs.declared.line.Line.{Line}
use Rattle.ad_gen_laws.specs.Plain.{Plain, next_at, entry_at, entries_from}
use Rattle.ad_gen_laws.proofs.Blocks.{is_plain, flat, behind, block_of, next_of, story_from, one_more}

-- lines of these names stand in base64
abbrev pub is_encoded : List ℕ → Bool
is_encoded name = bytes_eq name (codes "schemaIDGUID") || bytes_eq name (codes "attributeSecurityGUID")
    || bytes_eq name (codes "nTSecurityDescriptor")

abbrev pub raw : Line → List ℕ
raw l = if is_encoded l.name then l.name ++ (codes ":: " ++ encode_of standard l.value) else l.name
    ++ (codes ": " ++ l.value)

abbrev pub dn_line : List Rdn → List ℕ
dn_line rdns = codes "dn: " ++ rdns_text rdns

-- a record's lines and the empty line after it, and those of all records
abbrev pub text_of : Plain → List ℕ
text_of p = flat (dn_line p.rdns ∷ map raw p.lines)

unfoldable pub texts : List Plain → List ℕ
texts [] = []
texts (p ∷ ps) = text_of p ++ texts ps

pub texts_both : (ps qs : List Plain) → texts (ps ++ qs) ≡ texts ps ++ texts qs
unfolding texts
texts_both [] qs = refl
texts_both (p ∷ ps) qs = ap (λ (more : List ℕ). text_of p ++ more) (texts_both ps qs)
    ∙ sym (append_assoc (text_of p) (texts ps) (texts qs))

-- ---- what is known of a record whose text is read back

pub record Reads (p : Plain) : Type 0 where
  pub first : is_plain (dn_line p.rdns) ≡ true
  pub others : list_all is_plain (map raw p.lines) ≡ true
  pub read : (k : ℕ) → record_of (block_of k (dn_line p.rdns) (map raw p.lines)) ≡ Ok (entry_at k p)

behind_is : (k : ℕ) (lines : List Line) → behind k (map raw lines) ≡ k + length lines
unfolding behind
behind_is k [] = omega arith
behind_is k (l ∷ lines) = let e = behind_is (k + 1) lines in omega (arith, e)

next_is : (k : ℕ) (p : Plain) → next_of k (map raw p.lines) ≡ next_at k p
next_is k p = let e = behind_is (k + 1) p.lines in omega (arith, e)

at_end : (k : ℕ) → story_from k [] ≡ nothing
unfolding story_from story_of lines_from physical logical blocks
at_end k = refl

-- the story of the texts of records is that of the records
pub all_told : (k : ℕ) (ps : List Plain) → AllByRecursion Reads ps → story_from k (texts ps)
    ≡ record { records = entries_from k ps; stop = None }
unfolding texts entries_from
all_told k [] all = at_end k
all_told k (p ∷ ps) all =
    one_more k (dn_line p.rdns) (map raw p.lines) (texts ps) all.0.first all.0.others
    ∙ ap (λ (read : Result Entry Fault). told read (story_from (next_of k (map raw p.lines)) (texts ps))) (all.0.read k)
    ∙ ap (λ (n : ℕ). told (Ok (entry_at k p)) (story_from n (texts ps))) (next_is k p)
    ∙ ap (told (Ok (entry_at k p))) (all_told (next_at k p) ps all.1)
