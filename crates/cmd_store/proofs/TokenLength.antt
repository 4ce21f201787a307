-- No token is longer than what `effective` reads, and nothing is a token and none.
use Rattle.std.proofs.Common.{ℕ, ◌*◌, ◌<◌, ◌≤◌, inl, inr, List, [], ◌∷◌, length, Option, Some, None, ap, arith}
use Rattle.std.proofs.lemmas.List.{length-append}
use Rattle.ad_bytes.specs.Reading.{SpellsEach}
use Rattle.ad_bytes.proofs.Codec.{length-be_bytes}
use Rattle.site_io.specs.Told.{BothTold}
use Rattle.ad_ids.specs.declared.mark.Mark.{Mark}
use Rattle.ad_ids.specs.declared.token.Token.{Token}
use Rattle.ad_ids.specs.Sid.{SpellsSid}
use Rattle.ad_ids.specs.SidValue.{SidValue}
use Rattle.ad_ids.specs.Token.{SpellsMarked, SpellsSids, SpellsLists, Lists, SpellsToken}
use Rattle.cmd_call.specs.Call.{IsTold}
use Rattle.cmd_call.proofs.Lengths.{sid_length}
use Rattle.cmd_store.specs.Effective.{IsToken, NoToken, IsTokenFor, IsNoTokenFor}

each_length : {A : Type 0} (Spells : A → List ℕ → Type 0) → ((x : A) (t : List ℕ) → Spells x t → length t ≤ 69)
    → (xs : List A) (text : List ℕ)
    → SpellsEach Spells xs text → length text ≤ 69 * length xs
each_length Spells one [] text s = omega (arith, ap length s)
each_length Spells one (x ∷ xs) text s =
    omega (
      arith,
      ap length s.parts,
      length-append s.front s.behind,
      one x s.front s.spelled,
      each_length Spells one
          xs s.behind s.follows,
    )

short_sid : (s : SidValue) (text : List ℕ) → SpellsSid s text → length text ≤ 69
short_sid s text p = omega (arith, sid_length s text p)

marked_length : (group : Mark × SidValue) (text : List ℕ) → SpellsMarked group text → length text ≤ 69
marked_length group text s = omega (
  arith,
  ap length s.parts,
  length-append s.front s.behind,
  ap length s.spelled.1,
  sid_length group.1 s.behind s.follows,
)

sids_length : (sids : List SidValue) (text : List ℕ) → SpellsSids sids text → length text ≤ 70658
sids_length sids text s =
    let w = s.text_is in
    omega (
      arith,
      ap length w.parts,
      length-append w.front w.behind,
      ap length w.spelled.1,
      length-be_bytes 2
          (length sids),
      each_length SpellsSid short_sid sids w.behind w.follows,
      s.count,
    )

lists_length : (version : ℕ) (lists : Lists) (text : List ℕ) → SpellsLists version lists text → length text ≤ 141316
lists_length version lists text (inl plain) = omega (arith, sids_length lists.groups text plain.1.groups)
lists_length version lists text (inr marks) =
    let s = marks.1 in
    let w = s.text_is in
    let v = w.follows in
    omega (
      arith,
      ap length w.parts,
      length-append w.front w.behind,
      ap length w.spelled.1,
      length-be_bytes 2 (length s.marked),
      ap length v.parts,
      length-append v.front v.behind,
      each_length SpellsMarked marked_length s.marked v.front v.spelled,
      s.count,
      sids_length lists.restricting v.behind v.follows,
    )

token_length : (t : Token) (text : List ℕ) → SpellsToken t text → length text ≤ 262144
token_length t text s =
    let a = s.0.text_is in
    let b = a.follows in
    let c = b.follows in
    let d = c.follows in
    let e = d.follows in
    omega (
      arith,
      ap length a.parts,
      length-append a.front a.behind,
      ap length a.spelled.1,
      ap length b.parts,
      length-append b.front b.behind,
      ap length b.spelled.1,
      ap length c.parts,
      length-append c.front c.behind,
      sid_length t.user c.front c.spelled,
      ap length d.parts,
      length-append d.front d.behind,
      sid_length t.owner d.front d.spelled,
      ap length e.parts,
      length-append e.front e.behind,
      sid_length t.primary e.front e.spelled,
      lists_length t.version _ e.behind e.follows,
    )

-- more bytes came than a token has
pub too_long : (rest left : Option (List ℕ)) → BothTold rest left (λ before after. 262144 < length before)
    → IsNoTokenFor rest left
too_long None None long = tt
too_long (Some before) (Some after) long = λ token. omega (arith, token_length token.0 before token.1)
too_long None (Some after) long = absurd long
too_long (Some before) None long = absurd long

-- ---- a token and none at once

pub token_clash : (rest left : Option (List ℕ)) → IsTold IsToken rest → IsNoTokenFor rest left → ⊥
token_clash None left told none = told
token_clash (Some input) (Some behind) told none = none told
token_clash (Some input) None told none = none

pub none_clash : (rest left : Option (List ℕ)) (token : Token) → IsTold NoToken rest → IsTokenFor rest left token → ⊥
none_clash None left token told is = told
none_clash (Some input) (Some behind) token told is = told (token, is.1)
none_clash (Some input) None token told is = is
