-- Identifiers: what is read is encoded so, and what is encoded so is read, where the next character doesn't belong
-- to it.
use Rattle.std.proofs.Common.{Bool, eqb, true, false, ◌≡◌, inl, inr, ℕ, List, [], ◌∷◌, ◌++◌, length, Option, Some}
use Rattle.std.proofs.Common.{None, if◌then◌else◌, Ok, refl, ap, subst, ◌∙◌}
use Rattle.std.specs.Prelude.{slice_index}
use Rattle.std.specs.Char.{to_ascii_lowercase}
use Rattle.std.specs.List.{AllByRecursion}
use Rattle.std.proofs.lemmas.Bool.{eqb-true}
use Rattle.std.proofs.lemmas.List.{append-nil}
use Rattle.ad_bytes.specs.Reading.{TakesFront}
use Rattle.ad_bytes.specs.Numbers.{byte_at}
use Rattle.ad_bytes.proofs.Steps.{from_bind, from_ok, both_true}
use Rattle.ad_ids.specs.SidValue.{SidValue}
use Rattle.ad_ids.specs.SidFront.{longest_front}
use Rattle.ad_ids.proofs.SidFront.{Ends, again_before, again_at_end, front_found, no_front_in_two}
use Rattle.ad_sddl.specs.declared.fault.SddlKind.TheVariants as kind
use Rattle.ad_sddl.specs.declared.fault.SddlKind.{SddlKind}
use Rattle.ad_sddl.specs.declared.fault.ParseError.{ParseError}
use Rattle.ad_sddl.specs.declared.words.Alias.{Alias}
use Rattle.ad_sddl.specs.Words.{are_letters, find_alias, alias_codes, meant_by}
use Rattle.ad_sddl.specs.Grammar.{SpellsAlias, SpellsSid}
use Rattle.ad_sddl.specs.Reading.{or_stop, or_else, alias_at, sid_at}

given : {A : Type 0} (kind : SddlKind) (bytes : List ℕ) (o : Option A) (x : A) → or_stop kind bytes o ≡ Ok x → o
    ≡ Some x
given kind bytes None x e = absurd cc
given kind bytes (Some y) x e = ap Some (from_ok {E = ParseError} y x e)

-- ---- aliases

alias_takes : (domain : Option SidValue) (bytes : List ℕ) (v : SidValue) (rest : List ℕ) → alias_at domain bytes
    ≡ Ok (v, rest) → TakesFront (SpellsSid domain) bytes v rest
unfolding alias_at byte_at
alias_takes domain [] v rest e = absurd cc
alias_takes domain (a ∷ []) v rest e = absurd cc
alias_takes domain (a ∷ b ∷ more) v rest e =
    let bytes = a ∷ b ∷ more in
    from_bind (or_stop kind.Sid bytes (find_alias alias_codes a b)) _ (v, rest) e
    (λ (alias : Alias) (e1 : or_stop kind.Sid bytes (find_alias alias_codes a b) ≡ Ok alias) e2.
    from_bind (or_stop kind.Domain bytes (meant_by domain alias.base alias.number)) _ (v, rest) e2
    (λ (sid : SidValue) (e3 : or_stop kind.Domain bytes (meant_by domain alias.base alias.number) ≡ Ok sid)
    (e4 : Ok (sid, more) ≡ Ok (v, rest)).
    subst (λ (p : SidValue × List ℕ). TakesFront (SpellsSid domain) bytes p.0 p.1)
    (from_ok {E = ParseError} (sid, more) (v, rest) e4)
    (record {
      text = a ∷ b ∷ [];
      parts = refl;
      spelled = inr (record {
        first = a;
        second = b;
        alias = alias;
        parts = refl;
        known
            = given kind.Sid bytes (find_alias alias_codes a b) alias e1;
        meant = given kind.Domain bytes
            (meant_by domain alias.base alias.number) sid e3;
      });
    })))

-- no alias has a hyphen as its second letter
second_or : (is : Bool) (d c : Alias) (others : Option Alias) (P : Type 0) → (is ≡ true → P) → (others ≡ Some c → P)
    → (if is then Some d else others) ≡ Some c → P
second_or true d c others P here there e = here refl
second_or false d c others P here there e = there e

no_hyphen : (table : List Alias) (a b : ℕ) (c : Alias)
    → AllByRecursion (λ d. eqb (to_ascii_lowercase (slice_index d.letters 1)) 45 ≡ false) table → find_alias table a b
    ≡ Some c → eqb b 45 ≡ false
no_hyphen [] a b c all e = absurd cc
no_hyphen (d ∷ table) a b c all e =
    second_or (are_letters a b d.letters) d c (find_alias table a b) (eqb b 45 ≡ false)
    (λ is. subst (λ (x : ℕ). eqb x 45 ≡ false)
    (eqb-true _ b (both_true (eqb (to_ascii_lowercase (slice_index d.letters 0)) a)
    (eqb (to_ascii_lowercase (slice_index d.letters 1)) b) is).1) all.0)
    (no_hyphen table a b c all.1) e

none_has_one : AllByRecursion (λ d. eqb (to_ascii_lowercase (slice_index d.letters 1)) 45 ≡ false) alias_codes
unfolding alias_codes
none_has_one = (
  refl,
  (
    refl,
    (
      refl,
      (
        refl,
        (
          refl,
          (
            refl,
            (
              refl,
              (
                refl,
                (
                  refl,
                  (
                    refl,
                    (
                      refl,
                      (
                        refl,
                        (
                          refl,
                          (
                            refl,
                            (
                              refl,
                              (
                                refl,
                                (
                                  refl,
                                  (
                                    refl,
                                    (
                                      refl,
                                      (
                                        refl,
                                        (
                                          refl,
                                          (
                                            refl,
                                            (
                                              refl,
                                              (
                                                refl,
                                                (
                                                  refl,
                                                  (
                                                    refl,
                                                    (
                                                      refl,
                                                      (
                                                        refl,
                                                        (
                                                          refl,
                                                          (
                                                            refl,
                                                            (
                                                              refl,
                                                              (
                                                                refl,
                                                                (
                                                                  refl,
                                                                  (
                                                                    refl,
                                                                    (refl, (refl, (refl, (refl, (refl, tt))))),
                                                                  ),
                                                                ),
                                                              ),
                                                            ),
                                                          ),
                                                        ),
                                                      ),
                                                    ),
                                                  ),
                                                ),
                                              ),
                                            ),
                                          ),
                                        ),
                                      ),
                                    ),
                                  ),
                                ),
                              ),
                            ),
                          ),
                        ),
                      ),
                    ),
                  ),
                ),
              ),
            ),
          ),
        ),
      ),
    ),
  ),
)

alias_again : (domain : Option SidValue) (v : SidValue) (text rest : List ℕ) → SpellsAlias domain v text
    → sid_at domain (text ++ rest) ≡ Ok (v, rest)
unfolding sid_at alias_at byte_at
alias_again domain v text rest s =
    let second : eqb s.second 45 ≡ false = no_hyphen alias_codes s.first s.second s.alias none_has_one s.known in
    let none : longest_front (s.first ∷ s.second ∷ rest) ≡ None = no_front_in_two s.first s.second rest second in
    ap (λ (t : List ℕ). sid_at domain (t ++ rest)) s.parts ∙ rw (none, s.known, s.meant) refl

-- ---- identifiers

numeric_or : (domain : Option SidValue) (bytes : List ℕ) (o : Option (SidValue × List ℕ)) (v : SidValue)
    (rest : List ℕ) → longest_front bytes ≡ o → or_else (alias_at domain bytes) o ≡ Ok (v, rest)
    → TakesFront (SpellsSid domain) bytes v rest
numeric_or domain bytes None v rest is e = alias_takes domain bytes v rest e
numeric_or domain bytes (Some found) v rest is e =
    let f = front_found (length bytes) v bytes rest (is ∙ ap Some (from_ok {E = ParseError} found (v, rest) e)) in
    record { text = f.front; parts = f.parts; spelled = inl f.spelled }

pub sid_takes : (domain : Option SidValue) (bytes : List ℕ) (v : SidValue) (rest : List ℕ) → sid_at domain bytes
    ≡ Ok (v, rest) → TakesFront (SpellsSid domain) bytes v rest
unfolding sid_at
sid_takes domain bytes v rest e = numeric_or domain bytes (longest_front bytes) v rest refl e

pub sid_before : (domain : Option SidValue) (v : SidValue) (text : List ℕ) (c : ℕ) (more : List ℕ)
    → SpellsSid domain v text → Ends c → sid_at domain (text ++ c ∷ more) ≡ Ok (v, c ∷ more)
unfolding sid_at
sid_before domain v text c more (inl s) h = rw (again_before v text c more s h) refl
sid_before domain v text c more (inr s) h = alias_again domain v text (c ∷ more) s

pub sid_at_end : (domain : Option SidValue) (v : SidValue) (text : List ℕ) → SpellsSid domain v text
    → sid_at domain (text ++ []) ≡ Ok (v, [])
unfolding sid_at
sid_at_end domain v text (inl s) = ap (sid_at domain) (append-nil text) ∙ rw (again_at_end v text s) refl
sid_at_end domain v text (inr s) = alias_again domain v text [] s
