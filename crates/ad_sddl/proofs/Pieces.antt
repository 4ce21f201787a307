-- Texts that are written piece by piece.
use Rattle.std.proofs.Common.{eqb, true, false, ◌≡◌, ℕ, zero, suc, ◌-◌, ◌/◌, ◌%◌, if◌then◌else◌, Result, Ok, Err}
use Rattle.std.proofs.Common.{OnOk, is_ok, List, [], ◌∷◌, ◌++◌, codes, lit<, refl, sym, ap, subst, ◌∙◌, append_assoc}
use Rattle.std.proofs.Common.{arith}
use Rattle.std.proofs.lemmas.List.{append-nil}
use Rattle.std.specs.Prelude.{bit_or}
use Rattle.std.proofs.lemmas.Bool.{ne_eqb}
use Rattle.std.proofs.lemmas.Bool.Decides.{nat_tests}
use Rattle.ad_ids.specs.SidText.{hex_digit}
use Rattle.ad_acl.specs.declared.codes.Code.{Code}
use Rattle.ad_acl.specs.Codes.{flag_codes, right_codes}
use Rattle.ad_sddl.specs.Grammar.{entry_of}
use Rattle.ad_sddl.specs.Canonical.{hex_text, AreCapitals, all_rights, is_covered, codes_text, rights_text}

-- one digit after those of a sixteenth
pub hex_more : (count n : ℕ) (old text : List ℕ) → (count ≡ 0 → ⊥) → (n ≡ 0 → ⊥) → text ≡ old
    ++ hex_text (count - 1) (n / 16) → text ++ hex_digit (n % 16) ∷ [] ≡ old ++ hex_text count n
unfolding hex_text
hex_more zero n old text some number so_far = absurd (some refl)
hex_more (suc k) zero old text some number so_far = absurd (number refl)
hex_more (suc k) (suc n) old text some number so_far =
    let fewer : suc k - 1 ≡ k = omega arith in
    let some : eqb (suc n) 0 ≡ false = grind (arith, nat_tests) in
    rw some (ap (λ (t : List ℕ). t ++ hex_digit (suc n % 16) ∷ [])
    (so_far ∙ ap (λ (i : ℕ). old ++ hex_text i (suc n / 16)) fewer) ∙ append_assoc old (hex_text k (suc n / 16))
    (hex_digit (suc n % 16) ∷ []))

pub hex_none : (count n : ℕ) (old : List ℕ) → n ≡ 0 → old ≡ old ++ hex_text count n
unfolding hex_text
hex_none zero n old e = sym (append-nil old)
hex_none (suc k) n old e = rw e (sym (append-nil old))

-- what is so wherever the call succeeded
pub where_ok : {T E : Type 0} (r : Result T E) (new more same goal : List ℕ) → new ≡ (if is_ok r then more else same)
    → more ≡ goal → OnOk r (new ≡ goal)
where_ok (Ok x) new more same goal e f = e ∙ f
where_ok (Err x) new more same goal e f = tt

-- ---- the tables

pub flags_ascii : (table : List Code) → table ≡ flag_codes → AreCapitals table
unfolding flag_codes
flags_ascii table is = subst AreCapitals (sym is)
    ((
      (lit< tt, (lit< tt, tt)),
      (
        (lit< tt, (lit< tt, tt)),
        (
          (lit< tt, (lit< tt, tt)),
          (
            (lit< tt, (lit< tt, tt)),
            ((lit< tt, (lit< tt, tt)), ((lit< tt, (lit< tt, tt)), ((lit< tt, (lit< tt, tt)), tt))),
          ),
        ),
      ),
    ))

pub rights_ascii : (table : List Code) → table ≡ right_codes → AreCapitals table
unfolding right_codes
rights_ascii table is = subst AreCapitals (sym is)
    ((
      (lit< tt, (lit< tt, tt)),
      (
        (lit< tt, (lit< tt, tt)),
        (
          (lit< tt, (lit< tt, tt)),
          (
            (lit< tt, (lit< tt, tt)),
            (
              (lit< tt, (lit< tt, tt)),
              (
                (lit< tt, (lit< tt, tt)),
                (
                  (lit< tt, (lit< tt, tt)),
                  (
                    (lit< tt, (lit< tt, tt)),
                    (
                      (lit< tt, (lit< tt, tt)),
                      (
                        (lit< tt, (lit< tt, tt)),
                        (
                          (lit< tt, (lit< tt, tt)),
                          (
                            (lit< tt, (lit< tt, tt)),
                            (
                              (lit< tt, (lit< tt, tt)),
                              (
                                (lit< tt, (lit< tt, tt)),
                                ((lit< tt, (lit< tt, tt)), ((lit< tt, (lit< tt, tt)), ((lit< tt, (lit< tt, tt)), tt))),
                              ),
                            ),
                          ),
                        ),
                      ),
                    ),
                  ),
                ),
              ),
            ),
          ),
        ),
      ),
    ))

-- ---- rights

all_rights_are : all_rights ≡ 0xf00f01ff
unfolding all_rights right_codes
all_rights_are = refl

pub as_codes : (mask : ℕ) → bit_or mask 0xf00f01ff ≡ 0xf00f01ff → rights_text mask ≡ codes_text right_codes mask
as_codes mask e =
    let covered : is_covered mask ≡ true = rw (all_rights_are, e) refl in
    rw covered refl

pub as_hex : (mask : ℕ) → (bit_or mask 0xf00f01ff ≡ 0xf00f01ff → ⊥) → rights_text mask ≡ codes "0x" ++ hex_text 8 mask
as_hex mask ne =
    let other : eqb (bit_or mask 0xf00f01ff) 0xf00f01ff ≡ false = ne_eqb (bit_or mask 0xf00f01ff) 0xf00f01ff ne in
    let covered : is_covered mask ≡ false = rw all_rights_are other in
    rw covered refl

-- ---- an entry

joined : (old kind flags rights object inherited sid : List ℕ)
    → old ++ codes "(" ++ kind ++ codes ";" ++ flags ++ codes ";" ++ rights ++ codes ";" ++ object ++ codes ";"
    ++ inherited ++ codes ";" ++ sid ++ codes ")" ≡ old ++ entry_of kind flags rights object inherited sid
joined old kind flags rights object inherited sid = simp append_assoc

pub entry_joined : (old a b c d e f g h i j k l kind flags rights object inherited sid : List ℕ)
    → a ≡ old ++ codes "(" → b ≡ a ++ kind → c ≡ b ++ codes ";" → d ≡ c ++ flags → e ≡ d ++ codes ";" → f ≡ e
    ++ rights → g ≡ f ++ codes ";" → h ≡ g ++ object → i ≡ h ++ codes ";" → j ≡ i ++ inherited
    → k ≡ j ++ codes ";" → l ≡ k ++ sid → l ++ codes ")" ≡ old ++ entry_of kind flags rights object inherited sid
entry_joined old a b c d e f g h i j k l kind flags rights object inherited sid pa pb pc pd pe pf pg ph pi pj pk pl =
    rw (pl, pk, pj, pi, ph, pg, pf, pe, pd, pc, pb, pa) (joined old kind flags rights object inherited sid)
