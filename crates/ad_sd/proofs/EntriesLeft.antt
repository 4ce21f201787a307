-- One more entry of those that are left.
use Rattle.std.proofs.Common.{◌≡◌, ℕ, zero, suc, ◌-◌, true, List, [], ◌∷◌, Ok, Err, refl, sym, ap, ◌∙◌, arith}
use Rattle.ad_bytes.specs.Reading.{Reading, ◌>>=◌, many_at}
use Rattle.ad_acl.specs.declared.fault.AclFault.{AclFault}
use Rattle.ad_acl.specs.Entry.{Entry}
use Rattle.ad_acl.specs.Reading.{entry_at}
use Rattle.ad_acl.specs.EntryIn.{begins_entry, is_given as is_entry_given}
use Rattle.ad_sd.specs.Entries.{given, is_given, entries_of, are_read}

pub none_left : (n : ℕ) (bytes : List ℕ) → n ≡ 0 → entries_of n bytes ≡ []
unfolding entries_of many_at
none_left n bytes e = rw e refl

one : (x : Entry) (r : Reading (List Entry) AclFault) → is_given (r >>= λ o. Ok (x ∷ o.0, o.1)) ≡ true
    → given (r >>= λ o. Ok (x ∷ o.0, o.1)) ≡ x ∷ given r
one x (Ok o) e = refl
one x (Err f) e = absurd cc

also : (x : Entry) (r : Reading (List Entry) AclFault) → is_given (r >>= λ o. Ok (x ∷ o.0, o.1)) ≡ true → is_given r
    ≡ true
also x (Ok o) e = refl
also x (Err f) e = absurd cc

step : (n : ℕ) (bytes : List ℕ) (x : Entry) (after : List ℕ) → entry_at bytes ≡ Ok (x, after)
    → many_at entry_at (suc n) bytes ≡ (many_at entry_at n after >>= λ o. Ok (x ∷ o.0, o.1))
unfolding many_at
step n bytes x after h = rw h refl

pub first_left : (n m : ℕ) (bytes after : List ℕ) (x : Entry) → n ≡ suc m → entry_at bytes ≡ Ok (x, after)
    → are_read n bytes ≡ true → entries_of n bytes ≡ x ∷ entries_of m after
unfolding entries_of are_read
first_left n m bytes after x e h r =
    let there : is_given (many_at entry_at m after >>= λ o. Ok (x ∷ o.0, o.1)) ≡ true
    = sym (ap is_given (ap (λ (k : ℕ). many_at entry_at k bytes) e ∙ step m bytes x after h)) ∙ r in
    ap given (ap (λ (k : ℕ). many_at entry_at k bytes) e ∙ step m bytes x after h) ∙ one x (many_at entry_at m after)
    there

pub others_read : (n m : ℕ) (bytes after : List ℕ) (x : Entry) → n ≡ suc m → entry_at bytes ≡ Ok (x, after)
    → are_read n bytes ≡ true → are_read m after ≡ true
unfolding are_read
others_read n m bytes after x e h r =
    let there : is_given (many_at entry_at m after >>= λ o. Ok (x ∷ o.0, o.1)) ≡ true
    = sym (ap is_given (ap (λ (k : ℕ). many_at entry_at k bytes) e ∙ step m bytes x after h)) ∙ r in
    also x (many_at entry_at m after) there

one_less : (n : ℕ) → (n ≡ 0 → ⊥) → n ≡ suc (n - 1)
one_less zero h = absurd (h refl)
one_less (suc n) h = omega arith

pub begins : (n : ℕ) (bytes : List ℕ) → (n ≡ 0 → ⊥) → are_read n bytes ≡ true → begins_entry bytes ≡ true
unfolding are_read begins_entry many_at
begins zero bytes some r = absurd (some refl)
begins (suc n) bytes some r = first (entry_at bytes) r
  where
    first : (e : Reading Entry AclFault) → is_given (e >>= λ x. (many_at entry_at n x.1 >>= λ o. Ok (x.0 ∷ o.0, o.1)))
        ≡ true → is_entry_given e ≡ true
    first (Ok x) r = refl
    first (Err f) r = r

-- the same, by the steps that the code takes
pub first_after : (n : ℕ) (bytes after : List ℕ) (x : Entry) → (n ≡ 0 → ⊥) → entry_at bytes ≡ Ok (x, after)
    → are_read n bytes ≡ true → entries_of n bytes ≡ x ∷ entries_of (n - 1) after
first_after n bytes after x some read r = first_left n (n - 1) bytes after x (one_less n some) read r

pub others_after : (n : ℕ) (bytes after : List ℕ) (x : Entry) → (n ≡ 0 → ⊥) → entry_at bytes ≡ Ok (x, after)
    → are_read n bytes ≡ true → are_read (n - 1) after ≡ true
others_after n bytes after x some read r = others_read n (n - 1) bytes after x (one_less n some) read r
