-- The names of the sample's records are read back.
use Rattle.std.proofs.Common.{◌≡◌, ℕ, zero, suc, ◌<◌, ◌≤◌, true, nat_le, List, [], ◌∷◌, ◌++◌, length, refl, arith}
use Rattle.std.proofs.Common.{codes}
use Rattle.std.specs.List.{AllByRecursion}
use Rattle.std.proofs.lemmas.Bool.{le-leb}
use Rattle.ad_gen_laws.specs.Plain.{rdn}
use Rattle.ad_gen_laws.specs.Base.{attributes, classes, rights, base}
use Rattle.ad_gen_laws.specs.Sample.{objects, plains, fixed, unit_name, user_name, unit, user, users, units}
use Rattle.ad_gen_laws.proofs.Closed.{all_of_both}
use Rattle.ad_gen_laws.proofs.Named.{IsWordRdn, IsNamed}
use Rattle.ad_gen_laws.proofs.Units.{unit_word, unit_name_few, user_word, user_name_few}
use Rattle.ad_gen_laws.proofs.Words.{is_word}

cn : (value : List ℕ) → is_word value ≡ true → nat_le 1 (length value) ≡ true → nat_le (length value) 1024 ≡ true
    → IsWordRdn (rdn (codes "CN") value)
cn value word some few = record { kind = refl; upper = refl; word = word; some = some; few = few }

dc : IsWordRdn (rdn (codes "DC") (codes "sample"))
dc = record { kind = refl; upper = refl; word = refl; some = refl; few = refl }

attributes_named : AllByRecursion IsNamed attributes
unfolding attributes
attributes_named = (
  record { words = (cn _ refl refl refl, (cn _ refl refl refl, tt)); some = refl },
  (
    record { words = (cn _ refl refl refl, (cn _ refl refl refl, tt)); some = refl },
    (
      record { words = (cn _ refl refl refl, (cn _ refl refl refl, tt)); some = refl },
      (
        record { words = (cn _ refl refl refl, (cn _ refl refl refl, tt)); some = refl },
        (
          record { words = (cn _ refl refl refl, (cn _ refl refl refl, tt)); some = refl },
          (
            record { words = (cn _ refl refl refl, (cn _ refl refl refl, tt)); some = refl },
            (
              record { words = (cn _ refl refl refl, (cn _ refl refl refl, tt)); some = refl },
              (
                record { words = (cn _ refl refl refl, (cn _ refl refl refl, tt)); some = refl },
                (
                  record { words = (cn _ refl refl refl, (cn _ refl refl refl, tt)); some = refl },
                  (
                    record { words = (cn _ refl refl refl, (cn _ refl refl refl, tt)); some = refl },
                    (
                      record { words = (cn _ refl refl refl, (cn _ refl refl refl, tt)); some = refl },
                      (
                        record { words = (cn _ refl refl refl, (cn _ refl refl refl, tt)); some = refl },
                        (
                          record { words = (cn _ refl refl refl, (cn _ refl refl refl, tt)); some = refl },
                          (
                            record { words = (cn _ refl refl refl, (cn _ refl refl refl, tt)); some = refl },
                            (
                              record { words = (cn _ refl refl refl, (cn _ refl refl refl, tt)); some = refl },
                              (
                                record { words = (cn _ refl refl refl, (cn _ refl refl refl, tt)); some = refl },
                                (
                                  record { words = (cn _ refl refl refl, (cn _ refl refl refl, tt)); some = refl },
                                  (
                                    record { words = (cn _ refl refl refl, (cn _ refl refl refl, tt)); some = refl },
                                    (
                                      record { words = (cn _ refl refl refl, (cn _ refl refl refl, tt)); some = refl },
                                      tt,
                                    ),
                                  ),
                                ),
                              ),
                            ),
                          ),
                        ),
                      ),
                    ),
                  ),
                ),
              ),
            ),
          ),
        ),
      ),
    ),
  ),
)

classes_named : AllByRecursion IsNamed classes
unfolding classes
classes_named = (
  record { words = (cn _ refl refl refl, (cn _ refl refl refl, tt)); some = refl },
  (
    record { words = (cn _ refl refl refl, (cn _ refl refl refl, tt)); some = refl },
    (
      record { words = (cn _ refl refl refl, (cn _ refl refl refl, tt)); some = refl },
      (
        record { words = (cn _ refl refl refl, (cn _ refl refl refl, tt)); some = refl },
        (
          record { words = (cn _ refl refl refl, (cn _ refl refl refl, tt)); some = refl },
          (
            record { words = (cn _ refl refl refl, (cn _ refl refl refl, tt)); some = refl },
            (
              record { words = (cn _ refl refl refl, (cn _ refl refl refl, tt)); some = refl },
              tt,
            ),
          ),
        ),
      ),
    ),
  ),
)

rights_named : AllByRecursion IsNamed rights
unfolding rights
rights_named = (
  record { words = (cn _ refl refl refl, (cn _ refl refl refl, tt)); some = refl },
  (
    record { words = (cn _ refl refl refl, (cn _ refl refl refl, tt)); some = refl },
    (
      record { words = (cn _ refl refl refl, (cn _ refl refl refl, tt)); some = refl },
      (
        record { words = (cn _ refl refl refl, (cn _ refl refl refl, tt)); some = refl },
        (
          record { words = (cn _ refl refl refl, (cn _ refl refl refl, tt)); some = refl },
          (
            record { words = (cn _ refl refl refl, (cn _ refl refl refl, tt)); some = refl },
            tt,
          ),
        ),
      ),
    ),
  ),
)

base_named : AllByRecursion IsNamed base
unfolding base
base_named = all_of_both IsNamed attributes (classes ++ rights) attributes_named
    (all_of_both IsNamed classes rights classes_named rights_named)

fixed_named : AllByRecursion IsNamed fixed
fixed_named = (
  record { words = (dc, tt); some = refl },
  (
    record { words = (cn _ refl refl refl, (dc, tt)); some = refl },
    (
      record { words = (cn _ refl refl refl, (cn _ refl refl refl, (dc, tt))); some = refl },
      (
        record { words = (cn _ refl refl refl, (dc, tt)); some = refl },
        tt,
      ),
    ),
  ),
)

ou : (i : ℕ) → i < 1000 → IsWordRdn (rdn (codes "OU") (unit_name i))
ou i few = record {
  kind = refl;
  upper = refl;
  word = unit_word i few;
  some = le-leb 1 (length (unit_name i)) (omega arith);
  few = le-leb (length (unit_name i)) 1024 (omega (arith, unit_name_few i few));
}

unit_named : (i : ℕ) → i < 1000 → IsNamed (unit i)
unit_named i few = record { words = (ou i few, (dc, tt)); some = refl }

pub user_named : (i j : ℕ) → i < 1000 → j ≤ 10 → IsNamed (user i j)
user_named i j few least = record {
  words = (
    cn (user_name i j) (user_word i j few least) (le-leb 1 (length (user_name i j)) (omega arith))
        (le-leb (length (user_name i j)) 1024 (omega (arith, user_name_few i j few least))),
    (ou i few, (dc, tt)),
  );
  some = refl;
}

users_named : (i j : ℕ) → i < 1000 → j ≤ 10 → AllByRecursion IsNamed (users i j)
unfolding users
users_named i zero few least = tt
users_named i (suc j) few least = all_of_both IsNamed (users i j) (user i (suc j) ∷ [])
    (users_named i j few (omega (arith, least))) (user_named i (suc j) few least, tt)

units_named : (n : ℕ) → n ≤ 1000 → AllByRecursion IsNamed (units n)
unfolding units
units_named zero few = tt
units_named (suc i) few =
    let less : i < 1000 = omega (arith, few) in
    all_of_both IsNamed (units i) (unit i ∷ users i 10) (units_named i (omega (arith, few)))
    (unit_named i less, users_named i 10 less (omega arith))

pub plains_named : (n : ℕ) → n ≤ 1000 → AllByRecursion IsNamed (plains n)
plains_named n few = all_of_both IsNamed base (objects n) base_named
    (all_of_both IsNamed fixed (units n) fixed_named (units_named n few))
