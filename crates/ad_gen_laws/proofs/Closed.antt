-- The records of the base schema are read back.
use Rattle.std.proofs.Common.{List, [], ◌∷◌, ◌++◌, refl}
use Rattle.std.specs.List.{AllByRecursion}
use Rattle.ad_gen_laws.specs.Base.{attributes, classes, rights, base}
use Rattle.ad_gen_laws.proofs.Texts.{Reads}
use Rattle.ad_gen_laws.proofs.OnRecords.{on_records, on_lines}

attributes_read : AllByRecursion Reads attributes
unfolding attributes on_records on_lines
attributes_read = (
  record { first = refl; others = refl; read = λ k. refl },
  (
    record { first = refl; others = refl; read = λ k. refl },
    (
      record { first = refl; others = refl; read = λ k. refl },
      (
        record { first = refl; others = refl; read = λ k. refl },
        (
          record { first = refl; others = refl; read = λ k. refl },
          (
            record { first = refl; others = refl; read = λ k. refl },
            (
              record { first = refl; others = refl; read = λ k. refl },
              (
                record { first = refl; others = refl; read = λ k. refl },
                (
                  record { first = refl; others = refl; read = λ k. refl },
                  (
                    record { first = refl; others = refl; read = λ k. refl },
                    (
                      record { first = refl; others = refl; read = λ k. refl },
                      (
                        record { first = refl; others = refl; read = λ k. refl },
                        (
                          record { first = refl; others = refl; read = λ k. refl },
                          (
                            record { first = refl; others = refl; read = λ k. refl },
                            (
                              record { first = refl; others = refl; read = λ k. refl },
                              (
                                record { first = refl; others = refl; read = λ k. refl },
                                (
                                  record { first = refl; others = refl; read = λ k. refl },
                                  (
                                    record { first = refl; others = refl; read = λ k. refl },
                                    (
                                      record { first = refl; others = refl; read = λ k. refl },
                                      tt,
                                    ),
                                  ),
                                ),
                              ),
                            ),
                          ),
                        ),
                      ),
                    ),
                  ),
                ),
              ),
            ),
          ),
        ),
      ),
    ),
  ),
)

classes_read : AllByRecursion Reads classes
unfolding classes on_records on_lines
classes_read = (
  record { first = refl; others = refl; read = λ k. refl },
  (
    record { first = refl; others = refl; read = λ k. refl },
    (
      record { first = refl; others = refl; read = λ k. refl },
      (
        record { first = refl; others = refl; read = λ k. refl },
        (
          record { first = refl; others = refl; read = λ k. refl },
          (
            record { first = refl; others = refl; read = λ k. refl },
            (
              record { first = refl; others = refl; read = λ k. refl },
              tt,
            ),
          ),
        ),
      ),
    ),
  ),
)

rights_read : AllByRecursion Reads rights
unfolding rights on_records on_lines
rights_read = (
  record { first = refl; others = refl; read = λ k. refl },
  (
    record { first = refl; others = refl; read = λ k. refl },
    (
      record { first = refl; others = refl; read = λ k. refl },
      (
        record { first = refl; others = refl; read = λ k. refl },
        (
          record { first = refl; others = refl; read = λ k. refl },
          (
            record { first = refl; others = refl; read = λ k. refl },
            tt,
          ),
        ),
      ),
    ),
  ),
)

pub all_of_both : {A : Type 0} (P : A → Type 0) (xs ys : List A) → AllByRecursion P xs → AllByRecursion P ys
    → AllByRecursion P (xs ++ ys)
all_of_both P [] ys p q = q
all_of_both P (x ∷ xs) ys p q = (p.0, all_of_both P xs ys p.1 q)

pub base_reads : AllByRecursion Reads base
unfolding base
base_reads = all_of_both Reads attributes (classes ++ rights) attributes_read
    (all_of_both Reads classes rights classes_read rights_read)
