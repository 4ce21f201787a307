-- What making a store answers.
use Rattle.std.proofs.Common.{◌≡◌, ⊎_elim, ◌∙◌, ℕ, List, [], ◌∷◌, Some, Result, Ok, Err}
use Rattle.std.proofs.Common.{sym, ap, subst}
use Rattle.site_io.specs.Disk.{Images}
use Rattle.site_io.specs.Outside.{OnlyLooks}
use Rattle.site_io.specs.declared.site.Site.{Ghosts}
use Rattle.gate_log.specs.Created.{IsCreated as LogCreated}
use Rattle.gate_log.specs.Store.{HasBodies}
use Rattle.gate_log.specs.StoreOfLog.{RestsIn}
use Rattle.gate_log.proofs.Outside.{looks_touch}
use Rattle.row_store.specs.Created.{IsCreated}
use Rattle.row_store.specs.Row.{SpellsBatch}
use Rattle.row_store.specs.Rows.{HasTable, HoldsTable}
use Rattle.row_store.specs.Table.{table_of}
use Rattle.row_store.specs.declared.fault.StoreFault.{StoreFault}
use Rattle.row_store.specs.declared.fault.StoreFault.TheVariants.{Memory}
use Rattle.row_store.specs.declared.row.Row.{Row}
use Rattle.row_store.specs.declared.store.Store.{Store}
use Rattle.row_store.proofs.Sizes.{batch_long}
use Rattle.row_store.proofs.Stores.{map_told, created, has_first}

module _ {S : Type 0} (s : Ghosts S) where
  -- there was no memory, and no call
  pub no_create : (x y : S) (rows : List Row) (result : Result Store StoreFault) → result ≡ Err Memory
      → OnlyLooks s x y → IsCreated s x y rows result
  no_create x y rows result is looks =
      subst (λ (r : Result Store StoreFault). IsCreated s x y rows r) (sym is) (record {
        created = tt;
        stands = tt;
        every_crash = tt;
        generation = tt;
        counts = tt;
        unspent = tt;
        empty = tt;
        taken = λ never. absurd cc;
        unwritten = λ _. (looks.held, looks.images);
        faults = (λ never. cc never, λ never. cc never, λ never. cc never);
        outside = looks_touch s x y looks;
        cause = λ never. absurd cc;
      })

  -- the log was made, of a body that is the batch of the rows
  pub done_create : (x y : S) (rows : List Row) (body : List ℕ) (store : Store) → SpellsBatch rows body
      → LogCreated s x y body (Ok store.log) → IsCreated s x y rows (Ok store)
  done_create x y rows body store spelled made = record {
    created = map_told (λ held. RestsIn store.log held (body ∷ [])) (λ held. HoldsTable store held (table_of rows))
        (s.reads y) (λ held rests. created store rows body held spelled rests) made.created;
    stands = made.stands;
    every_crash = map_told (λ held. (images : Images) (out : List ℕ) → s.left y (s.now y) images out
        → HasBodies images (body ∷ [])) (λ held. (images : Images) (out : List ℕ) → s.left y (s.now y) images out
        → HasTable images (table_of rows)) (s.reads y)
        (λ held every images out left. has_first rows body images spelled (every images out left)) made.every_crash;
    generation = made.generation;
    counts = (made.counts.0 ∙ ap (λ (n : ℕ). Some n) (batch_long rows body spelled), made.counts.1);
    unspent = made.unspent;
    empty = made.empty;
    taken = λ never. absurd cc;
    unwritten = ⊎_elim (λ never. absurd cc) (λ never. absurd cc);
    faults = (λ never. cc never, λ never. cc never, λ never. cc never);
    outside = made.outside;
    cause = λ never. absurd cc;
  }
