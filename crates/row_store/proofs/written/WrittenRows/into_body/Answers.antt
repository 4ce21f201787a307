use Rattle.std.proofs.Common.{◌≡◌, ◌≤◌, ◌<◌, ◌^◌, ◌++◌, List, length, take, drop, subst, arith}
use Rattle.ad_bytes.specs.Numbers.{be_bytes}
use Rattle.ad_bytes.proofs.Codec.{length-be_bytes}
use Rattle.row_store.specs.declared.row.Row.{Row}
use Rattle.row_store.specs.Row.{SpellsBatch}
use Rattle.row_store.proofs.AsMade.{few, counted, count_put}
use Rattle.row_store.proofs.written.WrittenRows.into_body.Goals as goal

pub returns-clause-spelled : goal.returns-clause-spelled
returns-clause-spelled c =
    let bytes = c.self.inside.bytes in
    let count = c.self.inside.count in
    let new = c.put_count.new.into in
    let body = drop 22 (take bytes.len (new ++ drop (length new) bytes.items)) in
    let fits : count < 2 ^ 64 = omega (arith, few count bytes.items c.self.invariant, bytes.ok, bytes.small) in
    let long : bytes.len ≡ length bytes.items = omega (arith, bytes.ok) in
    let within : 30 ≤ bytes.len = omega (arith, bytes.ok, c.self.invariant.room) in
    let put = count_put bytes.len bytes.items c.deref_mut.result.now new (be_bytes 8 count) long within
    c.deref_mut.ensures.value (length-be_bytes 8 count) c.put_count.ensures in
    subst (λ (rows : List Row). SpellsBatch rows body) c.self.view_is
    (counted count bytes.items body c.self.invariant fits put)
