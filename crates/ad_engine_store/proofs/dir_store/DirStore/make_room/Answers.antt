use Rattle.std.proofs.Common.{refl, sym, arith}
use Rattle.std.proofs.lemmas.Bool.{true≢false}
use Rattle.std.proofs.lemmas.Result.{on_ok_weaker}
use Rattle.gate_log.proofs.Outside.{touches_not}
use Rattle.ad_engine_store.proofs.Rewriting.{untouched_still, room_anew, room_left}
use Rattle.ad_engine_store.proofs.dir_store.DirStore.make_room.Goals as goal

pub rewrite-requires-clause-below : goal.rewrite-requires-clause-below
rewrite-requires-clause-below g c = omega (arith, (c.if-wants_snapshot.ensures.0 refl).below)

pub returns-then-wants_snapshot-clause-room : goal.returns-then-wants_snapshot-clause-room
returns-then-wants_snapshot-clause-room g c = on_ok_weaker c.rewrite.result (room_anew c.rewrite.new.self.store.log)
    c.rewrite.ensures.room

pub returns-clause-any_moment : goal.returns-clause-any_moment
returns-clause-any_moment g c =
    untouched_still c.args.self.now.dir (g.S.Site.reads c.args.site.now) (g.S.Site.now c.args.site.now)
    (g.S.Site.left c.args.site.now)
    (λ t images out left. g.met.S.Site.left_until c.args.site.now t images out left)

pub returns-clause-room : goal.returns-clause-room
returns-clause-room g c = room_left c.args.self.now.store.log
    (λ wants. true≢false (sym (c.if-wants_snapshot.ensures.1 wants)))

pub returns-clause-outside : goal.returns-clause-outside
returns-clause-outside g c = touches_not g.S.Site c.args.site.now
    (λ t images out left. g.met.S.Site.left_until c.args.site.now t images out left)
