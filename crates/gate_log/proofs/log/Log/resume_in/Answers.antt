use Rattle.std.proofs.Common.{◌≡◌, ◌∙◌, Err, inl, false, take, refl, sym, ap, subst, arith, ⊎_elim}
use Rattle.std.proofs.lemmas.Result.{err_from_is_err_and}
use Rattle.std.specs.Option.{IfSome}
use Rattle.site_io.specs.Disk.{at_slot}
use Rattle.site_io.specs.declared.slot.Slot.TheVariants.{A, B}
use Rattle.site_io.proofs.Counts.{risen_since}
use Rattle.site_io.proofs.Looking.{looks_on}
use Rattle.gate_log.specs.Reading.{AreHeads}
use Rattle.gate_log.specs.Resumed.{IsResumed}
use Rattle.gate_log.specs.Store.{other, OtherRests}
use Rattle.gate_log.specs.declared.fault.LogFault.{LogFault}
use Rattle.gate_log.specs.declared.version.Version.TheVariants.{One, Two}
use Rattle.gate_log.proofs.Heads.{head_read}
use Rattle.gate_log.proofs.Opening.{always_told, and_told, one_refused, two_refused, live_refused, empty_told, Answer}
use Rattle.gate_log.proofs.Resuming.{one_full, heads_full, heads_read, stopped_resume, empty_resume, broken_resume}
use Rattle.gate_log.proofs.Resuming.{live_resume}
use Rattle.gate_log.proofs.log.Log.resume_in.Goals as goal

pub returns-in_err-in_a : goal.returns-in_err-in_a
returns-in_err-in_a g c =
    let p = err_from_is_err_and c.from_residual.result c.from_residual.ensures.1 in
    stopped_resume g.S.Site c.args.site.now c.read_full.new.site (λ parts. parts.items) p.0 c.from_residual.result p.1
    (inl p.2) c.read_full.ensures.outside (λ _. c.in_err-in_a.ensures.cause refl)

pub returns-then-is_of_version_one : goal.returns-then-is_of_version_one
returns-then-is_of_version_one g c =
    let r0 = g.S.Site.reads c.args.site.now in
    let a = take c.in_ok-in_a.in_a c.read_full.new.into in
    let head : IfSome r0 (λ held. a ≡ take 14 held.a) =
    head_read A r0 c.in_ok-in_a.in_a c.read_full.new.into (omega (arith, c.read_full.auto.into))
    c.in_ok-in_a.ensures.within c.in_ok-in_a.ensures.read in
    live_resume g.S.Site c.args.site.now c.read_full.new.site c.«open».new.site One A 1 false c.«open».result
    c.in_ok-in_a.ensures.outside c.«open».ensures
    (always_told (λ held. OtherRests One A 1 false (at_slot B held)) r0 (λ held. (refl, refl))) (omega arith)
    (omega arith) (one_full a r0 head c.if-is_of_version_one.ensures.version)
    (one_refused a r0 head c.if-is_of_version_one.ensures.version)

pub returns-in_err-in_b : goal.returns-in_err-in_b
returns-in_err-in_b g c =
    let s = g.S.Site in
    let p = err_from_is_err_and c.from_residual-in_err-in_b.result c.from_residual-in_err-in_b.ensures.1 in
    let x = c.args.site.now in
    let y = c.read_full.new.site in
    let z = c.read_full-2.new.site in
    stopped_resume s x z (λ parts. parts.items) p.0 c.from_residual-in_err-in_b.result p.1 (inl p.2)
    (looks_on s x y z c.in_ok-in_a.ensures.outside c.read_full-2.ensures.outside)
    (λ _. risen_since (s.slot_faults x) (s.slot_faults y) (s.slot_faults z)
    c.in_ok-in_a.ensures.outside.never_falls (c.in_err-in_b.ensures.cause refl))

pub returns-in_err-live : goal.returns-in_err-live
returns-in_err-live g c =
    let s = g.S.Site in
    let x = c.args.site.now in
    let y = c.read_full.new.site in
    let z = c.read_full-2.new.site in
    let a = take c.in_ok-in_a.in_a c.read_full.new.into in
    let b = take c.in_ok-in_b.in_b c.read_full-2.new.into in
    let heads : IfSome (s.reads x) (AreHeads a b) = heads_read s x y c.in_ok-in_a.in_a c.in_ok-in_b.in_b
    c.read_full.new.into c.read_full-2.new.into c.in_ok-in_a.ensures.outside (omega (arith, c.read_full.auto.into))
    c.in_ok-in_a.ensures.within c.in_ok-in_a.ensures.read (omega (arith, c.read_full-2.auto.into))
    c.in_ok-in_b.ensures.within c.in_ok-in_b.ensures.read in
    let looks = looks_on s x y z c.in_ok-in_a.ensures.outside c.in_ok-in_b.ensures.outside in
    let p = err_from_is_err_and c.from_residual-in_err-live.result c.from_residual-in_err-live.ensures.1 in
    let says = c.in_err-live.ensures in
    let is : c.from_residual-in_err-live.result ≡ Err c.in_err-live.field-0.0 =
    p.1 ∙ ap (λ (f : LogFault). Err f) p.2 in
    ⊎_elim
    (λ empty. subst (λ (r : Answer). IsResumed s x z r (λ parts. parts.items)) (sym (is ∙ cc empty))
    (empty_resume s x z (λ parts. parts.items) looks (empty_told a b (s.reads x) heads (says.empty empty))))
    (λ broken. subst (λ (r : Answer). IsResumed s x z r (λ parts. parts.items)) (sym (is ∙ cc broken))
    (broken_resume s x z (λ parts. parts.items) looks
    (two_refused a b (s.reads x) heads c.if-is_of_version_one.ensures.version (says.full (λ never. cc (never, broken)))
    (says.broken broken))))
    (says.faults refl)

pub open-requires-2-clause-above : goal.open-requires-2-clause-above
open-requires-2-clause-above g c = c.in_ok-live.ensures.range.0

pub returns : goal.returns
returns g c =
    let s = g.S.Site in
    let x = c.args.site.now in
    let y = c.read_full.new.site in
    let z = c.read_full-2.new.site in
    let a = take c.in_ok-in_a.in_a c.read_full.new.into in
    let b = take c.in_ok-in_b.in_b c.read_full-2.new.into in
    let heads : IfSome (s.reads x) (AreHeads a b) = heads_read s x y c.in_ok-in_a.in_a c.in_ok-in_b.in_b
    c.read_full.new.into c.read_full-2.new.into c.in_ok-in_a.ensures.outside (omega (arith, c.read_full.auto.into))
    c.in_ok-in_a.ensures.within c.in_ok-in_a.ensures.read (omega (arith, c.read_full-2.auto.into))
    c.in_ok-in_b.ensures.within c.in_ok-in_b.ensures.read in
    let live = c.in_ok-live.live in
    let full = c.in_ok-live.ensures.full (λ never. cc never) in
    live_resume s x z c.open-2.new.site Two live.slot live.generation live.other_open c.open-2.result
    (looks_on s x y z c.in_ok-in_a.ensures.outside c.in_ok-in_b.ensures.outside) c.open-2.ensures
    (and_told (AreHeads a b) (AreHeads a b)
    (λ held. OtherRests Two live.slot live.generation live.other_open (at_slot (other live.slot) held)) (s.reads x)
    heads heads (λ held here same. (c.in_ok-live.ensures.live held here).0)) c.in_ok-live.ensures.range.0
    c.in_ok-live.ensures.range.1 (heads_full a b (s.reads x) heads full)
    (live_refused a b (s.reads x) live.slot live.generation heads c.if-is_of_version_one.ensures.version full
    c.in_ok-live.ensures.none)
