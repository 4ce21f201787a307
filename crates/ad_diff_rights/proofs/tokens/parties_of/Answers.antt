use Rattle.std.proofs.Common.{◌≡◌, ◌∙◌, ◌+◌, ◌++◌, ◌∷◌, [], List, drop, take, get_or, map, sym, ap, subst}
use Rattle.std.specs.List.{All}
use Rattle.std.proofs.lemmas.List.{at_drop_more, take_more, map-append}
use Rattle.std.proofs.lemmas.List.Elements.{All-append, All-cons, All-nil}
use Rattle.ad_both.specs.declared.both.Both.{Both}
use Rattle.ad_diff_rights.specs.declared.tokens.Party.{Party}
use Rattle.ad_diff_rights.specs.Parties.{IsParty, AreNoParties}
use Rattle.ad_diff_rights.proofs.Lacking.{later_refused}
use Rattle.ad_diff_rights.proofs.tokens.parties_of.Goals as goal

pub returns-in-Err-clause-fault : goal.returns-in-Err-clause-fault
returns-in-Err-clause-fault c =
    let none : Both = record { before = 0; after = 0 } in
    let all = c.args.principals.now in
    let i = c.loop-principal.principal-index in
    let next : drop i all ≡ get_or all i none ∷ drop (i + 1) all = at_drop_more (λ (l : List Both). l) all i none
    c.loop-principal-test.true in
    c.loop-principal.invariant.fault c.in-Err.fault
    (subst (λ (left : List Both). AreNoParties c.args.before.now c.args.after.now left c.in-Err.fault)
    (sym next) (c.in-Err.ensures.fault (drop (i + 1) all)))

pub loop-principal-preserved : goal.loop-principal-preserved
loop-principal-preserved c =
    let none : Both = record { before = 0; after = 0 } in
    let all = c.args.principals.now in
    let i = c.loop-principal.principal-index in
    let next : drop i all ≡ get_or all i none ∷ drop (i + 1) all = at_drop_more (λ (l : List Both). l) all i none
    c.loop-principal-test.true in
    let party = c.in-Ok.party in
    let P : Party → Type 0 = IsParty c.args.before.now c.args.after.now in
    record {
      both = ap (map (λ (p : Party). p.both)) c.in_ok-push_party.ensures
          ∙ map-append (λ (p : Party). p.both) c.loop-principal.parties.items (party ∷ [])
          ∙ ap (λ (bs : List Both). bs ++ (party.both ∷ [])) c.loop-principal.invariant.both
          ∙ ap (λ (b : Both). take i all ++ (b ∷ [])) c.in-Ok.ensures.both
          ∙ sym (take_more all i none c.loop-principal-test.true);
      parties = subst (All P) (sym c.in_ok-push_party.ensures)
          (All-append P c.loop-principal.parties.items (party ∷ []) c.loop-principal.invariant.parties
          (All-cons P party [] c.in-Ok.ensures.party (All-nil P)));
      fault = λ fault none_of. c.loop-principal.invariant.fault fault
          (subst (λ (left : List Both). AreNoParties c.args.before.now c.args.after.now left fault) (sym next)
          (subst (λ (b : Both). AreNoParties c.args.before.now c.args.after.now (b ∷ drop (i + 1) all) fault)
          c.in-Ok.ensures.both
          (later_refused c.args.before.now c.args.after.now party (drop (i + 1) all) fault c.in-Ok.ensures.party
          none_of)));
    }
