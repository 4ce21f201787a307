-- The reader of messages is that of their encodings.
use Rattle.std.proofs.Common.{◌≡◌, ℕ, ◌-◌, ◌<◌, Bool, true, false, eqb, ltb, List, [], ◌++◌, length, Option, None}
use Rattle.std.proofs.Common.{Some, Result, Ok, Err, refl, sym, ap, subst, ◌∙◌, inl, inr, arith}
use Rattle.std.specs.Prelude.{IfOk}
use Rattle.std.proofs.lemmas.Bool.{cases_Bool, eqb-true, ltb-true, lt-ltb}
use Rattle.std.proofs.lemmas.List.{append-nil}
use Rattle.ad_bytes.specs.Reading.{IsBytes, Reading, ◌>>=◌, need, TakesFront, StartsWith, IsReaderOf, SpellsEach}
use Rattle.ad_bytes.specs.Reading.{GivesUnless}
use Rattle.ad_bytes.proofs.Steps.{from_bind, from_need, from_ok}
use Rattle.ad_bytes.proofs.Codec.{rest_fits}
use Rattle.ad_ldap.specs.declared.fault.LdapFault.{LdapFault}
use Rattle.ad_ldap.specs.declared.controls.Control.{Control}
use Rattle.ad_ldap.specs.declared.requests.Message.{Message}
use Rattle.ad_ldap.specs.Limits.{most_int}
use Rattle.ad_ldap.specs.MessageValue.{MessageValue, OpValue, message_seen}
use Rattle.ad_ldap.specs.Elements.{IsEmpty, Tagged, SpellsOctets, SpellsNumber, SpellsOption, SpellsDefault}
use Rattle.ad_ldap.specs.Requests.{SpellsOp}
use Rattle.ad_ldap.specs.Messages.{SpellsControl, SpellsControls, SpellsBody, SpellsMessage}
use Rattle.ad_ldap.specs.Reading.{is_memory, form, begins, body_at, ended, number_at, option_at, default_at}
use Rattle.ad_ldap.specs.Reading.{inside_at, each_of}
use Rattle.ad_ldap.specs.RequestReading.{op_at}
use Rattle.ad_ldap.specs.MessageReading.{control_of, controls_at, id_at, body_of, message_of}
use Rattle.ad_ldap.proofs.Codec.{IsWholeOf, IsPartOf, starts, first_again, none_left, begins_tagged, begins_other}
use Rattle.ad_ldap.proofs.Codec.{octets_part, number_part, inside_part, option_takes, option_again, default_takes}
use Rattle.ad_ldap.proofs.Codec.{default_again, each_whole}
use Rattle.ad_ldap.proofs.RequestCodec.{op_reader}

-- ---- a control

abbrev ControlBody : Control → List ℕ → Type 0
ControlBody c text = StartsWith (SpellsOctets 4) c.oid
    (StartsWith (SpellsDefault 1) c.critical (SpellsOption 4 c.value)) text

control_takes : (end : ℕ) (bytes : List ℕ) (x : Control) → IsBytes bytes → control_of end bytes ≡ Ok x
    → ControlBody x bytes
unfolding control_of
control_takes end bytes x fits h =
    from_bind (body_at 4 end bytes) _ x h (λ (oid : List ℕ × List ℕ) (e1 : body_at 4 end bytes ≡ Ok oid) h1.
    from_bind (default_at 1 end oid.1) _ x h1
    (λ (critical : Bool × List ℕ) (e2 : default_at 1 end oid.1 ≡ Ok critical) h2.
    from_bind (option_at 4 end critical.1) _ x h2
    (λ (value : Option (List ℕ) × List ℕ) (e3 : option_at 4 end critical.1 ≡ Ok value) h3.
    from_need (eqb (length value.1) 0) (form end value.1) _ x h3
    (λ (over : eqb (length value.1) 0 ≡ true)
    (e4 : Ok (record { oid = oid.0; critical = critical.0; value = value.0 }) ≡ Ok x).
    let t1 = ((octets_part 4).reader end).takes bytes oid.0 oid.1 fits e1 in
    let f1 = rest_fits (SpellsOctets 4) bytes oid.0 oid.1 fits t1 in
    let t2 = default_takes 1 end oid.1 critical.0 critical.1 f1 e2 in
    let f2 = rest_fits (SpellsDefault 1) oid.1 critical.0 critical.1 f1 t2 in
    let t3 = option_takes 4 end critical.1 value.0 value.1 f2 e3 in
    let all : SpellsOption 4 value.0 critical.1 = subst (SpellsOption 4 value.0)
    (sym (t3.parts ∙ ap (λ (r : List ℕ). t3.text ++ r) (none_left value.1 over) ∙ append-nil t3.text)) t3.spelled
    in
    let w2 = starts (SpellsDefault 1) (SpellsOption 4 value.0) oid.1 critical.0 critical.1 t2 all in
    let w1 = starts (SpellsOctets 4) (StartsWith (SpellsDefault 1) critical.0 (SpellsOption 4 value.0)) bytes oid.0
    oid.1 t1 w2 in
    let value_of : Control = record { oid = oid.0; critical = critical.0; value = value.0 } in
    subst (λ (y : Control). ControlBody y bytes) (from_ok {E = LdapFault} value_of x e4) w1))))

begins_value : (o : Option (List ℕ)) (text : List ℕ) → SpellsOption 4 o text → begins 1 text ≡ false
begins_value None text s = rw s refl
begins_value (Some v) text s = ap (begins 1) (sym (append-nil text)) ∙ begins_other 1 4 (λ body. body ≡ v) text []
    (λ e. omega (arith, e)) s

control_again : (end : ℕ) (x : Control) (text : List ℕ) → ControlBody x text → control_of end text ≡ Ok x
unfolding control_of
control_again end x text s =
    let w2 = s.follows in
    let critical : default_at 1 end s.behind ≡ Ok (x.critical, w2.behind) = ap (default_at 1 end) w2.parts
    ∙ default_again 1 end x.critical w2.front w2.behind (begins_value x.value w2.behind w2.follows) w2.spelled in
    let value : option_at 4 end w2.behind ≡ Ok (x.value, []) = ap (option_at 4 end) (sym (append-nil w2.behind))
    ∙ option_again 4 end x.value w2.behind [] refl w2.follows in
    rw (
      first_again (SpellsOctets 4) (body_at 4 end) ((octets_part 4).reader end) x.oid
          (StartsWith (SpellsDefault 1) x.critical (SpellsOption 4 x.value)) text s,
      critical,
      value,
    ) refl

control_part : IsPartOf SpellsControl (inside_at 48 control_of)
control_part = inside_part 48 ControlBody control_of (record { takes = control_takes; again = control_again })

all_controls : IsPartOf (λ (xs : List Control). Tagged 160 (SpellsEach SpellsControl xs))
    (inside_at 160 (each_of (inside_at 48 control_of)))
all_controls = inside_part 160 (SpellsEach SpellsControl) (each_of (inside_at 48 control_of))
    (each_whole SpellsControl (inside_at 48 control_of) control_part)

controls_take : (end : ℕ) (bytes : List ℕ) (xs : List Control) (rest : List ℕ) → IsBytes bytes → controls_at end bytes
    ≡ Ok (xs, rest) → TakesFront SpellsControls bytes xs rest
unfolding controls_at
controls_take end bytes xs rest fits h =
    elim (cases_Bool (begins 160 bytes)) [
      | inl here ↦
          let t = (all_controls.reader end).takes bytes xs rest fits (sym (rw here refl) ∙ h) in
          record { text = t.text; parts = t.parts; spelled = inl t.spelled }
      | inr away ↦
          subst (λ (p : List Control × List ℕ). TakesFront SpellsControls bytes p.0 p.1)
          (from_ok {E = LdapFault} ([], bytes) (xs, rest) (sym (rw away refl) ∙ h))
          (record { text = []; parts = refl; spelled = inr (refl, refl) })
    ]

controls_again : (end : ℕ) (xs : List Control) (text : List ℕ) → SpellsControls xs text → controls_at end text
    ≡ Ok (xs, [])
unfolding controls_at
controls_again end xs text (inl s) =
    let whole : text ≡ text ++ [] = sym (append-nil text) in
    let here : begins 160 text ≡ true = ap (begins 160) whole ∙ begins_tagged 160 (SpellsEach SpellsControl xs) text
    [] s in
    rw here (ap (inside_at 160 (each_of (inside_at 48 control_of)) end) whole ∙ (all_controls.reader end).again xs
    text [] s)
controls_again end xs text (inr s) = rw (s.0, s.1) refl

-- ---- the message

id_takes : (end : ℕ) (bytes : List ℕ) (id : ℕ) (rest : List ℕ) → IsBytes bytes → id_at end bytes ≡ Ok (id, rest)
    → TakesFront (SpellsNumber 2 most_int) bytes id rest × (0 < id)
unfolding id_at
id_takes end bytes id rest fits h =
    from_bind (number_at 2 most_int end bytes) _ (id, rest) h
    (λ (n : ℕ × List ℕ) (e1 : number_at 2 most_int end bytes ≡ Ok n) h1.
    from_need (ltb 0 n.0) (form end bytes) _ (id, rest) h1 (λ (some : ltb 0 n.0 ≡ true) (e2 : Ok n ≡ Ok (id, rest)).
    subst (λ (p : ℕ × List ℕ). TakesFront (SpellsNumber 2 most_int) bytes p.0 p.1 × (0 < p.0))
    (from_ok {E = LdapFault} n (id, rest) e2)
    (((number_part 2 most_int).reader end).takes bytes n.0 n.1 fits e1, ltb-true _ _ some)))

body_takes : (end : ℕ) (bytes : List ℕ) (m : MessageValue) → IsBytes bytes → body_of end bytes ≡ Ok m
    → SpellsBody m bytes
unfolding body_of
body_takes end bytes m fits h =
    from_bind (id_at end bytes) _ m h (λ (id : ℕ × List ℕ) (e1 : id_at end bytes ≡ Ok id) h1.
    from_bind (op_at end id.1) _ m h1 (λ (op : OpValue × List ℕ) (e2 : op_at end id.1 ≡ Ok op) h2.
    from_bind (controls_at end op.1) _ m h2
    (λ (controls : List Control × List ℕ) (e3 : controls_at end op.1 ≡ Ok controls) h3.
    from_need (eqb (length controls.1) 0) (form end controls.1) _ m h3
    (λ (over : eqb (length controls.1) 0 ≡ true) (e4 : Ok (record { id = id.0; op = op.0; controls = controls.0 })
    ≡ Ok m).
    let t1 = id_takes end bytes id.0 id.1 fits e1 in
    let f1 = rest_fits (SpellsNumber 2 most_int) bytes id.0 id.1 fits t1.0 in
    let t2 = (op_reader end).takes id.1 op.0 op.1 f1 e2 in
    let f2 = rest_fits SpellsOp id.1 op.0 op.1 f1 t2 in
    let t3 = controls_take end op.1 controls.0 controls.1 f2 e3 in
    let all : SpellsControls controls.0 op.1 = subst (SpellsControls controls.0)
    (sym (t3.parts ∙ ap (λ (r : List ℕ). t3.text ++ r) (none_left controls.1 over) ∙ append-nil t3.text))
    t3.spelled in
    let w2 = starts SpellsOp (SpellsControls controls.0) id.1 op.0 op.1 t2 all in
    let w1 = starts (SpellsNumber 2 most_int) (StartsWith SpellsOp op.0 (SpellsControls controls.0)) bytes id.0 id.1
    t1.0 w2 in
    let value : MessageValue = record { id = id.0; op = op.0; controls = controls.0 } in
    subst (λ (y : MessageValue). SpellsBody y bytes) (from_ok {E = LdapFault} value m e4)
    (record { some = t1.1; text_is = w1 })))))

body_again : (end : ℕ) (m : MessageValue) (text : List ℕ) → SpellsBody m text → body_of end text ≡ Ok m
unfolding body_of id_at
body_again end m text s =
    let w1 = s.text_is in
    let w2 = w1.follows in
    let some : ltb 0 m.id ≡ true = lt-ltb _ _ s.some in
    rw (
      first_again (SpellsNumber 2 most_int) (number_at 2 most_int end) ((number_part 2 most_int).reader end) m.id
          (StartsWith SpellsOp m.op (SpellsControls m.controls)) text w1,
      some,
      first_again SpellsOp (op_at end) (op_reader end) m.op (SpellsControls m.controls) w1.behind w2,
      controls_again end m.controls w2.behind w2.follows,
    ) refl

message_part : IsPartOf SpellsMessage (inside_at 48 body_of)
message_part = inside_part 48 SpellsBody body_of (record { takes = body_takes; again = body_again })

pub message_takes : (bytes : List ℕ) (m : MessageValue) → IsBytes bytes → message_of bytes ≡ Ok m
    → SpellsMessage m bytes
unfolding message_of
message_takes bytes m fits h =
    from_bind (inside_at 48 body_of (length bytes) bytes) _ m h
    (λ (x : MessageValue × List ℕ) (e1 : inside_at 48 body_of (length bytes) bytes ≡ Ok x) h1.
    from_need (eqb (length x.1) 0) (form (length bytes) x.1) _ m h1
    (λ (over : eqb (length x.1) 0 ≡ true) (e2 : Ok x.0 ≡ Ok m).
    let t = (message_part.reader (length bytes)).takes bytes x.0 x.1 fits e1 in
    let whole : bytes ≡ t.text = t.parts ∙ ap (λ (r : List ℕ). t.text ++ r) (none_left x.1 over) ∙ append-nil t.text in
    subst (λ (y : MessageValue). SpellsMessage y bytes) (from_ok {E = LdapFault} x.0 m e2)
    (subst (SpellsMessage x.0) (sym whole) t.spelled)))

pub message_again : (bytes : List ℕ) (m : MessageValue) → SpellsMessage m bytes → message_of bytes ≡ Ok m
unfolding message_of
message_again bytes m s =
    let read : inside_at 48 body_of (length bytes) bytes ≡ Ok (m, []) = ap (inside_at 48 body_of (length bytes))
    (sym (append-nil bytes)) ∙ (message_part.reader (length bytes)).again m bytes [] s in
    rw read refl

-- what was read is encoded so
pub is_found : (bytes : List ℕ) (r : Result Message LdapFault) → IsBytes bytes → GivesUnless is_memory message_seen r
    (message_of bytes) → IfOk r (λ m. SpellsMessage (message_seen m) bytes)
is_found bytes (Ok m) fits h = message_takes bytes (message_seen m) fits h
is_found bytes (Err d) fits h = tt
