-- The reader of requests is that of their encodings.
use Rattle.std.proofs.Common.{◌≡◌, ℕ, ◌-◌, ◌<◌, ◌≤◌, Bool, true, false, eqb, List, [], ◌∷◌, ◌++◌, length, Option}
use Rattle.std.proofs.Common.{None, Some, Result, Ok, Err, refl, sym, ap, subst, ◌∙◌, append_assoc, length-append}
use Rattle.std.proofs.Common.{arith, inl, inr, ◌⊎◌}
use Rattle.std.specs.Prelude.{not}
use Rattle.std.proofs.lemmas.Bool.{cases_Bool, eqb-true, eqb-false, ne_eqb, not-true}
use Rattle.std.proofs.lemmas.List.{append-nil}
use Rattle.ad_bytes.specs.Reading.{IsBytes, Reading, ◌>>=◌, need, TakesFront, StartsWith, IsReaderOf, SpellsEach}
use Rattle.ad_bytes.proofs.Steps.{from_bind, from_need, from_ok}
use Rattle.ad_bytes.proofs.Codec.{rest_fits}
use Rattle.ad_ldap.specs.declared.fault.LdapFault.{LdapFault}
use Rattle.ad_ldap.specs.declared.items.Item.{Item}
use Rattle.ad_ldap.specs.declared.requests.Modify.{Modify}
use Rattle.ad_ldap.specs.declared.requests.Add.{Add}
use Rattle.ad_ldap.specs.declared.requests.Rename.{Rename}
use Rattle.ad_ldap.specs.declared.requests.Compare.{Compare}
use Rattle.ad_ldap.specs.declared.request_reading.OpKind.{OpKind}
use Rattle.ad_ldap.specs.declared.request_reading.OpKind.TheVariants as kind
use Rattle.ad_ldap.specs.Limits.{most_levels, most_int}
use Rattle.ad_ldap.specs.FilterValue.{FilterValue}
use Rattle.ad_ldap.specs.MessageValue.{SearchValue, OpValue, Bind, Unbind, SearchOf, ModifyOf, AddOf, DeleteOf}
use Rattle.ad_ldap.specs.MessageValue.{RenameOf, CompareOf, Abandon, Extended}
use Rattle.ad_ldap.specs.Elements.{IsEmpty, Tagged, SpellsOctets, SpellsNumber, SpellsBoolean, SpellsOption}
use Rattle.ad_ldap.specs.Elements.{SpellsValues}
use Rattle.ad_ldap.specs.Filters.{Joined, SpellsAssertion, SpellsWithin}
use Rattle.ad_ldap.specs.Requests.{SpellsSearch, SpellsAttribute, SpellsItem, SpellsModify, SpellsNew, SpellsAdd}
use Rattle.ad_ldap.specs.Requests.{SpellsRename, SpellsCompare, IsAny, SpellsOp}
use Rattle.ad_ldap.specs.Reading.{form, begins, body_at, ended, some, number_at, boolean_at, option_at, inside_at}
use Rattle.ad_ldap.specs.Reading.{each_of, values_of}
use Rattle.ad_ldap.specs.FilterReading.{assertion_of, filter_at}
use Rattle.ad_ldap.specs.RequestReading.{search_of, attribute_of, item_of, modify_of, some_values_of, new_of, add_of}
use Rattle.ad_ldap.specs.RequestReading.{rename_of, compare_of, op_by_tag, op_kind_at, op_of, op_at}
use Rattle.ad_ldap.proofs.Codec.{IsWholeOf, IsPartOf, starts, first_again, joined, joined_again, made, none_left}
use Rattle.ad_ldap.proofs.Codec.{tagged_first, octets_part, number_part, boolean_part, inside_part, option_takes}
use Rattle.ad_ldap.proofs.Codec.{option_again, each_whole, values_whole}
use Rattle.ad_ldap.proofs.FilterCodec.{assertion_whole, filter_part}

-- ---- a search

values_part : IsPartOf (λ (xs : List (List ℕ)). Tagged 48 (SpellsValues xs)) (inside_at 48 values_of)
values_part = inside_part 48 SpellsValues values_of values_whole

search_takes : (end : ℕ) (bytes : List ℕ) (s : SearchValue) → IsBytes bytes → search_of end bytes ≡ Ok s
    → SpellsSearch s bytes
unfolding search_of
search_takes end bytes s fits h =
    from_bind (body_at 4 end bytes) _ s h (λ (base : List ℕ × List ℕ) (e1 : body_at 4 end bytes ≡ Ok base) h1.
    from_bind (number_at 10 2 end base.1) _ s h1 (λ (scope : ℕ × List ℕ) (e2 : number_at 10 2 end base.1 ≡ Ok scope) h2.
    from_bind (number_at 10 3 end scope.1) _ s h2
    (λ (aliases : ℕ × List ℕ) (e3 : number_at 10 3 end scope.1 ≡ Ok aliases) h3.
    from_bind (number_at 2 most_int end aliases.1) _ s h3
    (λ (size : ℕ × List ℕ) (e4 : number_at 2 most_int end aliases.1 ≡ Ok size) h4.
    from_bind (number_at 2 most_int end size.1) _ s h4
    (λ (time : ℕ × List ℕ) (e5 : number_at 2 most_int end size.1 ≡ Ok time) h5.
    from_bind (boolean_at 1 end time.1) _ s h5 (λ (types : Bool × List ℕ) (e6 : boolean_at 1 end time.1 ≡ Ok types) h6.
    from_bind (filter_at most_levels end types.1) _ s h6
    (λ (filter : FilterValue × List ℕ) (e7 : filter_at most_levels end types.1 ≡ Ok filter) h7.
    from_bind (inside_at 48 values_of end filter.1) _ s h7
    (λ (attrs : List (List ℕ) × List ℕ) (e8 : inside_at 48 values_of end filter.1 ≡ Ok attrs) h8.
    from_need (eqb (length attrs.1) 0) (form end attrs.1) _ s h8
    (λ (last : eqb (length attrs.1) 0 ≡ true)
    (e9 : Ok (record {
      base = base.0;
      scope = scope.0;
      size = size.0;
      types_only = types.0;
      filter
          = filter.0;
      attrs = attrs.0;
    }) ≡ Ok s).
    let t1 = ((octets_part 4).reader end).takes bytes base.0 base.1 fits e1 in
    let f1 = rest_fits (SpellsOctets 4) bytes base.0 base.1 fits t1 in
    let t2 = ((number_part 10 2).reader end).takes base.1 scope.0 scope.1 f1 e2 in
    let f2 = rest_fits (SpellsNumber 10 2) base.1 scope.0 scope.1 f1 t2 in
    let t3 = ((number_part 10 3).reader end).takes scope.1 aliases.0 aliases.1 f2 e3 in
    let f3 = rest_fits (SpellsNumber 10 3) scope.1 aliases.0 aliases.1 f2 t3 in
    let t4 = ((number_part 2 most_int).reader end).takes aliases.1 size.0 size.1 f3 e4 in
    let f4 = rest_fits (SpellsNumber 2 most_int) aliases.1 size.0 size.1 f3 t4 in
    let t5 = ((number_part 2 most_int).reader end).takes size.1 time.0 time.1 f4 e5 in
    let f5 = rest_fits (SpellsNumber 2 most_int) size.1 time.0 time.1 f4 t5 in
    let t6 = ((boolean_part 1).reader end).takes time.1 types.0 types.1 f5 e6 in
    let f6 = rest_fits (SpellsBoolean 1) time.1 types.0 types.1 f5 t6 in
    let t7 = ((filter_part most_levels).reader end).takes types.1 filter.0 filter.1 f6 e7 in
    let f7 = rest_fits (SpellsWithin most_levels) types.1 filter.0 filter.1 f6 t7 in
    let t8 = (values_part.reader end).takes filter.1 attrs.0 attrs.1 f7 e8 in
    let w8 = joined (λ (xs : List (List ℕ)). Tagged 48 (SpellsValues xs)) IsEmpty filter.1 attrs.0 attrs.1 t8
    (none_left attrs.1 last) in
    let F8 : List ℕ → Type 0 = Joined (Tagged 48 (SpellsValues attrs.0)) IsEmpty in
    let w7 = starts (SpellsWithin most_levels) F8 types.1 filter.0 filter.1 t7 w8 in
    let F7 : List ℕ → Type 0 = StartsWith (SpellsWithin most_levels) filter.0 F8 in
    let w6 = starts (SpellsBoolean 1) F7 time.1 types.0 types.1 t6 w7 in
    let F6 : List ℕ → Type 0 = StartsWith (SpellsBoolean 1) types.0 F7 in
    let w5 = starts (SpellsNumber 2 most_int) F6 size.1 time.0 time.1 t5 w6 in
    let F5 : List ℕ → Type 0 = StartsWith (SpellsNumber 2 most_int) time.0 F6 in
    let w4 = starts (SpellsNumber 2 most_int) F5 aliases.1 size.0 size.1 t4 w5 in
    let F4 : List ℕ → Type 0 = StartsWith (SpellsNumber 2 most_int) size.0 F5 in
    let w3 = starts (SpellsNumber 10 3) F4 scope.1 aliases.0 aliases.1 t3 w4 in
    let F3 : List ℕ → Type 0 = StartsWith (SpellsNumber 10 3) aliases.0 F4 in
    let w2 = starts (SpellsNumber 10 2) F3 base.1 scope.0 scope.1 t2 w3 in
    let F2 : List ℕ → Type 0 = StartsWith (SpellsNumber 10 2) scope.0 F3 in
    let w1 = starts (SpellsOctets 4) F2 bytes base.0 base.1 t1 w2 in
    let value : SearchValue = record {
      base = base.0;
      scope = scope.0;
      size = size.0;
      types_only = types.0;
      filter
          = filter.0;
      attrs = attrs.0;
    } in
    subst (λ (v : SearchValue). SpellsSearch v bytes) (from_ok {E = LdapFault} value s e9)
    (record { aliases = aliases.0; time = time.0; text_is = w1 }))))))))))

search_again : (end : ℕ) (s : SearchValue) (text : List ℕ) → SpellsSearch s text → search_of end text ≡ Ok s
unfolding search_of
search_again end s text spelled =
    let F8 : List ℕ → Type 0 = Joined (Tagged 48 (SpellsValues s.attrs)) IsEmpty in
    let F7 : List ℕ → Type 0 = StartsWith (SpellsWithin most_levels) s.filter F8 in
    let F6 : List ℕ → Type 0 = StartsWith (SpellsBoolean 1) s.types_only F7 in
    let F5 : List ℕ → Type 0 = StartsWith (SpellsNumber 2 most_int) spelled.time F6 in
    let F4 : List ℕ → Type 0 = StartsWith (SpellsNumber 2 most_int) s.size F5 in
    let F3 : List ℕ → Type 0 = StartsWith (SpellsNumber 10 3) spelled.aliases F4 in
    let F2 : List ℕ → Type 0 = StartsWith (SpellsNumber 10 2) s.scope F3 in
    let w1 = spelled.text_is in
    let w2 = w1.follows in
    let w3 = w2.follows in
    let w4 = w3.follows in
    let w5 = w4.follows in
    let w6 = w5.follows in
    let w7 = w6.follows in
    let w8 = w7.follows in
    rw (
      first_again (SpellsOctets 4) (body_at 4 end) ((octets_part 4).reader end) s.base F2 text w1,
      first_again (SpellsNumber 10 2) (number_at 10 2 end) ((number_part 10 2).reader end) s.scope F3 w1.behind w2,
      first_again (SpellsNumber 10 3) (number_at 10 3 end) ((number_part 10 3).reader end) spelled.aliases F4
          w2.behind w3,
      first_again (SpellsNumber 2 most_int) (number_at 2 most_int end) ((number_part 2 most_int).reader end) s.size F5
          w3.behind w4,
      first_again (SpellsNumber 2 most_int) (number_at 2 most_int end) ((number_part 2 most_int).reader end)
          spelled.time F6 w4.behind w5,
      first_again (SpellsBoolean 1) (boolean_at 1 end) ((boolean_part 1).reader end) s.types_only F7 w5.behind w6,
      first_again (SpellsWithin most_levels) (filter_at most_levels end) ((filter_part most_levels).reader end)
          s.filter F8 w6.behind w7,
      joined_again (λ (xs : List (List ℕ)). Tagged 48 (SpellsValues xs)) (inside_at 48 values_of end)
          (values_part.reader end) s.attrs IsEmpty w7.behind w8,
      w8.second,
    ) refl

pub search_whole : IsWholeOf SpellsSearch search_of
search_whole = record { takes = search_takes; again = search_again }

-- ---- one part, and then an element that is the last

-- What is read of a first part and of a last element.
two_takes : {A B : Type 0} (Front : A → List ℕ → Type 0) (front : ℕ → List ℕ → Reading A LdapFault)
    (Last : B → List ℕ → Type 0) (last : ℕ → List ℕ → Reading B LdapFault) → IsPartOf Front front → IsPartOf Last last
    → (end : ℕ) (bytes : List ℕ) (x : A) (middle : List ℕ) (y : B) (rest : List ℕ) → IsBytes bytes → front end bytes
    ≡ Ok (x, middle) → last end middle ≡ Ok (y, rest) → eqb (length rest) 0 ≡ true
    → StartsWith Front x (Joined (Last y) IsEmpty) bytes
two_takes Front front Last last part other end bytes x middle y rest fits e1 e2 over =
    let t1 = (part.reader end).takes bytes x middle fits e1 in
    let t2 = (other.reader end).takes middle y rest (rest_fits Front bytes x middle fits t1) e2 in
    starts Front (Joined (Last y) IsEmpty) bytes x middle t1
    (joined Last IsEmpty middle y rest t2 (none_left rest over))

attrs_part : IsPartOf (λ (xs : List (List ℕ)). Tagged 49 (SpellsValues xs)) (inside_at 49 values_of)
attrs_part = inside_part 49 SpellsValues values_of values_whole

attribute_takes : (end : ℕ) (bytes : List ℕ) (x : List ℕ × List (List ℕ)) → IsBytes bytes → attribute_of end bytes
    ≡ Ok x → SpellsAttribute x.0 x.1 bytes
unfolding attribute_of
attribute_takes end bytes x fits h =
    from_bind (body_at 4 end bytes) _ x h (λ (attr : List ℕ × List ℕ) (e1 : body_at 4 end bytes ≡ Ok attr) h1.
    from_bind (inside_at 49 values_of end attr.1) _ x h1
    (λ (values : List (List ℕ) × List ℕ) (e2 : inside_at 49 values_of end attr.1 ≡ Ok values) h2.
    from_need (eqb (length values.1) 0) (form end values.1) _ x h2
    (λ (over : eqb (length values.1) 0 ≡ true) (e3 : Ok (attr.0, values.0) ≡ Ok x).
    subst (λ (y : List ℕ × List (List ℕ)). SpellsAttribute y.0 y.1 bytes)
    (from_ok {E = LdapFault} (attr.0, values.0) x e3)
    (two_takes (SpellsOctets 4) (body_at 4) (λ (xs : List (List ℕ)). Tagged 49 (SpellsValues xs))
    (inside_at 49 values_of) (octets_part 4) attrs_part end bytes attr.0 attr.1 values.0 values.1 fits e1 e2
    over))))

attribute_again : (end : ℕ) (x : List ℕ × List (List ℕ)) (text : List ℕ) → SpellsAttribute x.0 x.1 text
    → attribute_of end text ≡ Ok x
unfolding attribute_of
attribute_again end x text s =
    rw (
      first_again (SpellsOctets 4) (body_at 4 end) ((octets_part 4).reader end) x.0
          (Joined (Tagged 49 (SpellsValues x.1)) IsEmpty) text s,
      joined_again (λ (xs : List (List ℕ)). Tagged 49 (SpellsValues xs)) (inside_at 49 values_of end)
          (attrs_part.reader end) x.1 IsEmpty s.behind s.follows,
      s.follows.second,
    ) refl

attribute_whole : IsWholeOf (λ (x : List ℕ × List (List ℕ)). SpellsAttribute x.0 x.1) attribute_of
attribute_whole = record { takes = attribute_takes; again = attribute_again }

attribute_part : IsPartOf (λ (x : List ℕ × List (List ℕ)). Tagged 48 (SpellsAttribute x.0 x.1))
    (inside_at 48 attribute_of)
attribute_part = inside_part 48 (λ (x : List ℕ × List (List ℕ)). SpellsAttribute x.0 x.1) attribute_of attribute_whole

-- ---- a modify

abbrev ItemBody : Item → List ℕ → Type 0
ItemBody item text = StartsWith (SpellsNumber 10 2) item.op
    (Joined (Tagged 48 (SpellsAttribute item.attr item.values)) IsEmpty) text

item_takes : (end : ℕ) (bytes : List ℕ) (x : Item) → IsBytes bytes → item_of end bytes ≡ Ok x → ItemBody x bytes
unfolding item_of
item_takes end bytes x fits h =
    from_bind (number_at 10 2 end bytes) _ x h (λ (op : ℕ × List ℕ) (e1 : number_at 10 2 end bytes ≡ Ok op) h1.
    from_bind (inside_at 48 attribute_of end op.1) _ x h1
    (λ (attr : (List ℕ × List (List ℕ)) × List ℕ) (e2 : inside_at 48 attribute_of end op.1 ≡ Ok attr) h2.
    from_need (eqb (length attr.1) 0) (form end attr.1) _ x h2
    (λ (over : eqb (length attr.1) 0 ≡ true) (e3 : Ok (record { op = op.0; attr = attr.0.0; values = attr.0.1 })
    ≡ Ok x).
    let value : Item = record { op = op.0; attr = attr.0.0; values = attr.0.1 } in
    subst (λ (y : Item). ItemBody y bytes) (from_ok {E = LdapFault} value x e3)
    (two_takes (SpellsNumber 10 2) (number_at 10 2)
    (λ (y : List ℕ × List (List ℕ)). Tagged 48 (SpellsAttribute y.0 y.1)) (inside_at 48 attribute_of)
    (number_part 10 2) attribute_part end bytes op.0 op.1 attr.0 attr.1 fits e1 e2 over))))

item_again : (end : ℕ) (x : Item) (text : List ℕ) → ItemBody x text → item_of end text ≡ Ok x
unfolding item_of
item_again end x text s =
    rw (
      first_again (SpellsNumber 10 2) (number_at 10 2 end) ((number_part 10 2).reader end) x.op
          (Joined (Tagged 48 (SpellsAttribute x.attr x.values)) IsEmpty) text s,
      joined_again (λ (y : List ℕ × List (List ℕ)). Tagged 48 (SpellsAttribute y.0 y.1))
          (inside_at 48 attribute_of end) (attribute_part.reader end) (x.attr, x.values) IsEmpty s.behind s.follows,
      s.follows.second,
    ) refl

item_part : IsPartOf SpellsItem (inside_at 48 item_of)
item_part = inside_part 48 ItemBody item_of (record { takes = item_takes; again = item_again })

items_part : IsPartOf (λ (xs : List Item). Tagged 48 (SpellsEach SpellsItem xs))
    (inside_at 48 (each_of (inside_at 48 item_of)))
items_part = inside_part 48 (SpellsEach SpellsItem) (each_of (inside_at 48 item_of))
    (each_whole SpellsItem (inside_at 48 item_of) item_part)

modify_takes : (end : ℕ) (bytes : List ℕ) (x : Modify) → IsBytes bytes → modify_of end bytes ≡ Ok x
    → SpellsModify x bytes
unfolding modify_of
modify_takes end bytes x fits h =
    from_bind (body_at 4 end bytes) _ x h (λ (dn : List ℕ × List ℕ) (e1 : body_at 4 end bytes ≡ Ok dn) h1.
    from_bind (inside_at 48 (each_of (inside_at 48 item_of)) end dn.1) _ x h1
    (λ (items : List Item × List ℕ) (e2 : inside_at 48 (each_of (inside_at 48 item_of)) end dn.1 ≡ Ok items) h2.
    from_need (eqb (length items.1) 0) (form end items.1) _ x h2
    (λ (over : eqb (length items.1) 0 ≡ true) (e3 : Ok (record { dn = dn.0; items = items.0 }) ≡ Ok x).
    let value : Modify = record { dn = dn.0; items = items.0 } in
    subst (λ (y : Modify). SpellsModify y bytes) (from_ok {E = LdapFault} value x e3)
    (two_takes (SpellsOctets 4) (body_at 4) (λ (xs : List Item). Tagged 48 (SpellsEach SpellsItem xs))
    (inside_at 48 (each_of (inside_at 48 item_of))) (octets_part 4) items_part end bytes dn.0 dn.1 items.0 items.1
    fits e1 e2 over))))

modify_again : (end : ℕ) (x : Modify) (text : List ℕ) → SpellsModify x text → modify_of end text ≡ Ok x
unfolding modify_of
modify_again end x text s =
    rw (
      first_again (SpellsOctets 4) (body_at 4 end) ((octets_part 4).reader end) x.dn
          (Joined (Tagged 48 (SpellsEach SpellsItem x.items)) IsEmpty) text s,
      joined_again (λ (xs : List Item). Tagged 48 (SpellsEach SpellsItem xs))
          (inside_at 48 (each_of (inside_at 48 item_of)) end) (items_part.reader end) x.items IsEmpty s.behind
          s.follows,
      s.follows.second,
    ) refl

pub modify_whole : IsWholeOf SpellsModify modify_of
modify_whole = record { takes = modify_takes; again = modify_again }

-- ---- an add

abbrev SomeValues : List (List ℕ) → List ℕ → Type 0
SomeValues values text = (values ≡ [] → ⊥) × SpellsValues values text

each_some : (values : List (List ℕ)) (text : List ℕ) → SpellsValues values text → (length text ≡ 0 → ⊥) → values ≡ []
    → ⊥
each_some [] text s there empty = there (ap length s)
each_some (v ∷ values) text s there empty = absurd cc

some_each : (values : List (List ℕ)) (text : List ℕ) → SpellsValues values text → (values ≡ [] → ⊥) → length text ≡ 0
    → ⊥
some_each [] text s some empty = some refl
some_each (v ∷ values) text s some empty =
    let one : 0 < length s.front = (octets_part 4).some v s.front s.spelled in
    omega (arith, ap length s.parts, length-append s.front s.behind)

some_takes : (end : ℕ) (bytes : List ℕ) (x : List (List ℕ)) → IsBytes bytes → some_values_of end bytes ≡ Ok x
    → SomeValues x bytes
unfolding some_values_of
some_takes end bytes x fits h =
    from_need (not (eqb (length bytes) 0)) (form end bytes) _ x h
    (λ (there : not (eqb (length bytes) 0) ≡ true) (e : values_of end bytes ≡ Ok x).
    let s = values_whole.takes end bytes x fits e in
    (each_some x bytes s (eqb-false _ _ (not-true _ there)), s))

some_again : (end : ℕ) (x : List (List ℕ)) (text : List ℕ) → SomeValues x text → some_values_of end text ≡ Ok x
unfolding some_values_of
some_again end x text s =
    let there : eqb (length text) 0 ≡ false = ne_eqb (length text) 0 (some_each x text s.1 s.0) in
    rw there (values_whole.again end x text s.1)

some_part : IsPartOf (λ (xs : List (List ℕ)). Tagged 49 (SomeValues xs)) (inside_at 49 some_values_of)
some_part = inside_part 49 SomeValues some_values_of (record { takes = some_takes; again = some_again })

-- an attribute of a new object, its values inside
abbrev NewBody : List ℕ × List (List ℕ) → List ℕ → Type 0
NewBody x text = StartsWith (SpellsOctets 4) x.0 (Joined (Tagged 49 (SomeValues x.1)) IsEmpty) text

new_takes : (end : ℕ) (bytes : List ℕ) (x : List ℕ × List (List ℕ)) → IsBytes bytes → new_of end bytes ≡ Ok x
    → NewBody x bytes
unfolding new_of
new_takes end bytes x fits h =
    from_bind (body_at 4 end bytes) _ x h (λ (attr : List ℕ × List ℕ) (e1 : body_at 4 end bytes ≡ Ok attr) h1.
    from_bind (inside_at 49 some_values_of end attr.1) _ x h1
    (λ (values : List (List ℕ) × List ℕ) (e2 : inside_at 49 some_values_of end attr.1 ≡ Ok values) h2.
    from_need (eqb (length values.1) 0) (form end values.1) _ x h2
    (λ (over : eqb (length values.1) 0 ≡ true) (e3 : Ok (attr.0, values.0) ≡ Ok x).
    subst (λ (y : List ℕ × List (List ℕ)). NewBody y bytes) (from_ok {E = LdapFault} (attr.0, values.0) x e3)
    (two_takes (SpellsOctets 4) (body_at 4) (λ (xs : List (List ℕ)). Tagged 49 (SomeValues xs))
    (inside_at 49 some_values_of) (octets_part 4) some_part end bytes attr.0 attr.1 values.0 values.1 fits e1 e2
    over))))

new_again : (end : ℕ) (x : List ℕ × List (List ℕ)) (text : List ℕ) → NewBody x text → new_of end text ≡ Ok x
unfolding new_of
new_again end x text s =
    rw (
      first_again (SpellsOctets 4) (body_at 4 end) ((octets_part 4).reader end) x.0
          (Joined (Tagged 49 (SomeValues x.1)) IsEmpty) text s,
      joined_again (λ (xs : List (List ℕ)). Tagged 49 (SomeValues xs)) (inside_at 49 some_values_of end)
          (some_part.reader end) x.1 IsEmpty s.behind s.follows,
      s.follows.second,
    ) refl

inner_part : IsPartOf (λ (x : List ℕ × List (List ℕ)). Tagged 48 (NewBody x)) (inside_at 48 new_of)
inner_part = inside_part 48 NewBody new_of (record { takes = new_takes; again = new_again })

-- the same with what the grammar says of the values before
to_new : (x : List ℕ × List (List ℕ)) (text : List ℕ) → Tagged 48 (NewBody x) text → SpellsNew x text
to_new x text s =
    let w = s.inside in
    let v = w.follows in
    let u = v.first in (
      u.inside.0,
      record {
        body = s.body;
        element = s.element;
        inside = record {
          front = w.front;
          behind = w.behind;
          parts = w.parts;
          spelled = w.spelled;
          follows = record {
            front = v.front;
            behind = v.behind;
            parts = v.parts;
            first
                = record { body = u.body; element = u.element; inside = u.inside.1 };
            second = v.second;
          };
        };
      },
    )

from_new : (x : List ℕ × List (List ℕ)) (text : List ℕ) → SpellsNew x text → Tagged 48 (NewBody x) text
from_new x text (some, s) =
    let w = s.inside in
    let v = w.follows in
    let u = v.first in
    record {
      body = s.body;
      element = s.element;
      inside = record {
        front = w.front;
        behind = w.behind;
        parts = w.parts;
        spelled = w.spelled;
        follows = record {
          front = v.front;
          behind = v.behind;
          parts = v.parts;
          first
              = record { body = u.body; element = u.element; inside = (some, u.inside) };
          second = v.second;
        };
      };
    }

new_part : IsPartOf SpellsNew (inside_at 48 new_of)
new_part = record {
  reader = λ end. record {
    takes = λ bytes x rest fits e. let t = (inner_part.reader end).takes bytes x rest fits e
        in record { text = t.text; parts = t.parts; spelled = to_new x t.text t.spelled };
    again = λ x text rest s. (inner_part.reader end).again x text rest (from_new x text s);
  };
  some = λ x text s. inner_part.some x text (from_new x text s);
}

news_part : IsPartOf (λ (xs : List (List ℕ × List (List ℕ))). Tagged 48 (SpellsEach SpellsNew xs))
    (inside_at 48 (each_of (inside_at 48 new_of)))
news_part = inside_part 48 (SpellsEach SpellsNew) (each_of (inside_at 48 new_of))
    (each_whole SpellsNew (inside_at 48 new_of) new_part)

add_takes : (end : ℕ) (bytes : List ℕ) (x : Add) → IsBytes bytes → add_of end bytes ≡ Ok x → SpellsAdd x bytes
unfolding add_of
add_takes end bytes x fits h =
    from_bind (body_at 4 end bytes) _ x h (λ (dn : List ℕ × List ℕ) (e1 : body_at 4 end bytes ≡ Ok dn) h1.
    from_bind (inside_at 48 (each_of (inside_at 48 new_of)) end dn.1) _ x h1
    (λ (attrs : List (List ℕ × List (List ℕ)) × List ℕ)
    (e2 : inside_at 48 (each_of (inside_at 48 new_of)) end dn.1 ≡ Ok attrs) h2.
    from_need (eqb (length attrs.1) 0) (form end attrs.1) _ x h2
    (λ (over : eqb (length attrs.1) 0 ≡ true) (e3 : Ok (record { dn = dn.0; attrs = attrs.0 }) ≡ Ok x).
    let value : Add = record { dn = dn.0; attrs = attrs.0 } in
    subst (λ (y : Add). SpellsAdd y bytes) (from_ok {E = LdapFault} value x e3)
    (two_takes (SpellsOctets 4) (body_at 4)
    (λ (xs : List (List ℕ × List (List ℕ))). Tagged 48 (SpellsEach SpellsNew xs))
    (inside_at 48 (each_of (inside_at 48 new_of))) (octets_part 4) news_part end bytes dn.0 dn.1 attrs.0 attrs.1
    fits e1 e2 over))))

add_again : (end : ℕ) (x : Add) (text : List ℕ) → SpellsAdd x text → add_of end text ≡ Ok x
unfolding add_of
add_again end x text s =
    rw (
      first_again (SpellsOctets 4) (body_at 4 end) ((octets_part 4).reader end) x.dn
          (Joined (Tagged 48 (SpellsEach SpellsNew x.attrs)) IsEmpty) text s,
      joined_again (λ (xs : List (List ℕ × List (List ℕ))). Tagged 48 (SpellsEach SpellsNew xs))
          (inside_at 48 (each_of (inside_at 48 new_of)) end) (news_part.reader end) x.attrs IsEmpty s.behind
          s.follows,
      s.follows.second,
    ) refl

pub add_whole : IsWholeOf SpellsAdd add_of
add_whole = record { takes = add_takes; again = add_again }

-- ---- a compare and a modify DN

compare_part : IsPartOf (λ (x : List ℕ × List ℕ). Tagged 48 (SpellsAssertion x.0 x.1)) (inside_at 48 assertion_of)
compare_part = inside_part 48 (λ (x : List ℕ × List ℕ). SpellsAssertion x.0 x.1) assertion_of assertion_whole

compare_takes : (end : ℕ) (bytes : List ℕ) (x : Compare) → IsBytes bytes → compare_of end bytes ≡ Ok x
    → SpellsCompare x bytes
unfolding compare_of
compare_takes end bytes x fits h =
    from_bind (body_at 4 end bytes) _ x h (λ (dn : List ℕ × List ℕ) (e1 : body_at 4 end bytes ≡ Ok dn) h1.
    from_bind (inside_at 48 assertion_of end dn.1) _ x h1
    (λ (a : (List ℕ × List ℕ) × List ℕ) (e2 : inside_at 48 assertion_of end dn.1 ≡ Ok a) h2.
    from_need (eqb (length a.1) 0) (form end a.1) _ x h2
    (λ (over : eqb (length a.1) 0 ≡ true) (e3 : Ok (record { dn = dn.0; attr = a.0.0; value = a.0.1 }) ≡ Ok x).
    let value : Compare = record { dn = dn.0; attr = a.0.0; value = a.0.1 } in
    subst (λ (y : Compare). SpellsCompare y bytes) (from_ok {E = LdapFault} value x e3)
    (two_takes (SpellsOctets 4) (body_at 4) (λ (y : List ℕ × List ℕ). Tagged 48 (SpellsAssertion y.0 y.1))
    (inside_at 48 assertion_of) (octets_part 4) compare_part end bytes dn.0 dn.1 a.0 a.1 fits e1 e2 over))))

compare_again : (end : ℕ) (x : Compare) (text : List ℕ) → SpellsCompare x text → compare_of end text ≡ Ok x
unfolding compare_of
compare_again end x text s =
    rw (
      first_again (SpellsOctets 4) (body_at 4 end) ((octets_part 4).reader end) x.dn
          (Joined (Tagged 48 (SpellsAssertion x.attr x.value)) IsEmpty) text s,
      joined_again (λ (y : List ℕ × List ℕ). Tagged 48 (SpellsAssertion y.0 y.1)) (inside_at 48 assertion_of end)
          (compare_part.reader end) (x.attr, x.value) IsEmpty s.behind s.follows,
      s.follows.second,
    ) refl

pub compare_whole : IsWholeOf SpellsCompare compare_of
compare_whole = record { takes = compare_takes; again = compare_again }

not_not : (b : Bool) → not (not b) ≡ b
not_not true = refl
not_not false = refl

rename_takes : (end : ℕ) (bytes : List ℕ) (x : Rename) → IsBytes bytes → rename_of end bytes ≡ Ok x
    → SpellsRename x bytes
unfolding rename_of
rename_takes end bytes x fits h =
    from_bind (body_at 4 end bytes) _ x h (λ (dn : List ℕ × List ℕ) (e1 : body_at 4 end bytes ≡ Ok dn) h1.
    from_bind (body_at 4 end dn.1) _ x h1 (λ (rdn : List ℕ × List ℕ) (e2 : body_at 4 end dn.1 ≡ Ok rdn) h2.
    from_bind (boolean_at 1 end rdn.1) _ x h2 (λ (gone : Bool × List ℕ) (e3 : boolean_at 1 end rdn.1 ≡ Ok gone) h3.
    from_bind (option_at 128 end gone.1) _ x h3
    (λ (superior : Option (List ℕ) × List ℕ) (e4 : option_at 128 end gone.1 ≡ Ok superior) h4.
    from_need (eqb (length superior.1) 0) (form end superior.1) _ x h4
    (λ (over : eqb (length superior.1) 0 ≡ true)
    (e5 : Ok (record { dn = dn.0; rdn = rdn.0; keep = not gone.0; superior = superior.0 }) ≡ Ok x).
    let t1 = ((octets_part 4).reader end).takes bytes dn.0 dn.1 fits e1 in
    let f1 = rest_fits (SpellsOctets 4) bytes dn.0 dn.1 fits t1 in
    let t2 = ((octets_part 4).reader end).takes dn.1 rdn.0 rdn.1 f1 e2 in
    let f2 = rest_fits (SpellsOctets 4) dn.1 rdn.0 rdn.1 f1 t2 in
    let t3 = ((boolean_part 1).reader end).takes rdn.1 gone.0 gone.1 f2 e3 in
    let f3 = rest_fits (SpellsBoolean 1) rdn.1 gone.0 gone.1 f2 t3 in
    let t4 = option_takes 128 end gone.1 superior.0 superior.1 f3 e4 in
    let all : SpellsOption 128 superior.0 gone.1 = subst (SpellsOption 128 superior.0)
    (sym (t4.parts ∙ ap (λ (r : List ℕ). t4.text ++ r) (none_left superior.1 over) ∙ append-nil t4.text))
    t4.spelled in
    let u3 : TakesFront (SpellsBoolean 1) rdn.1 (not (not gone.0)) gone.1
    = subst (λ (b : Bool). TakesFront (SpellsBoolean 1) rdn.1 b gone.1) (sym (not_not gone.0)) t3 in
    let w3 = starts (SpellsBoolean 1) (SpellsOption 128 superior.0) rdn.1 (not (not gone.0)) gone.1 u3 all in
    let w2 = starts (SpellsOctets 4) (StartsWith (SpellsBoolean 1) (not (not gone.0)) (SpellsOption 128 superior.0))
    dn.1 rdn.0 rdn.1 t2 w3 in
    let w1 = starts (SpellsOctets 4) (StartsWith (SpellsOctets 4) rdn.0
    (StartsWith (SpellsBoolean 1) (not (not gone.0)) (SpellsOption 128 superior.0))) bytes dn.0 dn.1 t1 w2 in
    let value : Rename = record { dn = dn.0; rdn = rdn.0; keep = not gone.0; superior = superior.0 } in
    subst (λ (y : Rename). SpellsRename y bytes) (from_ok {E = LdapFault} value x e5) w1)))))

rename_again : (end : ℕ) (x : Rename) (text : List ℕ) → SpellsRename x text → rename_of end text ≡ Ok x
unfolding rename_of
rename_again end x text s =
    let w2 = s.follows in
    let w3 = w2.follows in
    let superior : option_at 128 end w3.behind ≡ Ok (x.superior, [])
    = ap (option_at 128 end) (sym (append-nil w3.behind)) ∙ option_again 128 end x.superior w3.behind [] refl
    w3.follows in
    rw (
      first_again (SpellsOctets 4) (body_at 4 end) ((octets_part 4).reader end) x.dn
          (StartsWith (SpellsOctets 4) x.rdn
          (StartsWith (SpellsBoolean 1) (not x.keep) (SpellsOption 128 x.superior))) text s,
      first_again (SpellsOctets 4) (body_at 4 end) ((octets_part 4).reader end) x.rdn
          (StartsWith (SpellsBoolean 1) (not x.keep) (SpellsOption 128 x.superior)) s.behind w2,
      first_again (SpellsBoolean 1) (boolean_at 1 end) ((boolean_part 1).reader end) (not x.keep)
          (SpellsOption 128 x.superior) w2.behind w3,
      superior,
      not_not x.keep,
    ) refl

pub rename_whole : IsWholeOf SpellsRename rename_of
rename_whole = record { takes = rename_takes; again = rename_again }

-- ---- the request

-- a request of which nothing is kept
blank : (tag : ℕ) (v : OpValue) → ((text : List ℕ) → Tagged tag IsAny text → SpellsOp v text)
    → (end : ℕ) (bytes : List ℕ) (x : OpValue) (rest : List ℕ) → IsBytes bytes
    → (body_at tag end bytes >>= made (λ (b : List ℕ). v)) ≡ Ok (x, rest) → TakesFront SpellsOp bytes x rest
blank tag v so end bytes x rest fits h =
    from_bind (body_at tag end bytes) (made (λ (b : List ℕ). v)) (x, rest) h
    (λ (b : List ℕ × List ℕ) (e1 : body_at tag end bytes ≡ Ok b) (e2 : Ok (v, b.1) ≡ Ok (x, rest)).
    let t = ((octets_part tag).reader end).takes bytes b.0 b.1 fits e1 in
    subst (λ (p : OpValue × List ℕ). TakesFront SpellsOp bytes p.0 p.1) (from_ok {E = LdapFault} (v, b.1) (x, rest) e2)
    (record {
      text = t.text;
      parts = t.parts;
      spelled
          = so t.text (record { body = t.spelled.body; element = t.spelled.element; inside = tt });
    }))

-- a request with a body
told : {A : Type 0} (tag : ℕ) (Spells : A → List ℕ → Type 0) (whole : ℕ → List ℕ → Result A LdapFault)
    → IsWholeOf Spells whole → (make : A → OpValue)
    → ((x : A) (text : List ℕ) → Tagged tag (Spells x) text → SpellsOp (make x) text)
    → (end : ℕ) (bytes : List ℕ) (x : OpValue) (rest : List ℕ) → IsBytes bytes
    → (inside_at tag whole end bytes >>= made make) ≡ Ok (x, rest) → TakesFront SpellsOp bytes x rest
told {A = A} tag Spells whole law make so end bytes x rest fits h =
    from_bind (inside_at tag whole end bytes) (made make) (x, rest) h
    (λ (y : A × List ℕ) (e1 : inside_at tag whole end bytes ≡ Ok y) (e2 : Ok (make y.0, y.1) ≡ Ok (x, rest)).
    let t = ((inside_part tag Spells whole law).reader end).takes bytes y.0 y.1 fits e1 in
    subst (λ (p : OpValue × List ℕ). TakesFront SpellsOp bytes p.0 p.1)
    (from_ok {E = LdapFault} (make y.0, y.1) (x, rest) e2)
    (record { text = t.text; parts = t.parts; spelled = so y.0 t.text t.spelled }))

op_of_takes : (k : OpKind) (end : ℕ) (bytes : List ℕ) (x : OpValue) (rest : List ℕ) → IsBytes bytes
    → op_of k end bytes ≡ Ok (x, rest) → TakesFront SpellsOp bytes x rest
unfolding op_of
op_of_takes kind.Bind end bytes x rest fits h = blank 96 Bind (λ text s. s) end bytes x rest fits h
op_of_takes kind.Unbind end bytes x rest fits h = blank 66 Unbind (λ text s. s) end bytes x rest fits h
op_of_takes kind.Search end bytes x rest fits h = told 99 SpellsSearch search_of search_whole SearchOf (λ y text s. s)
    end bytes x rest fits h
op_of_takes kind.Modify end bytes x rest fits h = told 102 SpellsModify modify_of modify_whole ModifyOf
    (λ y text s. s) end bytes x rest fits h
op_of_takes kind.Add end bytes x rest fits h = told 104 SpellsAdd add_of add_whole AddOf (λ y text s. s) end bytes x
    rest fits h
op_of_takes kind.Delete end bytes x rest fits h =
    from_bind (body_at 74 end bytes) (made DeleteOf) (x, rest) h
    (λ (b : List ℕ × List ℕ) (e1 : body_at 74 end bytes ≡ Ok b) (e2 : Ok (DeleteOf b.0, b.1) ≡ Ok (x, rest)).
    let t = ((octets_part 74).reader end).takes bytes b.0 b.1 fits e1 in
    subst (λ (p : OpValue × List ℕ). TakesFront SpellsOp bytes p.0 p.1)
    (from_ok {E = LdapFault} (DeleteOf b.0, b.1) (x, rest) e2)
    (record { text = t.text; parts = t.parts; spelled = t.spelled }))
op_of_takes kind.Rename end bytes x rest fits h = told 108 SpellsRename rename_of rename_whole RenameOf
    (λ y text s. s) end bytes x rest fits h
op_of_takes kind.Compare end bytes x rest fits h = told 110 SpellsCompare compare_of compare_whole CompareOf
    (λ y text s. s) end bytes x rest fits h
op_of_takes kind.Abandon end bytes x rest fits h = blank 80 Abandon (λ text s. s) end bytes x rest fits h
op_of_takes kind.Extended end bytes x rest fits h = blank 119 Extended (λ text s. s) end bytes x rest fits h

op_takes : (end : ℕ) (bytes : List ℕ) (x : OpValue) (rest : List ℕ) → IsBytes bytes → op_at end bytes ≡ Ok (x, rest)
    → TakesFront SpellsOp bytes x rest
unfolding op_at
op_takes end bytes x rest fits h =
    from_bind (op_kind_at end bytes) _ (x, rest) h
    (λ (k : OpKind) (e1 : op_kind_at end bytes ≡ Ok k) (e2 : op_of k end bytes ≡ Ok (x, rest)). op_of_takes k end
    bytes x rest fits e2)

kind_there : (tag end : ℕ) (Body : List ℕ → Type 0) (text rest : List ℕ) (k : OpKind) → op_by_tag tag ≡ Some k
    → Tagged tag Body text → op_kind_at end (text ++ rest) ≡ Ok k
unfolding op_kind_at
kind_there tag end Body text rest k is s =
    let first = tagged_first tag Body text s in
    ap (λ (t : List ℕ). op_kind_at end (t ++ rest)) first.1 ∙ rw is refl

op_there : (tag end : ℕ) (Body : List ℕ → Type 0) (text rest : List ℕ) (k : OpKind) (x : OpValue) → op_by_tag tag
    ≡ Some k → Tagged tag Body text → op_of k end (text ++ rest) ≡ Ok (x, rest) → op_at end (text ++ rest)
    ≡ Ok (x, rest)
unfolding op_at
op_there tag end Body text rest k x is s h = rw (kind_there tag end Body text rest k is s) h

blank_again : (tag end : ℕ) (v : OpValue) (text rest : List ℕ) → Tagged tag IsAny text
    → (body_at tag end (text ++ rest) >>= made (λ (b : List ℕ). v)) ≡ Ok (v, rest)
blank_again tag end v text rest s = rw (((octets_part tag).reader end).again s.body text rest
    (record { body = s.body; element = s.element; inside = refl })) refl

told_again : {A : Type 0} (tag : ℕ) (Spells : A → List ℕ → Type 0) (whole : ℕ → List ℕ → Result A LdapFault)
    → IsWholeOf Spells whole → (make : A → OpValue) (x : A) (end : ℕ) (text rest : List ℕ)
    → Tagged tag (Spells x) text → (inside_at tag whole end (text ++ rest) >>= made make) ≡ Ok (make x, rest)
told_again tag Spells whole law make x end text rest s
    = rw (((inside_part tag Spells whole law).reader end).again x text rest s) refl

op_again : (end : ℕ) (x : OpValue) (text rest : List ℕ) → SpellsOp x text → op_at end (text ++ rest) ≡ Ok (x, rest)
unfolding op_of
op_again end Bind text rest s = op_there 96 end IsAny text rest kind.Bind Bind refl s
    (blank_again 96 end Bind text rest s)
op_again end Unbind text rest s = op_there 66 end IsAny text rest kind.Unbind Unbind refl s
    (blank_again 66 end Unbind text rest s)
op_again end (SearchOf x) text rest s = op_there 99 end (SpellsSearch x) text rest kind.Search (SearchOf x) refl s
    (told_again 99 SpellsSearch search_of search_whole SearchOf x end text rest s)
op_again end (ModifyOf x) text rest s = op_there 102 end (SpellsModify x) text rest kind.Modify (ModifyOf x) refl s
    (told_again 102 SpellsModify modify_of modify_whole ModifyOf x end text rest s)
op_again end (AddOf x) text rest s = op_there 104 end (SpellsAdd x) text rest kind.Add (AddOf x) refl s
    (told_again 104 SpellsAdd add_of add_whole AddOf x end text rest s)
op_again end (DeleteOf dn) text rest s = op_there 74 end (λ body. body ≡ dn) text rest kind.Delete (DeleteOf dn) refl
    s (rw (((octets_part 74).reader end).again dn text rest s) refl)
op_again end (RenameOf x) text rest s = op_there 108 end (SpellsRename x) text rest kind.Rename (RenameOf x) refl s
    (told_again 108 SpellsRename rename_of rename_whole RenameOf x end text rest s)
op_again end (CompareOf x) text rest s = op_there 110 end (SpellsCompare x) text rest kind.Compare (CompareOf x) refl
    s (told_again 110 SpellsCompare compare_of compare_whole CompareOf x end text rest s)
op_again end Abandon text rest s = op_there 80 end IsAny text rest kind.Abandon Abandon refl s
    (blank_again 80 end Abandon text rest s)
op_again end Extended text rest s = op_there 119 end IsAny text rest kind.Extended Extended refl s
    (blank_again 119 end Extended text rest s)

pub op_reader : (end : ℕ) → IsReaderOf SpellsOp (op_at end)
op_reader end = record { takes = op_takes end; again = op_again end }
