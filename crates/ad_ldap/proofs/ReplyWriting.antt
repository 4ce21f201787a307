-- The pieces of a reply, joined.
use Rattle.std.proofs.Common.{◌≡◌, ℕ, ◌+◌, List, ◌++◌, length, sym, ap, ◌∙◌, append_assoc, length-append, arith}
use Rattle.ad_ber.specs.Writing.{header, element_bytes, number_element}
use Rattle.ad_ldap.specs.Reply.{values_bytes, attr_body, attr_bytes, attrs_bytes, entry_body, message_bytes}

pub element_length : (tag : ℕ) (body : List ℕ) (len h : ℕ) → length body ≡ len → h ≡ length (header tag len) → h + len
    ≡ length (element_bytes tag body)
unfolding element_bytes
element_length tag body len h is is_header =
    let front : h ≡ length (header tag (length body)) = is_header ∙ ap (λ (n : ℕ). length (header tag n)) (sym is) in
    omega (arith, length-append (header tag (length body)) body)

-- what stands before a body, and the body
pub message_joined : (id tag inner len number response : ℕ) (front body : List ℕ) → length body ≡ len → number
    ≡ length (number_element 2 id) → response ≡ length (element_bytes tag body) → inner ≡ number + response
    → front ≡ (header 48 inner ++ number_element 2 id) ++ header tag len → front ++ body ≡ message_bytes id tag body
unfolding element_bytes
message_joined id tag inner len number response front body is is_number is_response is_inner is_front =
    let N = number_element 2 id in
    let R = header tag (length body) ++ body in
    let size : inner ≡ length (N ++ R) = omega (arith, length-append N R) in
    ap (λ (f : List ℕ). f ++ body) is_front
    ∙ ap (λ (n : ℕ). ((header 48 n ++ N) ++ header tag len) ++ body) size
    ∙ ap (λ (n : ℕ). ((header 48 (length (N ++ R)) ++ N) ++ header tag n) ++ body) (sym is)
    ∙ append_assoc (header 48 (length (N ++ R)) ++ N) (header tag (length body)) body
    ∙ append_assoc (header 48 (length (N ++ R))) N R

-- an attribute
pub attr_joined : (old new name : List ℕ) (values : List (List ℕ)) (body set : ℕ) → body
    ≡ length (attr_body (name, values)) → set ≡ length (values_bytes values)
    → new ≡ (((old ++ header 48 body) ++ element_bytes 4 name) ++ header 49 set) ++ values_bytes values → new ≡ old
    ++ attr_bytes (name, values)
unfolding element_bytes
attr_joined old new name values body set is_body is_set is_new =
    let V = values_bytes values in
    let A = header 4 (length name) ++ name in
    let S = header 49 (length V) ++ V in
    is_new
    ∙ ap (λ (n : ℕ). (((old ++ header 48 n) ++ A) ++ header 49 set) ++ V) is_body
    ∙ ap (λ (n : ℕ). (((old ++ header 48 (length (A ++ S))) ++ A) ++ header 49 n) ++ V) is_set
    ∙ append_assoc ((old ++ header 48 (length (A ++ S))) ++ A) (header 49 (length V)) V
    ∙ append_assoc (old ++ header 48 (length (A ++ S))) A S
    ∙ append_assoc old (header 48 (length (A ++ S))) (A ++ S)

-- an entry
pub entry_joined : (front new dn : List ℕ) (attrs : List (List ℕ × List (List ℕ))) (list : ℕ) → list
    ≡ length (attrs_bytes attrs)
    → new ≡ ((front ++ element_bytes 4 dn) ++ header 48 list) ++ attrs_bytes attrs → new ≡ front ++ entry_body dn attrs
unfolding element_bytes
entry_joined front new dn attrs list is_list is_new =
    let L = attrs_bytes attrs in
    let D = header 4 (length dn) ++ dn in
    is_new
    ∙ ap (λ (n : ℕ). ((front ++ D) ++ header 48 n) ++ L) is_list
    ∙ append_assoc (front ++ D) (header 48 (length L)) L
    ∙ append_assoc front D (header 48 (length L) ++ L)
