-- Texts of gPLink, and the links that they are.
use Rattle.std.specs.Prelude.{◌≡◌, ℕ, Bool, true, false, List, [], ◌∷◌, codes, refl}
use Rattle.ad_policies.specs.Policies.{PolicyLink, cut, after_scheme, with_marks, link_in, next_link, links_within}
use Rattle.ad_policies.specs.Policies.{links_of}

abbrev pub link : List ℕ → Bool → Bool → PolicyLink
link name disabled enforced = record { name = name; disabled = disabled; enforced = enforced }

-- two links, the second of which is enforced; the scheme in either case
two_links : links_of (codes "[LDAP://CN=a,DC=b;0][ldap://CN=c,DC=b;2]")
    ≡ link (codes "CN=a,DC=b") false false ∷ link (codes "CN=c,DC=b") false true ∷ []
unfolding links_of links_within next_link link_in after_scheme cut with_marks
two_links = refl

-- a link that is disabled, and one that is disabled and enforced
disabled_links : links_of (codes "[LDAP://CN=a;1][LDAP://CN=b;3]")
    ≡ link (codes "CN=a") true false ∷ link (codes "CN=b") true true ∷ []
unfolding links_of links_within next_link link_in after_scheme cut with_marks
disabled_links = refl

-- what has another form ends them: no scheme, no semicolon, no second bracket
other_form : links_of (codes "[LDAP://CN=a;0][CN=b;0][LDAP://CN=c;0]") ≡ link (codes "CN=a") false false ∷ []
unfolding links_of links_within next_link link_in after_scheme cut with_marks
other_form = refl

no_marks : links_of (codes "[LDAP://CN=a;0][LDAP://CN=b][LDAP://CN=c;0]") ≡ link (codes "CN=a") false false ∷ []
unfolding links_of links_within next_link link_in after_scheme cut with_marks
no_marks = refl

no_end : links_of (codes "[LDAP://CN=a;0][LDAP://CN=b;0") ≡ link (codes "CN=a") false false ∷ []
unfolding links_of links_within next_link link_in after_scheme cut with_marks
no_end = refl

-- a blank between two pairs is no other form
apart : links_of (codes "[LDAP://CN=a;0] [LDAP://CN=b;2]")
    ≡ link (codes "CN=a") false false ∷ link (codes "CN=b") false true ∷ []
unfolding links_of links_within next_link link_in after_scheme cut with_marks
apart = refl

-- a blank is what stands there where no policy is linked any more
no_links : links_of (codes " ") ≡ []
unfolding links_of links_within next_link link_in after_scheme cut with_marks
no_links = refl
