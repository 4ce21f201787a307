-- The frames of the sample, all on connection 0.
use Rattle.std.specs.Prelude.{ℕ, List, [], ◌∷◌, ◌++◌, length}
use Rattle.ad_bytes.specs.Numbers.{be_bytes}
use Rattle.ad_frames.specs.Kinds.{token_byte, message_byte, steps_byte, run_byte, bytes_of_steps}
use Rattle.ad_ids.specs.SidValue.{SidValue}
use Rattle.ad_ids.specs.Sid.{sid_bytes}
use Rattle.ad_gen.specs.Messages.{modify_message, search_message}

-- a kind, the connection, the length of the body, and the body
unfoldable pub frame : ℕ → List ℕ → List ℕ
frame kind body = (kind ∷ 0 ∷ 0 ∷ []) ++ (be_bytes 4 (length body) ++ body)

-- how a token of version 1 begins: the privileges, the user, who is the owner too, and the primary group
unfoldable pub identity : ℕ → SidValue → SidValue → List ℕ
identity privileges user primary = (1 ∷ privileges ∷ []) ++ (sid_bytes user ++ (sid_bytes user ++ sid_bytes primary))

abbrev pub well_known : ℕ → ℕ → SidValue
well_known authority number = record { authority = authority; sub_authorities = number ∷ [] }

-- S-1-5-32-544
abbrev pub builtin_administrators : SidValue
builtin_administrators = record { authority = 5; sub_authorities = 32 ∷ 544 ∷ [] }

-- S-1-5-21-1-2-3 and the number
abbrev pub in_domain : ℕ → SidValue
in_domain number = record { authority = 5; sub_authorities = 21 ∷ 1 ∷ 2 ∷ 3 ∷ number ∷ [] }

-- the administrators themselves, with the privilege to read and write SACLs, and no groups
unfoldable pub administrator : List ℕ
administrator = identity 1 builtin_administrators builtin_administrators ++ (0 ∷ 0 ∷ [])

-- the second user of the first unit, in the domain's users, with two groups: authenticated (S-1-5-11) and everyone
-- (S-1-1-0)
unfoldable pub user_token : List ℕ
user_token =
    identity 0 (in_domain 1002) (in_domain 513)
    ++ ((0 ∷ 2 ∷ []) ++ (sid_bytes (well_known 5 11) ++ sid_bytes (well_known 1 0)))

-- the most steps that a frame asks for
abbrev pub all_steps : List ℕ
all_steps = be_bytes bytes_of_steps 1000000

-- An administrator widens the domain's list, propagates it in up to 1,000,000 steps, has the protected objects
-- protected, and propagates again.
unfoldable pub changing : List ℕ
changing =
    frame token_byte administrator
    ++ (frame message_byte modify_message
    ++ (frame steps_byte all_steps
    ++ (frame run_byte []
    ++ frame steps_byte all_steps)))

-- Then a user searches for users.
unfoldable pub whole : List ℕ
whole = changing ++ (frame token_byte user_token ++ frame message_byte search_message)

-- It is the same for each size.
abbrev pub frames : ℕ → List ℕ
frames n = whole
