-- The bytes of the sample's frames encode them.
use Rattle.std.proofs.Common.{◌≡◌, ◌∙◌, ℕ, suc, ◌<◌, ◌≤◌, ◌^◌, inl, List, [], ◌∷◌, ◌++◌, length, refl, sym, ap}
use Rattle.std.proofs.Common.{append_assoc, arith}
use Rattle.std.proofs.lemmas.List.{append-nil}
use Rattle.ad_bytes.specs.Numbers.{be_bytes, le_bytes}
use Rattle.ad_ids.specs.Sid.{IsSid, sid_bytes}
use Rattle.ad_ids.specs.Token.{SpellsToken}
use Rattle.ad_frames.specs.declared.frame.FrameBody.{FrameBody}
use Rattle.ad_frames.specs.declared.frame.FrameBody.TheVariants as body
use Rattle.ad_frames.specs.Limits.{max_body, max_connections, max_steps, max_frames}
use Rattle.ad_frames.specs.Frame.{kind_byte, SpellsContent, SpellsFrame}
use Rattle.ad_frames.specs.Frames.{Whole, with_first, frames_within, frames_of}
use Rattle.ad_frames.proofs.FrameCodec.{frame_reader}
use Rattle.ad_frames.proofs.FramesLaws.{one_first}
use Rattle.ad_gen.specs.Frames.{frame, identity, well_known, builtin_administrators, in_domain, administrator}
use Rattle.ad_gen.specs.Frames.{user_token, changing, whole, frames}
use Rattle.ad_gen.specs.Messages.{modify_message, search_message}
use Rattle.cmd_store_serve.specs.SampleFrames.{of_body, administrator_token, second_user_token, sample_frames}
use Rattle.cmd_store_serve.proofs.Messages.{modify_few, search_few}

-- ---- one frame

kind_small : (b : FrameBody) → kind_byte b < 256
kind_small (body.Token t) = omega arith
kind_small (body.Message m) = omega arith
kind_small (body.Steps n) = omega arith
kind_small body.Run = omega arith

below_width : (n : ℕ) → n ≤ max_body → n < 256 ^ 4
unfolding max_body
below_width n few = omega (arith, few)

frame_spelled : (b : FrameBody) (content : List ℕ) → length content ≤ max_body → SpellsContent b content
    → SpellsFrame (of_body b) (frame (kind_byte b) content)
unfolding frame max_connections be_bytes
frame_spelled b content few spelled = record {
  content = content;
  few = few;
  connection = omega arith;
  spelled = spelled;
  text_is = record {
    front = kind_byte b ∷ [];
    behind = 0 ∷ 0 ∷ (be_bytes 4 (length content) ++ content);
    parts = refl;
    spelled = (kind_small b, refl);
    follows = record {
      front = 0 ∷ 0 ∷ [];
      behind = be_bytes 4 (length content) ++ content;
      parts = refl;
      spelled = (omega arith, refl);
      follows = record {
        front = be_bytes 4 (length content);
        behind = content;
        parts = refl;
        spelled = (below_width (length content) few, refl);
        follows = (refl, refl);
      };
    };
  };
}

-- a frame before others is read
one_read : (b : FrameBody) (content rest : List ℕ) (n : ℕ) → length content ≤ max_body → SpellsContent b content
    → frames_within (suc n) (frame (kind_byte b) content ++ rest) ≡ with_first (of_body b) (frames_within n rest)
one_read b content rest n few spelled =
    let text = frame (kind_byte b) content in
    one_first n (text ++ rest) rest (of_body b)
    (frame_reader.again (of_body b) text rest (frame_spelled b content few spelled))

-- ---- the tokens

builtin_is : IsSid builtin_administrators
builtin_is = record {
  authority = omega arith;
  at_least_one = omega arith;
  at_most_15 = omega arith;
  sub_authorities
      = (omega arith, (omega arith, tt));
}

well_known_is : (authority number : ℕ) → authority < 6 → number < 12 → IsSid (well_known authority number)
well_known_is authority number low small = record {
  authority = omega (arith, low);
  at_least_one
      = omega arith;
  at_most_15 = omega arith;
  sub_authorities = (omega (arith, small), tt);
}

domain_is : (number : ℕ) → number < 2000 → IsSid (in_domain number)
domain_is number small = record {
  authority = omega arith;
  at_least_one = omega arith;
  at_most_15 = omega arith;
  sub_authorities = (omega arith, (omega arith, (omega arith, (omega arith, (omega (arith, small), tt)))));
}

administrator_spelled : SpellsToken administrator_token administrator
unfolding administrator identity be_bytes
administrator_spelled = (
  record {
    privileges = omega arith;
    text_is = record {
      front = 1 ∷ [];
      behind = 1 ∷ (sid_bytes builtin_administrators
          ++ (sid_bytes builtin_administrators ++ sid_bytes builtin_administrators)) ++ (0 ∷ 0 ∷ []);
      parts = refl;
      spelled = (omega arith, refl);
      follows = record {
        front = 1 ∷ [];
        behind = (sid_bytes builtin_administrators
            ++ (sid_bytes builtin_administrators ++ sid_bytes builtin_administrators)) ++ (0 ∷ 0 ∷ []);
        parts = refl;
        spelled = (omega arith, refl);
        follows = record {
          front = sid_bytes builtin_administrators;
          behind = (sid_bytes builtin_administrators ++ sid_bytes builtin_administrators) ++ (0 ∷ 0 ∷ []);
          parts = append_assoc (sid_bytes builtin_administrators)
              (sid_bytes builtin_administrators ++ sid_bytes builtin_administrators) (0 ∷ 0 ∷ []);
          spelled = (builtin_is, refl);
          follows = record {
            front = sid_bytes builtin_administrators;
            behind = sid_bytes builtin_administrators ++ (0 ∷ 0 ∷ []);
            parts = append_assoc (sid_bytes builtin_administrators) (sid_bytes builtin_administrators) (0 ∷ 0 ∷ []);
            spelled = (builtin_is, refl);
            follows = record {
              front = sid_bytes builtin_administrators;
              behind = 0 ∷ 0 ∷ [];
              parts = refl;
              spelled = (builtin_is, refl);
              follows = inl (
                refl,
                record {
                  groups = record {
                    count = omega arith;
                    text_is
                        = record {
                          front = 0 ∷ 0 ∷ [];
                          behind = [];
                          parts = refl;
                          spelled = (omega arith, refl);
                          follows
                              = refl;
                        };
                  };
                  deny_only = refl;
                  restricting = refl;
                },
              );
            };
          };
        };
      };
    };
  },
  refl,
)

groups_bytes : List ℕ
groups_bytes = (0 ∷ 2 ∷ []) ++ (sid_bytes (well_known 5 11) ++ sid_bytes (well_known 1 0))

user_spelled : SpellsToken second_user_token user_token
unfolding user_token identity be_bytes groups_bytes
user_spelled = (
  record {
    privileges = omega arith;
    text_is = record {
      front = 1 ∷ [];
      behind = 0 ∷ (sid_bytes (in_domain 1002) ++ (sid_bytes (in_domain 1002) ++ sid_bytes (in_domain 513)))
          ++ groups_bytes;
      parts = refl;
      spelled = (omega arith, refl);
      follows = record {
        front = 0 ∷ [];
        behind = (sid_bytes (in_domain 1002) ++ (sid_bytes (in_domain 1002) ++ sid_bytes (in_domain 513)))
            ++ groups_bytes;
        parts = refl;
        spelled = (omega arith, refl);
        follows = record {
          front = sid_bytes (in_domain 1002);
          behind = (sid_bytes (in_domain 1002) ++ sid_bytes (in_domain 513)) ++ groups_bytes;
          parts = append_assoc (sid_bytes (in_domain 1002)) (sid_bytes (in_domain 1002) ++ sid_bytes (in_domain 513))
              groups_bytes;
          spelled = (domain_is 1002 (omega arith), refl);
          follows = record {
            front = sid_bytes (in_domain 1002);
            behind = sid_bytes (in_domain 513) ++ groups_bytes;
            parts = append_assoc (sid_bytes (in_domain 1002)) (sid_bytes (in_domain 513)) groups_bytes;
            spelled = (domain_is 1002 (omega arith), refl);
            follows = record {
              front = sid_bytes (in_domain 513);
              behind = groups_bytes;
              parts = refl;
              spelled = (domain_is 513 (omega arith), refl);
              follows = inl (
                refl,
                record {
                  groups = record {
                    count = omega arith;
                    text_is = record {
                      front = 0 ∷ 2 ∷ [];
                      behind = sid_bytes (well_known 5 11) ++ sid_bytes (well_known 1 0);
                      parts = refl;
                      spelled = (omega arith, refl);
                      follows = record {
                        front = sid_bytes (well_known 5 11);
                        behind = sid_bytes (well_known 1 0);
                        parts = refl;
                        spelled = (well_known_is 5 11 (omega arith) (omega arith), refl);
                        follows = record {
                          front = sid_bytes (well_known 1 0);
                          behind = [];
                          parts = sym (append-nil (sid_bytes (well_known 1 0)));
                          spelled = (well_known_is 1 0 (omega arith) (omega arith), refl);
                          follows = refl;
                        };
                      };
                    };
                  };
                  deny_only = refl;
                  restricting = refl;
                },
              );
            };
          };
        };
      };
    };
  },
  refl,
)

administrator_length : length administrator ≡ 52
unfolding administrator identity sid_bytes be_bytes le_bytes
administrator_length = refl

user_length : length user_token ≡ 112
unfolding user_token identity sid_bytes be_bytes le_bytes
user_length = refl

administrator_few : length administrator ≤ max_body
unfolding max_body
administrator_few = omega (arith, administrator_length)

user_few : length user_token ≤ max_body
unfolding max_body
user_few = omega (arith, user_length)

-- ---- the steps

steps_few : length (be_bytes 4 1000000) ≤ max_body
unfolding max_body be_bytes
steps_few = omega arith

steps_spelled : SpellsContent (body.Steps 1000000) (be_bytes 4 1000000)
unfolding max_steps
steps_spelled = (omega arith, omega arith, (omega arith, refl))

none_few : length {A = ℕ} [] ≤ max_body
none_few = omega arith

-- ---- all of them

million : max_frames ≡ suc (suc (suc (suc (suc (suc (suc 999993))))))
unfolding max_frames
million = refl

parted : (a b c d e f g : List ℕ) → (a ++ (b ++ (c ++ (d ++ e)))) ++ (f ++ g) ≡ a
    ++ (b ++ (c ++ (d ++ (e ++ (f ++ (g ++ []))))))
parted a b c d e f g =
    append_assoc a (b ++ (c ++ (d ++ e))) (f ++ g)
    ∙ ap (λ (l : List ℕ). a ++ l) (append_assoc b (c ++ (d ++ e)) (f ++ g)
    ∙ ap (λ (l : List ℕ). b ++ l) (append_assoc c (d ++ e) (f ++ g)
    ∙ ap (λ (l : List ℕ). c ++ l) (append_assoc d e (f ++ g)
    ∙ ap (λ (l : List ℕ). d ++ (e ++ (f ++ l))) (sym (append-nil g)))))

all_parts : whole ≡ frame 1 administrator ++ (frame 2 modify_message ++ (frame 3 (be_bytes 4 1000000) ++ (frame 4 []
    ++ (frame 3 (be_bytes 4 1000000) ++ (frame 1 user_token ++ (frame 2 search_message ++ []))))))
unfolding whole changing
all_parts = parted (frame 1 administrator) (frame 2 modify_message) (frame 3 (be_bytes 4 1000000)) (frame 4 [])
    (frame 3 (be_bytes 4 1000000)) (frame 1 user_token) (frame 2 search_message)

none_left : (n : ℕ) → frames_within (suc n) [] ≡ record { frames = []; end = Whole }
unfolding frames_within
none_left n = refl

pub frames_are : (n : ℕ) → frames_of (frames n) ≡ record { frames = sample_frames; end = Whole }
unfolding frames_of sample_frames
frames_are n =
    ap (frames_within max_frames) all_parts
    ∙ ap (λ (k : ℕ). frames_within k (frame 1 administrator
    ++ (frame 2 modify_message ++ (frame 3 (be_bytes 4 1000000) ++ (frame 4 []
    ++ (frame 3 (be_bytes 4 1000000) ++ (frame 1 user_token ++ (frame 2 search_message ++ [])))))))) million
    ∙ one_read (body.Token administrator_token) administrator _ _ administrator_few administrator_spelled
    ∙ ap (with_first (of_body (body.Token administrator_token)))
    (one_read (body.Message modify_message) modify_message _ _ modify_few refl
    ∙ ap (with_first (of_body (body.Message modify_message)))
    (one_read (body.Steps 1000000) (be_bytes 4 1000000) _ _ steps_few steps_spelled
    ∙ ap (with_first (of_body (body.Steps 1000000))) (one_read body.Run [] _ _ none_few refl
    ∙ ap (with_first (of_body body.Run)) (one_read (body.Steps 1000000) (be_bytes 4 1000000) _ _ steps_few steps_spelled
    ∙ ap (with_first (of_body (body.Steps 1000000)))
    (one_read (body.Token second_user_token) user_token _ _ user_few user_spelled
    ∙ ap (with_first (of_body (body.Token second_user_token)))
    (one_read (body.Message search_message) search_message _ _ search_few refl
    ∙ ap (with_first (of_body (body.Message search_message))) (none_left 999992)))))))
