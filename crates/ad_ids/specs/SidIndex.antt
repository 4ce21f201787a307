-- The index of a list of identifiers: for each of its buckets, and for each identifier, where the last one before
-- stands.
use Rattle.std.specs.Prelude.{◌≡◌, ℕ, zero, suc, ◌-◌, ◌*◌, ◌/◌, ◌%◌, ◌<◌, ◌==◌, if◌then◌else◌, List, [], ◌++◌, fold}
use Rattle.std.specs.Prelude.{length, get_or, Option, Some, None}
use Rattle.std.specs.Hash as fed
use Rattle.std.specs.Hash.DefaultHasher as sip
use Rattle.ad_ids.specs.declared.sid_index.SidIndex.{SidIndex}
use Rattle.ad_ids.specs.SidValue.{SidValue}

-- the bucket of the identifiers that end with the number
abbrev pub bucket_of_word : ℕ → ℕ
bucket_of_word word = ((word * 1640531527) % 4294967296) / 4194304

-- the bucket by the last number alone: identifiers of one domain differ there
unfoldable pub bucket_by_end : SidValue → ℕ
bucket_by_end s = bucket_of_word (get_or s.sub_authorities (length s.sub_authorities - 1) 0)

-- the bucket by all of the identifier, under a key
unfoldable pub bucket_by_all : ℕ → SidValue → ℕ
bucket_by_all key s =
    (sip.finish (fold sip.write (fold sip.write sip.initial (fed.u64 key))
    (fed.u64 s.authority ++ fed.slice fed.u32 s.sub_authorities))) % 1024

-- The bucket of an identifier: by its end, and in a list of which many have one end by all of it.
abbrev pub bucket_of : Option ℕ → SidValue → ℕ
bucket_of None s = bucket_by_end s
bucket_of (Some key) s = bucket_by_all key s

abbrev pub nobody : SidValue
nobody = record { authority = 0; sub_authorities = [] }

-- the bucket of the identifier at this place
abbrev pub bucket_at : (SidValue → ℕ) → List SidValue → ℕ → ℕ
bucket_at by sids place = by (get_or sids place nobody)

-- one more than the place of the last of the first n identifiers that falls into the bucket, or 0
abbrev pub latest : (SidValue → ℕ) → ℕ → List SidValue → ℕ → ℕ
latest by bucket sids zero = 0
latest by bucket sids (suc n) = if bucket_at by sids n == bucket then suc n else latest by bucket sids n

-- the index of the first n identifiers
pub record IsIndexUpTo (by : SidValue → ℕ) (n : ℕ) (heads before : List ℕ) (sids : List SidValue) : Type 0 where
  pub buckets : length heads ≡ 1024
  pub places : length before ≡ n
  pub heads_are : (bucket : ℕ) → bucket < 1024 → get_or heads bucket 0 ≡ latest by bucket sids n
  pub before_are : (place : ℕ) → place < n → get_or before place 0 ≡ latest by (bucket_at by sids place) sids place

abbrev pub IsIndexOf : Option ℕ → List ℕ → List ℕ → List SidValue → Type 0
IsIndexOf key heads before sids = IsIndexUpTo (bucket_of key) (length sids) heads before sids

-- a list that has an index has its own
abbrev pub IsIndexIf : Option SidIndex → List SidValue → Type 0
IsIndexIf None sids = Unit {0}
IsIndexIf (Some index) sids = IsIndexOf index.key index.heads.items index.before.items sids
