-- An index of slots by buckets. Place s below w holds the link of slot s, place w + b the head of bucket b. A link is a slot's
-- number plus one, or 0: it leads from a head to the highest slot of its bucket, and from a slot to the next lower one.
use Rattle.std.specs.Prelude.{ℕ, zero, suc, ◌-◌, ◌≤◌, ◌<◌, ◌≡◌, ◌≢◌, Bool, true, false, cond, ◌&&◌, List, ltb, eqb, length, get_or}

-- the greatest member below i, plus one; 0 where there is none
unfoldable pub highest_below : (member : ℕ → Bool) (i : ℕ) → ℕ
highest_below m zero = 0
highest_below m (suc i) = cond (m i) (suc i) (highest_below m i)

-- what the link at a place leads down from
unfoldable pub level_at : (w i : ℕ) → ℕ
level_at w i = cond (ltb i w) i w

-- the slots that are used, and the bucket of each
module _ (w : ℕ) (used : ℕ → Bool) (bucket : ℕ → ℕ) where
  unfoldable pub in_bucket : (b s : ℕ) → Bool
  in_bucket b s = used s && eqb (bucket s) b

  -- the bucket of the link at a place
  unfoldable pub bucket_at : (i : ℕ) → ℕ
  bucket_at i = cond (ltb i w) (bucket i) (i - w)

  -- a head, or the link of a used slot
  abbrev pub Live : (i : ℕ) → Type 0
  Live i = i < w → used i ≡ true

  -- the links are those of the used slots in their buckets
  pub record Index (links : List ℕ) : Type 0 where
    pub linked : (i : ℕ) → i < length links → Live i → get_or links i 0 ≡ highest_below (in_bucket (bucket_at i)) (level_at w i)

  -- a link of bucket b
  pub record LinkOf (b i : ℕ) : Type 0 where
    pub live : Live i
    pub own : bucket_at i ≡ b

-- every link leads down
abbrev pub Falling : (w : ℕ) (links : List ℕ) → Type 0
Falling w links = (i : ℕ) → i < length links → get_or links i 0 ≤ level_at w i

-- r is the place of the first link of bucket b, from the head on, that is at most y
pub record LowLink (links : List ℕ) (w b y r : ℕ) : Type 0 where
  pub inside : r < length links
  pub low : get_or links r 0 ≤ y
  pub high : y ≤ level_at w r
  pub link : (used : ℕ → Bool) (bucket : ℕ → ℕ) → Index w used bucket links → LinkOf w used bucket b r

-- used and bucket changed at x only
pub record SameBut (x : ℕ) (used used' : ℕ → Bool) (bucket bucket' : ℕ → ℕ) : Type 0 where
  pub same_use : (s : ℕ) → s ≢ x → used' s ≡ used s
  pub same_bucket : (s : ℕ) → s ≢ x → bucket' s ≡ bucket s

-- slot x came into bucket b
pub record Added (links links' : List ℕ) (w b x : ℕ) : Type 0 where
  pub falling : (used : ℕ → Bool) (bucket : ℕ → ℕ) → Index w used bucket links → used x ≡ false → Falling w links'
  pub index : (used used' : ℕ → Bool) (bucket bucket' : ℕ → ℕ) → Index w used bucket links → SameBut x used used' bucket bucket'
      → used x ≡ false → used' x ≡ true → bucket' x ≡ b → Index w used' bucket' links'

-- slot x went out of bucket b
pub record Removed (links links' : List ℕ) (w b x : ℕ) : Type 0 where
  pub falling : Falling w links'
  pub index : (used used' : ℕ → Bool) (bucket bucket' : ℕ → ℕ) → Index w used bucket links → SameBut x used used' bucket bucket'
      → used x ≡ true → bucket x ≡ b → used' x ≡ false → Index w used' bucket' links'

-- without used slots every link is 0
pub record Cleared (links : List ℕ) : Type 0 where
  pub zeros : (i : ℕ) → get_or links i 0 ≡ 0

-- at link q of a walk through bucket b: the slots from q on do not pass, and q leads to a slot of the bucket
pub record Walked (w b q : ℕ) (used : ℕ → Bool) (bucket : ℕ → ℕ) (passes : ℕ → Bool) : Type 0 where
  pub seen : (s : ℕ) → q ≤ s → s < w → in_bucket w used bucket b s ≡ true → passes s ≡ false
  pub here : 0 < q → in_bucket w used bucket b (q - 1) ≡ true

-- q is a link to a slot of bucket b that passes, or 0 where none does
pub record Found (links : List ℕ) (w b : ℕ) (passes : ℕ → Bool) (q : ℕ) : Type 0 where
  pub within : q ≤ w
  pub none : (used : ℕ → Bool) (bucket : ℕ → ℕ) → Index w used bucket links → q ≡ 0 → (s : ℕ) → s < w → in_bucket w used bucket b s ≡ true → passes s ≡ false
  pub one : (used : ℕ → Bool) (bucket : ℕ → ℕ) → Index w used bucket links → 0 < q → (in_bucket w used bucket b (q - 1) ≡ true) × (passes (q - 1) ≡ true)
