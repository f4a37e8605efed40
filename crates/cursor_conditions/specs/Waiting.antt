-- Connectives that wait for the conditions behind them, between the first byte of the whole condition and the part that comes next.
use Rattle.std.specs.Prelude.{ℕ, ◌+◌, ◌*◌, ◌≤◌, ◌≡◌, Bool, true, false, not, cond, ◌&&◌, List, [], ◌∷◌, eqb, leb, ltb, Option, MatchOption}
use Rattle.cursor.specs.Places.{BehindAll}
use Rattle.cursor.specs.Told.{ConditionTo}

-- 57 to 59
unfoldable pub is_connective : (b : ℕ) → Bool
is_connective b = leb 0x57 b && ltb b 0x5a

-- 57, or 58 and 59 with the value of a first part that decides
pub data Wait : Type 0 where
  turn : Wait
  join : (decides : Bool) → Wait

-- its first byte, from 57 on
unfoldable pub code_of : Wait → ℕ
code_of turn = 0
code_of (join false) = 1
code_of (join true) = 2

-- the word of those that wait, the last one lowest
unfoldable pub coded : List Wait → ℕ
coded [] = 1
coded (x ∷ l) = coded l * 4 + code_of x

-- behind a first part with the value c the second one decides: of 58 where it holds, of 59 where it does not
unfoldable pub goes_on : (o : ℕ) (c : Bool) → Bool
goes_on o c = cond (eqb o 1) c (not c)

module _ (bytes words state : List ℕ) (p : ℕ) where
  -- what the condition at p comes to by those that wait, where the part behind them has the value c and ends at q
  unfoldable pub Comes : List Wait → (c : Bool) (q : ℕ) → Type 0
  Comes [] c q = ConditionTo bytes words state p c q
  Comes (turn ∷ l) c q = Comes l (not c) q
  Comes (join d ∷ l) c q = (c ≡ d → (r : ℕ) → BehindAll bytes q 1 r → Comes l d r) × (c ≡ not d → (e : Bool) (r : ℕ) → ConditionTo bytes words state q e r → Comes l e r)

  -- the part at q comes next
  pub record Due (w q : ℕ) : Type 0 where
    pub waits : List Wait
    pub word : w ≡ coded waits
    pub due : (c : Bool) (r : ℕ) → ConditionTo bytes words state q c r → Comes waits c r

  -- the part that ends at q has the value c
  pub record Told (w : ℕ) (c : Bool) (q : ℕ) : Type 0 where
    pub waits : List Wait
    pub word : w ≡ coded waits
    pub comes : Comes waits c q

-- those that wait are settled as far as the part's value c goes: what the whole comes to, or another part comes next
pub record Settled (bytes : List ℕ) (w : ℕ) (c : Bool) (q w' : ℕ) (r : Option Bool) (q' : ℕ) : Type 0 where
  pub further : q ≤ q'
  pub tells : (words state : List ℕ) (p : ℕ) → Told bytes words state p w c q → MatchOption r (Due bytes words state p w' q') (λ b. ConditionTo bytes words state p b q')
