-- A rule of a table, and one of bytes, proved at all places by one computation.
use Prim.Native.Nat.{ℕ, zero, suc, ◌+◌, ◌<◌}
use mathlib.Core.Path.{◌≡◌, refl, sym, ap, ◌∙◌}
use mathlib.Core.Bool.{Bool, true, false, cond}
use mathlib.Core.List.{List, [], ◌∷◌}
use native.Mathlib.Omega.{arith}
use lib.ListN.{length, get_or}
use lib.Dec.{eqb}
use borrow.Author.Tests.{ne_eqb}

-- f at i and at the numbers behind it, n in all
abbrev pub tab : {A : Type 0} → (ℕ → A) → (i n : ℕ) → List A
tab f i zero = []
tab f i (suc n) = f i ∷ tab f (suc i) n

tab_at : {A : Type 0} (f : ℕ → A) (x : A) (i n k : ℕ) → k < n → get_or (tab f i n) k x ≡ f (i + k)
tab_at f x i zero k h = absurd (omega arith)
tab_at f x i (suc n) zero h = let q : i ≡ i + 0 = omega arith in ap f q
tab_at f x i (suc n) (suc k) h = let q : suc i + k ≡ i + suc k = omega arith in tab_at f x (suc i) n k (omega arith) ∙ ap f q

-- a table that is computed to hold f at 0, 1, 2 and so on holds f k at each of its places k
pub table_rule : {A : Type 0} (f : ℕ → A) (x : A) (table : List A) → table ≡ tab f 0 (length table) → (k : ℕ) → k < length table → get_or table k x ≡ f k
table_rule f x table computed k h =
    let q : 0 + k ≡ k = omega arith in
    ap (λ l. get_or l k x) computed ∙ tab_at f x 0 (length table) k h ∙ ap f q

-- the values at all bytes
abbrev pub at_bytes : {A : Type 0} → (ℕ → A) → List A
at_bytes f = tab f 0 256

byte_at : {A : Type 0} (f : ℕ → A) (x : A) (b : ℕ) → b < 256 → get_or (at_bytes f) b x ≡ f b
byte_at f x b h = let q : 0 + b ≡ b = omega arith in tab_at f x 0 256 b h ∙ ap f q

-- f has the values of the rule at the bytes that pass a test, as computed at all bytes
pub agree : {A : Type 0} (p : ℕ → Bool) (f rule : ℕ → A) → at_bytes (λ b. cond (p b) (f b) (rule b)) ≡ at_bytes rule → (b : ℕ) → b < 256 → p b ≡ true → f b ≡ rule b
agree p f rule computed b h q =
    let e = sym (byte_at (λ b. cond (p b) (f b) (rule b)) (f 0) b h) ∙ ap (λ l. get_or l b (f 0)) computed ∙ byte_at rule (f 0) b h in
    rw q at e

-- ---- the bytes that no arm of a match names

-- T, and b is none of these
abbrev pub NoneOf : Type 0 → List ℕ → ℕ → Type 0
NoneOf T [] b = T
NoneOf T (k ∷ ks) b = NoneOf (T × (b ≡ k → ⊥)) ks b

abbrev pub is_none : List ℕ → ℕ → Bool
is_none [] b = true
is_none (k ∷ ks) b = cond (eqb b k) false (is_none ks b)

none_of : (T : Type 0) (ks : List ℕ) (b : ℕ) → NoneOf T ks b → T × (is_none ks b ≡ true)
none_of T [] b h = (h, refl)
none_of T (k ∷ ks) b h = let q = none_of (T × (b ≡ k → ⊥)) ks b h in (q.0.0, rw (ne_eqb b k q.0.1) q.1)

pub unnamed : {A : Type 0} (ks : List ℕ) (f rule : ℕ → A) → at_bytes (λ b. cond (is_none ks b) (f b) (rule b)) ≡ at_bytes rule → (b : ℕ) → b < 256 → NoneOf (Unit {0}) ks b → f b ≡ rule b
unnamed ks f rule computed b h none = agree (is_none ks) f rule computed b h (none_of (Unit {0}) ks b none).1
