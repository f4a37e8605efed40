-- A list is cut where line feeds stand: lines without one, each closed by one, are the first lines of what they begin.
use Prim.Native.Nat.{ℕ, ◌≤◌, ◌<◌}
use mathlib.Core.Path.{◌≡◌, refl}
use mathlib.Core.Bool.{false}
use mathlib.Core.List.{List, [], ◌∷◌, ◌++◌, map, append_assoc, append-nil}
use native.Mathlib.Omega.{arith}
use lib.ListN.{length, length-append}
use lib.Dec.{eqb}
use lib.Seq.{take_all, take_at}
use borrow.Author.Tests.{ne_eqb}
use Rattle.laws.specs.Lists.{All, any, is_empty}
use Rattle.laws.proofs.Bools.{or_neither}
use Rattle.month_names.specs.Names.{line_feed, most_names, in_front, lines, name_of, names_of}
use Rattle.month_names.specs.Lines.{Unbroken, joined}
use Rattle.month_names.proofs.Pushing.{any_behind}

pub line_first : (line rest : List ℕ) → Unbroken line → lines (line ++ (line_feed ∷ rest)) ≡ line ∷ lines rest
unfolding lines in_front any
line_first [] rest u = refl
line_first (b ∷ bs) rest u =
    let parts = or_neither (eqb b line_feed) (any (λ c. eqb c line_feed) bs) u in
    rw (parts.0, line_first bs rest parts.1)

pub line_last : (line : List ℕ) → Unbroken line → is_empty line ≡ false → lines line ≡ line ∷ []
unfolding lines in_front any is_empty
line_last [] u some = absurd (let z : ◌≡◌ {A = ℕ} 0 1 = cc in omega arith)
line_last (b ∷ []) u some = let parts = or_neither (eqb b line_feed) false u in rw parts.0
line_last (b ∷ (c ∷ cs)) u some =
    let parts = or_neither (eqb b line_feed) (any (λ d. eqb d line_feed) (c ∷ cs)) u in
    rw (parts.0, line_last (c ∷ cs) parts.1 refl)

-- a byte more that is no line feed
pub unbroken_behind : (line : List ℕ) (b : ℕ) → Unbroken line → (b ≡ line_feed → ⊥) → Unbroken (line ++ (b ∷ []))
unbroken_behind line b u h = rw (any_behind (λ (c : ℕ). eqb c line_feed) line b, u, ne_eqb b line_feed h)

-- two parts of a line
pub unbroken_joined : (a b : List ℕ) → Unbroken a → Unbroken b → Unbroken (a ++ b)
unfolding any
unbroken_joined [] b u v = v
unbroken_joined (x ∷ a) b u v = let parts = or_neither (eqb x line_feed) (any (λ c. eqb c line_feed) a) u in rw (parts.0, unbroken_joined a b parts.1 v)

pub joined_first : (ls : List (List ℕ)) (rest : List ℕ) → All Unbroken ls → lines (joined ls ++ rest) ≡ ls ++ lines rest
unfolding joined
joined_first [] rest u = refl
joined_first (l ∷ ls) rest u = rw (append_assoc l (line_feed ∷ joined ls) rest, line_first l (joined ls ++ rest) u.0, joined_first ls rest u.1)

-- the names of lines that are closed: theirs, and those behind them
pub names_of_closed : (ls : List (List ℕ)) → All Unbroken ls → length ls ≤ most_names → names_of (joined ls) ≡ map name_of ls
unfolding names_of lines
names_of_closed ls u few = rw (← append-nil (joined ls), joined_first ls [] u, append-nil ls, take_all most_names ls few)

-- a last line that is not closed
pub names_with_last : (ls : List (List ℕ)) (line : List ℕ) → All Unbroken ls → Unbroken line → is_empty line ≡ false → length ls < most_names
    → names_of (joined ls ++ line) ≡ map name_of (ls ++ (line ∷ []))
unfolding names_of
names_with_last ls line u v some few =
    let short : length (ls ++ (line ∷ [])) ≤ most_names = omega (arith, length-append ls (line ∷ [])) in
    rw (joined_first ls line u, line_last line v some, take_all most_names (ls ++ (line ∷ [])) short)

-- behind a thousand nothing counts
pub names_of_full : (ls : List (List ℕ)) (rest : List ℕ) → All Unbroken ls → length ls ≡ most_names → names_of (joined ls ++ rest) ≡ map name_of ls
unfolding names_of
names_of_full ls rest u full = rw (joined_first ls rest u, take_at ls (lines rest) most_names full)

pub all_behind : {A : Type 0} (P : A → Type 0) (l : List A) (x : A) → All P l → P x → All P (l ++ (x ∷ []))
all_behind P [] x h p = (p, tt)
all_behind P (y ∷ l) x h p = (h.0, all_behind P l x h.1 p)
