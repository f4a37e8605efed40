-- Putting figures together does not look at the order, whatever is put together by whatever operation: so no closing figure changes
-- where the list is reordered. An answer behind the list is one more.
use Prim.Native.Nat.{ℕ, suc, ◌+◌, max}
use mathlib.Core.Path.{◌≡◌, refl, ◌∙◌, ap}
use mathlib.Core.List.{List, [], ◌∷◌, ◌++◌}
use native.Mathlib.Omega.{arith}
use lib.ListN.{length}
use Rattle.month_figures.specs.Closing.{Taken, count_in, refused_in, cheapest_in, gap_in, gather, closing, Reordered, none, keep, swap, further}

-- two in front may change places
abbrev pub OrderFree : (ℕ → ℕ → ℕ) → Type 0
OrderFree op = (a b c : ℕ) → op a (op b c) ≡ op b (op a c)

pub sum_order_free : OrderFree ◌+◌
sum_order_free a b c = omega arith

pub greatest_order_free : OrderFree max
greatest_order_free a b c = omega arith

-- the one law
pub gather_reordered : (op : ℕ → ℕ → ℕ) → OrderFree op → (f : Taken → ℕ) {l l' : List Taken} → Reordered l l' → gather op f l ≡ gather op f l'
unfolding gather
gather_reordered op free f none = refl
gather_reordered op free f (keep x r) = ap (op (f x)) (gather_reordered op free f r)
gather_reordered op free f (swap x y l) = free (f x) (f y) (gather op f l)
gather_reordered op free f (further r s) = gather_reordered op free f r ∙ gather_reordered op free f s

pub length_reordered : {l l' : List Taken} → Reordered l l' → length l ≡ length l'
length_reordered none = refl
length_reordered (keep x r) = ap suc (length_reordered r)
length_reordered (swap x y l) = refl
length_reordered (further r s) = length_reordered r ∙ length_reordered s

-- "reordering that list changes none"
pub closing_of_reordered : {l l' : List Taken} → Reordered l l' → closing l ≡ closing l'
unfolding closing
closing_of_reordered r =
    rw (
      length_reordered r,
      gather_reordered ◌+◌ sum_order_free (count_in 0) r,
      gather_reordered ◌+◌ sum_order_free (count_in 1) r,
      gather_reordered ◌+◌ sum_order_free (count_in 2) r,
      gather_reordered ◌+◌ sum_order_free (count_in 3) r,
      gather_reordered ◌+◌ sum_order_free (count_in 4) r,
      gather_reordered ◌+◌ sum_order_free (count_in 5) r,
      gather_reordered ◌+◌ sum_order_free refused_in r,
      gather_reordered ◌+◌ sum_order_free cheapest_in r,
      gather_reordered max greatest_order_free gap_in r,
    )

-- ---- one more, behind the others

-- from 0 an operation begins with its operand, and it may be put behind
pub record Gathers (op : ℕ → ℕ → ℕ) : Type 0 where
  pub from_nothing : (a : ℕ) → op a 0 ≡ op 0 a
  pub together : (a b c : ℕ) → op a (op b c) ≡ op (op a b) c

pub sum_gathers : Gathers ◌+◌
sum_gathers = record { from_nothing = λ a. omega arith; together = λ a b c. omega arith }

pub greatest_gathers : Gathers max
greatest_gathers = record { from_nothing = λ a. omega arith; together = λ a b c. omega arith }

pub gather_behind : (op : ℕ → ℕ → ℕ) → Gathers op → (f : Taken → ℕ) (l : List Taken) (x : Taken) → gather op f (l ++ (x ∷ [])) ≡ op (gather op f l) (f x)
unfolding gather
gather_behind op G f [] x = G.from_nothing (f x)
gather_behind op G f (y ∷ l) x = ap (op (f y)) (gather_behind op G f l x) ∙ G.together (f y) (gather op f l) (f x)
