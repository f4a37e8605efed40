-- What reading promises of start values: the start of a set has members among its objects only, and these are at most 64.
-- By what readers give: a property of all that a reader reads, kept where one reader stands behind another.
use Prim.Native.Nat.{ℕ, zero, suc, ◌+◌, ◌^◌, ◌≤◌, ◌<◌}
use mathlib.Core.Path.{◌≡◌}
use mathlib.Core.Bool.{Bool, true, false, cond}
use mathlib.Core.List.{List, [], ◌∷◌, reverse_aux}
use native.Mathlib.Omega.{arith}
use lib.ListN.{drop}
use lib.Dec.{leb, ltb, eqb}
use lib.Signed.{mag}
use borrow.Author.Tests.{ltb-true}
use Rattle.laws.specs.Lists.{All}
use Rattle.laws.proofs.Bools.{and_both}
use Rattle.model.specs.Numbers.{off_limits, most_objects, most_variables}
use Rattle.model.specs.Readers.{read, Reader, ◌>>=◌, ◌>>◌, give, refuse, require, one, many}
use Rattle.model.specs.Syntax.{a_set, Variable, Model}
use Rattle.model.specs.Expressions.{among, is_count, objects_and_members}
use Rattle.model.specs.Commands.{set_variable, element_variable, number_variable, variable_of, variables, model}
use Rattle.model.proofs.Outcomes.{Anything}
use Rattle.model.proofs.Chains.{chain, given, required}

-- whatever the reader reads has P
abbrev Gives : {A : Type 0} → (A → Type 0) → Reader A → Type 0
Gives {A} P r = (bytes : List ℕ) (a : A) (n : ℕ) → r bytes ≡ read a n → P a

module _ {A : Type 0} (P : A → Type 0) where
  give_gives : (a : A) → P a → Gives P (give a)
  give_gives a p bytes b n e = rw (given a bytes b n e).0 at p

  refuse_gives : (t : ℕ) → Gives P (refuse t)
  unfolding refuse
  refuse_gives t bytes a n e = let z : ◌≡◌ {A = ℕ} 0 1 = cc in absurd (omega arith)

  cond_gives : (b : Bool) {r s : Reader A} → Gives P r → Gives P s → Gives P (cond b r s)
  cond_gives true f g = f
  cond_gives false f g = g

module _ {A B : Type 0} (P : A → Type 0) (Q : B → Type 0) where
  then_gives : {r : Reader A} {next : A → Reader B} → Gives P r → ((a : A) → P a → Gives Q (next a)) → Gives Q (r >>= next)
  unfolding ◌>>=◌
  then_gives {r} {next} f g bytes b n e =
      let c = chain (r bytes) next bytes b n e in
      g c.first (f bytes c.first c.used c.reads_first) (drop c.used bytes) b c.left c.reads_next

module _ {B : Type 0} (Q : B → Type 0) where
  -- behind a reader of which nothing is asked
  behind_gives : {A : Type 0} (r : Reader A) {next : A → Reader B} → ((a : A) → Gives Q (next a)) → Gives Q (r >>= next)
  behind_gives r g = then_gives Anything Q (λ bytes a n e. tt) (λ a _. g a)

  next_gives : {A : Type 0} (r : Reader A) {next : Reader B} → Gives Q next → Gives Q (r >> next)
  unfolding ◌>>=◌ ◌>>◌
  next_gives r g = behind_gives r (λ _. g)

  -- behind a test
  tested_gives : (b : Bool) (t : ℕ) (a : B) → (b ≡ true → Q a) → Gives Q (require b t >> give a)
  unfolding ◌>>=◌ ◌>>◌
  tested_gives b t a f = then_gives (λ _. b ≡ true) Q (λ bytes x n e. (required b t bytes x n e).0) (λ _ p. give_gives Q a (f p))

one_gives : {A B : Type 0} (P : A → Type 0) (Q : B → Type 0) {r : Reader A} (make : A → B) → Gives P r → ((a : A) → P a → Q (make a)) → Gives Q (one r make)
unfolding one
one_gives P Q make f g = then_gives P Q f (λ a p. give_gives Q (make a) (g a p))

all_onto : {A : Type 0} (P : A → Type 0) (l k : List A) → All P l → All P k → All P (reverse_aux l k)
all_onto P [] k a b = b
all_onto P (x ∷ l) k a b = all_onto P l (x ∷ k) a.1 (a.0, b)

-- what each command of a loop gives, all of them do
module _ {A B : Type 0} (P : A → Type 0) (Q : B → Type 0) (due : ℕ → Bool) (head : ℕ → List B → Reader A) (body : A → Reader B)
    (heads : (b : ℕ) (done : List B) → Gives P (head b done)) (bodies : (a : A) → P a → Gives Q (body a)) where
  many_gives : (room : ℕ) (done : List B) → All Q done → Gives (All Q) (many due head body room done)
  unfolding many
  many_gives zero done d =
      behind_gives (All Q) _ (λ b. cond_gives (All Q) (due b) (next_gives (All Q) _ (refuse_gives (All Q) off_limits)) (give_gives (All Q) _ (all_onto Q done [] d tt)))
  many_gives (suc room) done d =
      behind_gives (All Q) _ (λ b. cond_gives (All Q) (due b)
      (next_gives (All Q) _ (then_gives P (All Q) (heads b done) (λ a p. then_gives Q (All Q) (bodies a p) (λ x q. many_gives room (x ∷ done) (q, d)))))
      (give_gives (All Q) _ (all_onto Q done [] d tt)))

-- ---- starts

-- members of a set of n objects
pub record Members (n s : ℕ) : Type 0 where
  pub few_objects : n ≤ most_objects
  pub among_them : s < 2 ^ n

-- a variable that is a set starts as one
pub record Starts (x : Variable) : Type 0 where
  pub set_start : x.kind ≡ a_set → Members x.objects (mag x.start)

objects_and_members_give : Gives (λ p. Members p.0 p.1) objects_and_members
unfolding objects_and_members is_count among
objects_and_members_give =
    behind_gives _ _ (λ n. behind_gives _ _ (λ s. tested_gives _ _ off_limits (n, s) (λ e.
    let (count, below) = and_both (is_count n) (ltb s (2 ^ n)) e in
    let (_, few) = and_both (leb 1 n) (ltb n (1 + most_objects)) count in
    record { few_objects = omega (arith, ltb-true n (1 + most_objects) few); among_them = ltb-true s (2 ^ n) below })))

variable_of_gives : (b : ℕ) → Gives Starts (variable_of b)
unfolding variable_of set_variable element_variable number_variable
variable_of_gives b =
    cond_gives Starts (eqb b 0x02) (one_gives (λ p. Members p.0 p.1) Starts _ objects_and_members_give (λ p fits. record { set_start = λ _. fits }))
    (cond_gives Starts (eqb b 0x03)
    (behind_gives Starts _ (λ n. behind_gives Starts _ (λ p. behind_gives Starts _ (λ s. tested_gives Starts _ off_limits _ (λ _. record { set_start = λ e. let z : ◌≡◌ {A = ℕ} 0 1 = cc in absurd (omega arith) })))))
    (behind_gives Starts _ (λ p. behind_gives Starts _ (λ z. tested_gives Starts _ off_limits _ (λ _. record { set_start = λ e. let z : ◌≡◌ {A = ℕ} 0 1 = cc in absurd (omega arith) })))))

variables_give : Gives (All Starts) variables
unfolding variables
variables_give = many_gives Starts Starts (among 0x02 3) (λ b done. variable_of b) give (λ b done. variable_of_gives b) (λ x s. give_gives Starts x s) most_variables [] tt

abbrev WellStarted : Model → Type 0
WellStarted m = All Starts m.variables

model_gives : Gives WellStarted model
unfolding model
model_gives =
    behind_gives WellStarted _ (λ r. then_gives (All Starts) WellStarted variables_give (λ vs starts. behind_gives WellStarted _ (λ ts. behind_gives WellStarted _ (λ transitions.
    behind_gives WellStarted _ (λ base_cases. behind_gives WellStarted _ (λ constraints. behind_gives WellStarted _ (λ bounds. next_gives WellStarted _ (next_gives WellStarted _ (give_gives WellStarted _ starts)))))))))

-- in a model that is read every set starts as one
pub model_starts : (bytes : List ℕ) {m : Model} {n : ℕ} → model bytes ≡ read m n → All Starts m.variables
model_starts bytes {m} {n} e = model_gives bytes m n e
