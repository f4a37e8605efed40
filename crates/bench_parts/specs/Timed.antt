-- What the timed calls answer: an evaluator's answer as one number; how many of a row of children a layer keeps.
use Rattle.std.specs.Prelude.{Ok, Err, ℕ, zero, suc, ◌+◌, ◌-◌, ◌*◌, ◌/◌, ◌%◌, ◌^◌, ◌≤◌, ◌<◌, Bool, cond, ◌&&◌, List, [], ◌∷◌, ◌++◌, leb, ltb, eqb, ℤ, negsuc, length, replicate}
use Rattle.std.proofs.Math.Option.{none}
use Rattle.model.specs.declared.Cost.{Cost}
use Rattle.model.specs.Costs.{free, hours}
use Rattle.model.specs.Numbers.{most_model_bytes, most_variables}
use Rattle.model.specs.Meaning.{State}
use Rattle.eval_sets.specs.Answers.{NumberValue}
use Rattle.eval_sets.specs.declared.answers.ConditionValue.{ConditionValue}
use Rattle.eval_sets.specs.declared.answers.ConditionValue.TheVariants as C
use Rattle.steps.specs.InBytes.{refusal_in, Outlined, system_in}
use Rattle.steps.specs.Follow.{costs_in}
use Rattle.search.specs.Search.{Round, insert, fresh_round}
use Rattle.beam_order.specs.Slots.{layer_words}
use Rattle.beam.specs.Nodes.{node_of, header_of}

-- the value, or −2^63 for trouble
abbrev pub number_code : NumberValue → ℤ
number_code (Ok z) = z.value
number_code (Err t) = negsuc (2 ^ 63 - 1)

-- 1 where it holds, 0 where not, 2 for trouble
abbrev pub condition_code : ConditionValue → ℕ
condition_code (C.Holds b n) = cond b 1 0
condition_code (C.Trouble t) = 2

-- the next of a row of numbers below 2^32
unfoldable pub next_of : ℕ → ℕ
next_of x = (x % 2 ^ 32 * 1664525 + 1013904223) % 2 ^ 32

-- the child by x in two parts: a header of g, h and their sum as f; a state of two words, then zeros
unfoldable pub child_header : ℕ → List ℕ
child_header x =
    let y = next_of x in
    let g = y / 1048576 in
    let h = y / 65536 % 64 in
    header_of (hours g) h (hours (g + h)) 0

unfoldable pub child_state : ℕ → List ℕ
child_state x = (x / 65536 % 4096) ∷ (next_of x / 256 % 64) ∷ replicate (most_variables - 2) 0

abbrev pub child_of : ℕ → List ℕ
child_of x = child_header x ++ child_state x

-- a round with nothing kept and no plan
unfoldable pub empty_round : (bytes : List ℕ) → Round State Cost
empty_round bytes = fresh_round (costs_in bytes) (system_in bytes) (record { best = none; low = free; expansions = 0 })

-- the round after n children, from x on, have been offered by rule 5
unfoldable pub offered : (bytes : List ℕ) (w n x : ℕ) → Round State Cost → Round State Cost
offered bytes w zero x r = r
offered bytes w (suc n) x r = offered bytes w n (next_of x) (insert (costs_in bytes) (system_in bytes) w (node_of bytes (λ _. []) (child_of x)) r)

-- how many are kept of so many children, from the number `seed` on
unfoldable pub kept_after : (bytes : List ℕ) (w children seed : ℕ) → ℕ
kept_after bytes w children seed = length (offered bytes w children seed (empty_round bytes)).kept

-- words that hold a layer of a width from 1 to 4,096, and a model's outline
pub record Offerable (bytes outline : List ℕ) (w : ℕ) (layer : List ℕ) : Type 0 where
  pub outlined : Outlined bytes outline
  pub some : 0 < w
  pub narrow : w ≤ 4096
  pub long : layer_words * w ≤ length layer

-- the same of the layer, as a test
unfoldable pub layer_fits : (w words : ℕ) → Bool
layer_fits w words = ltb 0 w && leb w 4096 && leb (layer_words * w) words

-- how many are kept where the model is read and the layer fits, else 0
unfoldable pub insertions : (bytes : List ℕ) (words w children seed : ℕ) → ℕ
insertions bytes words w children seed = cond (leb (length bytes) most_model_bytes && layer_fits w words && eqb (refusal_in bytes) 0) (kept_after bytes w children seed) 0
