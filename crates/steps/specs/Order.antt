-- The order of two states on their words, as the code compares them.
use Rattle.std.specs.Prelude.{ℕ, ◌+◌, ◌%◌, Bool, cond, List, get_or, eqb, leb}
use Rattle.model.specs.Numbers.{range_size, most_objects}
use Rattle.outline.specs.Outline.{kinds_from, preferences_from}

-- what is compared of a word, by the byte of its variable's kind: a number's and an element's lowest bits, a set's all
unfoldable pub compared_word : (kind word : ℕ) → ℕ
compared_word k w = cond (eqb k 0) (w % range_size) (cond (leb k most_objects) (w % most_objects) w)

-- by the number of the preference
unfoldable pub no_worse_by : (preference t s : ℕ) → Bool
no_worse_by p t s = cond (eqb p 0) (eqb t s) (cond (eqb p 1) (leb t s) (leb s t))

-- variable v of t is no worse than that of s
unfoldable pub no_worse_at : (outline : List ℕ) (v : ℕ) (t s : List ℕ) → Bool
no_worse_at words v t s =
    no_worse_by (get_or words (preferences_from + v) 0) (compared_word (get_or words (kinds_from + v) 0) (get_or t v 0)) (compared_word (get_or words (kinds_from + v) 0) (get_or s v 0))
