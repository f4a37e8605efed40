-- The words of a slot, its header and its state; those of a child in two parts; and the words of each slot after one slot was written.
use Prim.Native.Nat.{ℕ, zero, suc, ◌+◌, ◌*◌, ◌-◌, ◌≤◌, ◌<◌}
use mathlib.Core.Path.{◌≡◌, sym, ap, ◌∙◌}
use mathlib.Core.Logic.{◌≢◌}
use mathlib.Core.List.{List, [], ◌∷◌, ◌++◌, append_assoc}
use native.Mathlib.Omega.{arith}
use native.Mathlib.Decide.{dec_lt}
use lib.ListN.{length, take, drop, length-drop, length-append, take-append-drop}
use lib.Seq.{length-take-le, take_at, take-nil, drop-nil, drop_at, take-take, drop-drop, take-append-le, drop-append-le}
use Rattle.model.specs.Numbers.{most_variables}
use Rattle.beam_order.specs.Slots.{header_words, state_at, slot_words, words_in}
use Rattle.beam.specs.Nodes.{state_words, ChildWords}
use Rattle.beam.specs.Parts.{written}

-- ---- the words of a slot

pub take_of_drop : (a m : ℕ) (l : List ℕ) → take m (drop a l) ≡ drop a (take (a + m) l)
take_of_drop zero m l = ap (λ (n : ℕ). take n l) (let z : m ≡ 0 + m = omega arith in z)
take_of_drop (suc a) m [] = take-nil m ∙ sym (ap (drop (suc a)) (take-nil (suc a + m)) ∙ drop-nil (suc a))
take_of_drop (suc a) m (x ∷ l) =
    let z : suc a + m ≡ suc (a + m) = omega arith in
    rw z (take_of_drop a m l)

-- they are those of the first words
pub slot_first : (words words' : List ℕ) (e i : ℕ) → take e words' ≡ take e words → i * slot_words + slot_words ≤ e → words_in words' i ≡ words_in words i
unfolding words_in
slot_first words words' e i t h =
    take_of_drop (i * slot_words) slot_words words'
    ∙ ap (drop (i * slot_words)) (sym (take-take (i * slot_words + slot_words) e words' h) ∙ ap (take (i * slot_words + slot_words)) t ∙ take-take (i * slot_words + slot_words) e words h)
    ∙ sym (take_of_drop (i * slot_words) slot_words words)

pub words_front : (words : List ℕ) (e s : ℕ) → s * slot_words + slot_words ≤ e → words_in (take e words) s ≡ words_in words s
words_front words e s h = slot_first words (take e words) e s (take-take e e words (omega arith)) h

-- the header's and the state's
pub header_in : (words : List ℕ) (s : ℕ) → take header_words (words_in words s) ≡ take header_words (drop (s * slot_words) words)
unfolding words_in
header_in words s = take-take header_words slot_words (drop (s * slot_words) words) (omega arith)

pub state_in_lem : (words : List ℕ) (s : ℕ) → state_words (words_in words s) ≡ take most_variables (drop (s * slot_words + state_at) words)
unfolding words_in
state_in_lem words s = sym (take_of_drop state_at most_variables (drop (s * slot_words) words)) ∙ ap (take most_variables) (drop-drop state_at (s * slot_words) words)

-- ---- a child in two parts

module _ (header state : List ℕ) (both : ChildWords header state) where
  pub child_long : length (header ++ state) ≡ slot_words
  child_long = omega (arith, length-append header state, both.header_long, both.state_long)

  pub child_state_lem : state_words (header ++ state) ≡ state
  child_state_lem = drop_at header state state_at both.header_long

-- ---- one slot written

-- the words of a slot are as many as a slot has
pub words_long : (slots : List ℕ) (s : ℕ) → s * slot_words + slot_words ≤ length slots → length (words_in slots s) ≡ slot_words
unfolding words_in
words_long slots s h = length-take-le slot_words (drop (s * slot_words) slots) (omega (arith, length-drop (s * slot_words) slots))

module _ (slots : List ℕ) (s : ℕ) (ws : List ℕ) (room : s * slot_words + slot_words ≤ length slots) (full : length ws ≡ slot_words) where
  front : length (take (s * slot_words) slots) ≡ s * slot_words
  front = length-take-le (s * slot_words) slots (omega arith)

  behind : List ℕ
  behind = drop slot_words (drop (s * slot_words) slots)

  pub written_same : words_in (written slots s ws) s ≡ ws
  unfolding words_in written
  written_same =
      ap (take slot_words) (drop_at (take (s * slot_words) slots) (ws ++ drop slot_words (drop (s * slot_words) slots)) (s * slot_words) front)
      ∙ take_at ws (drop slot_words (drop (s * slot_words) slots)) slot_words full

  -- before slot s nothing changed
  before_it : (j : ℕ) → j < s → (l : List ℕ) → take slot_words (drop (j * slot_words) (take (s * slot_words) slots ++ l)) ≡ take slot_words (drop (j * slot_words) (take (s * slot_words) slots))
  before_it j h l =
      ap (take slot_words) (drop-append-le (j * slot_words) (take (s * slot_words) slots) l (omega (arith, front)))
      ∙ take-append-le slot_words (drop (j * slot_words) (take (s * slot_words) slots)) l (omega (arith, front, length-drop (j * slot_words) (take (s * slot_words) slots)))

  -- and behind it neither
  behind_it : drop (s * slot_words + slot_words) (written slots s ws) ≡ drop (s * slot_words + slot_words) slots
  unfolding written
  behind_it =
      sym (drop-drop slot_words (s * slot_words) (take (s * slot_words) slots ++ (ws ++ drop slot_words (drop (s * slot_words) slots))))
      ∙ ap (drop slot_words) (drop_at (take (s * slot_words) slots) (ws ++ drop slot_words (drop (s * slot_words) slots)) (s * slot_words) front)
      ∙ drop_at ws (drop slot_words (drop (s * slot_words) slots)) slot_words full
      ∙ drop-drop slot_words (s * slot_words) slots

  later : (j : ℕ) → s < j → (l : List ℕ) → drop (j * slot_words) l ≡ drop (j * slot_words - (s * slot_words + slot_words)) (drop (s * slot_words + slot_words) l)
  later j h l =
      let z : j * slot_words ≡ (s * slot_words + slot_words) + (j * slot_words - (s * slot_words + slot_words)) = omega arith in
      ap (λ (i : ℕ). drop i l) z ∙ sym (drop-drop (j * slot_words - (s * slot_words + slot_words)) (s * slot_words + slot_words) l)

  pub written_other : (j : ℕ) → j ≢ s → words_in (written slots s ws) j ≡ words_in slots j
  written_other j ne = by_order (dec_lt j s)
    where
      by_order : Dec (j < s) → words_in (written slots s ws) j ≡ words_in slots j
      by_order (yes h) =
          unfold words_in written in
          before_it j h (ws ++ drop slot_words (drop (s * slot_words) slots)) ∙ sym (before_it j h (drop (s * slot_words) slots))
          ∙ ap (λ (l : List ℕ). take slot_words (drop (j * slot_words) l)) (take-append-drop (s * slot_words) slots)
      by_order (no h) =
          unfold words_in in
          ap (take slot_words) (later j (above h) (written slots s ws) ∙ ap (drop (j * slot_words - (s * slot_words + slot_words))) behind_it ∙ sym (later j (above h) slots))
        where
          above : (j < s → ⊥) → s < j
          above h = elim (dec_lt s j) [ yes k ↦ k | no k ↦ absurd (ne (omega arith)) ]

-- a header written, then the state behind it, is the slot written
pub two_parts_lem : (slots header state : List ℕ) (a : ℕ) → a ≤ length slots → length header ≡ header_words
    → take (a + state_at) (take a slots ++ (header ++ drop header_words (drop a slots))) ++ (state ++ drop most_variables (drop (a + state_at) (take a slots ++ (header ++ drop header_words (drop a slots)))))
    ≡ take a slots ++ ((header ++ state) ++ drop slot_words (drop a slots))
two_parts_lem slots header state a room l =
    let front : length (take a slots ++ header) ≡ a + state_at = omega (arith, length-append (take a slots) header, length-take-le a slots room) in
    let rest : List ℕ = drop header_words (drop a slots) in
    let first : take (a + state_at) ((take a slots ++ header) ++ rest) ≡ take a slots ++ header = take_at (take a slots ++ header) rest (a + state_at) front in
    let last : drop (a + state_at) ((take a slots ++ header) ++ rest) ≡ rest = drop_at (take a slots ++ header) rest (a + state_at) front in
    let behind : drop most_variables rest ≡ drop slot_words (drop a slots) = drop-drop most_variables header_words (drop a slots) in
    rw (← (append_assoc (take a slots) header rest), first, last, behind, append_assoc (take a slots) header (state ++ drop slot_words (drop a slots)), append_assoc header state (drop slot_words (drop a slots)))
