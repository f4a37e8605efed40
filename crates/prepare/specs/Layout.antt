-- Which words behind the outline's own hold what is prepared.
use Rattle.std.specs.Prelude.{ℕ, ◌+◌, ◌*◌}
use Rattle.model.specs.Numbers.{most_variables, most_tables, most_transitions}
use Rattle.outline.specs.Outline.{outline_words}

-- of each variable two words: the bits of its word that are compared, and those that are hashed
abbrev pub masks_from : ℕ
masks_from = outline_words

-- of each table three: where its first entry's number begins, the bytes of a row, the bytes of all its entries
abbrev pub places_from : ℕ
places_from = masks_from + 2 * most_variables

-- of each transition a guard, four words
abbrev pub guards_from : ℕ
guards_from = places_from + 3 * most_tables

-- of each conjunct of the constraints a guard, and how many conjuncts there are
abbrev pub most_conjuncts : ℕ
most_conjuncts = 256

abbrev pub conjuncts_from : ℕ
conjuncts_from = guards_from + 4 * most_transitions

abbrev pub conjunct_count_at : ℕ
conjunct_count_at = conjuncts_from + 4 * most_conjuncts

abbrev pub prepared_words : ℕ
prepared_words = conjunct_count_at + 1
