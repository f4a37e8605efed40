-- Byte strings written as one hexadecimal number, first byte first.
use Rattle.std.specs.Prelude.{ℕ, zero, suc, ◌/◌, ◌%◌, ◌^◌, List, [], ◌∷◌}

-- the n bytes of v
unfoldable pub hex : (n v : ℕ) → List ℕ
hex zero v = []
hex (suc n) v = (v / 256 ^ n % 256) ∷ hex n v

-- n bytes 0
unfoldable pub zeros : (n : ℕ) → List ℕ
zeros zero = []
zeros (suc n) = 0 ∷ zeros n
