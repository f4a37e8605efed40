-- Lists cut into names, computed.
use Prim.Native.Nat.{ℕ}
use mathlib.Core.Path.{◌≡◌, refl}
use mathlib.Core.List.{List, [], ◌∷◌}
use Rattle.laws.specs.Lists.{any, is_empty}
use Rattle.month_names.specs.Names.{Name, named, unusable, in_front, lines, usable, name_of, names_of}

unfoldable pub cut : List ℕ → List Name
unfolding names_of name_of usable lines in_front any is_empty
cut l = names_of l

pub no_list : cut [] ≡ []
unfolding cut
no_list = refl

pub one_line_feed : cut (10 ∷ []) ≡ unusable ∷ []
unfolding cut
one_line_feed = refl

-- a name, an empty line, a name with a zero byte, a carriage return, and a last name without its line end
pub five_lines : cut (97 ∷ 98 ∷ 10 ∷ 10 ∷ 97 ∷ 0 ∷ 10 ∷ 13 ∷ 10 ∷ 99 ∷ []) ≡ named (97 ∷ 98 ∷ []) ∷ unusable ∷ unusable ∷ named (13 ∷ []) ∷ named (99 ∷ []) ∷ []
unfolding cut
five_lines = refl

pub closed_last : cut (97 ∷ 10 ∷ []) ≡ named (97 ∷ []) ∷ []
unfolding cut
closed_last = refl
