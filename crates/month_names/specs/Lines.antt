-- What is known of a line as its bytes come: how many there are, whether one is 0, and the bytes themselves as far as a name may go.
use Rattle.std.specs.Prelude.{ℕ, ◌≤◌, ◌<◌, ◌≡◌, Bool, true, false, List, [], ◌∷◌, ◌++◌, length, take, drop, eqb, Option, Some, None, IfSome}
use Rattle.laws.specs.Lists.{any}
use Rattle.month_names.specs.Names.{line_feed, most_name_bytes, usable, named, unusable, name_of}
use Rattle.month_names.specs.declared.Line.{Line}

-- no line feed is in the line
abbrev pub Unbroken : List ℕ → Type 0
Unbroken line = any (λ b. eqb b line_feed) line ≡ false

-- the lines, each closed by a line feed
unfoldable pub joined : List (List ℕ) → List ℕ
joined [] = []
joined (l ∷ ls) = l ++ (line_feed ∷ joined ls)

-- the line has these bytes, and holds them unless they are too many for a name
pub record LineOf (bytes : List ℕ) (x : Line) : Type 0 where
  pub few : length bytes ≤ most_name_bytes → x.length ≡ length bytes
  pub many : most_name_bytes < length bytes → x.length ≡ 256
  pub zero : x.zero ≡ any (λ b. eqb b 0) bytes
  pub kept : length bytes ≤ most_name_bytes → take (length bytes) x.bytes ≡ bytes

-- a byte more
pub record Pushed (line : Line) (byte : ℕ) (x : Line) : Type 0 where
  pub more : (bytes : List ℕ) → LineOf bytes line → LineOf (bytes ++ (byte ∷ [])) x

-- what is behind the bytes taken of a part: the line feed that closed the line, and the rest from this place on; or nothing
abbrev pub behind : (part : List ℕ) (closed : Option ℕ) → List ℕ
behind part (Some at) = line_feed ∷ drop at part
behind part None = []

-- the bytes of a part up to the first line feed, or to its end where there is none
pub record Scanned (part : List ℕ) (line x : Line) (closed : Option ℕ) : Type 0 where
  pub within : IfSome closed (λ at. at ≤ length part)
  pub taken : List ℕ
  pub unbroken : Unbroken taken
  pub parted : part ≡ taken ++ behind part closed
  pub more : (bytes : List ℕ) → LineOf bytes line → LineOf (bytes ++ taken) x

-- no byte yet
pub record Started (x : Line) : Type 0 where
  pub none_yet : LineOf [] x

-- whether it is a name
pub record Usable (x : Line) (answer : Bool) : Type 0 where
  pub short : answer ≡ true → x.length ≤ most_name_bytes
  pub same : (bytes : List ℕ) → LineOf bytes x → answer ≡ usable bytes

-- no file can be opened by the line
pub record Unusable (x : Line) : Type 0 where
  pub none : (bytes : List ℕ) → LineOf bytes x → name_of bytes ≡ unusable

-- a file can be opened by the line, under this name
pub record NameIs (x : Line) (name : List ℕ) : Type 0 where
  pub same : (bytes : List ℕ) → LineOf bytes x → name_of bytes ≡ named name
