-- A line with a byte more: its length, whether a 0 was met, and what is kept of it.
use Prim.Native.Nat.{ℕ, suc, ◌+◌, ◌≤◌, ◌<◌}
use mathlib.Core.Path.{◌≡◌, refl, sym}
use mathlib.Core.Logic.{◌⊎◌, inl, inr}
use mathlib.Core.Bool.{Bool, true, false, not, ◌||◌, false≢true}
use mathlib.Core.List.{List, [], ◌∷◌, ◌++◌}
use native.Mathlib.Omega.{arith}
use lib.ListN.{length, set, take, length-append}
use lib.Seq.{take-suc-set}
use lib.Dec.{leb, eqb}
use borrow.Author.Tests.{leb-true, leb-false, le-leb, lt-leb, eq-eqb, ne_eqb}
use Rattle.laws.specs.Lists.{any, is_empty}
use Rattle.month_names.specs.Names.{most_name_bytes, named, unusable, usable, name_of}
use Rattle.month_names.specs.Lines.{LineOf, Pushed, Started, Usable, Unusable, NameIs}
use Rattle.month_names.specs.declared.Line.{Line}

within_or_beyond : (n most : ℕ) → (n ≤ most) ⊎ (most < n)
within_or_beyond n most = pick (leb n most) refl
  where
    pick : (b : Bool) → leb n most ≡ b → (n ≤ most) ⊎ (most < n)
    pick true e = inl (leb-true n most e)
    pick false e = inr (leb-false n most e)

or_true : (b : Bool) → true ≡ (b || true)
or_true true = refl
or_true false = refl

or_false : (b : Bool) → b ≡ (b || false)
or_false true = refl
or_false false = refl

pub zero_now : (met : Bool) (byte : ℕ) → byte ≡ 0 → true ≡ (met || eqb byte 0)
zero_now met byte e = rw (eq-eqb byte 0 e) (or_true met)

pub zero_before : (met : Bool) (byte : ℕ) → (byte ≡ 0 → ⊥) → met ≡ (met || eqb byte 0)
zero_before met byte e = rw (ne_eqb byte 0 e) (or_false met)

pub any_behind : {A : Type 0} (p : A → Bool) (l : List A) (x : A) → any p (l ++ (x ∷ [])) ≡ (any p l || p x)
unfolding any
any_behind p [] x = sym (or_false (p x))
any_behind p (y ∷ l) x = rw (any_behind p l x) (or_assoc (p y) (any p l) (p x))
  where
    or_assoc : (a b c : Bool) → (a || (b || c)) ≡ ((a || b) || c)
    or_assoc true b c = refl
    or_assoc false b c = refl

length_behind : {A : Type 0} (l : List A) (x : A) → length (l ++ (x ∷ [])) ≡ suc (length l)
length_behind l x = omega (arith, length-append l (x ∷ []))

pub line_started : (bytes : List ℕ) → Started (record { bytes = bytes; length = 0; zero = false })
unfolding any
line_started bytes = record { none_yet = record { few = λ h. refl; many = λ h. absurd (omega arith); zero = refl; kept = λ h. refl } }

-- as long as the length is that of a name, it is the line's
known_length : {bytes : List ℕ} {x : Line} → LineOf bytes x → x.length < most_name_bytes → x.length ≡ length bytes
known_length {bytes} {x = x} i h = elim (within_or_beyond (length bytes) most_name_bytes) [ inl l ↦ i.few l | inr m ↦ absurd (omega (arith, i.many m)) ]

full_length : {bytes : List ℕ} {x : Line} → LineOf bytes x → most_name_bytes ≤ x.length → most_name_bytes ≤ length bytes
full_length {bytes} {x = x} i h = elim (within_or_beyond (length bytes) most_name_bytes) [ inl l ↦ omega (arith, i.few l) | inr m ↦ omega arith ]

module _ (line : Line) (byte : ℕ) where
  zero_behind : {bytes : List ℕ} → LineOf bytes line → (line.zero || eqb byte 0) ≡ any (λ b. eqb b 0) (bytes ++ (byte ∷ []))
  zero_behind {bytes} i = rw (any_behind (λ (b : ℕ). eqb b 0) bytes byte, i.zero)

  pub pushed_inside : length line.bytes ≡ most_name_bytes → line.length < most_name_bytes
      → Pushed line byte (record { bytes = set line.bytes line.length byte; length = line.length + 1; zero = line.zero || eqb byte 0 })
  pushed_inside room h =
      record {
        more =
            λ bytes i.
            let n : line.length ≡ length bytes = known_length i h in
            let inside : length bytes < length line.bytes = omega arith in
            record {
              few = λ _. omega (arith, length_behind bytes byte);
              many = λ m. absurd (omega (arith, length_behind bytes byte));
              zero = zero_behind i;
              kept = λ _. rw (n, length_behind bytes byte, take-suc-set line.bytes (length bytes) byte inside, i.kept (omega arith));
            };
      }

  pub pushed_beyond : most_name_bytes ≤ line.length → Pushed line byte (record { bytes = line.bytes; length = 256; zero = line.zero || eqb byte 0 })
  pushed_beyond h =
      record {
        more =
            λ bytes i.
            let n : most_name_bytes ≤ length bytes = full_length i h in
            record {
              few = λ f. absurd (omega (arith, length_behind bytes byte));
              many = λ _. refl;
              zero = zero_behind i;
              kept = λ f. absurd (omega (arith, length_behind bytes byte));
            };
      }

-- ---- whether a line is a name

empty_unusable : (bytes : List ℕ) → length bytes ≡ 0 → usable bytes ≡ false
unfolding usable is_empty
empty_unusable [] e = refl
empty_unusable (b ∷ bs) e = absurd (omega arith)

some_there : (bytes : List ℕ) → 0 < length bytes → is_empty bytes ≡ false
unfolding is_empty
some_there [] h = absurd (omega arith)
some_there (b ∷ bs) h = refl

module _ (x : Line) where
  pub unusable_else : (1 ≤ x.length → x.length ≤ most_name_bytes → ⊥) → Usable x false
  unfolding usable
  unusable_else outside =
      record {
        short = λ t. absurd (false≢true t);
        same =
            λ bytes i.
            elim (within_or_beyond (length bytes) most_name_bytes) [
              | inl l ↦
                  elim (within_or_beyond (length bytes) 0) [
                    | inl none ↦ sym (empty_unusable bytes (omega arith))
                    | inr some ↦ absurd (outside (omega (arith, i.few l)) (omega (arith, i.few l)))
                  ]
              | inr long ↦ rw (lt-leb (length bytes) most_name_bytes long, some_there bytes (omega arith))
            ];
      }

  pub usable_between : 1 ≤ x.length → x.length ≤ most_name_bytes → Usable x (not x.zero)
  unfolding usable
  usable_between some h =
      record {
        short = λ t. h;
        same =
            λ bytes i.
            let n : x.length ≡ length bytes =
            elim (within_or_beyond (length bytes) most_name_bytes) [ inl l ↦ i.few l | inr m ↦ absurd (omega (arith, i.many m)) ] in
            rw (le-leb (length bytes) most_name_bytes (omega arith), some_there bytes (omega arith), i.zero);
      }

-- ---- the name that it is

pub no_name : {x : Line} → Usable x false → Unusable x
unfolding name_of
no_name U = record { none = λ bytes i. rw (← U.same bytes i) }

pub this_name : {x : Line} → Usable x true → NameIs x (take x.length x.bytes)
unfolding name_of
this_name {x} U =
    record {
      same = λ bytes i.
          let short : x.length ≤ most_name_bytes = U.short refl in
          let n : x.length ≡ length bytes =
          elim (within_or_beyond (length bytes) most_name_bytes) [ inl l ↦ i.few l | inr m ↦ absurd (omega (arith, i.many m)) ] in
          rw (← U.same bytes i, n, i.kept (omega arith));
    }
