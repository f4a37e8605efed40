-- Laws of lists that grow at their end, and of a part written into words.
use Prim.Native.Nat.{ℕ, zero, suc, ◌+◌, ◌-◌, ◌<◌, ◌≤◌}
use mathlib.Core.Path.{◌≡◌, refl, sym, ap, ◌∙◌}
use mathlib.Core.Logic.{◌⊎◌, inl, inr}
use mathlib.Core.List.{List, [], ◌∷◌, ◌++◌, map}
use mathlib.Core.Option.{some, none}
use native.Mathlib.Omega.{arith}
use lib.ListN.{length, get_or, get_elem?, take, drop, length-append, length-take, length-drop, get_or-append}
use lib.Seq.{length-take-le, get_or-take, get_or-drop, get_or-append-add}
use Rattle.laws.specs.Lists.{All}
use Rattle.laws.proofs.Lists.{found_below}
use Rattle.read_declarations.specs.Positions.{Each}

module _ {A : Type 0} where
  none_some : {x : A} → none ≡ some x → ⊥
  none_some e = let z : ◌≡◌ {A = ℕ} 0 1 = cc in omega arith

  pub inside_some : (l : List A) (k : ℕ) (d : A) → k < length l → get_elem? l k ≡ some (get_or l k d)
  inside_some [] k d h = let z : ⊥ = omega arith in absurd z
  inside_some (a ∷ l) zero d h = refl
  inside_some (a ∷ l) (suc k) d h = inside_some l k d (omega arith)

  -- an item of the list, or the one behind it
  more_cases : (l : List A) (x : A) (k : ℕ) {y : A} → get_elem? (l ++ (x ∷ [])) k ≡ some y → (get_elem? l k ≡ some y) ⊎ ((k ≡ length l) × (x ≡ y))
  more_cases [] x zero e = inr (refl, cc)
  more_cases [] x (suc k) e = absurd (none_some e)
  more_cases (a ∷ l) x zero e = inl e
  more_cases (a ∷ l) x (suc k) {y} e = go (more_cases l x k e)
    where
      go : (get_elem? l k ≡ some y) ⊎ ((k ≡ length l) × (x ≡ y)) → (get_elem? l k ≡ some y) ⊎ ((suc k ≡ suc (length l)) × (x ≡ y))
      go (inl p) = inl p
      go (inr p) = inr (ap suc p.0, p.1)

  pub each_none : (P : ℕ → A → Type 0) → Each P []
  each_none P k x e = absurd (none_some e)

  pub each_more : (P Q : ℕ → A → Type 0) (l : List A) (x : A) → Each P l → ((k : ℕ) (y : A) → k < length l → P k y → Q k y) → Q (length l) x → Each Q (l ++ (x ∷ []))
  each_more P Q l x p f q k y e = go (more_cases l x k e)
    where
      go : (get_elem? l k ≡ some y) ⊎ ((k ≡ length l) × (x ≡ y)) → Q k y
      go (inl h) = f k y (found_below l k h) (p k y h)
      go (inr h) = rw (h.0, ← h.1) q

  pub each_map : (P Q : ℕ → A → Type 0) (l : List A) → Each P l → ((k : ℕ) (y : A) → k < length l → P k y → Q k y) → Each Q l
  each_map P Q l p f k y e = f k y (found_below l k e) (p k y e)

  pub each_all : (P : A → Type 0) (l : List A) → Each (λ k x. P x) l → All P l
  each_all P [] e = tt
  each_all P (x ∷ l) e = (e 0 x refl, each_all P l (λ k y h. e (suc k) y h))

  pub length_more : (l : List A) (x : A) {n : ℕ} → length l ≡ n → length (l ++ (x ∷ [])) ≡ n + 1
  length_more l x h = length-append l (x ∷ []) ∙ ap (λ (k : ℕ). k + 1) h

  pub map_more : {B : Type 0} (f : A → B) (l : List A) (x : A) → map f (l ++ (x ∷ [])) ≡ map f l ++ (f x ∷ [])
  map_more f [] x = refl
  map_more {B} f (a ∷ l) x = ap (λ (m : List B). f a ∷ m) (map_more f l x)

-- ---- words with a part put in, as a loan of the part gives them back

abbrev pub with_part : (a k : ℕ) (words part : List ℕ) → List ℕ
with_part a k words part = take a words ++ (part ++ drop k (drop a words))

module _ (a k : ℕ) (words part : List ℕ) (fits : a + k ≤ length words) (whole : length part ≡ k) where
  front_length : length (take a words) ≡ a
  front_length = length-take-le a words (omega arith)

  pub part_in : (i : ℕ) → i < k → get_or (with_part a k words part) (a + i) 0 ≡ get_or part i 0
  part_in i h =
      ap (λ (n : ℕ). get_or (with_part a k words part) (n + i) 0) (sym front_length)
      ∙ (get_or-append-add (take a words) (part ++ drop k (drop a words)) i 0 ∙ get_or-append part (drop k (drop a words)) 0 i (omega arith))

  pub part_before : (i : ℕ) → i < a → get_or (with_part a k words part) i 0 ≡ get_or words i 0
  part_before i h = get_or-append (take a words) (part ++ drop k (drop a words)) 0 i (omega (arith, front_length)) ∙ get_or-take a words i 0 h

  pub part_behind : (i : ℕ) → a + k ≤ i → get_or (with_part a k words part) i 0 ≡ get_or words i 0
  part_behind i h =
      let j : i ≡ length (take a words) + (length part + (i - (a + k))) = omega (arith, front_length) in
      let e : a + (k + (i - (a + k))) ≡ i = omega arith in
      ap (λ (n : ℕ). get_or (with_part a k words part) n 0) j
      ∙ (get_or-append-add (take a words) (part ++ drop k (drop a words)) (length part + (i - (a + k))) 0
      ∙ (get_or-append-add part (drop k (drop a words)) (i - (a + k)) 0
      ∙ (get_or-drop k (drop a words) (i - (a + k)) 0 ∙ (get_or-drop a words (k + (i - (a + k))) 0 ∙ ap (λ (n : ℕ). get_or words n 0) e))))

  pub part_length : length (with_part a k words part) ≡ length words
  part_length = simp (length-append, length-take, length-drop) (omega arith)
