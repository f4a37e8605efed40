-- Laws of the readers of words and integers: what they read where the bytes are there, and where they end.
use mathlib.Core.Path.{◌≡◌, refl, sym, ap, ◌∙◌}
use mathlib.Core.Bool.{Bool, true, false}
use mathlib.Core.List.{List, [], ◌∷◌}
use Prim.Native.Nat.{ℕ, zero, suc, ◌+◌, ◌-◌, ◌*◌, ◌%◌, ◌^◌, ◌<◌, ◌≤◌}
use native.Mathlib.Omega.{arith}
use lib.ListN.{length, take, drop, get_or, length-drop, drop_of_length-le}
use lib.Seq.{drop-drop, drop-length, get_or-drop, take_all}
use lib.IntN.{ℤ, pos, negsuc, ◌-ℤ◌}
use lib.Signed.{mag}
use lib.Dec.{leb}
use borrow.Author.Tests.{leb-true, leb-false, lt-ltb, le-ltb}
use Rattle.model.specs.Numbers.{ends_early, range_end}
use Rattle.model.specs.Readers.{read, refused, after, continue, ◌>>=◌, give, byte, word, signed, one, integer}
use Rattle.words.proofs.Integers.{lowered}

-- the part of a slice from n on
pub suffix : (n : ℕ) (e : List ℕ) → take (length e - n) (drop n e) ≡ drop n e
suffix n e = take_all (length e - n) (drop n e) (rw length-drop (omega arith))

-- beyond the end
pub no_suffix : (n : ℕ) (e : List ℕ) → length e ≤ n → take (length e - length e) (drop (length e) e) ≡ drop n e
no_suffix n e h = suffix (length e) e ∙ drop-length e ∙ sym (drop_of_length-le e h)

-- the first k bytes as one number
unfoldable pub number : (k : ℕ) → List ℕ → ℕ
number zero e = 0
number (suc k) e = get_or e 0 0 + 256 * number k (drop 1 e)

pub word_is : (k : ℕ) (e : List ℕ) → k ≤ length e → word k e ≡ read (number k e) k
unfolding word byte give ◌>>=◌ continue after number
word_is zero e h = refl
word_is (suc k) [] h = let z : ⊥ = omega arith in absurd z
word_is (suc k) (b ∷ e) h = rw (word_is k e (omega arith)) (ap (read (b + 256 * number k e)) (omega arith))

pub word_short : (k : ℕ) (e : List ℕ) → length e < k → word k e ≡ refused ends_early
unfolding word byte give ◌>>=◌ continue after
word_short zero e h = let z : ⊥ = omega arith in absurd z
word_short (suc k) [] h = refl
word_short (suc k) (b ∷ e) h = rw (word_short k e (omega arith))

pub word_one : (b : ℕ) (e : List ℕ) → word 1 (b ∷ e) ≡ read b 1
unfolding word byte give ◌>>=◌ continue after
word_one b e = ap (λ (n : ℕ). read n 1) (omega arith)

number_four : (e : List ℕ) → number 4 e ≡ get_or e 0 0 + 256 * get_or e 1 0 + 65536 * get_or e 2 0 + 16777216 * get_or e 3 0
unfolding number
number_four e = simp (drop-drop, get_or-drop) (omega arith)

number_eight : (e : List ℕ) → number 8 e ≡ number 4 e + 4294967296 * number 4 (drop 4 e)
unfolding number
number_eight e = simp (drop-drop, get_or-drop) (omega arith)

-- four bytes
pub word_four : (e : List ℕ) {a b c d : ℕ} → 4 ≤ length e → a ≡ get_or e 0 0 → b ≡ get_or e 1 0 → c ≡ get_or e 2 0 → d ≡ get_or e 3 0 → word 4 e ≡ read (a + 256 * b + 65536 * c + 16777216 * d) 4
word_four e h ha hb hc hd = word_is 4 e h ∙ ap (λ (n : ℕ). read n 4) (omega (arith, number_four e))

-- twice four bytes
pub word_eight : (e : List ℕ) {a b : ℕ} → 8 ≤ length e → word 4 e ≡ read a 4 → word 4 (drop 4 e) ≡ read b 4 → word 8 e ≡ read (a + 4294967296 * b) 8
word_eight e {a} {b} h ha hb =
    let low : 4 ≤ length e = omega arith in
    let high : 4 ≤ length (drop 4 e) = rw length-drop (omega arith) in
    let ea : number 4 e ≡ a = cc (word_is 4 e low) in
    let eb : number 4 (drop 4 e) ≡ b = cc (word_is 4 (drop 4 e) high) in
    word_is 8 e h ∙ ap (λ (n : ℕ). read n 8) (omega (arith, number_eight e))

-- an integer, by its word
pub integer_is : (e : List ℕ) {w : ℕ} → word 4 e ≡ read w 4 → integer e ≡ read (signed w) 4
unfolding integer one give ◌>>=◌ continue after
integer_is e h = rw h

pub integer_short : (e : List ℕ) → length e < 4 → integer e ≡ refused ends_early
unfolding integer one ◌>>=◌ continue
integer_short e h = rw (word_short 4 e h)

-- an integer is always four bytes
pub integer_used : (e : List ℕ) (z : ℤ) (n : ℕ) → integer e ≡ read z n → n ≡ 4
integer_used e z n h = by_test (leb 4 (length e)) (leb-true 4 (length e)) (leb-false 4 (length e))
  where
    by_test : (t : Bool) → (t ≡ true → 4 ≤ length e) → (t ≡ false → length e < 4) → n ≡ 4
    by_test true f g = cc (integer_is e (word_is 4 e (f refl)))
    by_test false f g = let z : ◌≡◌ {A = ℕ} 0 1 = cc (integer_short e (g refl)) in absurd (omega arith)

-- ---- two's complement

pub signed_low : (w : ℕ) → w < 0x8000_0000 → (pos w ≡ signed w) × (w < range_end)
unfolding signed
signed_low w h = rw (lt-ltb w 0x8000_0000 h) (refl, omega arith)

pub signed_high : (w : ℕ) → 0x8000_0000 ≤ w → w < 2 ^ 32 → (pos w -ℤ pos 0x1_0000_0000 ≡ signed w) × (mag (pos w -ℤ pos 0x1_0000_0000) < range_end)
unfolding signed
signed_high w h l = rw (le-ltb w 0x8000_0000 h) (refl, rw (lt-ltb w 0x1_0000_0000 l) (omega arith))

-- counted on by half the words, and back by as much
pub signed_back : (w : ℕ) → w < 2 ^ 32 → (pos ((w + 2 ^ 31) % 2 ^ 32) -ℤ pos range_end ≡ signed w) × (mag (pos ((w + 2 ^ 31) % 2 ^ 32) -ℤ pos range_end) < range_end)
signed_back w l = (by_test (leb 0x8000_0000 w) (leb-true 0x8000_0000 w) (leb-false 0x8000_0000 w), lowered ((w + 2 ^ 31) % 2 ^ 32) (omega arith))
  where
    by_test : (t : Bool) → (t ≡ true → 0x8000_0000 ≤ w) → (t ≡ false → w < 0x8000_0000) → pos ((w + 2 ^ 31) % 2 ^ 32) -ℤ pos range_end ≡ signed w
    by_test true f g =
        let h : 0x8000_0000 ≤ w = f refl in
        let e : (w + 2 ^ 31) % 2 ^ 32 ≡ w - 2 ^ 31 = omega arith in
        rw (e, lt-ltb w 0x1_0000_0000 l, lt-ltb (w - 2 ^ 31) range_end (omega arith)) (ap negsuc (omega arith)) ∙ (signed_high w h l).0
    by_test false f g =
        let h : w < 0x8000_0000 = g refl in
        let e : (w + 2 ^ 31) % 2 ^ 32 ≡ w + 2 ^ 31 = omega arith in
        rw (e, le-ltb (w + 2 ^ 31) range_end (omega arith)) (ap pos (omega arith)) ∙ (signed_low w h).0
