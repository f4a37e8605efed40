-- The scan of a part of a list: what was taken so far stands before the place reached.
use Rattle.std.specs.Prelude.{Some, None}
use Rattle.std.proofs.lemmas.List.{drop_all}
use Prim.Native.Nat.{ℕ, ◌+◌, ◌≤◌, ◌<◌}
use mathlib.Core.Path.{◌≡◌, refl, sym, ◌∙◌, ap}
use mathlib.Core.List.{List, [], ◌∷◌, ◌++◌, append_assoc, append-nil}
use native.Mathlib.Omega.{arith}
use native.Mathlib.Numerals.{add-one}
use lib.ListN.{length, drop, get_or}
use lib.Seq.{drop-cons}
use Rattle.laws.specs.Lists.{any}
use Rattle.month_names.specs.Names.{line_feed}
use Rattle.month_names.specs.Lines.{LineOf, Unbroken, Pushed, Scanned}
use Rattle.month_names.specs.declared.Line.{Line}
use Rattle.month_names.proofs.Splitting.{unbroken_behind}

-- within the scan, at place i
pub record Scans (part : List ℕ) (line₀ line : Line) (i : ℕ) : Type 0 where
  pub taken : List ℕ
  pub unbroken : Unbroken taken
  pub parted : part ≡ taken ++ drop i part
  pub more : (bytes : List ℕ) → LineOf bytes line₀ → LineOf (bytes ++ taken) line

module _ (part : List ℕ) (line₀ : Line) where
  pub scan_begins : Scans part line₀ line₀ 0
  unfolding any
  scan_begins = record { taken = []; unbroken = refl; parted = refl; more = λ bytes i. rw (append-nil bytes) i }

  module _ (line : Line) (i : ℕ) (S : Scans part line₀ line i) where
    -- the byte at the place reached stands in front of the rest
    next_byte : i < length part → part ≡ S.taken ++ (get_or part i 0 ∷ drop (i + 1) part)
    next_byte h = S.parted ∙ rw (add-one i, drop-cons part i 0 h)

    pub scan_goes_on : (line' : Line) → i < length part → (get_or part i 0 ≡ line_feed → ⊥) → Pushed line (get_or part i 0) line'
        → Scans part line₀ line' (i + 1)
    scan_goes_on line' h no-feed P =
        record {
          taken = S.taken ++ (get_or part i 0 ∷ []);
          unbroken = unbroken_behind S.taken (get_or part i 0) S.unbroken no-feed;
          parted = next_byte h ∙ sym (append_assoc S.taken (get_or part i 0 ∷ []) (drop (i + 1) part));
          more = λ bytes l. rw (← append_assoc bytes S.taken (get_or part i 0 ∷ [])) (P.more (bytes ++ S.taken) (S.more bytes l));
        }

    pub scan_closed : i < length part → get_or part i 0 ≡ line_feed → Scanned part line₀ line (Some (i + 1))
    scan_closed h feed =
        record {
          within = omega arith;
          taken = S.taken;
          unbroken = S.unbroken;
          parted = next_byte h ∙ ap (λ (b : ℕ). S.taken ++ (b ∷ drop (i + 1) part)) feed;
          more = S.more;
        }

    pub scan_over : length part ≤ i → Scanned part line₀ line None
    scan_over h =
        record {
          within = tt;
          taken = S.taken;
          unbroken = S.unbroken;
          parted = S.parted ∙ rw (drop_all i part h);
          more = S.more;
        }
