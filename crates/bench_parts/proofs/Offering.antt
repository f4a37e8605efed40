-- Children offered to one layer: a round that goes with the layer, from the empty one to the count of those kept; the whole call by its tests.
use Prim.Native.Nat.{ℕ, zero, suc, ◌-◌, ◌*◌, ◌≤◌, ◌<◌}
use mathlib.Core.Path.{◌≡◌, refl, sym, ap, ◌∙◌}
use mathlib.Core.Bool.{Bool, true, false, ◌&&◌}
use mathlib.Core.List.{List, [], ◌++◌}
use native.Mathlib.Omega.{arith}
use lib.Dec.{leb, ltb}
use lib.ListN.{length}
use borrow.Author.Tests.{eq-eqb, ne_eqb, lt-ltb, le-ltb, le-leb, lt-leb, leb-true, ltb-true}
use Rattle.model.specs.declared.Cost.{Cost}
use Rattle.laws.proofs.Bools.{and_both}
use Rattle.model.specs.Numbers.{most_model_bytes}
use Rattle.model.specs.Meaning.{State}
use Rattle.steps.specs.InBytes.{refusal_in, Outlined}
use Rattle.search.specs.Search.{Round, fresh_round}
use Rattle.beam_order.specs.Slots.{layer_words}
use Rattle.beam.specs.Layers.{nodes_of, round_with, Indexed, InsertedInto, Emptied}
use Rattle.beam.proofs.Moves.{layer_of}
use Rattle.beam.proofs.Nodes.{nodes_none, nodes_length}
use Rattle.bench_parts.specs.Timed.{next_of, child_header, child_state, empty_round, offered, kept_after, Offerable, layer_fits, insertions}

-- what is still to be offered to the layer's round, `left` children from x on, comes to the whole
pub record Offering (bytes outline : List ℕ) (w children seed : ℕ) (layer : List ℕ) (count x left : ℕ) : Type 0 where
  pub held : Indexed outline w count layer
  pub round : Round State Cost
  pub kept : round.kept ≡ nodes_of w layer bytes (λ _. []) count
  pub rest : offered bytes w left x round ≡ offered bytes w children seed (empty_round bytes)

module _ {bytes outline : List ℕ} {w children seed : ℕ} where
  pub begins : {layer : List ℕ} → Emptied w layer → Offering bytes outline w children seed layer 0 seed children
  unfolding empty_round fresh_round
  begins {layer} e = record { held = e.held outline; round = empty_round bytes; kept = sym (nodes_none w layer bytes (λ _. [])); rest = refl }

  pub going_on : {layer layer' header state : List ℕ} {count count' x x' left : ℕ} {cut : Bool} → Offering bytes outline w children seed layer count x left → 0 < left → header ≡ child_header x → state ≡ child_state x
      → InsertedInto bytes outline w count count' cut layer layer' (header ++ state) → x' ≡ next_of x → Offering bytes outline w children seed layer' count' x' (left - 1)
  unfolding offered round_with
  going_on {left = zero} o some headed stated i next = absurd (omega arith)
  going_on {layer' = layer'} {count' = count'} {x = x} {left = suc k} {cut = cut} o some headed stated i next =
      let less : suc k - 1 ≡ k = omega arith in
      record {
        held = i.held;
        round = round_with (nodes_of w layer' bytes (λ _. []) count') cut o.round;
        kept = refl;
        rest = rw (less, next) (ap (offered bytes w k (next_of x)) (sym (rw (headed, stated) at (i.inserts (λ _. []) o.round o.kept))) ∙ o.rest);
      }

  pub ends : {layer : List ℕ} {count x left : ℕ} → Offering bytes outline w children seed layer count x left → left ≤ 0 → count ≡ kept_after bytes w children seed
  unfolding offered kept_after
  ends {left = suc k} o all = absurd (omega arith)
  ends {left = zero} o all = sym (nodes_length bytes (λ _. []) (layer_of o.held)) ∙ ap length (sym o.kept) ∙ ap (λ (r : Round State Cost). length r.kept) o.rest

-- ---- the layer's room

module _ (w words : ℕ) where
  pub no_width : w ≤ 0 → layer_fits w words ≡ false
  unfolding layer_fits
  no_width h = rw (le-ltb 0 w h)

  pub too_wide : 0 < w → 4096 < w → layer_fits w words ≡ false
  unfolding layer_fits
  too_wide h k = rw (lt-ltb 0 w h, lt-leb w 4096 k)

  pub by_room : 0 < w → w ≤ 4096 → layer_fits w words ≡ leb (layer_words * w) words
  unfolding layer_fits
  by_room h k = rw (lt-ltb 0 w h, le-leb w 4096 k)

-- a layer that fits, and a model's outline
pub room : {bytes outline : List ℕ} (w : ℕ) (layer : List ℕ) → Outlined bytes outline → layer_fits w (length layer) ≡ true → Offerable bytes outline w layer
unfolding layer_fits
room w layer o e =
    let outer = and_both (ltb 0 w && leb w 4096) (leb (layer_words * w) (length layer)) e in
    let inner = and_both (ltb 0 w) (leb w 4096) outer.0 in
    record { outlined = o; some = ltb-true 0 w inner.0; narrow = leb-true w 4096 inner.1; long = leb-true (layer_words * w) (length layer) outer.1 }

-- ---- the whole call

module _ (bytes : List ℕ) (words w children seed : ℕ) where
  pub too_long : leb (length bytes) most_model_bytes ≡ false → 0 ≡ insertions bytes words w children seed
  unfolding insertions
  too_long e = rw e

  pub no_room : leb (length bytes) most_model_bytes ≡ true → layer_fits w words ≡ false → 0 ≡ insertions bytes words w children seed
  unfolding insertions
  no_room e f = rw (e, f)

  pub refused : leb (length bytes) most_model_bytes ≡ true → layer_fits w words ≡ true → (t : ℕ) → t ≡ refusal_in bytes → 0 < t → 0 ≡ insertions bytes words w children seed
  unfolding insertions
  refused e f t same h = let no : refusal_in bytes ≡ 0 → ⊥ = λ z. omega arith in rw (e, f, ne_eqb (refusal_in bytes) 0 no)

  pub read : leb (length bytes) most_model_bytes ≡ true → layer_fits w words ≡ true → refusal_in bytes ≡ 0 → kept_after bytes w children seed ≡ insertions bytes words w children seed
  unfolding insertions
  read e f z = rw (e, f, eq-eqb (refusal_in bytes) 0 z)
