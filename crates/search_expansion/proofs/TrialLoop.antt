-- The transitions of a node, one after the other: what is left of the expansion behind those that are tried or blocked.
use Prim.Native.Nat.{ℕ, zero, suc, ◌+◌, ◌-◌, ◌*◌, ◌/◌, ◌%◌, ◌^◌, ◌≤◌, ◌<◌}
use mathlib.Core.Path.{◌≡◌, refl, sym, ap, ◌∙◌}
use Rattle.std.specs.Prelude as P
use Rattle.std.specs.Prelude.{Ok, Err, is_err}
use mathlib.Core.Bool.{Bool, true, false, cond, ◌||◌, or_assoc}
use mathlib.Core.List.{List, [], ◌∷◌, map}
use native.Mathlib.Nat.{add-zero}
use native.Mathlib.Omega.{arith}
use lib.Bits.{bit_and}
use lib.Count.{count_trailing_zeros}
use lib.ListN.{length}
use Rattle.model.specs.Sets.{cons_if, members_from, members}
use Rattle.model.specs.Meaning.{State}
use Rattle.model.specs.Steps.{system_of}
use Rattle.model.specs.declared.Cost.{Cost}
use Rattle.words.proofs.Members.{from_step, members_within, members_lowest}
use Rattle.search.specs.Search as definition
use Rattle.search.specs.Search.{Node, Round, Result, on, over, and_then}
use Rattle.steps.specs.InBytes.{Outlined, StateRoom, system_in}
use Rattle.steps.specs.Follow.{costs_in}
use Rattle.steps.specs.Allowed.{passes_at, allowed_from, Allowed}
use Rattle.steps.proofs.Allowing.{allowed_below}
use Rattle.steps.proofs.Moving.{guard_blocks}
use Rattle.beam.specs.Layers.{nodes_of, Indexed, round_with}
use Rattle.beam.proofs.Mapped.{round_same}
use Rattle.search_expansion.specs.declared.trials.Parent.{Parent}
use Rattle.search_expansion.specs.declared.trials.Halt.{Halt}
use Rattle.search_expansion.specs.declared.trials.Expanded.{Expanded}
use Rattle.search_expansion.specs.Expansion.{BestIs, trial_result, parent_of, Grows}
use Rattle.search_expansion.proofs.TrialSteps.{tried_by}

-- a round with other nodes twice, and marked if one of the two was cut
round_twice : (a b : List (Node State Cost)) (c d : Bool) (r : Round State Cost) → round_with b d (round_with a c r) ≡ round_with b (c || d) r
unfolding round_with
round_twice a b c d r = rw (or_assoc r.width_mark c d)

-- three rules, one behind the other
then_then : {A B C D : Type 0} (x : Result A D) (f : A → Result B D) (g : B → Result C D) → and_then (and_then x f) g ≡ and_then x (λ a. and_then (f a) g)
unfolding and_then
then_then (on a) f g = refl
then_then (over s) f g = refl

-- the same rule behind
then_same : {A B D : Type 0} (x : Result A D) (f g : A → Result B D) → ((a : A) → f a ≡ g a) → and_then x f ≡ and_then x g
unfolding and_then
then_same (on a) f g h = h a
then_same (over s) f g h = refl

-- a block that is asked leaves fewer transitions, whatever its mask
pub block_falls : (all end end' left left' : ℕ) → left' < 2 ^ 64 → end < end' → end' ≤ all → (all - end') * 2 ^ 64 + left' < (all - end) * 2 ^ 64 + left
block_falls all end end' left left' h l k = omega arith

pub mask_falls : (transitions left left' : ℕ) → left' < left → transitions * 2 ^ 64 + left' < transitions * 2 ^ 64 + left
mask_falls transitions left left' h = omega arith

module _ (bytes outline : List ℕ) (p : Parent) (state : List ℕ) where
  -- the definition from transition t on
  abbrev pub from : (t : ℕ) → Node State Cost → Round State Cost → Result (Round State Cost) Cost
  from t m q = definition.expand (costs_in bytes) (system_in bytes) p.width ((system_in bytes).transitions - t) t m q

  -- these transitions
  unfoldable pub tried_all : List ℕ → Node State Cost → Round State Cost → Result (Round State Cost) Cost
  tried_all [] m q = on q
  tried_all (t ∷ ts) m q = and_then (tried_by bytes p.width t m q) (λ r. tried_all ts m r)

  -- they are allowed
  abbrev pub AllAllowed : List ℕ → Type 0
  AllAllowed [] = Unit {0}
  AllAllowed (t ∷ ts) = Allowed bytes outline state t × AllAllowed ts

  -- the transitions that wait, by the bits that are left of a block's mask
  abbrev pub waiting : (first left : ℕ) → List ℕ
  waiting first left = map (λ (i : ℕ). first + i) (members left)

  waits_lowest : (first left : ℕ) → left < 2 ^ 64 → 0 < left → waiting first left ≡ (first + count_trailing_zeros 64 left) ∷ waiting first (bit_and left (left - 1))
  waits_lowest first left h s = ap (map (λ (i : ℕ). first + i)) (members_lowest 64 left h s)

  -- those of n transitions from base + k on whose guards pass
  abbrev block_of : (base n k : ℕ) → List ℕ
  block_of base n k = map (λ (i : ℕ). base + i) (members_from n k (allowed_from outline state n (base + k)))

  lowest : (b : Bool) (rest : ℕ) → ((cond {A = ℕ} b 1 0 + 2 * rest) % 2 ≡ cond b 1 0) × ((cond {A = ℕ} b 1 0 + 2 * rest) / 2 ≡ rest)
  lowest true rest = (omega arith, omega arith)
  lowest false rest = (omega arith, omega arith)

  block_step : (base n k : ℕ) (b : Bool) → passes_at outline state (base + k) ≡ b → block_of base (suc n) k ≡ map (λ (i : ℕ). base + i) (cons_if (cond b 1 0) k (members_from n (suc k) (allowed_from outline state n (base + suc k))))
  unfolding allowed_from
  block_step base n k b e =
      let next : base + k + 1 ≡ base + suc k = omega arith in
      let rest = allowed_from outline state n (base + suc k) in
      rw (e, next, from_step n k (cond b 1 0 + 2 * rest), (lowest b rest).0, (lowest b rest).1)

  module _ (o : Outlined bytes outline) (room : StateRoom state) where
    block_allowed : (base n k : ℕ) → base + k + n ≤ (system_in bytes).transitions → AllAllowed (block_of base n k)
    unfolding members_from cons_if
    block_allowed base zero k h = tt
    block_allowed base (suc n) k h = by_guard (block_allowed base n (suc k) (omega arith)) (passes_at outline state (base + k)) refl
      where
        by_guard : AllAllowed (block_of base n (suc k)) → (b : Bool) → passes_at outline state (base + k) ≡ b → AllAllowed (block_of base (suc n) k)
        by_guard behind true e = rw (block_step base n k true e) (record { room = room; declared = omega arith; passes_there = e }, behind)
        by_guard behind false e = rw (block_step base n k false e) behind

    -- a block: those that are allowed, then the definition behind it; the others are blocked
    module _ (path : ℕ → List ℕ) (h₀ f₀ : Cost) where
      abbrev node : Node State Cost
      node = parent_of bytes path state p h₀ f₀

      from_next : (t : ℕ) (q : Round State Cost) → t < (system_in bytes).transitions → from t node q ≡ and_then (tried_by bytes p.width t node q) (λ r. from (suc t) node r)
      unfolding definition.expand
      from_next t q h =
          let z : (system_in bytes).transitions - t ≡ suc ((system_in bytes).transitions - suc t) = omega arith in
          rw z

      from_past : (t : ℕ) (q : Round State Cost) → t < (system_in bytes).transitions → passes_at outline state t ≡ false → from t node q ≡ from (suc t) node q
      unfolding definition.tried and_then system_of
      from_past t q h e = from_next t q h ∙ rw (guard_blocks bytes outline o state t h (sym e))

      from_block : (base n k : ℕ) (q : Round State Cost) → base + k + n ≤ (system_in bytes).transitions
          → from (base + k) node q ≡ and_then (tried_all (block_of base n k) node q) (λ r. from (base + k + n) node r)
      unfolding members_from cons_if tried_all and_then
      from_block base zero k q h = rw (add-zero (base + k))
      from_block base (suc n) k q h = by_guard (λ r. from_block base n (suc k) r (omega arith)) (passes_at outline state (base + k)) refl
        where
          there : base + suc k + n ≡ base + k + suc n
          there = omega arith

          on_next : suc (base + k) ≡ base + suc k
          on_next = omega arith

          by_guard : ((r : Round State Cost) → from (base + suc k) node r ≡ and_then (tried_all (block_of base n (suc k)) node r) (λ r'. from (base + suc k + n) node r'))
              → (b : Bool) → passes_at outline state (base + k) ≡ b → from (base + k) node q ≡ and_then (tried_all (block_of base (suc n) k) node q) (λ r. from (base + k + suc n) node r)
          by_guard behind true e =
              rw (block_step base n k true e, ← there)
              (from_next (base + k) q (omega arith)
              ∙ rw on_next (then_same (tried_by bytes p.width (base + k) node q) _ _ behind)
              ∙ sym (then_then (tried_by bytes p.width (base + k) node q) (λ r. tried_all (block_of base n (suc k)) node r) (λ r. from (base + suc k + n) node r)))
          by_guard behind false e = rw (block_step base n k false e, ← there) (from_past (base + k) q (omega arith) e ∙ rw on_next (behind q))

module _ (bytes outline : List ℕ) (n : ℕ) (p : Parent) (state layer : List ℕ) where
  -- the definition's rule for all of them
  abbrev pub expand_by : Node State Cost → Round State Cost → Result (Round State Cost) Cost
  expand_by m q = definition.expand (costs_in bytes) (system_in bytes) p.width (system_in bytes).transitions 0 m q

  -- these transitions wait, and those before `end` that do not are tried or blocked
  pub record Expanding (layer' : List ℕ) (count : ℕ) (cut : Bool) (ts : List ℕ) (end : ℕ) : Type 0 where
    pub long : length layer' ≡ length layer
    pub within : end ≤ (system_in bytes).transitions
    pub held : Indexed outline p.width count layer'
    pub allowed : AllAllowed bytes outline p state ts
    pub left : (path : ℕ → List ℕ) (h₀ f₀ : Cost) (r : Round State Cost) → r.kept ≡ nodes_of p.width layer bytes path n → BestIs p.best r.progress.best
        → expand_by (parent_of bytes path state p h₀ f₀) r
        ≡ and_then (tried_all bytes outline p state ts (parent_of bytes path state p h₀ f₀) (round_with (nodes_of p.width layer' bytes path count) cut r)) (λ q. from bytes outline p state end (parent_of bytes path state p h₀ f₀) q)

  pub expanding_first : Indexed outline p.width n layer → Expanding layer n false [] 0
  unfolding tried_all and_then
  expanding_first h = record {
    long = refl;
    within = omega arith;
    held = h;
    allowed = tt;
    left = λ path h₀ f₀ r k b.
        let z : (system_in bytes).transitions - 0 ≡ (system_in bytes).transitions = omega arith in
        rw z (ap (expand_by (parent_of bytes path state p h₀ f₀)) (round_same r (nodes_of p.width layer bytes path n) k));
  }

  module _ {layer' : List ℕ} {count : ℕ} {cut : Bool} where
    -- no bit is left: none waits
    pub none_waits : (first left : ℕ) {end : ℕ} → Expanding layer' count cut (waiting bytes outline p state first left) end → left ≡ 0 → Expanding layer' count cut [] end
    unfolding members members_from
    none_waits first left so_far e = rw e at so_far

    -- the lowest bit that is left: the first that waits
    pub one_waits : (first left : ℕ) {end : ℕ} → Expanding layer' count cut (waiting bytes outline p state first left) end → left < 2 ^ 64 → 0 < left
        → Expanding layer' count cut ((first + count_trailing_zeros 64 left) ∷ waiting bytes outline p state first (bit_and left (left - 1))) end
    one_waits first left so_far h s = rw (waits_lowest bytes outline p state first left h s) at so_far

    -- none waits, and none is left
    pub expanded_all : {end : ℕ} → Expanding layer' count cut [] end → (system_in bytes).transitions ≤ end → Grows bytes outline n p state layer layer' (record { count = count; cut = cut; trial = Ok tt }) expand_by
    unfolding trial_result definition.expand tried_all and_then
    expanded_all {end} so_far h = record {
      held = so_far.held;
      numbered = tt;
      same = λ path h₀ f₀ r k b.
          let z : (system_in bytes).transitions - end ≡ 0 = omega arith in
          (rw z at (so_far.left path h₀ f₀ r k b));
    }

    -- none waits: those of the next block do whose guards pass
    pub expanding_block : {first : ℕ} (end : ℕ) → Outlined bytes outline → StateRoom state → Expanding layer' count cut [] first → first ≤ end → end ≤ (system_in bytes).transitions
        → Expanding layer' count cut (waiting bytes outline p state first (allowed_from outline state (end - first) first)) end
    unfolding tried_all and_then
    expanding_block {first} end o room so_far h l =
        let m = end - first in
        let start : first + 0 ≡ first = omega arith in
        let stop : first + m ≡ end = omega arith in
        let all = members_within m (allowed_from outline state m first) (allowed_below outline state m first) in
        record {
          long = so_far.long;
          within = l;
          held = so_far.held;
          allowed = rw all (rw start at (block_allowed bytes outline p state o room first m 0 (omega arith)));
          left = λ path h₀ f₀ r k b.
              so_far.left path h₀ f₀ r k b
              ∙ rw all (rw (start, stop) at (from_block bytes outline p state o room path h₀ f₀ first m 0 (round_with (nodes_of p.width layer' bytes path count) cut r) (omega arith)));
        }

    module _ {end t : ℕ} {ts : List ℕ} (so_far : Expanding layer' count cut (t ∷ ts) end) where
      pub first_allowed : Allowed bytes outline state t
      first_allowed = so_far.allowed.0

      module _ {layer'' : List ℕ} {x : Expanded} {marked : Bool} (grown : Grows bytes outline count p state layer' layer'' x (tried_by bytes p.width t)) (joined : marked ≡ (cut || x.cut)) where
        abbrev nodes' : (ℕ → List ℕ) → List (Node State Cost)
        nodes' path = nodes_of p.width layer' bytes path count

        tried : (path : ℕ → List ℕ) (h₀ f₀ : Cost) (r : Round State Cost) → BestIs p.best r.progress.best
            → tried_by bytes p.width t (parent_of bytes path state p h₀ f₀) (round_with (nodes' path) cut r)
            ≡ trial_result x.trial (parent_of bytes path state p h₀ f₀) (round_with (nodes_of p.width layer'' bytes path x.count) marked r)
        unfolding round_with
        tried path h₀ f₀ r b =
            grown.same path h₀ f₀ (round_with (nodes' path) cut r) refl b
            ∙ ap (trial_result x.trial (parent_of bytes path state p h₀ f₀)) (round_twice (nodes' path) (nodes_of p.width layer'' bytes path x.count) cut x.cut r ∙ ap (λ (c : Bool). round_with (nodes_of p.width layer'' bytes path x.count) c r) (sym joined))

        -- transition t, then those that wait behind it
        next : (path : ℕ → List ℕ) (h₀ f₀ : Cost) (r : Round State Cost) → r.kept ≡ nodes_of p.width layer bytes path n → BestIs p.best r.progress.best
            → expand_by (parent_of bytes path state p h₀ f₀) r
            ≡ and_then (and_then (trial_result x.trial (parent_of bytes path state p h₀ f₀) (round_with (nodes_of p.width layer'' bytes path x.count) marked r)) (λ q. tried_all bytes outline p state ts (parent_of bytes path state p h₀ f₀) q)) (λ q. from bytes outline p state end (parent_of bytes path state p h₀ f₀) q)
        unfolding tried_all
        next path h₀ f₀ r k b = rw (tried path h₀ f₀ r b) at (so_far.left path h₀ f₀ r k b)

        pub expanding_more : length layer'' ≡ length layer' → is_err x.trial ≡ false → Expanding layer'' x.count marked ts end
        unfolding trial_result and_then
        expanding_more l holds = by_trial x.trial refl holds
          where
            by_trial : (q : P.Result (Unit {0}) Halt) → x.trial ≡ q → is_err q ≡ false → Expanding layer'' x.count marked ts end
            by_trial (Ok _) e _ = record {
              long = l ∙ so_far.long;
              within = so_far.within;
              held = grown.held;
              allowed = so_far.allowed.1;
              left = λ path h₀ f₀ r k b. rw e at (next path h₀ f₀ r k b);
            }
            by_trial (Err h) e f = absurd (cc)

        pub expanded_over : is_err x.trial ≡ true → Grows bytes outline n p state layer layer'' (record { count = x.count; cut = marked; trial = x.trial }) expand_by
        unfolding trial_result and_then
        expanded_over failed = by_trial x.trial refl failed
          where
            by_trial : (q : P.Result (Unit {0}) Halt) → x.trial ≡ q → is_err q ≡ true → Grows bytes outline n p state layer layer'' (record { count = x.count; cut = marked; trial = x.trial }) expand_by
            by_trial (Ok _) e f = absurd (cc)
            by_trial (Err h) e _ = record { held = grown.held; numbered = grown.numbered; same = λ path h₀ f₀ r k b. rw e (rw e at (next path h₀ f₀ r k b)) }
