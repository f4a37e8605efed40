-- What a run comes to, test by test: the settings, what is lent, the reading, the target's constraints and bound, then the rounds.
use Prim.Native.Nat.{ℕ, suc, ◌+◌, ◌*◌, ◌≤◌, ◌<◌}
use mathlib.Core.Path.{◌≡◌, refl, sym, ap, ◌∙◌, subst}
use mathlib.Core.Bool.{Bool, true, false, ◌&&◌}
use mathlib.Core.List.{List, ◌∷◌, ◌++◌}
use mathlib.Core.Option.{none}
use Rattle.std.specs.Prelude as P
use Rattle.std.specs.Prelude.{Some, None}
use native.Mathlib.Nat.{mul-le-mul}
use native.Mathlib.Omega.{arith}
use lib.ListN.{length, drop, get_or, take}
use lib.Dec.{leb}
use borrow.Author.Tests.{le-leb, lt-leb, leb-true}
use Rattle.laws.proofs.Bools.{and_both}
use Rattle.model.specs.declared.Cost.{Cost}
use Rattle.model.specs.Costs.{free, hours}
use Rattle.model.specs.Numbers.{most_steps}
use Rattle.model.specs.Values.{Value, value, trouble}
use Rattle.model.specs.Readers.{Read, read, refused}
use Rattle.model.specs.Syntax.{Model}
use Rattle.model.specs.Commands.{model}
use Rattle.model.specs.Meaning.{State}
use Rattle.model.proofs.Reading.{model_refusal}
use Rattle.outline.specs.Outline.{model_of, read_model, refusal_of}
use Rattle.search.specs.Answer as A
use Rattle.search.specs.Answer.{no_plan, verdict, by_state, by_input, buffer_after}
use Rattle.search.specs.Search as S
use Rattle.search.specs.Search.{root, search, search_within, enter, begin}
use Rattle.search.specs.Demands.{Demands}
use Rattle.search.specs.Run.{Beam, up_to, listed, Form, plain, Settings, wider_up_to, rising, widest_of, limit_of, beam_fits, form_fits, settings_fit, words_needed, lent_fits, lent_before, accepts, refused_by_input, search_model, run_set, shown}
use Rattle.search.proofs.Settings.{built_in_rises, last_fits, limit_within}
use Rattle.search.proofs.Source.{run_bad_setting, run_bad_widths, run_set_lem, set_lent_behind, set_searched}
use Rattle.search.proofs.Targets.{broken_start, troubled_start, unbounded_start}
use Rattle.search.proofs.Counts.{never_by_input}
use Rattle.search.proofs.Mission.{every_run_ends, run_meets_demands, steps_fit_buffer, refusal_changes_no_buffer, built_in_set}
use Rattle.beam_widths.specs.Lists.{BuiltIn}
use Rattle.beam_widths.proofs.Rising.{widths, built_in_none, built_in_some}
use Rattle.steps.specs.InBytes.{refusal_in, system_in, bound_in, state_in, target_in, origin_in}
use Rattle.steps.specs.Follow.{costs_in}
use Rattle.std.specs.Prelude.{Result, Ok, Err}
use Rattle.eval_sets.specs.declared.troubles.Trouble.{Trouble}
use Rattle.steps.specs.Answers.{result_of}
use Rattle.beam.specs.Nodes.{header_of, node_at}
use Rattle.search_paths.specs.Routes.{RootIs}
use Rattle.search_rounds.specs.Rounds.{RoomFor}
use Rattle.search_runs.specs.Runs.{Runs}
use Rattle.search_report.specs.Answers.{AnswerIs, stop_answer, Reports, numbers_of, answer_in}
use Rattle.solver.specs.Searches.{search_in, SearchSays, SetSays, lent_of, lent, run_of, Searched, entered_of, ended_at_target}
use Rattle.search_report.specs.declared.answers.Answer.{Answer}
use Rattle.search_runs.specs.declared.Stop.{Stop}
use Rattle.steps.proofs.Promises.{cost_laws, cost_empty, bound_hours_lem, bound_troubles, origin_start, origin_spent}
use Rattle.steps.proofs.Trials.{is_result}
use Rattle.steps.proofs.Numbered.{Numbers, admits_numbered, bound_numbered}
use Rattle.search_report.proofs.Reporting.{answer_same}
use Rattle.search_report.proofs.Numbers.{in_numbers, read_back}

-- ---- the length limit

and_no : (a : Bool) → (a && false) ≡ false
and_no true = refl
and_no false = refl

module _ (limit : ℕ) where
  pub no_steps : limit < 1 → form_fits (plain limit) ≡ false
  no_steps h = rw (lt-leb 1 limit h)

  pub by_length : 1 ≤ limit → leb limit most_steps ≡ form_fits (plain limit)
  by_length h = rw (le-leb 1 limit h)

pub bad_length : (b : Beam) (f : Form) (budget : ℕ) → form_fits f ≡ false → settings_fit (record { beam = b; form = f; budget = budget }) ≡ false
unfolding settings_fit
bad_length b f budget e = rw e (and_no (beam_fits b))

-- ---- what is lent

module _ (w l p n : ℕ) where
  pub words_bound : w ≤ 4096 → l ≤ most_steps → w * (l + 1) ≤ 4096 * 257
  words_bound a b = let more : l + 1 ≤ 257 = omega arith in mul-le-mul a more

  pub lent_short : p < l → lent_fits w l (lent_of p n) ≡ false
  unfolding lent_fits
  lent_short h = rw (lt-leb l p h)

  pub lent_words : l ≤ p → leb (64 * w + w * (l + 1)) n ≡ lent_fits w l (lent_of p n)
  unfolding lent_fits words_needed
  lent_words h = rw (le-leb l p h)

  pub lent_both : lent_fits w l (lent_of p n) ≡ true → (l ≤ p) × (64 * w + w * (l + 1) ≤ n)
  unfolding lent_fits words_needed
  lent_both e =
      let both = and_both (leb l p) (leb (64 * w + w * (l + 1)) n) e in
      (leb-true l p both.0, leb-true (64 * w + w * (l + 1)) n both.1)

-- asked at a width that was found
pub lent_at : (w v l p n : ℕ) {b t : Bool} → w ≡ v → b ≡ lent_fits w l (lent_of p n) → b ≡ t → lent_fits v l (lent_of p n) ≡ t
lent_at w v l p n e asked is = ap (λ (k : ℕ). lent_fits k l (lent_of p n)) (sym e) ∙ sym asked ∙ is

-- enough is lent for the widest round
pub room_lent : (ws plan words : List ℕ) (limit : ℕ) → rising ws ≡ true → limit ≤ most_steps → lent_fits (widest_of (listed ws)) limit (lent plan words) ≡ true → RoomFor words plan (widest_of (listed ws)) limit
room_lent ws plan words limit rises few enough =
    let both = lent_both (widest_of (listed ws)) limit (length plan) (length words) enough in
    let fits = last_fits ws rises in
    record { some_width = fits.0; narrow = fits.1; few_steps = few; plan_room = both.0; words_room = both.1 }

-- ---- the target: its constraints, then its bounds

module _ (bytes : List ℕ) where
  abbrev pub admitted : Value Bool
  admitted = (system_in bytes).admits (target_in bytes)

  abbrev pub bounded : Value ℕ
  bounded = bound_in bytes (target_in bytes)

-- what the code has found of the target's words
module _ (bytes target : List ℕ) (at_Target : state_in bytes target ≡ target_in bytes) (q : Result Bool Trouble) (tried : q ≡ result_of ((system_in bytes).admits (state_in bytes target))) where
  held : result_of (admitted bytes) ≡ q
  held = ap (λ s. result_of ((system_in bytes).admits s)) (sym at_Target) ∙ sym tried

  pub enter_broken : {b : Bool} → q ≡ Ok b → b ≡ false → Ok None ≡ entered_of (admitted bytes) (bounded bytes)
  unfolding entered_of
  enter_broken e y = rw (is_result (admitted bytes) (held ∙ e), y)

  pub enter_trouble : {u : Trouble} {t : ℕ} → q ≡ Err u → Numbers u t → Err t ≡ entered_of (admitted bytes) (bounded bytes)
  unfolding entered_of
  enter_trouble e numbers = rw (admits_numbered bytes (target_in bytes) (held ∙ e) numbers)

  module _ {b : Bool} (all : q ≡ Ok b) (y : b ≡ true) (r : Result ℕ Trouble) (says : r ≡ result_of (bound_in bytes (state_in bytes target))) where
    valued : result_of (bounded bytes) ≡ r
    valued = ap (λ s. result_of (bound_in bytes s)) (sym at_Target) ∙ sym says

    pub enter_bounded : {h : ℕ} → r ≡ Ok h → Ok (Some h) ≡ entered_of (admitted bytes) (bounded bytes)
    unfolding entered_of
    enter_bounded e = rw (is_result (admitted bytes) (held ∙ all), y, is_result (bounded bytes) (valued ∙ e))

    pub enter_unbounded : {u : Trouble} {t : ℕ} → r ≡ Err u → Numbers u t → Err t ≡ entered_of (admitted bytes) (bounded bytes)
    unfolding entered_of
    enter_unbounded e numbers = rw (is_result (admitted bytes) (held ∙ all), y, bound_numbered bytes (target_in bytes) (valued ∙ e) numbers)

-- ---- the search of a model that was read

module _ (bytes widths : List ℕ) (limit budget : ℕ) where
  abbrev searched : A.Answer Cost
  searched = search_in bytes widths limit budget

  abbrev first : ℕ
  first = get_or widths 0 0

  nothing_spent : (h : Cost) → (costs_in bytes).combine free h ≡ h
  nothing_spent h = ap (λ (c : Cost). (costs_in bytes).combine c h) (sym (cost_empty bytes)) ∙ (cost_laws bytes).left_unit h

  -- the words of the target, as the root
  pub target_root : (target : List ℕ) (h : ℕ) → state_in bytes target ≡ target_in bytes → RootIs bytes (header_of free h (hours h) 0 ++ target) (origin_in bytes) (hours h)
  unfolding node_at root
  target_root target h e = record { node = rw (e, origin_start bytes, origin_spent bytes, nothing_spent (hours h)) }

  with_bound : (a : Value Bool) (b : Value ℕ) (h : ℕ) → admitted bytes ≡ a → bounded bytes ≡ b → entered_of a b ≡ Ok (Some h)
      → searched ≡ S.rounds (costs_in bytes) (system_in bytes) (suc budget) budget limit first (drop 1 widths) 1 (root (costs_in bytes) (system_in bytes) (origin_in bytes) (hours h)) (record { best = none; low = (costs_in bytes).combine (origin_in bytes).spent (hours h); expansions = 0 })
  unfolding entered_of search search_within enter begin
  with_bound (value true) (value x) h p q e = let same : x ≡ h = cc in rw (origin_start bytes, p, bound_hours_lem bytes (target_in bytes) q, same)
  with_bound (value true) (trouble t) h p q e = let z : ◌≡◌ {A = ℕ} 0 1 = cc in absurd (omega arith)
  with_bound (value false) b h p q e = let z : ◌≡◌ {A = ℕ} 0 1 = cc in absurd (omega arith)
  with_bound (trouble t) b h p q e = let z : ◌≡◌ {A = ℕ} 0 1 = cc in absurd (omega arith)

  at_origin : {X : Type 0} (f : State → X) {x : X} → f (target_in bytes) ≡ x → f (origin_in bytes).start ≡ x
  at_origin f e = ap f (origin_start bytes) ∙ e

  broken : (a : Value Bool) (b : Value ℕ) → admitted bytes ≡ a → entered_of a b ≡ Ok None → searched ≡ ended_at_target first (verdict no_plan)
  unfolding entered_of
  broken (value true) (value x) p e = let z : ◌≡◌ {A = ℕ} 0 1 = cc in absurd (omega arith)
  broken (value true) (trouble t) p e = let z : ◌≡◌ {A = ℕ} 0 1 = cc in absurd (omega arith)
  broken (value false) b p e = broken_start (costs_in bytes) (system_in bytes) (origin_in bytes) budget limit first (drop 1 widths) (at_origin (system_in bytes).admits p) ∙ rw (cost_empty bytes)
  broken (trouble t) b p e = let z : ◌≡◌ {A = ℕ} 0 1 = cc in absurd (omega arith)

  troubled : (a : Value Bool) (b : Value ℕ) (t : ℕ) → admitted bytes ≡ a → bounded bytes ≡ b → entered_of a b ≡ Err t → searched ≡ ended_at_target first (by_state t)
  unfolding entered_of
  troubled (value true) (value x) t p q e = let z : ◌≡◌ {A = ℕ} 0 1 = cc in absurd (omega arith)
  troubled (value true) (trouble u) t p q e = let same : u ≡ t = cc in rw (sym same) (unbounded_start (costs_in bytes) (system_in bytes) (origin_in bytes) budget limit first (drop 1 widths) (at_origin (system_in bytes).admits p) (at_origin (system_in bytes).bound (bound_troubles bytes (target_in bytes) q)) ∙ rw (origin_spent bytes, cost_empty bytes))
  troubled (value false) b t p q e = let z : ◌≡◌ {A = ℕ} 0 1 = cc in absurd (omega arith)
  troubled (trouble u) b t p q e = let same : u ≡ t = cc in rw (sym same) (troubled_start (costs_in bytes) (system_in bytes) (origin_in bytes) budget limit first (drop 1 widths) (at_origin (system_in bytes).admits p) ∙ rw (origin_spent bytes, cost_empty bytes))

  module _ (plan plan' : List ℕ) (x : Answer) (q : P.Result (P.Option ℕ) ℕ) (entered : q ≡ entered_of (admitted bytes) (bounded bytes)) where
    pub says_run : (h : ℕ) → q ≡ Ok (Some h)
        → (at words best : List ℕ) (stop : Stop) → RootIs bytes at (origin_in bytes) (hours h) → Runs bytes at words best widths budget limit stop → Reports words best plan plan' stop x → SearchSays bytes plan plan' widths limit budget x
    says_run h e at words best stop at-root runs r =
        let same : searched ≡ stop_answer bytes words best stop = with_bound (admitted bytes) (bounded bytes) h refl refl (sym entered ∙ e) ∙ runs.same (origin_in bytes) (hours h) at-root in
        record { answer = answer_same x same (r.answer bytes); plan_after = r.plan_after bytes ∙ ap (λ (a : A.Answer Cost). buffer_after a plan) (sym same) }

    says_ended : (o : A.Outcome) (w : ℕ) → w ≡ first → searched ≡ ended_at_target first o → plan' ≡ plan → AnswerIs (ended_at_target w o) x → SearchSays bytes plan plan' widths limit budget x
    unfolding buffer_after
    says_ended o w there same kept r = record { answer = answer_same x same (rw there at r); plan_after = kept ∙ ap (λ (a : A.Answer Cost). buffer_after a plan) (sym same) }

    pub says_broken : (w : ℕ) → w ≡ first → q ≡ Ok None → plan' ≡ plan → AnswerIs (ended_at_target w (verdict no_plan)) x → SearchSays bytes plan plan' widths limit budget x
    says_broken w there e = says_ended (verdict no_plan) w there (broken (admitted bytes) (bounded bytes) refl (sym entered ∙ e))

    pub says_troubled : (t w : ℕ) → w ≡ first → q ≡ Err t → plan' ≡ plan → AnswerIs (ended_at_target w (by_state t)) x → SearchSays bytes plan plan' widths limit budget x
    says_troubled t w there e = says_ended (by_state t) w there (troubled (admitted bytes) (bounded bytes) t refl refl (sym entered ∙ e))

-- ---- the run, test by test

-- bytes that are not refused are read as their model
reads_as : (bytes : List ℕ) (x : Read Model) → model bytes ≡ x → 0 ≡ refusal_of x → (n : ℕ) × (model bytes ≡ read (model_of bytes) n)
unfolding refusal_of model_of read_model
reads_as bytes (read m n) e z = (n, rw e)
reads_as bytes (refused t) e z = absurd (omega (arith, model_refusal bytes e))

pub reads_in : (bytes : List ℕ) → 0 ≡ refusal_in bytes → (n : ℕ) × (model bytes ≡ read (model_of bytes) n)
reads_in bytes z = reads_as bytes (model bytes) refl z

module _ (most : ℕ) (bytes plan words : List ℕ) (q : Settings) where
  -- what the code has shown of an answer, with what is known of every run
  told : (plan' words' : List ℕ) (x : Answer) → AnswerIs (run_of most bytes plan words q) x → plan' ≡ buffer_after (run_of most bytes plan words q) plan
      → ((t : ℕ) → (run_of most bytes plan words q).outcome ≡ by_input t → words' ≡ words) → Searched most bytes plan plan' words words' q (numbers_of x)
  told plan' words' x is after kept =
      let meets = run_meets_demands most bytes q (lent plan words) in
      let fields = in_numbers (run_of most bytes plan words q) x is in
      let same = read_back (run_of most bytes plan words q) (numbers_of x) plan plan' (every_run_ends most bytes q (lent plan words)) (steps_fit_buffer most bytes q (lent plan words)) fields after in
      let outcome : (answer_in (numbers_of x) plan').outcome ≡ (run_of most bytes plan words q).outcome = ap (λ (a : A.Answer Cost). a.outcome) same ∙ (unfold shown in refl) in
      record {
        fields = fields;
        plan_after = after;
        kept = λ t e. (after ∙ refusal_changes_no_buffer most bytes q (lent plan words) plan (sym outcome ∙ e), kept t (sym outcome ∙ e));
        demands = subst (Demands bytes q) (sym same) meets;
      }

  pub refused_says : (t : ℕ) (x : Answer) → run_of most bytes plan words q ≡ refused_by_input t → AnswerIs (refused_by_input t) x → Searched most bytes plan plan words words q (numbers_of x)
  unfolding refused_by_input buffer_after
  refused_says t x e h = told plan words x (answer_same x e h) (rw e) (λ u f. refl)

-- ---- behind the settings, at the widths of a list

module _ (bytes plan words ws : List ℕ) (f : Form) (b : ℕ) where
  abbrev asked : Settings
  asked = record { beam = listed ws; form = f; budget = b }

  -- a refusal by the input
  pub set_refused : (t : ℕ) (x : Answer) → run_set bytes asked (lent plan words) ≡ refused_by_input t → AnswerIs (refused_by_input t) x → SetSays bytes plan plan words words asked x
  unfolding refused_by_input buffer_after
  set_refused t x e h = record { answer = answer_same x e h; plan_after = rw e; kept = λ u z. refl }

  module _ (z : 0 ≡ refusal_in bytes) (in_form : accepts f (model_of bytes) ≡ true) (limit : ℕ) (chosen : limit ≡ limit_of f (model_of bytes)) where
    pub few_steps : form_fits f ≡ true → limit ≤ most_steps
    few_steps fits = rw chosen (limit_within f bytes (reads_in bytes z).1 fits in_form)

    -- too little is lent
    pub set_unlent : lent_fits (widest_of (listed ws)) limit (lent plan words) ≡ false → lent_before f (widest_of (listed ws)) (lent plan words) ≡ true → run_set bytes asked (lent plan words) ≡ refused_by_input 3
    set_unlent e before = set_lent_behind bytes asked (lent plan words) before (reads_in bytes z).1 in_form (rw (sym chosen) e)

    -- the model has passed every test, and was searched
    pub set_says_lem : lent_fits (widest_of (listed ws)) limit (lent plan words) ≡ true → (plan' words' : List ℕ) (x : Answer) → SearchSays bytes plan plan' ws limit b x → SetSays bytes plan plan' words words' asked x
    unfolding search_model
    set_says_lem enough plan' words' x says =
        let same : run_set bytes asked (lent plan words) ≡ search_in bytes ws (limit_of f (model_of bytes)) b = set_searched bytes asked (lent plan words) (reads_in bytes z).1 in_form (rw (sym chosen) enough) in
        let told = subst (λ k. SearchSays bytes plan plan' ws k b x) chosen says in
        record {
          answer = answer_same x same told.answer;
          plan_after = told.plan_after ∙ ap (λ (a : A.Answer Cost). buffer_after a plan) (sym same);
          kept = λ t e. absurd (never_by_input (costs_in bytes) (system_in bytes) (origin_in bytes) b (limit_of f (model_of bytes)) (get_or ws 0 0) (drop 1 ws) t (ap (λ (a : A.Answer Cost). a.outcome) (sym same) ∙ e));
        }

-- ---- the settings, in front of it

module _ (most : ℕ) (bytes plan words : List ℕ) (q : Settings) where
  -- what was told behind the settings, with what is known of every run
  pub set_told : (q' : Settings) → run_of most bytes plan words q ≡ run_set bytes q' (lent plan words) → (plan' words' : List ℕ) (x : Answer) → SetSays bytes plan plan' words words' q' x
      → Searched most bytes plan plan' words words' q (numbers_of x)
  set_told q' same plan' words' x says =
      told most bytes plan words q plan' words' x (answer_same x same says.answer) (says.plan_after ∙ ap (λ (a : A.Answer Cost). buffer_after a plan) (sym same))
      (λ t e. says.kept t (ap (λ (a : A.Answer Cost). a.outcome) (sym same) ∙ e))

-- with W: the built-in widths, n of them
module _ (most : ℕ) (bytes plan words : List ℕ) (w b n : ℕ) (f : Form) (few : length bytes ≤ most) (fits : form_fits f ≡ true) (is : BuiltIn w n) where
  abbrev up_to_w : Settings
  up_to_w = record { beam = up_to w; form = f; budget = b }

  pub no_width : n ≤ 0 → run_of most bytes plan words up_to_w ≡ refused_by_input 2
  unfolding settings_fit
  no_width h =
      let none : n ≡ 0 = omega arith in
      run_bad_setting most bytes up_to_w (lent plan words) few (rw (built_in_none w (rw none at is)))

  module _ (some : 0 < n) (ws : List ℕ) (front : ws ≡ take n widths) where
    are_built_in : ws ≡ 1 ∷ wider_up_to w
    are_built_in = front ∙ (built_in_some w n is some).1

    pub front_rises : rising ws ≡ true
    front_rises = rw are_built_in (built_in_rises w (built_in_some w n is some).0)

    pub built_in_says : (plan' words' : List ℕ) (x : Answer) → SetSays bytes plan plan' words words' (asked bytes plan words ws f b) x → Searched most bytes plan plan' words words' up_to_w (numbers_of x)
    unfolding settings_fit
    built_in_says =
        let width = (built_in_some w n is some).0 in
        set_told most bytes plan words up_to_w (asked bytes plan words ws f b)
        (run_set_lem most bytes up_to_w (lent plan words) few (rw (width, fits)) refl ∙ rw are_built_in (sym (built_in_set bytes up_to_w (lent plan words) w width)))

-- with a list
module _ (most : ℕ) (bytes plan words ws : List ℕ) (f : Form) (b : ℕ) (few : length bytes ≤ most) (fits : form_fits f ≡ true) where
  abbrev at_widths : Settings
  at_widths = asked bytes plan words ws f b

  pub list_refused : rising ws ≡ false → run_of most bytes plan words at_widths ≡ refused_by_input 16
  unfolding settings_fit
  list_refused e = run_bad_widths most bytes at_widths (lent plan words) few fits e

  pub list_says : rising ws ≡ true → (plan' words' : List ℕ) (x : Answer) → SetSays bytes plan plan' words words' at_widths x → Searched most bytes plan plan' words words' at_widths (numbers_of x)
  unfolding settings_fit
  list_says e = set_told most bytes plan words at_widths at_widths (run_set_lem most bytes at_widths (lent plan words) few fits e)
