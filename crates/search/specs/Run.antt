-- A run from the bytes of a model and the settings: refusals 1, 2, 16 and 3, then reading, 15 and 3 in the loading profile, then the search.
-- docs/FORMAT.md, "Settings", "Refusals by the input", "Loading profile" and "Program".
use Rattle.std.specs.Prelude.{ℕ, ◌+◌, ◌*◌, Bool, true, false, cond, not, ◌&&◌, List, [], ◌∷◌, length, get_or, drop, leb, ltb, eqb}
use Rattle.laws.specs.Lists.{any, filter}
use Rattle.model.specs.Numbers.{model_too_long, bad_setting, too_little_lent, outside_profile, bad_widths, most_steps, most_width, most_widths, range_end}
use Rattle.model.specs.Readers.{Read, read, refused}
use Rattle.model.specs.Syntax.{Model}
use Rattle.model.specs.Commands.{model}
use Rattle.model.specs.Costs.{free, hours, costs_of}
use Rattle.model.specs.Steps.{system_of, origin_of}
use Rattle.model.specs.declared.Cost.{Cost}
use Rattle.model.specs.Profile.{in_profile, loading_length}
use Rattle.search.specs.Answer.{by_input, Answer, outcome_number}
use Rattle.search.specs.Search.{search}
use Rattle.search.specs.Guarantee.{widest}

-- the widths that rounds may have: "1, 2, 4 up to W"; or "a list of … widths" that the caller lends
pub data Beam : Type 0 where
  up_to : (widest : ℕ) → Beam
  listed : (widths : List ℕ) → Beam

-- how far a run goes: "length L"; or, with no length given, as far as the loading profile says
pub data Form : Type 0 where
  plain : (limit : ℕ) → Form
  loading : Form

-- the settings of a run
pub record Settings : Type 0 where
  pub beam : Beam
  pub form : Form
  pub budget : ℕ

-- how much the caller lends
pub record Lent : Type 0 where
  pub plan_bytes : ℕ
  pub words : ℕ

-- "Widths are 1, 2, 4 up to W": those behind 1
abbrev pub wider_widths : List ℕ
wider_widths = 2 ∷ 4 ∷ 8 ∷ 16 ∷ 32 ∷ 64 ∷ 128 ∷ 256 ∷ 512 ∷ 1024 ∷ 2048 ∷ 4096 ∷ []

unfoldable pub wider_up_to : ℕ → List ℕ
wider_up_to widest = filter (λ w. leb w widest) wider_widths

-- "a power of two, 1..4,096"
abbrev pub is_width : ℕ → Bool
is_width widest = any (λ w. eqb w widest) (1 ∷ wider_widths)

-- each entry above the one before it, and none above 4,096
unfoldable pub rising_from : (before : ℕ) → List ℕ → Bool
rising_from before [] = true
rising_from before (w ∷ ws) = ltb before w && leb w most_width && rising_from w ws

-- "a list of 1 to 16 widths …, strictly rising, from 1 to 4,096"
unfoldable pub rising : List ℕ → Bool
rising ws = leb 1 (length ws) && leb (length ws) most_widths && rising_from 0 ws

-- the width of round 1: "A run starts at the first entry"
abbrev pub first_width : Beam → ℕ
first_width (up_to w) = 1
first_width (listed ws) = get_or ws 0 0

-- those behind it: "'Next width' in the search rules means the next entry"
abbrev pub wider_than : Beam → List ℕ
wider_than (up_to w) = wider_up_to w
wider_than (listed ws) = drop 1 ws

-- W: "W is then its last entry and need not be a power of two"
abbrev pub widest_of : Beam → ℕ
widest_of (up_to w) = w
widest_of (listed ws) = widest (get_or ws 0 0) (drop 1 ws)

-- the steps that a plan may have. "The profile's entry chooses the length itself"
abbrev pub limit_of : Form → Model → ℕ
limit_of (plain limit) m = limit
limit_of loading m = loading_length m

-- "widest beam W, a power of two, 1..4,096"; with a list W is no setting
abbrev pub beam_fits : Beam → Bool
beam_fits (up_to w) = is_width w
beam_fits (listed ws) = true

-- "16, list empty, too long, not rising or out of range"; without a list "the built-in table serves"
abbrev pub list_fits : Beam → Bool
list_fits (up_to w) = true
list_fits (listed ws) = rising ws

-- "length L, 1..256"
abbrev pub form_fits : Form → Bool
form_fits (plain limit) = leb 1 limit && leb limit most_steps
form_fits loading = true

unfoldable pub settings_fit : Settings → Bool
settings_fit q = beam_fits q.beam && form_fits q.form

-- "The caller lends at least L plan bytes and 64 × W + W × (L + 1) working words"
unfoldable pub words_needed : (widest limit : ℕ) → ℕ
words_needed widest limit = 64 * widest + widest * (limit + 1)

unfoldable pub lent_fits : (widest limit : ℕ) → Lent → Bool
lent_fits widest limit l = leb limit l.plan_bytes && leb (words_needed widest limit) l.words

-- what can be asked before the reading: all of it where the length is given, nothing where the model decides on it
abbrev pub lent_before : Form → (widest : ℕ) → Lent → Bool
lent_before (plain limit) widest l = lent_fits widest limit l
lent_before loading widest l = true

-- whether a run of this form takes the model
abbrev pub accepts : Form → Model → Bool
accepts (plain limit) m = true
accepts loading m = in_profile m

-- "All other answer fields 0"
unfoldable pub refused_by_input : ℕ → Answer Cost
refused_by_input t = record { outcome = by_input t; flag = false; cost = free; bound = free; steps = []; tally = record { expansions = 0; rounds = 0; width = 0 } }

unfoldable pub search_model : Model → Settings → Answer Cost
search_model m q = search (costs_of m.rule) (system_of range_end m) q.budget (limit_of q.form m) (first_width q.beam) (wider_than q.beam) (origin_of m)

-- "15, model outside the profile, … comes after a complete reading and before the search; 3 is tested right after it here"; where the
-- length is given, 3 has been passed already
unfoldable pub run_read : Read Model → Settings → Lent → Answer Cost
run_read (read m n) q l =
    cond (not (accepts q.form m)) (refused_by_input outside_profile)
    (cond (not (lent_fits (widest_of q.beam) (limit_of q.form m) l)) (refused_by_input too_little_lent)
    (search_model m q))
run_read (refused t) q l = refused_by_input t

-- behind the settings: what is lent, then the reading
unfoldable pub run_set : (bytes : List ℕ) → Settings → Lent → Answer Cost
run_set bytes q l = cond (not (lent_before q.form (widest_of q.beam) l)) (refused_by_input too_little_lent) (run_read (model bytes) q l)

-- most: the bytes that a model may have, 65,536, or 16,384 for the program. 16 "comes right after 2"
unfoldable pub run : (most : ℕ) (bytes : List ℕ) → Settings → Lent → Answer Cost
run most bytes q l =
    cond (ltb most (length bytes)) (refused_by_input model_too_long)
    (cond (not (settings_fit q)) (refused_by_input bad_setting)
    (cond (not (list_fits q.beam)) (refused_by_input bad_widths)
    (run_set bytes q l)))

-- the answer as its reader has it: the cost at both figures; the bound, which "is for high costs", in hours
unfoldable pub shown : Answer Cost → Answer Cost
shown a =
    record {
      outcome = a.outcome;
      flag = a.flag;
      cost = record { high = a.cost.high; low = a.cost.low; moves = 0 };
      bound = hours a.bound.high;
      steps = a.steps;
      tally = a.tally;
    }

-- its fields in document 01's order, then document 02's: "the plan's cost at low figures, filled wherever the cost is and printed after the
-- width". The program's line has them in front of the colon
unfoldable pub fields : Answer Cost → List ℕ
fields a =
    outcome_number a.outcome ∷ cond a.flag 1 0 ∷ a.cost.high ∷ a.bound.high ∷ length a.steps
    ∷ a.tally.expansions ∷ a.tally.rounds ∷ a.tally.width ∷ a.cost.low ∷ []
