-- What the search on bytes says: the definition's run, field by field; the plan buffer and the working words; the mission's demands.
use Rattle.std.specs.Prelude.{ℕ, ◌^◌, ◌≤◌, ◌<◌, ◌≡◌, Bool, true, false, List, [], length, get_or, drop, Some, None, Ok, Err}
use Rattle.std.specs.Prelude as P
use Rattle.model.specs.declared.Cost.{Cost}
use Rattle.model.specs.Costs.{free}
use Rattle.model.specs.Numbers.{most_model_bytes, most_steps}
use Rattle.model.specs.Values.{Value, value, trouble}
use Rattle.search.specs.Answer as A
use Rattle.search.specs.Answer.{by_input, buffer_after}
use Rattle.search.specs.Search.{search}
use Rattle.search.specs.Run.{Settings, up_to, listed, plain, loading, Lent, rising, widest_of, run_set, run}
use Rattle.search.specs.Demands.{Demands}
use Rattle.steps.specs.InBytes.{Outlined, system_in, origin_in}
use Rattle.steps.specs.Follow.{costs_in}
use Rattle.search_rounds.specs.Rounds.{RoomFor}
use Rattle.search_report.specs.Answers.{AnswerIs, FieldsAre, answer_in}
use Rattle.search_report.specs.declared.answers.Answer.{Answer}
use Rattle.search_report.specs.declared.answers.Fields.{Fields}

-- what is met at the target: its constraints, then its bounds; none where a constraint fails
unfoldable pub entered_of : (admits : Value Bool) (bound : Value ℕ) → P.Result (P.Option ℕ) ℕ
entered_of (value true) (value h) = Ok (Some h)
entered_of (value true) (trouble t) = Err t
entered_of (value false) bound = Ok None
entered_of (trouble t) bound = Err t

-- the answer of a run that ends at the target, in round 1 at this width, before anything is found
abbrev pub ended_at_target : (width : ℕ) → A.Outcome → A.Answer Cost
ended_at_target width o = record { outcome = o; flag = false; cost = free; bound = free; steps = []; tally = record { expansions = 0; rounds = 1; width = width } }

-- what the search of a model needs: that it was read, room for its widest round, widths that rise, a budget in its range
pub record Searchable (bytes outline words plan widths : List ℕ) (limit budget : ℕ) : Type 0 where
  pub outlined : Outlined bytes outline
  pub room : RoomFor words plan (widest_of (listed widths)) limit
  pub rises : rising widths ≡ true
  pub small_budget : budget < 2 ^ 32

-- the search of the model that stands in the bytes, at the widths of a list
abbrev pub search_in : (bytes widths : List ℕ) (limit budget : ℕ) → A.Answer Cost
search_in bytes widths limit budget = search (costs_in bytes) (system_in bytes) budget limit (get_or widths 0 0) (drop 1 widths) (origin_in bytes)

pub record SearchSays (bytes plan plan' widths : List ℕ) (limit budget : ℕ) (x : Answer) : Type 0 where
  pub answer : AnswerIs (search_in bytes widths limit budget) x
  pub plan_after : plan' ≡ buffer_after (search_in bytes widths limit budget) plan

-- the settings where the length is given
abbrev pub settings : (widest limit budget : ℕ) → Settings
settings w limit budget = record { beam = up_to w; form = plain limit; budget = budget }

-- the settings in the loading profile, where the model decides on the length
abbrev pub loading_settings : (widest budget : ℕ) → Settings
loading_settings w budget = record { beam = up_to w; form = loading; budget = budget }

-- both with a list of widths in the place of W
abbrev pub list_settings : (widths : List ℕ) (limit budget : ℕ) → Settings
list_settings ws limit budget = record { beam = listed ws; form = plain limit; budget = budget }

abbrev pub list_loading_settings : (widths : List ℕ) (budget : ℕ) → Settings
list_loading_settings ws budget = record { beam = listed ws; form = loading; budget = budget }

-- what is lent
abbrev pub lent_of : (plan_bytes words : ℕ) → Lent
lent_of p n = record { plan_bytes = p; words = n }

abbrev pub lent : (plan words : List ℕ) → Lent
lent plan words = lent_of (length plan) (length words)

-- what the settings have passed where the length is given
pub record Settled (bytes widths : List ℕ) (limit : ℕ) : Type 0 where
  pub few_bytes : length bytes ≤ most_model_bytes
  pub rises : rising widths ≡ true
  pub few_steps : limit ≤ most_steps

-- what follows the tests of the settings: what is lent, the reading, the run
pub record SetSays (bytes plan plan' words words' : List ℕ) (q : Settings) (x : Answer) : Type 0 where
  pub answer : AnswerIs (run_set bytes q (lent plan words)) x
  pub plan_after : plan' ≡ buffer_after (run_set bytes q (lent plan words)) plan
  pub kept : (t : ℕ) → (run_set bytes q (lent plan words)).outcome ≡ by_input t → words' ≡ words

-- the run of these bytes with these settings and buffers; most: the bytes that a model may have
abbrev pub run_of : (most : ℕ) (bytes plan words : List ℕ) → Settings → A.Answer Cost
run_of most bytes plan words q = run most bytes q (lent plan words)

-- what a caller of the search is given, x being the answer in numbers
pub record Searched (most : ℕ) (bytes plan plan' words words' : List ℕ) (q : Settings) (x : Fields) : Type 0 where
  -- "the answer and the plan buffer are as document 01's rules give them"
  pub fields : FieldsAre (run_of most bytes plan words q) x
  pub plan_after : plan' ≡ buffer_after (run_of most bytes plan words q) plan
  -- "Refusing a model or a setting changes no lent buffer"
  pub kept : (t : ℕ) → (answer_in x plan').outcome ≡ by_input t → (plan' ≡ plan) × (words' ≡ words)
  -- the mission's demands, of these very numbers and of the plan at the front of the buffer; in the loading profile they say besides that
  -- no run ends in a length stop
  pub demands : Demands bytes q (answer_in x plan')
