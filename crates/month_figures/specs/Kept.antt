-- The figures as the code keeps them, by the list of answers so far; an answer in numbers; what a figure of one answer says.
use Rattle.std.specs.Prelude.{ℕ, ◌^◌, ◌≤◌, ◌<◌, ◌≡◌, List, [], ◌∷◌, ◌++◌}
use Rattle.search_report.specs.Answers.{FieldsAre}
use Rattle.search_report.specs.declared.answers.Fields.{Fields}
use Rattle.month_figures.specs.Closing.{Taken, answered, unread, count_in, refused_in, cheapest_in, gap_in, verdicts, refusals, costs, names_taken, largest_gap, closing}
use Rattle.month_figures.specs.declared.Figures.{Figures}
use Rattle.month_figures.specs.declared.Share.{Share}

-- no file: a refusal with the number 0, all fields 0
abbrev pub unread_fields : Fields
unread_fields = record { refused = 1; verdict = 0; flag = 0; cost = 0; bound = 0; length = 0; expansions = 0; rounds = 0; width = 0; low = 0 }

-- these numbers are those of the answer
abbrev pub TakenIs : Taken → Fields → Type 0
TakenIs (answered a) x = FieldsAre a x
TakenIs unread x = x ≡ unread_fields

-- a figure of one answer
pub record Tells (f : Taken → ℕ) (x : Fields) (figure : ℕ) : Type 0 where
  pub same : (d : Taken) → TakenIs d x → figure ≡ f d

-- the same, with the most that it is
pub record TellsUpTo (most : ℕ) (f : Taken → ℕ) (x : Fields) (figure : ℕ) : Type 0 where
  pub tells : Tells f x figure
  pub within : figure ≤ most

-- a cost at verdict 0 is at most so much
abbrev pub CheapestWithin : (most : ℕ) → Fields → Type 0
CheapestWithin most x = x.refused ≡ 0 → x.verdict ≡ 0 → x.cost ≤ most

-- the cost at verdict 0
pub record TellsCost (x : Fields) (figure : ℕ) : Type 0 where
  pub tells : Tells cheapest_in x figure
  pub within : (most : ℕ) → CheapestWithin most x → figure ≤ most

-- what an answer adds to each figure
pub record Shares (x : Fields) (share : Share) : Type 0 where
  pub cheapest : TellsUpTo 1 (count_in 0) x share.cheapest
  pub planless : TellsUpTo 1 (count_in 1) x share.planless
  pub width : TellsUpTo 1 (count_in 2) x share.width
  pub length : TellsUpTo 1 (count_in 3) x share.length
  pub budget : TellsUpTo 1 (count_in 4) x share.budget
  pub contradicted : TellsUpTo 1 (count_in 5) x share.contradicted
  pub refused : TellsUpTo 1 refused_in x share.refused
  pub cost : TellsCost x share.cost
  pub gap : Tells gap_in x share.gap

-- the figures of a list
unfoldable pub figures_of : List Taken → Figures
figures_of l =
    record {
      names = names_taken l;
      cheapest = verdicts 0 l;
      planless = verdicts 1 l;
      width = verdicts 2 l;
      length = verdicts 3 l;
      budget = verdicts 4 l;
      contradicted = verdicts 5 l;
      refused = refusals l;
      sum = costs l;
      gap = largest_gap l;
    }

-- before the first answer
pub record NoneYet (x : Figures) : Type 0 where
  pub none_yet : x ≡ figures_of []

-- no count and no sum is near the end of its word
pub record Roomy (x : Figures) : Type 0 where
  pub names : x.names < 2 ^ 63
  pub cheapest : x.cheapest < 2 ^ 63
  pub planless : x.planless < 2 ^ 63
  pub width : x.width < 2 ^ 63
  pub length : x.length < 2 ^ 63
  pub budget : x.budget < 2 ^ 63
  pub contradicted : x.contradicted < 2 ^ 63
  pub refused : x.refused < 2 ^ 63
  pub sum : x.sum < 2 ^ 63

-- what an answer more needs: room in every figure, for its cost too
pub record Addable (figures : Figures) (x : Fields) : Type 0 where
  pub roomy : Roomy figures
  pub cost : CheapestWithin (2 ^ 62) x

-- an answer more: the figures of the list with it behind
pub record Added (figures : Figures) (x : Fields) (after : Figures) : Type 0 where
  pub one_further : (l : List Taken) (d : Taken) → figures ≡ figures_of l → TakenIs d x → after ≡ figures_of (l ++ (d ∷ []))

-- the closing line's figures
pub record Closes (figures : Figures) (numbers : List ℕ) : Type 0 where
  pub same : (l : List Taken) → figures ≡ figures_of l → numbers ≡ closing l
