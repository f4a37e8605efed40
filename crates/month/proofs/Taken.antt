-- Names taken one after the other: what a line comes to, a line more, and the end of the list or of the thousand.
use Rattle.std.specs.Prelude.{Option}
use Prim.Native.Nat.{ℕ, suc, ◌<◌}
use mathlib.Core.Path.{◌≡◌, refl, sym, ◌∙◌, ap, subst}
use mathlib.Core.Bool.{Bool, true, false, true≢false}
use mathlib.Core.List.{List, [], ◌∷◌, ◌++◌, map}
use native.Mathlib.Omega.{arith}
use lib.ListN.{length, length-append, length-map}
use lib.Dec.{ltb}
use borrow.Author.Tests.{ltb-true, ltb-false}
use Rattle.laws.specs.Lists.{All, any, is_empty}
use Rattle.search.specs.Run.{run}
use Rattle.solver.specs.Searches.{settings, lent_of}
use Rattle.search_report.specs.Answers.{FieldsAre, numbers_of}
use Rattle.search_report.specs.declared.answers.Answer.{Answer}
use Rattle.program.specs.Program.{Planned}
use Rattle.search_report.specs.declared.answers.Fields.{Fields}
use Rattle.month_names.specs.Names.{Name, named, most_names, name_of}
use Rattle.month_names.specs.Lines.{LineOf, Unbroken, joined, Started, Scanned, Unusable, NameIs}
use Rattle.month_names.specs.declared.Line.{Line}
use Rattle.month_names.proofs.Splitting.{unbroken_joined, names_of_closed, names_with_last, names_of_full, all_behind}
use Rattle.month_figures.specs.Closing.{Taken, answered, unread, cheapest_in, gives}
use Rattle.month_figures.specs.Kept.{unread_fields, TakenIs, CheapestWithin, figures_of, Addable, Added, NoneYet}
use Rattle.month_figures.specs.declared.Figures.{Figures}
use Rattle.month_figures.proofs.Fitting.{CostWithin, figures_roomy}
use Rattle.month.specs.Month.{answer_to, AnswerFor, no_name, no_file, planned, AnswersFor, none, and_one, MonthOf}
use Rattle.month.specs.Taking.{FileSays, LineSays, LineAnswer, SoFar}
use Rattle.month.specs.declared.End.{End}
use Rattle.month.specs.declared.End.TheVariants.{Full, Over}
use Rattle.month.specs.Taking as T
use Rattle.month.proofs.Costs.{most_cost, most_cost_small, answer_within, numbers_within}

-- ---- a line as it comes

pub line_begins : {line : Line} → Started line → LineSays line
unfolding any
line_begins h = record { bytes = []; unbroken = refl; line_of = h.none_yet }

-- a part of the list more
pub line_goes_on : {part : List ℕ} {line line' : Line} {closed : Option ℕ} → LineSays line → Scanned part line line' closed → LineSays line'
line_goes_on l S =
    record { bytes = l.bytes ++ S.taken; unbroken = unbroken_joined l.bytes S.taken l.unbroken S.unbroken; line_of = S.more l.bytes l.line_of }

-- ---- what a line comes to

-- the numbers of the search with the programs' buffers
pub planned_numbers : (bytes plan plan' : List ℕ) (a : Answer) {x : Fields} → Planned bytes plan plan' a → length plan ≡ 64 → x ≡ numbers_of a → FieldsAre (answer_to bytes) x
planned_numbers bytes plan plan' a P room e =
    rw e
    (subst (λ (n : ℕ). FieldsAre (run 16384 bytes (settings 16 64 100000) (lent_of n 2064)) (numbers_of a)) room
    (subst (λ (n : ℕ). FieldsAre (run 16384 bytes (settings 16 64 100000) (lent_of (length plan) n)) (numbers_of a)) P.lent P.searched.fields))

module _ (line : Line) (x : Fields) where
  pub line_named : {name : List ℕ} → NameIs line name → FileSays x → LineAnswer line x
  line_named {name} N says = record { answer = λ bytes i. rw (N.same bytes i) (pick says) }
    where
      pick : FileSays x → (d : Taken) × AnswerFor (named name) d × TakenIs d x
      pick (T.no_file e) = (unread, no_file, e)
      pick (T.planned model is) = (answered (answer_to model), planned model, is)

  pub line_unusable : Unusable line → x ≡ unread_fields → LineAnswer line x
  line_unusable U e = record { answer = λ bytes i. rw (U.none bytes i) (unread, no_name, e) }

-- ---- a line more

answer_cost_lem : {n : Name} {d : Taken} → AnswerFor n d → CostWithin most_cost d
unfolding cheapest_in gives
answer_cost_lem no_name = omega arith
answer_cost_lem no_file = omega arith
answer_cost_lem (planned bytes) = answer_within bytes

answers_cost : {ns : List Name} {ds : List Taken} → AnswersFor ns ds → All (CostWithin most_cost) ds
answers_cost none = tt
answers_cost (and_one a more) = (answer_cost_lem a, answers_cost more)

number_cost : (x : Fields) {n : Name} {d : Taken} → AnswerFor n d → TakenIs d x → CheapestWithin most_cost x
number_cost x no_name e r z = let one : x.refused ≡ 1 = rw e in absurd (omega arith)
number_cost x no_file e r z = let one : x.refused ≡ 1 = rw e in absurd (omega arith)
number_cost x (planned bytes) is r z = numbers_within bytes x is r z

as_many : {ns : List Name} {ds : List Taken} → AnswersFor ns ds → length ns ≡ length ds
as_many none = refl
as_many (and_one a more) = ap suc (as_many more)

answers_behind : {ns : List Name} {ds : List Taken} {n : Name} {d : Taken} → AnswersFor ns ds → AnswerFor n d → AnswersFor (ns ++ (n ∷ [])) (ds ++ (d ∷ []))
answers_behind none a = and_one a none
answers_behind (and_one b bs) a = and_one b (answers_behind bs a)

map_behind : (ls : List (List ℕ)) (l : List ℕ) → map name_of (ls ++ (l ∷ [])) ≡ map name_of ls ++ (name_of l ∷ [])
map_behind [] l = refl
map_behind (k ∷ ls) l = ap (λ (ns : List Name). name_of k ∷ ns) (map_behind ls l)

as_many_lines : {f : Figures} (s : SoFar f) → length s.lines ≡ length s.answers
as_many_lines s = sym (length-map s.lines name_of) ∙ as_many s.each

names_are_lines : {f : Figures} (s : SoFar f) → f.names ≡ length s.lines
unfolding figures_of
names_are_lines {f} s = ap (λ (g : Figures). g.names) s.shown ∙ sym (as_many_lines s)

pub so_far_none : (f : Figures) → NoneYet f → SoFar f
so_far_none f h = record { lines = []; answers = []; unbroken = tt; each = none; shown = h.none_yet; few = omega arith }

module _ (f : Figures) (s : SoFar f) (line : Line) (x : Fields) (L : LineSays line) (A : LineAnswer line x) where
  pub so_far_addable : Addable f x
  so_far_addable =
      let (d, a, is) = A.answer L.bytes L.line_of in
      record {
        roomy = rw s.shown (figures_roomy most_cost s.answers (omega (arith, as_many_lines s, s.few)) most_cost_small (answers_cost s.each));
        cost = λ r z. omega (arith, number_cost x a is r z);
      }

  pub so_far_more : (f' : Figures) → ltb f.names most_names ≡ true → Added f x f' → SoFar f'
  so_far_more f' more added =
      let (d, a, is) = A.answer L.bytes L.line_of in
      record {
        lines = s.lines ++ (L.bytes ∷ []);
        answers = s.answers ++ (d ∷ []);
        unbroken = all_behind Unbroken s.lines L.bytes s.unbroken L.unbroken;
        each = rw (map_behind s.lines L.bytes) (answers_behind s.each a);
        shown = added.one_further s.answers d s.shown is;
        few = omega (arith, ltb-true f.names most_names more, names_are_lines s, length-append s.lines (L.bytes ∷ []));
      }

  pub one_name_more : (f' : Figures) → Added f x f' → f'.names ≡ suc f.names
  unfolding figures_of
  one_name_more f' added =
      let (d, a, is) = A.answer L.bytes L.line_of in
      let behind : f'.names ≡ length (s.answers ++ (d ∷ [])) = ap (λ (g : Figures). g.names) (added.one_further s.answers d s.shown is) in
      omega (arith, names_are_lines s, as_many_lines s, length-append s.answers (d ∷ []))

-- ---- the end

-- the list is over, or cannot be read, behind a line that is closed
pub month_over : (f : Figures) (end : End) → SoFar f → (end ≡ Full → ⊥) → MonthOf (record { figures = f; end = end })
month_over f end s short =
    record {
      list = joined s.lines;
      answers = s.answers;
      each = rw (names_of_closed s.lines s.unbroken s.few) s.each;
      figures = s.shown;
      enough = λ e. absurd (short e);
    }

-- a thousand names are taken
pub month_full : (f : Figures) → SoFar f → ltb f.names most_names ≡ false → MonthOf (record { figures = f; end = Full })
month_full f s full =
    let exactly : length s.lines ≡ most_names = omega (arith, ltb-false f.names most_names full, names_are_lines s, s.few) in
    record {
      list = joined s.lines;
      answers = s.answers;
      each = rw (names_of_closed s.lines s.unbroken s.few) s.each;
      figures = s.shown;
      enough = λ _ rest. names_of_full s.lines rest s.unbroken exactly ∙ sym (names_of_closed s.lines s.unbroken s.few);
    }

line_there : (bytes : List ℕ) {line : Line} → LineOf bytes line → (line.length ≡ 0 → ⊥) → is_empty bytes ≡ false
unfolding is_empty
line_there [] i h = absurd (h (i.few (omega arith)))
line_there (b ∷ bs) i h = refl

-- the list is over behind a line that lacks its line end
pub month_last : (f f' : Figures) (s : SoFar f) (line : Line) (x : Fields) → LineSays line → LineAnswer line x → (line.length ≡ 0 → ⊥)
    → ltb f.names most_names ≡ true → Added f x f' → MonthOf (record { figures = f'; end = Over })
unfolding so_far_more
month_last f f' s line x L A some more added =
    let more-taken = so_far_more f s line x L A f' more added in
    let fewer : length s.lines < most_names = omega (arith, ltb-true f.names most_names more, names_are_lines s) in
    record {
      list = joined s.lines ++ L.bytes;
      answers = more-taken.answers;
      each = rw (names_with_last s.lines L.bytes s.unbroken L.unbroken (line_there L.bytes L.line_of some) fewer) more-taken.each;
      figures = more-taken.shown;
      enough = λ e. cc;
    }
