-- Where the answer of a run comes from: each refusal by the input from its own test, in their order; else the search of the model that the bytes
-- say, which then has passed every test.
use Prim.Native.Nat.{ℕ, ◌≤◌, ◌<◌}
use mathlib.Core.Path.{◌≡◌, refl, ◌∙◌, subst}
use mathlib.Core.Bool.{true, false, not, true≢false}
use mathlib.Core.List.{List}
use native.Mathlib.Omega.{arith}
use lib.ListN.{length}
use lib.Dec.{ltb}
use borrow.Author.Tests.{lt-ltb, le-ltb}
use Rattle.laws.proofs.Bools.{by_cond, not_false, not_true}
use Rattle.model.specs.declared.Cost.{Cost}
use Rattle.model.specs.Numbers.{model_too_long, bad_setting, too_little_lent, outside_profile, bad_widths}
use Rattle.model.specs.Readers.{Read, read, refused}
use Rattle.model.specs.Syntax.{Model}
use Rattle.model.specs.Commands.{model}
use Rattle.model.proofs.Reading.{model_refusal}
use Rattle.search.specs.Answer.{by_input, Answer}
use Rattle.search.specs.Demands.{Ends, refused_for_input, refused_outside_profile, refused_bad_widths}
use Rattle.search.specs.Run.{Beam, up_to, listed, Form, plain, loading, Settings, Lent, rising, widest_of, limit_of, list_fits, settings_fit, lent_fits, lent_before, accepts, refused_by_input, search_model, run_read, run_set, run}
use Rattle.search.proofs.Settings.{enough_before}

-- the model that the bytes say has passed every test behind the length of the bytes
pub record Accepted (bytes : List ℕ) (q : Settings) (l : Lent) (m : Model) : Type 0 where
  pub used : ℕ
  pub reads : model bytes ≡ read m used
  pub fit : settings_fit q ≡ true
  pub rises : list_fits q.beam ≡ true
  pub in_form : accepts q.form m ≡ true
  pub enough : lent_fits (widest_of q.beam) (limit_of q.form m) l ≡ true

-- a run is refused by the input, with no other field, or it is the search of the model
pub data Source (bytes : List ℕ) (q : Settings) (l : Lent) : Answer Cost → Type 0 where
  input_refused : (t : ℕ) → Ends q (by_input t) → Source bytes q l (refused_by_input t)
  searched : (m : Model) → Accepted bytes q l m → Source bytes q l (search_model m q)

-- only the loading profile refuses a model that is read
refused_form : (f : Form) (m : Model) → accepts f m ≡ false → f ≡ loading
refused_form (plain limit) m e = absurd (true≢false e)
refused_form loading m e = refl

-- and only a list is refused for its widths
refused_list : (b : Beam) → list_fits b ≡ false → (ws : List ℕ) × (b ≡ listed ws) × (rising ws ≡ false)
refused_list (up_to w) e = absurd (true≢false e)
refused_list (listed ws) e = (ws, refl, e)

module _ (bytes : List ℕ) (q : Settings) (l : Lent) where
  read_source : (x : Read Model) → model bytes ≡ x → settings_fit q ≡ true → list_fits q.beam ≡ true → Source bytes q l (run_read x q l)
  unfolding run_read
  read_source (read m n) e s r =
      by_cond (Source bytes q l) (not (accepts q.form m)) (λ a. input_refused outside_profile (refused_outside_profile (refused_form q.form m (not_true _ a))))
      (λ a. by_cond (Source bytes q l) (not (lent_fits (widest_of q.beam) (limit_of q.form m) l)) (λ _. input_refused too_little_lent (refused_for_input (omega arith) (omega arith)))
      (λ h. searched m (record { used = n; reads = e; fit = s; rises = r; in_form = not_false _ a; enough = not_false _ h })))
  read_source (refused t) e s r = let range = model_refusal bytes e in input_refused t (refused_for_input {t = t} (omega arith) range.1)

  pub run_source : (most : ℕ) → Source bytes q l (run most bytes q l)
  unfolding run run_set
  run_source most =
      by_cond (Source bytes q l) (ltb most (length bytes)) (λ _. input_refused model_too_long (refused_for_input (omega arith) (omega arith)))
      (λ _. by_cond (Source bytes q l) (not (settings_fit q)) (λ _. input_refused bad_setting (refused_for_input (omega arith) (omega arith)))
      (λ s. by_cond (Source bytes q l) (not (list_fits q.beam)) (λ n. let (ws, lent, falls) = refused_list q.beam (not_true _ n) in input_refused bad_widths (refused_bad_widths ws lent falls))
      (λ r. by_cond (Source bytes q l) (not (lent_before q.form (widest_of q.beam) l)) (λ _. input_refused too_little_lent (refused_for_input (omega arith) (omega arith)))
      (λ _. read_source (model bytes) refl (not_false _ s) (not_false _ r)))))

-- of bytes that are read as m: what holds of every refusal and, where it is accepted, of the search of m, holds of the run
module _ (bytes : List ℕ) (q : Settings) (l : Lent) (m : Model) (n : ℕ) (reads : model bytes ≡ read m n)
    (P : Answer Cost → Type 0) (of-refusal : (t : ℕ) → P (refused_by_input t)) (of-search : Accepted bytes q l m → P (search_model m q)) where
  by_source : {a : Answer Cost} → Source bytes q l a → P a
  by_source (input_refused t r) = of-refusal t
  by_source (searched d x) =
      let same : m ≡ d = cc x.reads in
      subst (λ (d : Model). Accepted bytes q l d → P (search_model d q)) same of-search x

  pub run_holds : (most : ℕ) → P (run most bytes q l)
  run_holds most = by_source (run_source bytes q l most)

-- ---- each case by its test

-- behind the settings
module _ (bytes : List ℕ) (q : Settings) (l : Lent) where
  pub set_little_lent : lent_before q.form (widest_of q.beam) l ≡ false → run_set bytes q l ≡ refused_by_input too_little_lent
  unfolding run_set
  set_little_lent b = rw b

  module _ (before : lent_before q.form (widest_of q.beam) l ≡ true) where
    pub set_unread : {t : ℕ} → model bytes ≡ refused t → run_set bytes q l ≡ refused_by_input t
    unfolding run_set run_read
    set_unread e = rw (before, e)

    module _ {m : Model} {n : ℕ} (reads : model bytes ≡ read m n) where
      pub set_outside : accepts q.form m ≡ false → run_set bytes q l ≡ refused_by_input outside_profile
      unfolding run_set run_read
      set_outside a = rw (before, reads, a)

      pub set_lent_behind : accepts q.form m ≡ true → lent_fits (widest_of q.beam) (limit_of q.form m) l ≡ false → run_set bytes q l ≡ refused_by_input too_little_lent
      unfolding run_set run_read
      set_lent_behind a h = rw (before, reads, a, h)

  pub set_searched : {m : Model} {n : ℕ} → model bytes ≡ read m n → accepts q.form m ≡ true → lent_fits (widest_of q.beam) (limit_of q.form m) l ≡ true → run_set bytes q l ≡ search_model m q
  unfolding run_set run_read
  set_searched {m} reads a h = rw (enough_before q.form m (widest_of q.beam) l h, reads, a, h)

-- the settings, in front of it
module _ (most : ℕ) (bytes : List ℕ) (q : Settings) (l : Lent) where
  pub run_too_long : most < length bytes → run most bytes q l ≡ refused_by_input model_too_long
  unfolding run
  run_too_long h = rw (lt-ltb most (length bytes) h)

  module _ (few : length bytes ≤ most) where
    pub run_bad_setting : settings_fit q ≡ false → run most bytes q l ≡ refused_by_input bad_setting
    unfolding run
    run_bad_setting s = rw (le-ltb most (length bytes) few, s)

    -- "16 … comes right after 2"
    pub run_bad_widths : settings_fit q ≡ true → list_fits q.beam ≡ false → run most bytes q l ≡ refused_by_input bad_widths
    unfolding run
    run_bad_widths s r = rw (le-ltb most (length bytes) few, s, r)

    pub run_set_lem : settings_fit q ≡ true → list_fits q.beam ≡ true → run most bytes q l ≡ run_set bytes q l
    unfolding run
    run_set_lem s r = rw (le-ltb most (length bytes) few, s, r)

    pub run_accepted : {m : Model} → Accepted bytes q l m → run most bytes q l ≡ search_model m q
    run_accepted x = run_set_lem x.fit x.rises ∙ set_searched bytes q l x.reads x.in_form x.enough
