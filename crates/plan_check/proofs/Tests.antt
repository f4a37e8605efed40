-- The plan check's definition by the tests that the code makes: lengths, reading, following.
use Prim.Native.Nat.{ℕ, ◌≤◌, ◌<◌}
use mathlib.Core.Path.{◌≡◌, refl}
use mathlib.Core.List.{List}
use lib.ListN.{length}
use borrow.Author.Tests.{lt-ltb, le-ltb}
use Rattle.model.specs.Numbers.{most_model_bytes, most_steps, model_too_long, bad_setting}
use Rattle.model.specs.Values.{Value, trouble}
use Rattle.model.specs.Steps.{origin_of}
use Rattle.model.specs.declared.Cost.{Cost}
use Rattle.model.specs.Costs.{free}
use Rattle.model.specs.Check.{follow_from, check, check_model}
use Rattle.steps.specs.declared.answers.Checked.{Checked}
use Rattle.steps.specs.InBytes.{refusal_in, target_in}
use Rattle.steps.specs.Follow.{follow_from_in, CheckedIs}
use Rattle.steps.proofs.Promises.{refused_in_lem, read_in}

module _ (bytes plan : List ℕ) where
  pub check_long_model : most_model_bytes < length bytes → check bytes plan ≡ trouble model_too_long
  unfolding check
  check_long_model h = rw (lt-ltb most_model_bytes (length bytes) h)

  pub check_long_plan : length bytes ≤ most_model_bytes → most_steps < length plan → check bytes plan ≡ trouble bad_setting
  unfolding check
  check_long_plan h k = rw (le-ltb most_model_bytes (length bytes) h, lt-ltb most_steps (length plan) k)

  pub check_refused : (t : ℕ) → length bytes ≤ most_model_bytes → length plan ≤ most_steps → t ≡ refusal_in bytes → 0 < t → check bytes plan ≡ trouble t
  unfolding check check_model
  check_refused t h k e p = rw (le-ltb most_model_bytes (length bytes) h, le-ltb most_steps (length plan) k, refused_in_lem bytes t e p)

  pub check_read : length bytes ≤ most_model_bytes → length plan ≤ most_steps → 0 ≡ refusal_in bytes → check bytes plan ≡ follow_from_in bytes plan (target_in bytes) free
  unfolding check check_model origin_of
  check_read h k z = rw (le-ltb most_model_bytes (length bytes) h, le-ltb most_steps (length plan) k) (read_in bytes (λ x. check_model x plan) (λ K M o. follow_from K M plan o.start free) (λ m n. refl) z)

pub told_same : {v w : Value Cost} (r : Checked) → v ≡ w → CheckedIs w r → CheckedIs v r
told_same r e h = rw e h
