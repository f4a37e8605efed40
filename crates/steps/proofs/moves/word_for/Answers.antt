-- `steps::moves::word_for` meets its contract.
use Rattle.steps.proofs.Writing.{word_number, word_element, word_set, word_changed, word_joined}
use native.Mathlib.Omega.{arith}
use Rattle.steps.proofs.moves.word_for.Goals as goal

pub returns-then-kind-eq0 : goal.returns-then-kind-eq0
returns-then-kind-eq0 c = (
  word_number _ c.args.at _ _ c.requires.0 _ _ c.word_at-kind.ensures c.if-kind-eq0.true _ c.number_word.ensures.0,
  c.number_word.ensures.1,
  c.number_word.ensures.2,
)

pub returns-then-kind-le-MOST_OBJECTS : goal.returns-then-kind-le-MOST_OBJECTS
returns-then-kind-le-MOST_OBJECTS c = (
  word_element _ c.args.at _ _ c.requires.0 _ _ c.word_at-kind.ensures c.if-kind-eq0.false
      c.if-kind-le-MOST_OBJECTS.true c.element_at-e.result c.element_at-e.ensures.0 c.element_at-e.ensures.1.0,
  c.element_at-e.ensures.1.1,
  c.requires.3,
)

pub returns-then-is_changed : goal.returns-then-is_changed
returns-then-is_changed c =
    let form = c.is_changed.ensures c.if-is_changed.true in (
      word_changed _ c.args.at _ _ c.requires.0 _ _ c.word_at-kind.ensures c.if-kind-eq0.false
          c.if-kind-le-MOST_OBJECTS.false form c.changed.result c.changed.ensures,
      omega (arith, form.inside),
      c.requires.3,
    )

pub returns-then-is_joined : goal.returns-then-is_joined
returns-then-is_joined c =
    let form = c.is_joined.ensures c.if-is_joined.true in (
      word_joined _ c.args.at _ _ c.requires.0 _ _ c.word_at-kind.ensures c.if-kind-eq0.false
          c.if-kind-le-MOST_OBJECTS.false form c.joined.result c.joined.ensures,
      omega (arith, form.inside),
      c.requires.3,
    )

pub returns : goal.returns
returns c = (
  word_set _ c.args.at _ _ c.requires.0 _ _ c.word_at-kind.ensures c.if-kind-eq0.false
      c.if-kind-le-MOST_OBJECTS.false c.set_at-s.result c.set_at-s.ensures.0,
  c.set_at-s.ensures.1,
  c.requires.3,
)
