use Rattle.checker_state.proofs.places.Laws.{place_oldest, place_latest}
use Rattle.checker_state.proofs.places.place_from.Goals as goal

pub returns-then-order_number-eq-DEFAULT_ORDER : goal.returns-then-order_number-eq-DEFAULT_ORDER
returns-then-order_number-eq-DEFAULT_ORDER c =
    place_oldest _ _ _ _ _ _ _ c.order_number.ensures c.if-order_number-eq-DEFAULT_ORDER.true c.oldest_from.ensures

pub returns : goal.returns
returns c =
    place_latest _ _ _ _ _ _ _ c.order_number.ensures c.if-order_number-eq-DEFAULT_ORDER.false c.hypothesis_from.ensures
